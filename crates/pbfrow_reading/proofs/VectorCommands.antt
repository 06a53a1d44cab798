-- What `list`, `check` and `show` print, computed.
use Rattle.std.specs.Prelude.{◌≡◌, List, ℕ, [], ◌∷◌, ◌++◌, refl, replicate, Ok, Err, Some, None, pos, negsuc, codes}
use Rattle.std.specs.Fmt.{digits}
use Rattle.osm_value.specs.declared.element.Element.{Element}
use Rattle.osm_value.specs.declared.element.Element.TheVariants.{Node}
use Rattle.osm_block.specs.HeaderBlock.{HeaderValue}
use Rattle.osm_reading.specs.declared.fault.Fault.TheVariants.{HeaderNotFirst}
use Rattle.osm_reading.specs.declared.stream.fault.Stop.TheVariants.{Frame, ReadFailed, Memory}
use Rattle.pbf_frame.specs.declared.fault.FrameFault.TheVariants.{BlobCut}
use Rattle.pbfrow_reading.specs.Checking.{check_end, checked_line}
use Rattle.pbfrow_reading.specs.Listing.{Plain, listed_line}
use Rattle.pbfrow_reading.specs.Showing.{header_lines, shown_lines}
use Rattle.pbfrow_reading.specs.Verdicts.{Judged, Verdict}
use Rattle.pbfrow_reading.specs.Walks.{ending_line, lines_from}
use Rattle.pbfrow_reading.specs.declared.input.Ending.TheVariants.{Whole, Early}

abbrev plain : List ℕ → ℕ → ℕ → Plain
plain type size length = record { type_name = type; blob = replicate size 0; bytes = replicate length 0; found = tt }

abbrev blob : List ℕ → ℕ → Verdict → Judged
blob type length verdict = record { type_name = type; blob = []; bytes = replicate length 0; found = verdict }

abbrev features : HeaderValue
features = record { bbox = None; required = codes "OsmSchema-V0.6" ∷ codes "DenseNodes" ∷ []; optional = []; program = None; source = None; timestamp = None; sequence = None; url = None }

abbrev all_fields : HeaderValue
all_fields = record {
  bbox = Some (record { left = negsuc 0; right = pos 1; top = pos 2; bottom = negsuc 1 });
  required = [];
  optional = codes "a b" ∷ [];
  program = Some (codes "p");
  source = Some (codes "s");
  timestamp = Some (pos 5);
  sequence = Some (pos 6);
  url = Some (codes "u");
}

abbrev node : ℕ → ℕ → Element
node id lat = Node (record { id = pos id; lat = pos lat; lon = negsuc 99; tags = []; info = record { version = None; time = None; changeset = None; uid = None; user = None; visible = None } })

abbrev header : Judged
header = blob (codes "OSMHeader") 47 (Ok (record { elements = []; header = Some features }))

abbrev nodes : Judged
nodes = blob (codes "OSMData") 37 (Ok (record { elements = node 1 1000 ∷ node 2 900 ∷ []; header = None }))

abbrev second_header : Judged
second_header = blob (codes "OSMHeader") 47 (Err HeaderNotFirst)

listed : lines_from listed_line 0 (plain (codes "OSMHeader") 30 47 ∷ plain (codes "a %~") 22 37 ∷ []) ≡ codes "0 OSMHeader 30\n47 a%20%25~ 22\n"
unfolding digits
listed = refl

cut : ending_line (Early (record { fault = Frame BlobCut; at = 47 })) ≡ codes "fault 18 BlobCut at 47\n"
unfolding digits
cut = refl

two_nodes : lines_from checked_line 0 (header ∷ nodes ∷ []) ++ check_end Whole (header ∷ nodes ∷ []) ≡ codes "blobs 2 nodes 2 ways 0 relations 0 faults 0\n"
unfolding digits
two_nodes = refl

no_blob : check_end Whole [] ≡ codes "fault 61 NoHeaderFirst at 0\nblobs 0 nodes 0 ways 0 relations 0 faults 1\n"
unfolding digits
no_blob = refl

bad_and_cut : lines_from checked_line 0 (header ∷ second_header ∷ []) ++ check_end (Early (record { fault = Frame BlobCut; at = 94 })) (header ∷ second_header ∷ [])
    ≡ codes "fault 62 HeaderNotFirst at 47\nfault 18 BlobCut at 94\nblobs 2 nodes 0 ways 0 relations 0 faults 2\n"
unfolding digits
bad_and_cut = refl

not_read : check_end (Early (record { fault = ReadFailed; at = 47 })) (header ∷ []) ≡ codes "fault 68 ReadFailed at 47\n"
unfolding digits
not_read = refl

no_memory : check_end (Early (record { fault = Memory; at = 47 })) (header ∷ []) ≡ codes "fault 65 Memory at 47\n"
unfolding digits
no_memory = refl

shown : lines_from shown_lines 0 (header ∷ nodes ∷ second_header ∷ [])
    ≡ codes "blob 0 OSMHeader 47\nrequired OsmSchema-V0.6\nrequired DenseNodes\nblob 47 OSMData 37\nn 1 1000 -100 [] {}\nn 2 900 -100 [] {}\nblob 84 OSMHeader 47\nfault 62 HeaderNotFirst at 84\n"
unfolding digits
shown = refl

fields : header_lines all_fields ≡ codes "bbox -1 1 2 -2\noptional a%20b\nprogram p\nsource s\nreplication-timestamp 5\nreplication-sequence 6\nreplication-url u\n"
unfolding digits
fields = refl
