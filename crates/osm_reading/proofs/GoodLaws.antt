-- Good or bad, never both: the plain reading of a delivery against what it is.
use Rattle.std.proofs.Common.{◌≡◌, ◌≢◌, ◌⊎◌, ℕ, ◌+◌, ◌^◌, ◌≤◌, cond, eqb, ltb, Bool, true, false, List, [], ◌++◌, length, Option, Some, None, Result, Ok, Err, refl, sym, ap, subst, inl, inr, ◌∙◌, arith, eq-eqb}
use Rattle.std.specs.Option.{option_or, option_map}
use Rattle.std.proofs.lemmas.List.{length-append}
use Rattle.std.proofs.lemmas.Bool.{eqb-true, ltb-true, ltb-false, le-ltb, lt-ltb}
use Rattle.pbf_wire.proofs.Choices.{chosen, ok_is}
use Rattle.osm_value.specs.declared.element.Element.{Element}
use Rattle.pbf_frame.specs.declared.kind.Kind.{Kind}
use Rattle.pbf_frame.specs.declared.kind.Kind.TheVariants.{OsmHeader, OsmData, Other}
use Rattle.pbf_frame.specs.declared.fault.FrameFault.{FrameFault}
use Rattle.pbf_frame.specs.declared.fault.FrameFault.TheVariants as frames
use Rattle.pbf_frame.specs.declared.blob.BlobFault.{BlobFault}
use Rattle.pbf_frame.specs.Frame.{Frame, Found, found_at, kind_of, frame_at, whole_at}
use Rattle.pbf_frame.specs.Blob.{Raw, IsBlobFault, raw_at}
use Rattle.pbf_frame.proofs.FrameLaws.{faults_again, whole_again, whole_trailing}
use Rattle.pbf_frame.proofs.BlobLaws.{raw_takes, raw_again, blob_faults, blob_faults_again}
use Rattle.osm_block.specs.declared.fault.BlockFault.{BlockFault}
use Rattle.osm_block.specs.Block.{Block}
use Rattle.osm_block.proofs.UniqueDense.{Block-unique}
use Rattle.osm_block.proofs.Complete.{no_fault}
use Rattle.osm_block.proofs.Faultless.{block_of}
use Rattle.osm_block.specs.Phases.{fault as block_fault}
use Rattle.osm_block.specs.declared.header.fault.HeaderFault.{HeaderFault}
use Rattle.osm_block.specs.HeaderBlock.{header_fault}
use Rattle.osm_reading.specs.Good.{IsGood, IsPlaced, HasElements}
use Rattle.osm_reading.specs.Bad.{IsBad, IsBadFrame, CanStand, IsMisplaced, IsBadBlob}
use Rattle.osm_reading.specs.declared.fault.Fault.{Fault}
use Rattle.osm_reading.specs.declared.fault.Fault.TheVariants as faults
use Rattle.osm_reading.specs.declared.examination.ExamineFault.TheVariants as found
use Rattle.osm_reading.proofs.ExamineLemmas.{whole-faults, misplaced, good-of, finding-of}

-- ---- the plain reading

-- why a frame may not stand where it does, by whether that is 0
abbrev order : Bool → Kind → Option Fault
order true OsmHeader = None
order true OsmData = Some faults.NoHeaderFirst
order true Other = Some faults.NoHeaderFirst
order false OsmHeader = Some faults.HeaderNotFirst
order false OsmData = None
order false Other = None

abbrev too_far : Option Fault
too_far = Some (faults.Frame frames.OffsetTooLarge)

abbrev placing : ℕ → Kind → ℕ → Option Fault
placing off kind len = cond (ltb (2 ^ 62) (off + len)) too_far (order (eqb off 0) kind)

abbrev raw_then : (List ℕ → Option Fault) → Result (List ℕ) BlobFault → Option Fault
raw_then read (Ok block) = read block
raw_then read (Err fault) = Some (faults.Blob fault)

abbrev of_header : List ℕ → Option Fault
of_header block = option_map faults.Header (header_fault block)

abbrev of_block : List ℕ → Option Fault
of_block block = option_map faults.Block (block_fault block)

abbrev content : Kind → List ℕ → Option Fault
content OsmHeader blob = raw_then of_header (raw_at blob)
content OsmData blob = raw_then of_block (raw_at blob)
content Other blob = None

abbrev in_frame : ℕ → Result Found FrameFault → Option Fault
in_frame off (Ok f) = option_or (placing off f.kind f.len) (content f.kind f.blob)
in_frame off (Err fault) = Some (faults.Frame fault)

-- the first fault of a delivery, if it has one
abbrev verdict : ℕ → List ℕ → Option Fault
verdict off w = in_frame off (whole_at w)

-- ---- where it may stand

some_is : {A : Type 0} (x y : A) → Some x ≡ Some y → x ≡ y
some_is x y e = cc

or-none : {A : Type 0} (a b : Option A) → option_or a b ≡ None → (a ≡ None) × (b ≡ None)
or-none None b e = (refl, e)
or-none (Some x) b e = absurd cc

or-some : {A : Type 0} (a b : Option A) (x : A) → option_or a b ≡ Some x → (a ≡ Some x) ⊎ ((a ≡ None) × (b ≡ Some x))
or-some None b x e = inr (refl, e)
or-some (Some y) b x e = inl e

not-zero : (off : ℕ) → eqb off 0 ≡ false → off ≢ 0
not-zero off e same = let bad : true ≡ false = sym (eq-eqb off 0 same) ∙ e in absurd cc

zero-not : (off : ℕ) (b : Bool) → eqb off 0 ≡ b → off ≢ 0 → eqb off 0 ≡ false
zero-not off true e h = absurd (h (eqb-true off 0 e))
zero-not off false e h = e

order-none : (b : Bool) (kind : Kind) → order b kind ≡ None → (b ≡ true → kind ≡ OsmHeader) × (kind ≡ OsmHeader → b ≡ true)
order-none true OsmHeader e = ((λ h. refl), (λ h. refl))
order-none true OsmData e = absurd cc
order-none true Other e = absurd cc
order-none false OsmHeader e = absurd cc
order-none false OsmData e = ((λ (h : false ≡ true). absurd cc), (λ (h : OsmData ≡ OsmHeader). absurd cc))
order-none false Other e = ((λ (h : false ≡ true). absurd cc), (λ (h : Other ≡ OsmHeader). absurd cc))

order-fits : (b : Bool) (kind : Kind) → (b ≡ true → kind ≡ OsmHeader) → (kind ≡ OsmHeader → b ≡ true) → order b kind ≡ None
order-fits true OsmHeader p q = refl
order-fits true OsmData p q = let h : OsmData ≡ OsmHeader = p refl in absurd cc
order-fits true Other p q = let h : Other ≡ OsmHeader = p refl in absurd cc
order-fits false OsmHeader p q = let h : false ≡ true = q refl in absurd cc
order-fits false OsmData p q = refl
order-fits false Other p q = refl

placing-none : (off : ℕ) (kind : Kind) (len : ℕ) → placing off kind len ≡ None → CanStand off kind len
placing-none off kind len e =
    elim (chosen (ltb (2 ^ 62) (off + len)) too_far (order (eqb off 0) kind) None e) [
      | inl p ↦ let bad : too_far ≡ None = p.1 in absurd cc
      | inr p ↦ let it = order-none (eqb off 0) kind p.1 in (ltb-false _ _ p.0, ((λ h. it.0 (eq-eqb off 0 h)), (λ h. eqb-true off 0 (it.1 h))))
    ]

can-stand : (off : ℕ) (kind : Kind) (len : ℕ) → CanStand off kind len → placing off kind len ≡ None
can-stand off kind len h =
    let test : ltb (2 ^ 62) (off + len) ≡ false = le-ltb _ _ h.0 in
    rw test (order-fits (eqb off 0) kind (λ e. h.1.0 (eqb-true off 0 e)) (λ e. eq-eqb off 0 (h.1.1 e)))

order-some : (off len : ℕ) (b : Bool) (kind : Kind) (fault : Fault) → eqb off 0 ≡ b → off + len ≤ 2 ^ 62 → order b kind ≡ Some fault → IsMisplaced off kind len fault
order-some off len true OsmHeader fault test within e = absurd cc
order-some off len true OsmData fault test within e = subst (IsMisplaced off OsmData len) (some_is faults.NoHeaderFirst fault e) (within, eqb-true off 0 test, (λ (h : OsmData ≡ OsmHeader). cc))
order-some off len true Other fault test within e = subst (IsMisplaced off Other len) (some_is faults.NoHeaderFirst fault e) (within, eqb-true off 0 test, (λ (h : Other ≡ OsmHeader). cc))
order-some off len false OsmHeader fault test within e = subst (IsMisplaced off OsmHeader len) (some_is faults.HeaderNotFirst fault e) (within, not-zero off test, refl)
order-some off len false OsmData fault test within e = absurd cc
order-some off len false Other fault test within e = absurd cc

placing-some : (off : ℕ) (kind : Kind) (len : ℕ) (fault : Fault) → placing off kind len ≡ Some fault → IsMisplaced off kind len fault
placing-some off kind len fault e =
    elim (chosen (ltb (2 ^ 62) (off + len)) too_far (order (eqb off 0) kind) (Some fault) e) [
      | inl p ↦ subst (IsMisplaced off kind len) (some_is (faults.Frame frames.OffsetTooLarge) fault p.1) (ltb-true _ _ p.0)
      | inr p ↦ order-some off len (eqb off 0) kind fault refl (ltb-false _ _ p.0) p.1
    ]

no-header : (kind : Kind) → kind ≢ OsmHeader → order true kind ≡ Some faults.NoHeaderFirst
no-header OsmHeader h = absurd (h refl)
no-header OsmData h = refl
no-header Other h = refl

-- ---- what it holds

-- some elements for that kind
abbrev HasSome : Kind → List ℕ → Type 0
HasSome kind blob = (es : List Element) × HasElements kind blob es

header-none : (blob block : List ℕ) (o : Option HeaderFault) → Raw blob block → header_fault block ≡ o → option_map faults.Header o ≡ None → HasSome OsmHeader blob
header-none blob block None r h e = ([], (block, r, h, refl))
header-none blob block (Some fault) r h e = absurd cc

block-none : (blob block : List ℕ) (o : Option BlockFault) → Raw blob block → block_fault block ≡ o → option_map faults.Block o ≡ None → HasSome OsmData blob
block-none blob block None r h e = let it = block_of block h in (it.0, (block, r, it.1))
block-none blob block (Some fault) r h e = absurd cc

header-content : (blob : List ℕ) (r : Result (List ℕ) BlobFault) → raw_at blob ≡ r → raw_then of_header r ≡ None → HasSome OsmHeader blob
header-content blob (Ok block) r e = header-none blob block (header_fault block) (raw_takes blob block r) refl e
header-content blob (Err fault) r e = absurd cc

block-content : (blob : List ℕ) (r : Result (List ℕ) BlobFault) → raw_at blob ≡ r → raw_then of_block r ≡ None → HasSome OsmData blob
block-content blob (Ok block) r e = block-none blob block (block_fault block) (raw_takes blob block r) refl e
block-content blob (Err fault) r e = absurd cc

content-none : (kind : Kind) (blob : List ℕ) → content kind blob ≡ None → HasSome kind blob
content-none Other blob e = ([], refl)
content-none OsmHeader blob e = header-content blob (raw_at blob) refl e
content-none OsmData blob e = block-content blob (raw_at blob) refl e

header-some : (blob block : List ℕ) (o : Option HeaderFault) (fault : Fault) → Raw blob block → header_fault block ≡ o → option_map faults.Header o ≡ Some fault → IsBadBlob OsmHeader blob fault
header-some blob block None fault r h e = absurd cc
header-some blob block (Some other) fault r h e = subst (IsBadBlob OsmHeader blob) (some_is (faults.Header other) fault e) (block, refl, r, h)

block-some : (blob block : List ℕ) (o : Option BlockFault) (fault : Fault) → Raw blob block → block_fault block ≡ o → option_map faults.Block o ≡ Some fault → IsBadBlob OsmData blob fault
block-some blob block None fault r h e = absurd cc
block-some blob block (Some other) fault r h e = subst (IsBadBlob OsmData blob) (some_is (faults.Block other) fault e) (block, refl, r, h)

header-faults : (blob : List ℕ) (fault : Fault) (r : Result (List ℕ) BlobFault) → raw_at blob ≡ r → raw_then of_header r ≡ Some fault → IsBadBlob OsmHeader blob fault
header-faults blob fault (Ok block) r e = header-some blob block (header_fault block) fault (raw_takes blob block r) refl e
header-faults blob fault (Err other) r e = subst (IsBadBlob OsmHeader blob) (some_is (faults.Blob other) fault e) ((λ (h : OsmHeader ≡ Other). cc), blob_faults blob other r)

block-faults : (blob : List ℕ) (fault : Fault) (r : Result (List ℕ) BlobFault) → raw_at blob ≡ r → raw_then of_block r ≡ Some fault → IsBadBlob OsmData blob fault
block-faults blob fault (Ok block) r e = block-some blob block (block_fault block) fault (raw_takes blob block r) refl e
block-faults blob fault (Err other) r e = subst (IsBadBlob OsmData blob) (some_is (faults.Blob other) fault e) ((λ (h : OsmData ≡ Other). cc), blob_faults blob other r)

content-some : (kind : Kind) (blob : List ℕ) (fault : Fault) → content kind blob ≡ Some fault → IsBadBlob kind blob fault
content-some Other blob fault e = absurd cc
content-some OsmHeader blob fault e = header-faults blob fault (raw_at blob) refl e
content-some OsmData blob fault e = block-faults blob fault (raw_at blob) refl e

has-content : (kind : Kind) (blob : List ℕ) (es : List Element) → HasElements kind blob es → content kind blob ≡ None
has-content Other blob es h = refl
has-content OsmHeader blob es h = ap (raw_then of_header) (raw_again blob h.0 h.1) ∙ ap (option_map faults.Header) h.2
has-content OsmData blob es h = ap (raw_then of_block) (raw_again blob h.0 h.1) ∙ ap (option_map faults.Block) (no_fault es h.0 h.2)

blob-content : (kind : Kind) (blob : List ℕ) (other : BlobFault) → kind ≢ Other → IsBlobFault other blob → content kind blob ≡ Some (faults.Blob other)
blob-content Other blob other some h = absurd (some refl)
blob-content OsmHeader blob other some h = ap (raw_then of_header) (blob_faults_again blob other h)
blob-content OsmData blob other some h = ap (raw_then of_block) (blob_faults_again blob other h)

-- ---- the whole

abbrev IsSomeGood : ℕ → List ℕ → Type 0
IsSomeGood off w = (kind : Kind) × (es : List Element) × IsGood off w kind es

none-in-frame : (off : ℕ) (w : List ℕ) (r : Result Found FrameFault) → whole_at w ≡ r → in_frame off r ≡ None → IsSomeGood off w
none-in-frame off w (Err fault) r e = absurd cc
none-in-frame off w (Ok f) r e =
    let parts = or-none (placing off f.kind f.len) (content f.kind f.blob) e in
    let has = content-none f.kind f.blob parts.1 in
    (f.kind, has.0, good-of off w f has.0 r (placing-none off f.kind f.len parts.0) has.1)

some-in-frame : (off : ℕ) (w : List ℕ) (fault : Fault) (r : Result Found FrameFault) → whole_at w ≡ r → in_frame off r ≡ Some fault → IsBad off w fault
some-in-frame off w fault (Err other) r e = subst (IsBad off w) (some_is (faults.Frame other) fault e) (whole-faults off w other r)
some-in-frame off w fault (Ok f) r e = elim (or-some (placing off f.kind f.len) (content f.kind f.blob) fault e) [
  | inl h ↦ misplaced off w f fault r (placing-some off f.kind f.len fault h)
  | inr h ↦ finding-of off w f (found.Bad fault) r (placing-none off f.kind f.len h.0) (content-some f.kind f.blob fault h.1)
]

-- the verdict on a frame
framed : (off : ℕ) (type blob w : List ℕ) → Frame type blob w → verdict off w ≡ option_or (placing off (kind_of type) (length w)) (content (kind_of type) blob)
framed off type blob w frame = ap (in_frame off) (whole_again type blob w frame)

placed-verdict : (off : ℕ) (type blob w : List ℕ) → IsPlaced off type blob w → verdict off w ≡ content (kind_of type) blob
placed-verdict off type blob w h =
    framed off type blob w h.frame ∙ ap (λ (o : Option Fault). option_or o (content (kind_of type) blob)) (can-stand off (kind_of type) (length w) (h.limit, h.header_first))

good-verdict : (off : ℕ) (w : List ℕ) (kind : Kind) (es : List Element) → IsGood off w kind es → verdict off w ≡ None
good-verdict off w kind es h =
    placed-verdict off h.type_name h.blob w h.placed ∙ has-content (kind_of h.type_name) h.blob es (subst (λ (k : Kind). HasElements k h.blob es) h.kind_is h.content)

whole-of-frame : (w : List ℕ) (other : FrameFault) → frame_at w ≡ Err other → whole_at w ≡ Err other
unfolding whole_at
whole-of-frame w other e = rw e refl

bad-frame-verdict : (off : ℕ) (w : List ℕ) (other : FrameFault) → IsBadFrame off w other → verdict off w ≡ Some (faults.Frame other)
bad-frame-verdict off w frames.OffsetTooLarge h =
    framed off h.0.0 h.0.1 w h.0.2 ∙ ap (λ (b : Bool). option_or (cond b too_far (order (eqb off 0) (kind_of h.0.0))) (content (kind_of h.0.0) h.0.1)) (lt-ltb (2 ^ 62) (off + length w) h.1)
bad-frame-verdict off w frames.Trailing h = ap (in_frame off) (ap whole_at h.5 ∙ whole_trailing h.0 h.1 h.2 h.3 h.4 h.6)
bad-frame-verdict off w other h = ap (in_frame off) (whole-of-frame w other (faults_again w other h))

misplaced-verdict : (off : ℕ) (type blob w : List ℕ) (fault : Fault) → Frame type blob w → off + length w ≤ 2 ^ 62 → order (eqb off 0) (kind_of type) ≡ Some fault → verdict off w ≡ Some fault
misplaced-verdict off type blob w fault frame within e =
    let test : ltb (2 ^ 62) (off + length w) ≡ false = le-ltb _ _ within in
    let where_it_stands : placing off (kind_of type) (length w) ≡ Some fault = rw test e in
    framed off type blob w frame ∙ ap (λ (o : Option Fault). option_or o (content (kind_of type) blob)) where_it_stands

bad-verdict : (off : ℕ) (w : List ℕ) (fault : Fault) → IsBad off w fault → verdict off w ≡ Some fault
bad-verdict off w (faults.Frame other) h = bad-frame-verdict off w other h
bad-verdict off w faults.NoHeaderFirst h =
    misplaced-verdict off h.0 h.1 w faults.NoHeaderFirst h.2 h.3 (ap (λ (b : Bool). order b (kind_of h.0)) (eq-eqb off 0 h.4) ∙ no-header (kind_of h.0) h.5)
bad-verdict off w faults.HeaderNotFirst h =
    misplaced-verdict off h.0 h.1 w faults.HeaderNotFirst h.2 h.3 (ap (λ (b : Bool). order b (kind_of h.0)) (zero-not off (eqb off 0) refl h.4) ∙ ap (order false) h.5)
bad-verdict off w (faults.Blob other) h = placed-verdict off h.0 h.1 w h.2 ∙ blob-content (kind_of h.0) h.1 other h.3 h.4
bad-verdict off w (faults.Header other) h =
    placed-verdict off h.0 h.1 w h.3 ∙ ap (λ (k : Kind). content k h.1) h.4 ∙ ap (raw_then of_header) (raw_again h.1 h.2 h.5) ∙ ap (option_map faults.Header) h.6
bad-verdict off w (faults.Block other) h =
    placed-verdict off h.0 h.1 w h.3 ∙ ap (λ (k : Kind). content k h.1) h.4 ∙ ap (raw_then of_block) (raw_again h.1 h.2 h.5) ∙ ap (option_map faults.Block) h.6

-- ---- the laws

verdict-is : (off : ℕ) (w : List ℕ) (o : Option Fault) → verdict off w ≡ o → IsSomeGood off w ⊎ ((fault : Fault) × IsBad off w fault)
verdict-is off w None e = inl (none-in-frame off w (whole_at w) refl e)
verdict-is off w (Some fault) e = inr (fault, some-in-frame off w fault (whole_at w) refl e)

pub good-or-bad : (off : ℕ) (w : List ℕ) → ((kind : Kind) × (es : List Element) × IsGood off w kind es) ⊎ ((fault : Fault) × IsBad off w fault)
good-or-bad off w = verdict-is off w (verdict off w) refl

pub good-not_bad : (off : ℕ) (w : List ℕ) (kind : Kind) (es : List Element) → IsGood off w kind es → (fault : Fault) → IsBad off w fault → ⊥
good-not_bad off w kind es good fault bad =
    let e : None ≡ Some fault = sym (good-verdict off w kind es good) ∙ bad-verdict off w fault bad in cc

pub bad-one : (off : ℕ) (w : List ℕ) (fault other : Fault) → IsBad off w fault → IsBad off w other → fault ≡ other
bad-one off w fault other h g = some_is fault other (sym (bad-verdict off w fault h) ∙ bad-verdict off w other g)

-- ---- good deliveries of the same bytes are the same

-- the type and the blob of a frame are one
pub frame-same : (type blob kind other w : List ℕ) → Frame type blob w → Frame kind other w → (type ≡ kind) × (blob ≡ other)
frame-same type blob kind other w f g =
    let same : found_at type blob (length w) ≡ found_at kind other (length w) =
    ok_is {E = FrameFault} (found_at type blob (length w)) (found_at kind other (length w)) (sym (whole_again type blob w f) ∙ whole_again kind other w g) in
    (ap (λ (x : Found). x.type_name) same, ap (λ (x : Found). x.blob) same)

raw-same : (blob block other : List ℕ) → Raw blob block → Raw blob other → block ≡ other
raw-same blob block other r s = ok_is {E = BlobFault} block other (sym (raw_again blob block r) ∙ raw_again blob other s)

elements-same : (kind : Kind) (blob : List ℕ) (a b : List Element) → HasElements kind blob a → HasElements kind blob b → a ≡ b
elements-same Other blob a b x y = x ∙ sym y
elements-same OsmHeader blob a b x y = x.3 ∙ sym y.3
elements-same OsmData blob a b x y =
    Block-unique a b y.0 (subst (Block a) (raw-same blob x.0 y.0 x.1 y.1) x.2) y.2

-- kind and elements of a good delivery are fixed
pub good-same : (off : ℕ) (w : List ℕ) (kind other : Kind) (a b : List Element) → IsGood off w kind a → IsGood off w other b → (kind ≡ other) × (a ≡ b)
good-same off w kind other a b first second =
    let same = frame-same first.type_name first.blob second.type_name second.blob w first.placed.frame second.placed.frame in
    let kinds : kind ≡ other = first.kind_is ∙ ap kind_of same.0 ∙ sym second.kind_is in
    (kinds, elements-same other second.blob a b (subst (λ (k : Kind). HasElements k second.blob a) kinds (subst (λ (v : List ℕ). HasElements kind v a) same.1 first.content)) second.content)

-- a frame has bytes
pub frame-filled : (type blob w : List ℕ) → Frame type blob w → 4 ≤ length w
frame-filled type blob w f = omega (arith, ap length f.joined, length-append f.name (f.header ++ blob), f.four)
