-- What an import of frames comes to can be kept.
use Rattle.std.proofs.Common.{◌≡◌, ℕ, List, [], ◌∷◌, length, Some, ◌∙◌, ap, arith}
use Rattle.std.specs.FinMap.{get, entries}
use Rattle.std.specs.List.{AllByRecursion}
use Rattle.sha2.proofs.Facts256.{length-sha256}
use Rattle.osm_rows.specs.declared.schema.layout.Layout.TheVariants.{Tables}
use Rattle.osm_rows.specs.Held.{Blob, HeldMap}
use Rattle.osm_rows.specs.LayoutHolding.{IsBlob, IsKept}
use Rattle.osm_rows.proofs.LoadLemmas.ExtentLaws.{held_each}
use Rattle.osm_import.specs.Merges.{IsImported, placed_from}
use Rattle.osm_import.specs.Step.{IsEntry}
use Rattle.osm_import.proofs.Delivering.{few-texts}
use Rattle.osm_import.proofs.FilesLemmas.{stands-apart}
use Rattle.osm_import.proofs.PbfFile.{elements-in-range}
use Rattle.osm_verify.proofs.AuditLemmas.{frame-long}
use Rattle.osm_verify.proofs.LawLemmas.{good-stands}

each-weaker : (P Q : ℕ × Blob → Type 0) → ((e : ℕ × Blob) → P e → Q e) → (es : List (ℕ × Blob)) → AllByRecursion P es → AllByRecursion Q es
each-weaker P Q weaker [] all = tt
each-weaker P Q weaker (e ∷ es) all = (weaker e all.0, each-weaker P Q weaker es all.1)

entry-kept : (off : ℕ) (frame : List ℕ) (blob : Blob) → IsEntry off frame blob → IsBlob Tables blob
entry-kept off frame blob entry = record {
  digest = ap length entry.digested ∙ length-sha256 frame;
  can_store = elements-in-range blob.kind entry.good.blob blob.elements entry.good.content;
  few_texts = few-texts off frame blob.kind blob.elements entry.good;
}

pub imported-kept : (held : HeldMap) (frames : List (List ℕ)) → IsImported (placed_from 0 frames) held → IsKept Tables held
imported-kept held frames imported = record {
  apart = record {
    filled = λ off blob is.
        let there = good-stands 0 frames off blob ((imported off blob).0 is) in
        let long = frame-long off there.0 blob there.2 in
        let ends = there.2.ends in omega (arith, long, ends);
    limit = λ off blob is.
        let there = good-stands 0 frames off blob ((imported off blob).0 is) in
        let limit = there.2.good.placed.limit in
        let ends = there.2.ends in omega (arith, limit, ends);
    apart = λ off next blob other is also before.
        let one = good-stands 0 frames off blob ((imported off blob).0 is) in
        let two = good-stands 0 frames next other ((imported next other).0 also) in
        let past = stands-apart 0 frames off next one.0 two.0 one.1 two.1 before in
        let ends = one.2.ends in omega (arith, past, ends);
  };
  blobs = each-weaker (λ (e : ℕ × Blob). get held e.0 ≡ Some e.1) (λ (e : ℕ × Blob). IsBlob Tables e.1)
      (λ e is. let there = good-stands 0 frames e.0 e.1 ((imported e.0 e.1).0 is) in entry-kept e.0 there.0 e.1 there.2) (entries held) (held_each held);
}
