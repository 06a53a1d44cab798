use Rattle.std.proofs.Common.{◌≡◌, ◌∙◌, true, false, sym}
use Rattle.osm_rows.specs.Keeping.{extents_of}
use Rattle.osm_import.specs.Exports.{size_of}
use Rattle.osm_import.proofs.ExportLemmas.{refusal-held, tiles-held, unbegun}
use Rattle.osm_import.proofs.export.blobs.extents_to_export.Goals as goal
use Rattle.osm_import.proofs.export.blobs.extents_to_export.Goals.{then-not-partial+in_default, else-not-partial}

pub returns-in-Some-clause-refused : goal.returns-in-Some-clause-refused
returns-in-Some-clause-refused g c = λ held holds honest.
    unbegun held (size_of c.args.size (extents_of held)) c.args.partial c.in-Some.fault c.if-not-partial.true
    (refusal-held held c.deref.result.now c.args.size c.in-Some.fault (g.met.K.BlobReader.is_apart _ held holds) (c.deref.ensures.value ∙ c.in_ok-extents.ensures.all held holds honest) c.in-Some.ensures)

pub returns-clause-tiled : goal.returns-clause-tiled
returns-clause-tiled g c = λ held holds honest whole. elim c.if-not-partial.branch [
  | then-not-partial+in_default w ↦
      tiles-held held w.deref.result.now c.args.size (g.met.K.BlobReader.is_apart _ held holds) (w.deref.ensures.value ∙ c.in_ok-extents.ensures.all held holds honest) w.in_default.ensures
  | else-not-partial w ↦ (let other : c.args.partial ≡ true = w.if-not-partial.false in let bad : true ≡ false = sym other ∙ whole in absurd (cc))
]
