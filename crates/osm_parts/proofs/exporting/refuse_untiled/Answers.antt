use Rattle.std.proofs.Common.{◌∙◌}
use Rattle.osm_rows.specs.Keeping.{extents_of}
use Rattle.osm_import.specs.Exports.{size_of}
use Rattle.osm_import.proofs.ExportLemmas.{refusal-held, tiles-held, unbegun}
use Rattle.osm_parts.proofs.ReadingLemmas.{read-apart}
use Rattle.osm_parts.proofs.exporting.refuse_untiled.Goals as goal

pub returns-in-Some-clause-refused : goal.returns-in-Some-clause-refused
returns-in-Some-clause-refused c = λ maps asked whole read are.
    unbegun whole (size_of c.args.size (extents_of whole)) c.args.partial c.in-Some.fault c.if-partial.false
    (refusal-held whole c.deref.result.now c.args.size c.in-Some.fault (read-apart maps asked c.args.parts.now whole read are) (c.deref.ensures.value ∙ c.in_ok-extents.ensures.whole maps asked whole read are) c.in-Some.ensures)

pub returns-clause-tiled : goal.returns-clause-tiled
returns-clause-tiled c = λ maps asked whole read are full.
    tiles-held whole c.deref.result.now c.args.size (read-apart maps asked c.args.parts.now whole read are) (c.deref.ensures.value ∙ c.in_ok-extents.ensures.whole maps asked whole read are) c.in-None.ensures
