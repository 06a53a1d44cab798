use Rattle.std.proofs.Common.{◌∙◌}
use Rattle.osm_import.proofs.PbfLemmas.{header-small}
use Rattle.osm_import.proofs.export.pbf.write_header.Goals as goal

pub write_payload-requires-clause-small : goal.write_payload-requires-clause-small
write_payload-requires-clause-small g c = header-small c.args.history c.deref.result.now (c.deref.ensures.value ∙ c.in-Ok.ensures.exact)
