use Rattle.std.proofs.Common.{length, ap, sym, ◌∙◌}
use Rattle.std.proofs.lemmas.Bool.{eqb-true}
use Rattle.osm_write.proofs.OneNoLonger.{none_fits}
use Rattle.osm_write.proofs.cutter.BlobCutter.next.Goals as goal

pub returns-then-is_empty-clause-first_fits : goal.returns-then-is_empty-clause-first_fits
returns-then-is_empty-clause-first_fits c =
    none_fits c.args.self.now (ap length (sym c.self.view_is) ∙ eqb-true (length c.self.inside.rest.now) 0 (sym c.is_empty.ensures ∙ c.if-is_empty.true))
