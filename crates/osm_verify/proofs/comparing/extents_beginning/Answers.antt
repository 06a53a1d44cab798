use Rattle.std.proofs.Common.{◌≡◌, ◌∙◌, ap, filter, rules}
use Rattle.std.specs.Prelude.{nat_le}
use Rattle.osm_rows.specs.declared.keeper.Extent.{Extent}
use Rattle.osm_verify.proofs.Beginning.{beginning-are, none-in-empty}
use Rattle.osm_verify.proofs.comparing.extents_beginning.Goals as goal

pub returns-then-from-to-clause-all : goal.returns-then-from-to-clause-all
returns-then-from-to-clause-all g c = λ held holds honest.
    let same : c.args.from ≡ c.args.to = search rules in
    c.new.ensures.items ∙ none-in-empty held c.args.from c.args.to same

pub returns-clause-all : goal.returns-clause-all
returns-clause-all g c = λ held holds honest.
    c.in_ok-beginning.ensures ∙ ap (filter (λ (e : Extent). nat_le c.args.from e.off)) c.deref.ensures.value
    ∙ beginning-are held c.args.from c.args.to c.in_ok-touched.touched.items (g.met.K.BlobReader.is_apart _ held holds) (c.in_ok-touched.ensures.touching held holds honest)
