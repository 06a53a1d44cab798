use Rattle.std.proofs.Common.{rules, ◌≡◌, ◌∙◌, sym, pos, FitsSigned, to_z, of_z, w64, arith}
use Rattle.std.proofs.lemmas.Int.{to_z-of_z}
use Rattle.osm_block.proofs.NodeTagsLemmas.{index_is}
use Rattle.osm_block.proofs.dense.tags.index_of.Goals as goal

pub overflow_cast-result : goal.overflow_cast-result
overflow_cast-result c =
    let fits : FitsSigned w64 c.args.index = search rules in
    let i = index_is c.args.texts c.args.index c.requires in
    let e : to_z w64 (of_z w64 c.args.index) ≡ pos i.0 = to_z-of_z w64 _ fits ∙ sym i.1 in
    rw e (tt, omega (arith, i.2))

pub returns-clause-within : goal.returns-clause-within
returns-clause-within c =
    let fits : FitsSigned w64 c.args.index = search rules in
    let i = index_is c.args.texts c.args.index c.requires in
    let e : to_z w64 (of_z w64 c.args.index) ≡ pos i.0 = to_z-of_z w64 _ fits ∙ sym i.1 in
    rw e i.2

pub returns-clause-same : goal.returns-clause-same
returns-clause-same c =
    let fits : FitsSigned w64 c.args.index = search rules in
    let i = index_is c.args.texts c.args.index c.requires in
    let e : to_z w64 (of_z w64 c.args.index) ≡ pos i.0 = to_z-of_z w64 _ fits ∙ sym i.1 in
    rw e i.1
