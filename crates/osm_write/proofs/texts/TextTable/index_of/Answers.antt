use Rattle.std.proofs.Common.{◌≡◌, Some, None, sym, ◌∙◌}
use Rattle.std.proofs.Common.{length, ◌<◌, arith}
use Rattle.std.proofs.lemmas.List.{length-map}
use Rattle.osm_write.specs.Texts.{find_text}
use Rattle.osm_write.proofs.TextsLemmas.{index_some, index_none, find_within}
use Rattle.osm_write.proofs.texts.TextTable.index_of.Goals as goal

pub returns-in-Some-clause-exact : goal.returns-in-Some-clause-exact
returns-in-Some-clause-exact c =
    let known = c.self.invariant c.args.text.now in
    let e : find_text c.args.self.now c.args.text.now ≡ Some c.in-Some.index.now = rw (← c.self.view_is) (sym known ∙ sym c.in-Some.ensures.value) in
    index_some c.args.self.now c.args.text.now _ e

pub returns-in-None-clause-exact : goal.returns-in-None-clause-exact
returns-in-None-clause-exact c =
    let known = c.self.invariant c.args.text.now in
    let e : find_text c.args.self.now c.args.text.now ≡ None = rw (← c.self.view_is) (sym known ∙ sym c.in-None.ensures.value) in
    let n : length c.args.self.now ≡ length c.as_slice-count.result.now = rw (← c.self.view_is, c.as_slice-count.ensures.value) (length-map _ _) in
    sym n ∙ index_none c.args.self.now c.args.text.now e

pub returns-in-Some-clause-small : goal.returns-in-Some-clause-small
returns-in-Some-clause-small c =
    let known = c.self.invariant c.args.text.now in
    let e : find_text c.args.self.now c.args.text.now ≡ Some c.in-Some.index.now = rw (← c.self.view_is) (sym known ∙ sym c.in-Some.ensures.value) in
    let within : c.in-Some.index.now < length c.args.self.now = find_within c.args.self.now c.args.text.now c.in-Some.index.now e in
    let n : length c.args.self.now ≡ length c.as_slice-count.result.now = rw (← c.self.view_is, c.as_slice-count.ensures.value) (length-map _ _) in
    omega arith
