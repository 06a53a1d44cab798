use Rattle.std.proofs.Common.{rules, ◌≡◌, sym, ap, subst, ◌∙◌, ℤ, pos, Some}
use Rattle.std.specs.List.{slice_get}
use Rattle.osm_columns.specs.Texts.{Names}
use Rattle.osm_columns.specs.Indexes.{texts_in}
use Rattle.osm_columns.proofs.dictionary.Dictionary.names.Goals as goal

pub returns-in-Some : goal.returns-in-Some
returns-in-Some c = λ same.
    let index : c.args.index ≡ pos c.in-Ok.index = search rules in
    let text : c.in-Some.held.now ≡ c.args.text.now = search rules in
    let named : slice_get (texts_in c.args.self.now) c.in-Ok.index ≡ Some c.in-Some.held.now = search rules in
    let P : ℤ → Type 0 = λ z. Names (texts_in c.args.self.now) z (Some c.args.text.now) in
    subst P (sym index) (named ∙ ap Some text)
