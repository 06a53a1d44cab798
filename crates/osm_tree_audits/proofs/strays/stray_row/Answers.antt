use Rattle.std.proofs.Common.{arith, ◌≡◌, ◌∙◌, All, Option, MatchOption, ap}
use Rattle.std.proofs.lemmas.Result.{IfOk-weaker}
use Rattle.sqlite_trees.specs.View.{View, IsClean}
use Rattle.osm_tree_audits.specs.Strays.{HasBlob, IsStrayRow}
use Rattle.osm_tree_audits.specs.declared.strays.Stray.{Stray}
use Rattle.osm_tree_audits.proofs.StrayRows.{told_last}
use Rattle.osm_tree_audits.proofs.strays.stray_row.Goals as goal

pub returns-clause-told : goal.returns-clause-told
returns-clause-told g c =
    let old = g.S.Store.view c.args.store.now in
    let first = g.S.Store.view c.stray_in.new.store in
    let second = g.S.Store.view c.stray_in-2.new.store in
    let third = g.S.Store.view c.stray_in-3.new.store in
    let Links = λ (found : Option Stray). IsClean third → MatchOption found (All (HasBlob second.trees) (second.trees 6)) (IsStrayRow second.trees) in
    let Each = λ (found : Option Stray). IsClean third → MatchOption found ((stray : Stray) → ¬ (IsStrayRow old.trees stray)) (IsStrayRow old.trees) in
    IfOk-weaker c.stray_in-3.result Links Each (λ found told clean.
    let clean_2 : IsClean second = omega (arith, clean, c.stray_in-3.ensures.looks.quiet.clean) in
    let clean_1 : IsClean first = omega (arith, clean_2, c.stray_in-2.ensures.looks.quiet.clean) in
    let one : first.trees ≡ old.trees = ap (λ (v : View). v.trees) (c.stray_in.ensures.looks.reads clean_1 (c.in_ok-stray.ensures.sound clean_1)) in
    let two : second.trees ≡ old.trees = ap (λ (v : View). v.trees) (c.stray_in-2.ensures.looks.reads clean_2 (c.in_ok-stray-2.ensures.sound clean_2)) ∙ one in
    let elements = rw c.in_default.is at (c.in_ok-stray.ensures.told clean_1) in
    let tags = rw (one, c.in_default-2.is) at (c.in_ok-stray-2.ensures.told clean_2) in
    told_last old.trees elements tags found (rw two at (told clean))) c.stray_in-3.ensures.told
