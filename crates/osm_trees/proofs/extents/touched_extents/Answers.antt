use Rattle.std.proofs.Common.{true≢false, sym, subst, ap, ◌∙◌}
use Rattle.std.specs.Prelude.{reverse}
use Rattle.std.proofs.lemmas.List.{reverse-reverse}
use Rattle.std.proofs.lemmas.Result.{err_from_is_err_and}
use Rattle.osm_rows.specs.Keeping.{AscendApart, extents_of, touches}
use Rattle.osm_rows.proofs.LoadLemmas.ExtentLaws.{extents_kept, held_apart, some_apart}
use Rattle.osm_trees.proofs.extents.touched_extents.Goals as goal

pub returns-in_err-extents-clause-held : goal.returns-in_err-extents-clause-held
returns-in_err-extents-clause-held g c clean layout held holds =
    let p = err_from_is_err_and c.from_residual.result c.from_residual.ensures.1 in
    rw (p.1, p.2) (c.in_err-extents.ensures.rows clean (extents_of held) (extents_kept layout held holds.kept) (held_apart held holds.kept.apart) holds.tables.blob)

pub returns-then-are_apart-clause-held : goal.returns-then-are_apart-clause-held
returns-then-are_apart-clause-held g c clean layout held holds =
    let found = c.in_ok-extents.ensures.rows clean (extents_of held) (extents_kept layout held holds.kept) (held_apart held holds.kept.apart) holds.tables.blob in
    (c.reverse.ensures.items ∙ ap reverse found ∙ reverse-reverse _, c.in_ok-extents.ensures.sound clean)

pub returns-else-are_apart-clause-held : goal.returns-else-are_apart-clause-held
returns-else-are_apart-clause-held g c clean layout held holds foreign =
    let found = c.in_ok-extents.ensures.rows clean (extents_of held) (extents_kept layout held holds.kept) (held_apart held holds.kept.apart) holds.tables.blob in
    let ascending = subst AscendApart (sym (c.deref.ensures.value ∙ c.reverse.ensures.items ∙ ap reverse found ∙ reverse-reverse _)) (some_apart (touches c.args.from c.args.to) held holds.kept.apart) in
    true≢false (sym (c.are_apart.ensures.1 ascending) ∙ c.if-are_apart.false)
