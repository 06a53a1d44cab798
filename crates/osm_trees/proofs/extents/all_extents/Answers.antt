use Rattle.std.proofs.Common.{true≢false, sym, subst, ◌∙◌}
use Rattle.std.proofs.lemmas.Result.{err_from_is_err_and}
use Rattle.osm_rows.specs.Keeping.{AscendApart, extents_of}
use Rattle.osm_rows.proofs.LoadLemmas.ExtentLaws.{extents_kept, held_apart}
use Rattle.osm_trees.proofs.extents.all_extents.Goals as goal

pub returns-in_err-extents-clause-held : goal.returns-in_err-extents-clause-held
returns-in_err-extents-clause-held g c clean layout held holds =
    let p = err_from_is_err_and c.from_residual.result c.from_residual.ensures.1 in
    rw (p.1, p.2) (c.in_err-extents.ensures.rows clean (extents_of held) (extents_kept layout held holds.kept) holds.tables.blob)

pub returns-then-are_apart-clause-held : goal.returns-then-are_apart-clause-held
returns-then-are_apart-clause-held g c clean layout held holds =
    (c.in_ok-extents.ensures.rows clean (extents_of held) (extents_kept layout held holds.kept) holds.tables.blob, c.in_ok-extents.ensures.sound clean)

pub returns-else-are_apart-clause-held : goal.returns-else-are_apart-clause-held
returns-else-are_apart-clause-held g c clean layout held holds foreign =
    let found = c.in_ok-extents.ensures.rows clean (extents_of held) (extents_kept layout held holds.kept) holds.tables.blob in
    true≢false (sym (c.are_apart.ensures.1 (subst AscendApart (sym (c.deref.ensures.value ∙ found)) (held_apart held holds.kept.apart))) ∙ c.if-are_apart.false)
