use Rattle.std.proofs.Common.{◌≡◌, [], ◌∷◌, ◌++◌, ap, sym, ◌∙◌, Vec, Global}
use Rattle.osm_rows.specs.declared.schema.layout.Layout.TheVariants.{Bodies}
use Rattle.osm_rows.specs.Rows.{Placed, IsStored, body_row}
use Rattle.osm_rows.proofs.LoadLemmas.RowLoops.{row_at}
use Rattle.osm_rows.proofs.LoadLemmas.StoredRows.{some_is, some_or_none, all_taken}
use Rattle.osm_rows.proofs.load.bodies.BodyRows.matches.Goals as goal
use Rattle.osm_rows.proofs.load.bodies.BodyRows.matches.Goals.{in-Some+in_ok-push, in_default}

pub loop-row-preserved : goal.loop-row-preserved
loop-row-preserved c = record {
  rows = c.loop-row.invariant.rows;
  so_far = λ matches h.
      let it = row_at (λ (p : Placed). IsStored Bodies p.2) body_row matches _ _ _ h.stored (c.loop-row.invariant.rows ∙ h.rows) c.loop-row-test.true c.row-item.is in
      let found = c.in_ok-found.ensures it.item it.fits it.is in
      let before = c.loop-row.invariant.so_far matches h in
      elim c.match-branch-2.branch [
        | in-Some+in_ok-push w ↦
            let same : w.in-Some.found ≡ it.item = some_is _ _ (sym w.in-Some.is ∙ found) in
            ap (λ (v : Vec Placed Global). v.items) w.matches-is ∙ w.in_ok-push.ensures.items ∙ ap (λ (p : Placed). c.loop-row.matches.items ++ p ∷ []) same ∙ ap (λ l. l ++ it.item ∷ []) before ∙ sym it.more
        | in_default w ↦ absurd (some_or_none _ _ found w.in_default.is)
      ];
}

pub returns : goal.returns
returns c matches h = c.loop-row.invariant.so_far matches h ∙ all_taken body_row matches _ _ (c.loop-row.invariant.rows ∙ h.rows) c.loop-row-test.false
