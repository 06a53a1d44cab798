use Rattle.std.proofs.Common.{◌<◌, ◌≤◌, ◌∙◌, refl, sym, subst, true≢false, arith}
use Rattle.std.specs.Prelude.{filter}
use Rattle.std.proofs.lemmas.List.Elements.{All-from_recursion}
use Rattle.sqlite.specs.Held.{state}
use Rattle.sqlite_tied.specs.Compute.{everything}
use Rattle.sqlite_trees.proofs.ListLemmas.{all-filter}
use Rattle.pbf_frame.specs.declared.part.TheConstants.{MAX_OFFSET}
use Rattle.osm_rows.specs.Keeping.{IsForeign}
use Rattle.osm_rows.specs.Load.Loading.{AreBodiesOf}
use Rattle.osm_rows.specs.Rows.{placed_in, is_in, body_row}
use Rattle.osm_rows.specs.declared.schema.layout.Layout.TheVariants.{Bodies}
use Rattle.osm_rows.proofs.MapLemmas.StoredElements.{all_stored}
use Rattle.osm_old_store.proofs.LoadLemmas.BodyReads.{has_elements}
use Rattle.osm_rows.proofs.MapLemmas.HeldLemmas.{placed_at}
use Rattle.osm_rows.proofs.LoadLemmas.Numbering.{held_numbered}
use Rattle.osm_old_store.proofs.LoadLemmas.BodyReads.{rows_read}
use Rattle.osm_old_store.proofs.load.bodies.load_bodies.Goals as goal

pub answer-requires : goal.answer-requires
unfolding everything
answer-requires g c = refl

pub returns-then-off-ge-MAX_OFFSET-clause-held : goal.returns-then-off-ge-MAX_OFFSET-clause-held
returns-then-off-ge-MAX_OFFSET-clause-held g c held clean holds = (
  λ blob is.
      let below : c.args.off < blob.fin = holds.kept.apart.filled c.args.off blob is in
      let limit : blob.fin ≤ MAX_OFFSET = holds.kept.apart.limit c.args.off blob is in
      absurd (omega (arith, c.if-off-ge-MAX_OFFSET.true)),
  holds.opened,
)

pub returns-then-not-are_numbered-clause-held : goal.returns-then-not-are_numbered-clause-held
returns-then-not-are_numbered-clause-held g c held clean holds foreign =
    let old = state g.S.Store c.args.connection.now in
    let answered = c.in_ok-rows.ensures.rows clean in
    let shown = rw c.number.ensures at answered.shown in
    let read = rows_read old (state g.S.Store c.answer.new.connection) _ (placed_in held) (has_elements old.now held holds.schema holds.tables) c.args.off shown in
    true≢false (sym (c.are_numbered.ensures.1 (held_numbered body_row (λ p. refl) held c.args.off _ (c.deref.ensures.value ∙ read))) ∙ c.if-not-are_numbered.true)

pub returns-in-Ok-clause-held : goal.returns-in-Ok-clause-held
returns-in-Ok-clause-held g c held clean holds =
    let old = state g.S.Store c.args.connection.now in
    let answered = c.in_ok-rows.ensures.rows clean in
    let shown = rw c.number.ensures at answered.shown in
    let read = rows_read old (state g.S.Store c.answer.new.connection) _ (placed_in held) (has_elements old.now held holds.schema holds.tables) c.args.off shown in
    let stored = All-from_recursion _ _ (all-filter _ (is_in c.args.off) (placed_in held) (all_stored Bodies held holds.kept)) in (
      λ blob is. record { off = c.args.off; rows = subst (AreBodiesOf _) (placed_at held c.args.off blob is) (record { rows = read; stored = stored }) },
      answered.is_open,
    )

pub returns-in-Err-clause-held : goal.returns-in-Err-clause-held
returns-in-Err-clause-held g c held clean holds foreign =
    let old = state g.S.Store c.args.connection.now in
    let answered = c.in_ok-rows.ensures.rows clean in
    let shown = rw c.number.ensures at answered.shown in
    let read = rows_read old (state g.S.Store c.answer.new.connection) _ (placed_in held) (has_elements old.now held holds.schema holds.tables) c.args.off shown in
    let stored = All-from_recursion _ _ (all-filter _ (is_in c.args.off) (placed_in held) (all_stored Bodies held holds.kept)) in
    let is = c.in-Err.ensures (filter (is_in c.args.off) (placed_in held)) (record { rows = read; stored = stored }) in
    subst IsForeign is foreign
