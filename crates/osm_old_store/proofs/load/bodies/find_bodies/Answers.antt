use Rattle.std.proofs.Common.{◌≡◌, refl, ◌∙◌, ap, subst, w64}
use Rattle.std.specs.Prelude.{filter}
use Rattle.std.proofs.lemmas.Int.{to_z-of_z}
use Rattle.std.proofs.lemmas.List.Elements.{All-from_recursion}
use Rattle.sqlite.specs.declared.types.Value.TheVariants.{Int}
use Rattle.sqlite.specs.Value.{owned}
use Rattle.sqlite.specs.Held.{state}
use Rattle.sqlite_tied.specs.Compute.{everything}
use Rattle.sqlite_trees.proofs.ListLemmas.{all-filter}
use Rattle.osm_rows.specs.Keeping.{IsForeign}
use Rattle.osm_rows.specs.Rows.{is_of, placed_in}
use Rattle.osm_rows.specs.declared.schema.layout.Layout.TheVariants.{Bodies}
use Rattle.osm_rows.proofs.MapLemmas.StoredElements.{all_stored}
use Rattle.osm_old_store.proofs.LoadLemmas.BodyReads.{has_elements}
use Rattle.osm_old_store.proofs.LoadLemmas.BodyReads.{element_read}
use Rattle.osm_old_store.proofs.load.bodies.find_bodies.Goals as goal

pub answer-requires : goal.answer-requires
unfolding everything
answer-requires g c = refl

pub returns-in-Ok-clause-held : goal.returns-in-Ok-clause-held
returns-in-Ok-clause-held g c held clean holds =
    let old = state g.S.Store c.args.connection.now in
    let answered = c.in_ok-rows.ensures.rows clean in
    let id : owned c.integer.result ≡ Int c.args.id = c.integer.ensures ∙ ap Int (to_z-of_z w64 c.args.id c.ranges.id) in
    let shown = rw (c.number.ensures, c.from-code.ensures, c.element_code.ensures, id) at answered.shown in
    let read = element_read old (state g.S.Store c.answer.new.connection) _ (placed_in held) (has_elements old.now held holds.schema holds.tables) c.args.kind c.args.id shown in
    (record { rows = record { rows = read; stored = All-from_recursion _ _ (all-filter _ (is_of c.args.kind c.args.id) (placed_in held) (all_stored Bodies held holds.kept)) } }, answered.is_open)

pub returns-in-Err-clause-held : goal.returns-in-Err-clause-held
returns-in-Err-clause-held g c held clean holds foreign =
    let old = state g.S.Store c.args.connection.now in
    let answered = c.in_ok-rows.ensures.rows clean in
    let id : owned c.integer.result ≡ Int c.args.id = c.integer.ensures ∙ ap Int (to_z-of_z w64 c.args.id c.ranges.id) in
    let shown = rw (c.number.ensures, c.from-code.ensures, c.element_code.ensures, id) at answered.shown in
    let read = element_read old (state g.S.Store c.answer.new.connection) _ (placed_in held) (has_elements old.now held holds.schema holds.tables) c.args.kind c.args.id shown in
    let is = c.in-Err.ensures (filter (is_of c.args.kind c.args.id) (placed_in held)) (record { rows = read; stored = All-from_recursion _ _ (all-filter _ (is_of c.args.kind c.args.id) (placed_in held) (all_stored Bodies held holds.kept)) }) in
    subst IsForeign is foreign
