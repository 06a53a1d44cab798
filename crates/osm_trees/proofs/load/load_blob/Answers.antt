use Rattle.std.proofs.Common.{◌≡◌, ◌<◌, ◌≤◌, ◌∙◌, [], map, sym, ap, subst, arith}
use Rattle.std.proofs.lemmas.List.Elements.{All-from_recursion}
use Rattle.sqlite_trees.specs.View.{IsClean}
use Rattle.pbf_frame.specs.declared.part.TheConstants.{MAX_OFFSET}
use Rattle.osm_rows.specs.declared.schema.layout.Layout.TheVariants.{Tables}
use Rattle.osm_rows.specs.Load.Loading.{HasRowsOf}
use Rattle.osm_rows.specs.Load.TableAnswers.{AreRowsOf}
use Rattle.osm_rows.specs.Rows.{Placed, is_in}
use Rattle.osm_rows.proofs.LoadLemmas.StoredRows.{given_as}
use Rattle.osm_rows.proofs.MapLemmas.HeldLemmas.{placed_at, counted_at, elements_of}
use Rattle.osm_tree_audits.proofs.Looking.{looks_then}
use Rattle.osm_trees.proofs.Looking.{holds_after}
use Rattle.osm_trees.proofs.TreeReads.{elements_at, tags_in, links_in, rows_of_some}
use Rattle.osm_trees.proofs.load.load_blob.Goals as goal

pub returns-then-off-ge-MAX_OFFSET-clause-held : goal.returns-then-off-ge-MAX_OFFSET-clause-held
returns-then-off-ge-MAX_OFFSET-clause-held g c clean held holds =
    given_as _ _ c.from_tables.result (c.from_tables.ensures.rows 0 [] (record { elements = c.new.ensures.items; tags = c.new-then-off-ge-MAX_OFFSET.ensures.items; links = c.new-then-off-ge-MAX_OFFSET-2.ensures.items; ascending = tt; stored = All-from_recursion _ [] tt }))
    (λ loaded h. (
      λ blob is.
          let below : c.args.off < blob.fin = holds.kept.apart.filled c.args.off blob is in
          let limit : blob.fin ≤ MAX_OFFSET = holds.kept.apart.limit c.args.off blob is in
          absurd (omega (arith, c.if-off-ge-MAX_OFFSET.true)),
      holds.unbroken,
    ))

pub returns-clause-held : goal.returns-clause-held
returns-clause-held g c clean held holds =
    let off = c.args.off in
    let old = g.S.Store.view c.args.store.now in
    let one = g.S.Store.view c.rows_with.new.store in
    let clean_one : IsClean one = omega (arith, clean, c.parts_with.ensures.looks.quiet.clean) in
    let up = c.in_ok-elements.ensures.sound clean_one in
    let still = holds_after Tables old one held (c.rows_with.ensures.looks.reads clean_one up) clean_one up holds in
    let elements = rw c.in_ok-key.ensures at (c.in_ok-elements.ensures.rows clean_one) in
    let parts = rw c.in_ok-key.ensures at (c.in_ok-tags.ensures.found clean) in
    let rows = rows_of_some held (is_in off) _ holds.kept (elements_at old.trees held holds.tables off _ elements) (tags_in one.trees held still.tables off _ parts.0) (links_in one.trees held still.tables off _ parts.1) in
    let it = counted_at held off in
    given_as _ _ c.from_tables-2.result (c.from_tables-2.ensures.rows off it.0 (subst (AreRowsOf _) it.1 rows))
    (λ loaded h. (
      λ blob is.
          let same : it.0 ≡ blob.elements = sym (elements_of off 0 it.0) ∙ ap (map (λ (p : Placed). p.2)) (sym it.1 ∙ placed_at held off blob is) ∙ elements_of off 0 blob.elements in
          subst (HasRowsOf loaded) same h,
      c.in_ok-tags.ensures.sound clean,
    ))

pub returns-clause-looks : goal.returns-clause-looks
returns-clause-looks g c =
    looks_then g.S.Store _ _ _ c.rows_with.ensures.looks c.parts_with.ensures.looks

pub returns-in_err-tags-clause-looks : goal.returns-in_err-tags-clause-looks
returns-in_err-tags-clause-looks g c =
    looks_then g.S.Store _ _ _ c.rows_with.ensures.looks c.parts_with.ensures.looks
