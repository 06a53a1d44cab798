use Rattle.std.proofs.Common.{◌≡◌, [], ◌∷◌, ◌∙◌, ap, get_or, ◌+◌, ◌<◌, ℕ, List, Bor, map, take, length, arith, rules}
use Rattle.std.proofs.lemmas.List.{map-append, take_more, length-map, length-take}
use Rattle.osm_rows.specs.TableRows.{tag_row}
use Rattle.osm_rows.specs.Put.WrittenRows.{tag_columns}
use Rattle.osm_rows.proofs.PutLemmas.Placing.{one_part_more}
use Rattle.osm_rows.proofs.put.tables.push_tags.Goals as goal

pub loop-number-preserved : goal.loop-number-preserved
loop-number-preserved c =
    let xs = c.args.tags.now in
    let at = c.loop-number.number in
    let none : Bor (List ℕ) = record { ref_ptr = (0, 0); now = [] } in
    let blank : Bor (List ℕ) × Bor (List ℕ) = (none, none) in
    let x : Bor (List ℕ) × Bor (List ℕ) = get_or xs at blank in
    let low : at < length xs = search rules in
    let item : Bor (List ℕ) × Bor (List ℕ) → List ℕ × List ℕ = λ t. (t.0.now, t.1.now) in
    let count : length (map item (take at xs)) ≡ at = omega (arith, length-map (take at xs) item, length-take at xs) in
    let more = ap (map item) (take_more xs at blank low) ∙ map-append item (take at xs) (x ∷ []) in
    one_part_more tag_columns tag_row c.args.off c.args.position (map item (take at xs)) (map item (take (at + 1) xs)) (item x) at more count c.args.rows.now.items c.loop-number.rows.items _ _ c.in_ok-push.ensures.items c.loop-number.invariant c.tag_row.ensures
