use Rattle.std.proofs.Common.{rules, Bor, refl, ◌≡◌, ◌∙◌, ◌+◌, ◌≤◌, List, ℕ, map, take, ◌++◌, ◌∷◌, [], ap, sym, length, arith}
use Rattle.osm_columns.specs.Lists.{joined, ends_of}
use Rattle.osm_columns.specs.Columns.{over}
use Rattle.osm_columns.proofs.ListLemmas.{IsNext, next-joined, next-end, next-ends, next-fits, ends-before}
use Rattle.osm_columns.proofs.put.put_texts.Goals as goal

pub put_items-requires : goal.put_items-requires
put_items-requires c =
    let now : Bor (List ℕ) → List ℕ = λ t. t.now in
    let n : IsNext now c.args.texts.now c.loop-text.text-index _ c.as_bytes.result.now c.loop-text.end =
    record { within = c.loop-text-test.true; default = _; is = refl; items_are = c.as_bytes.ensures.value; end_is = c.loop-text.invariant.end } in
    let fits : c.loop-text.end + length c.as_bytes.result.now ≤ length (joined (map now c.args.texts.now)) = next-fits _ _ _ _ _ _ n in
    let room : length (joined (map now c.args.texts.now)) ≤ length c.args.column.now.bytes.now = search rules in
    omega arith

pub loop-text-preserved : goal.loop-text-preserved
loop-text-preserved c =
    let now : Bor (List ℕ) → List ℕ = λ t. t.now in
    let n : IsNext now c.args.texts.now c.loop-text.text-index _ c.as_bytes.result.now c.loop-text.end =
    record { within = c.loop-text-test.true; default = _; is = refl; items_are = c.as_bytes.ensures.value; end_is = c.loop-text.invariant.end } in
    let same : c.loop-text.end + length c.as_bytes.result.now ≡ _ = ap (λ l. c.loop-text.end + length l) c.as_bytes.ensures.value in
    record {
      at = omega arith;
      end = sym same ∙ next-end _ _ _ _ _ _ n;
      ends_room = omega arith;
      bytes_room = omega arith;
      ends = c.put_item.ensures _ _ c.loop-text.invariant.ends (ends-before now c.args.texts.now c.loop-text.text-index (omega arith) ∙ sym c.loop-text.invariant.at)
          ∙ ap (λ k. over (ends_of (map now (take c.loop-text.text-index c.args.texts.now)) ++ k ∷ []) c.args.column.now.ends.now) (sym same)
          ∙ ap (λ l. over l c.args.column.now.ends.now) (next-ends _ _ _ _ _ _ n);
      bytes = c.put_items.ensures _ _ c.loop-text.invariant.bytes (sym c.loop-text.invariant.end)
          ∙ ap (λ l. over l c.args.column.now.bytes.now) (next-joined _ _ _ _ _ _ n);
    }
