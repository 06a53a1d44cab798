use Rattle.std.proofs.Common.{◌≡◌, ◌-ℤ◌, ◌++◌, ℤ, Some, to_z, of_z, w64, refl, sym, ap, ◌∙◌}
use Rattle.std.proofs.lemmas.Int.{to_z-of_z}
use Rattle.std.specs.List.{flat_map}
use Rattle.std.specs.Prelude.{map}
use Rattle.pbf_wire.specs.Write.{shortest, zigzag}
use Rattle.osm_block.specs.Differences.{differences_from}
use Rattle.osm_value.specs.Ranges.{IsWide}
use Rattle.osm_value.proofs.Ranges.{wide_fits, difference_fits, all_at}
use Rattle.osm_write.specs.Canon.{message_field}
use Rattle.osm_write.proofs.Deltas.{all_written, from_some, delta_more}
use Rattle.osm_write.proofs.Joined.{on_ok}
use Rattle.osm_write.proofs.append.append_deltas.Goals as goal

pub loop-item-preserved : goal.loop-item-preserved
loop-item-preserved g c =
    let items = c.args.items.now in
    let i = c.loop-item.item-index in
    let within = c.loop-item-test.true in
    let x : ℤ = c.in-Some.number in
    let wide : IsWide x = rw c.in-Some.is at (all_at _ items i c.item-item.result c.requires.wide within _ _ c.item-item.is c.number_of.ensures) in
    let wide_before : IsWide c.loop-item.before = rw (sym c.loop-item.before-is) c.loop-item.invariant.wide in
    let is : to_z w64 (of_z w64 x) ≡ x = to_z-of_z w64 x (wide_fits x wide) in
    let gap : to_z w64 (of_z w64 (x -ℤ c.loop-item.before)) ≡ x -ℤ c.loop-item.before = to_z-of_z w64 _ (difference_fits x c.loop-item.before wide wide_before) in
    let spelled : c.zigzag.result ≡ zigzag (x -ℤ c.loop-item.before) = rw (c.zigzag.ensures.exact, is, c.loop-item.before-is, gap) refl in
    record {
      spelled = λ number each.
          let some : Some x ≡ number c.item-item.result = sym c.in-Some.is ∙ all_at _ items i c.item-item.result each within _ _ c.item-item.is c.number_of.ensures in
          rw is (delta_more c.loop-item.before x c.loop-item.array.items c.write_number.new.out.items _ _ _
          (rw (sym spelled) c.in_ok-write_number.ensures.exact) (from_some number items i c.item-item.result x within c.item-item.is some)
          (rw (sym c.loop-item.before-is) (c.loop-item.invariant.spelled number each)));
      wide = rw is wide;
    }

pub returns : goal.returns
returns g c = on_ok c.append_message.result
    (λ e number each.
    e ∙ ap (λ a. c.args.out.now.items ++ message_field c.args.field a)
    (all_written (λ ns. flat_map shortest (map zigzag (differences_from c.loop-item.before ns))) number c.args.items.now c.loop-item.item-index _ _ _ refl c.loop-item-test.false c.deref.ensures.value (rw (sym c.loop-item.before-is) (c.loop-item.invariant.spelled number each)))) c.append_message.ensures
