use Rattle.std.proofs.Common.{◌++◌, ap, ◌∙◌, refl}
use Rattle.std.specs.List.{flat_map}
use Rattle.pbf_wire.specs.Write.{shortest}
use Rattle.osm_write.specs.Canon.{message_field}
use Rattle.osm_write.proofs.Deltas.{all_written}
use Rattle.osm_write.proofs.Joined.{on_ok}
use Rattle.osm_write.proofs.append.append_packed.Goals as goal

pub returns : goal.returns
returns g c = on_ok c.append_message.result
    (λ e number each.
    e ∙ ap (λ a. c.args.out.now.items ++ message_field c.args.field a)
    (all_written (flat_map shortest) number c.args.items.now c.loop-item.item-index _ _ _ refl c.loop-item-test.false c.deref.ensures.value (c.loop-item.invariant number each))) c.append_message.ensures
