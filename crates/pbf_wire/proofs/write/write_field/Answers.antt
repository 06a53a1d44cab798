use Rattle.pbf_wire.specs.Field.{Spells, view}
use Rattle.pbf_wire.specs.Write.{field_bytes}
use Rattle.pbf_wire.proofs.WriteLaws.{on_ok_appends}
use Rattle.pbf_wire.proofs.write.write_field.Goals as goal

pub returns-else-is_err-clause-spelled : goal.returns-else-is_err-clause-spelled
returns-else-is_err-clause-spelled c =
    let f = view c.args.field.now in
    on_ok_appends c.append_field-written.result (Spells f) c.args.out.now.items c.append_field-written.new.out.items (field_bytes f) c.append_field-written.ensures.exact c.append_field-written.ensures.spelled
