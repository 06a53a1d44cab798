use Rattle.std.proofs.Common.{◌<◌, ◌≡◌, ◌^◌, arith, length, rules, ap}
use Rattle.pbf_wire.specs.Field.{Number, Fixed64, Bytes, Fixed32, content_of}
use Rattle.pbf_wire.proofs.WriteLaws.{on_ok_spelled}
use Rattle.pbf_wire.proofs.write.append_field.Goals as goal

pub returns-in-Number-clause-spelled : goal.returns-in-Number-clause-spelled
returns-in-Number-clause-spelled c =
    let fits : c.in-Number.number < 2 ^ 64 = omega arith in
    on_ok_spelled c.write_number-in-Number.result c.args.field.now (Number c.in-Number.number) (ap content_of c.in-Number.is) c.requires fits

pub returns-in-Fixed64-clause-spelled : goal.returns-in-Fixed64-clause-spelled
returns-in-Fixed64-clause-spelled c =
    let fits : length c.in-Fixed64.bytes ≡ 8 = search rules in
    on_ok_spelled c.extend_from_slice.result c.args.field.now (Fixed64 c.in-Fixed64.bytes) (ap content_of c.in-Fixed64.is) c.requires fits

pub returns-in_ok-write_number-in-Bytes-clause-spelled : goal.returns-in_ok-write_number-in-Bytes-clause-spelled
returns-in_ok-write_number-in-Bytes-clause-spelled c =
    let fits : length c.in-Bytes.bytes.now < 2 ^ 64 = omega arith in
    on_ok_spelled c.extend_from_slice-in-Bytes.result c.args.field.now (Bytes c.in-Bytes.bytes.now) (ap content_of c.in-Bytes.is) c.requires fits

pub returns-in-Fixed32-clause-spelled : goal.returns-in-Fixed32-clause-spelled
returns-in-Fixed32-clause-spelled c =
    let fits : length c.in-Fixed32.bytes ≡ 4 = search rules in
    on_ok_spelled c.extend_from_slice-in-Fixed32.result c.args.field.now (Fixed32 c.in-Fixed32.bytes) (ap content_of c.in-Fixed32.is) c.requires fits
