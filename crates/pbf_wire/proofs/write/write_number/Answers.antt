use Rattle.std.proofs.Common.{arith, ◌<◌, ◌^◌, rules}
use Rattle.pbf_wire.specs.Number.{IsShortest}
use Rattle.pbf_wire.specs.Write.{shortest}
use Rattle.pbf_wire.proofs.WriteLaws.{number_spelled, number_is_short, ok_appends}
use Rattle.pbf_wire.proofs.WriteLoop.{one_byte}
use Rattle.pbf_wire.proofs.write.write_number.Goals as goal

pub returns-clause-spelled : goal.returns-clause-spelled
returns-clause-spelled c =
    let n = c.args.number in
    let fits : n < 2 ^ 64 = omega (arith, c.ranges.number) in
    ok_appends c.extend_from_slice.result (IsShortest n) c.args.out.now.items c.extend_from_slice.new.self.items (shortest n) (search rules) (number_spelled n fits, number_is_short n fits)

pub returns-then-number-lt128-clause-exact : goal.returns-then-number-lt128-clause-exact
returns-then-number-lt128-clause-exact c =
    rw (one_byte c.args.number (omega (arith, c.if-number-lt128.true))) (search rules)
