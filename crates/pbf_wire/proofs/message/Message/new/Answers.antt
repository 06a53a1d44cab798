use Rattle.std.proofs.Common.{◌≡◌, None, Some}
use Rattle.pbf_wire.specs.Readings.{wire}
use Rattle.pbf_wire.proofs.ReadingLaws.{fields_are, wire_is, read_list, read_fault}
use Rattle.pbf_wire.proofs.message.Message.new.Goals as goal

pub returns-in-None-clause-list : goal.returns-in-None-clause-list
returns-in-None-clause-list c = let e : wire c.args.bytes.now ≡ None = cc in read_list c.args.bytes.now e

pub returns-in-None-clause-exact : goal.returns-in-None-clause-exact
returns-in-None-clause-exact c = let e : wire c.args.bytes.now ≡ None = cc in fields_are c.args.bytes.now e

pub returns-in-Some-clause-fault : goal.returns-in-Some-clause-fault
returns-in-Some-clause-fault c = let e : wire c.args.bytes.now ≡ Some c.in-Some.fault = cc in read_fault c.in-Some.fault c.args.bytes.now e

pub returns-in-Some-clause-exact : goal.returns-in-Some-clause-exact
returns-in-Some-clause-exact c = let e : wire c.args.bytes.now ≡ Some c.in-Some.fault = cc in wire_is c.args.bytes.now c.in-Some.fault e
