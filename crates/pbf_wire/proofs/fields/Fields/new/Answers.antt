use Rattle.pbf_wire.proofs.ReadingLaws.{walked}
use Rattle.pbf_wire.proofs.fields.Fields.new.Goals as goal

pub returns-clause-walk : goal.returns-clause-walk
returns-clause-walk c = walked c.args.bytes.now
