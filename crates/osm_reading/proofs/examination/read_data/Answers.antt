use Rattle.std.proofs.Common.{◌≡◌, refl}
use Rattle.pbf_frame.specs.declared.kind.Kind.TheVariants.{OsmData, Other}
use Rattle.osm_reading.proofs.examination.read_data.Goals as goal

pub returns-in-Err-clause-err : goal.returns-in-Err-clause-err
returns-in-Err-clause-err c = ((λ (e : OsmData ≡ Other). cc), c.in-Err.ensures.fault)

pub returns-in-Ok-read_block-clause-ok : goal.returns-in-Ok-read_block-clause-ok
returns-in-Ok-read_block-clause-ok c =
    (c.in-Ok.block.now, c.in-Ok.ensures.payload, c.in-Ok-read_block.ensures.1)

pub returns-in-Err-Fault-clause-err : goal.returns-in-Err-Fault-clause-err
returns-in-Err-Fault-clause-err c =
    (c.in-Ok.block.now, refl, c.in-Ok.ensures.payload, rw c.in-Err-Fault.field-0-is at c.in-Err-Fault.ensures)
