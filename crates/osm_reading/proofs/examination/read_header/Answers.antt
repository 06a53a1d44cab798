use Rattle.std.proofs.Common.{◌≡◌, refl}
use Rattle.pbf_frame.specs.declared.kind.Kind.TheVariants.{OsmHeader, Other}
use Rattle.osm_reading.proofs.examination.read_header.Goals as goal

pub returns-in-Err-clause-err : goal.returns-in-Err-clause-err
returns-in-Err-clause-err c = ((λ (e : OsmHeader ≡ Other). cc), c.in-Err.ensures.fault)

pub returns-in-Ok-read_header_block-clause-ok : goal.returns-in-Ok-read_header_block-clause-ok
returns-in-Ok-read_header_block-clause-ok c =
    (c.in-Ok.block.now, c.in-Ok.ensures.payload, c.in-Ok-read_header_block.ensures.fault, refl)

pub returns-in-Ok-read_header_block-clause-header : goal.returns-in-Ok-read_header_block-clause-header
returns-in-Ok-read_header_block-clause-header c =
    (c.in-Ok.block.now, c.in-Ok.ensures.payload, rw c.in-Ok-read_header_block.ensures.parts refl)

pub returns-in-Err-read_header_block-clause-err : goal.returns-in-Err-read_header_block-clause-err
returns-in-Err-read_header_block-clause-err c =
    (c.in-Ok.block.now, refl, c.in-Ok.ensures.payload, c.in-Err-read_header_block.ensures.fault)
