use Rattle.osm_reading.proofs.Filling.{full-at-fault}
use Rattle.osm_reading.proofs.stream.reading.is_full.Goals as goal

pub returns-in-Err : goal.returns-in-Err
returns-in-Err c =
    let e = c.in-Err.ensures in
    full-at-fault c.args.framer.now c.in-Err.fault c.is_cut.result c.is_cut.ensures (e.fault, e.stands, e.fine.1)
