use Rattle.osm_parts.proofs.PieceLemmas.{stores-long}
use Rattle.osm_parts.proofs.reading.parts_of.Goals as goal

pub returns-clause-read : goal.returns-clause-read
returns-clause-read c = λ maps asked are. c.runs_of.ensures.read maps asked (c.in_ok-pieces.ensures maps asked are) (stores-long asked 0 maps c.args.stores.now are)

pub returns-clause-fault : goal.returns-clause-fault
returns-clause-fault c = λ maps asked are. c.runs_of.ensures.fault maps asked (c.in_ok-pieces.ensures maps asked are) (stores-long asked 0 maps c.args.stores.now are)
