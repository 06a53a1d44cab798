use Rattle.osm_block.proofs.ReadingLemmas.{nums-step}
use Rattle.osm_block.proofs.DenseFieldLemmas.{faults_more}
use Rattle.osm_block.proofs.dense.fields.read_array.Goals as goal

pub loop-payload-preserved : goal.loop-payload-preserved
loop-payload-preserved c = record {
  numbers = nums-step _ _ _ _ _ _ _ _ c.loop-payload-test.true c.in_ok-take_fields.ensures.numbers c.loop-payload.invariant.numbers;
  fault = faults_more _ _ _ _ _ _ _ _ c.loop-payload-test.true c.in_ok-take_fields.ensures.fault c.loop-payload.invariant.fault;
}
