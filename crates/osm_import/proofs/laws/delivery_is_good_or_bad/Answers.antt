use Rattle.osm_reading.proofs.GoodLaws.{good-or-bad, good-not_bad, bad-one, good-same}
use Rattle.osm_import.proofs.laws.delivery_is_good_or_bad.Goals as goal

pub returns : goal.returns
returns c = record { some = good-or-bad; apart = good-not_bad; one_fault = bad-one; one_blob = good-same }
