use Rattle.pbfrow_reading.proofs.ListingLaws.{lists_read, one_listing}
use Rattle.pbfrow_reading.proofs.laws.listing_is_read.Goals as goal

pub returns-clause-read : goal.returns-clause-read
returns-clause-read c = lists_read

pub returns-clause-one : goal.returns-clause-one
returns-clause-one c = one_listing
