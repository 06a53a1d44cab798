use Rattle.osm_import.proofs.TooLargeLemmas.{too-large-exactly, first-too-large}
use Rattle.osm_import.proofs.laws.too_large_exactly_where_an_element_is.Goals as goal

pub returns : goal.returns
returns c = record { exactly = too-large-exactly; own = first-too-large }
