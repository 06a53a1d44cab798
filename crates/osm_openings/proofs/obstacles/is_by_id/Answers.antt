use Rattle.std.proofs.Common.{refl}
use Rattle.osm_openings.proofs.obstacles.is_by_id.Goals as goal

pub returns : goal.returns
returns c = rw (c.is_word-is_index.ensures, c.is_word-is_on_elements.ensures, c.has_text-is_as_made.ensures, c.get.ensures, c.get-2.ensures) refl
