use Rattle.osm_parts.proofs.PartsLemmas.{parts-join, extents-join, lines-join, frames-join, gaps-join, imports-are-parts}
use Rattle.osm_parts.proofs.laws.parts_are_read_in_turn.Goals as goal

pub returns : goal.returns
returns c = record { entries = parts-join; extents = extents-join; lines = lines-join; frames = frames-join; gaps = gaps-join; imports = imports-are-parts }
