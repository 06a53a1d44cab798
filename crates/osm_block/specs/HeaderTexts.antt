-- What an iterator over texts has left.
use Rattle.std.specs.Prelude.{List}
use Rattle.osm_value.specs.Value.{Text}
use Rattle.osm_block.specs.declared.header.texts.Texts.{Texts}
use Rattle.osm_block.specs.HeaderPayloads.{payloads_left}

-- the texts that it has still before it
abbrev pub texts_left : Texts → List Text
texts_left t = payloads_left t.payloads
