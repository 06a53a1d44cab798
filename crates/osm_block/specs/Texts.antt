-- A test of a text of the string table.
use Rattle.std.specs.Prelude.{Bool, ◌&&◌}
use Rattle.std.specs.Str.{is_utf8}
use Rattle.osm_value.specs.Value.{Text}
use Rattle.osm_value.specs.Ranges.{has_no_nul}

-- UTF-8 without U+0000
abbrev pub is_text : Text → Bool
is_text t = is_utf8 t && has_no_nul t
