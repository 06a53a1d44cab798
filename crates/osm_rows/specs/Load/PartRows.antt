-- What the short form of a row of `tag` or `link` stands for.
use Rattle.std.specs.Prelude.{ℕ, ◌+◌, ◌*◌, pos, List, [], ◌∷◌, take, drop, codes}
use Rattle.sqlite.specs.declared.types.Value.TheVariants.{Int, Text as Words}
use Rattle.sqlite.specs.Order.{Row}
use Rattle.osm_rows.specs.declared.load.tables.usual_role.UsualRole.{UsualRole}
use Rattle.osm_rows.specs.declared.load.tables.usual_role.UsualRole.TheVariants as role
use Rattle.osm_rows.specs.declared.load.tables.part_row.PartForm.{PartForm}
use Rattle.osm_rows.specs.declared.load.tables.part_row.PartForm.TheVariants.{Tag, NodeLink, WayLink, RelationLink, Other}
use Rattle.osm_rows.specs.declared.load.tables.part_row.ShortLink.{ShortLink}
use Rattle.osm_rows.specs.declared.load.tables.part_row.ShortTag.{ShortTag}
use Rattle.osm_value.specs.declared.element.MemberKind.{MemberKind}
use Rattle.osm_value.specs.declared.element.MemberKind.TheVariants as kind
use Rattle.osm_rows.specs.Rows.{element_code}

-- the text of a role
abbrev pub role_text : UsualRole → List ℕ
role_text role.Empty = []
role_text role.Outer = codes "outer"
role_text role.Inner = codes "inner"
role_text role.Forward = codes "forward"
role_text role.Backward = codes "backward"
role_text role.Stop = codes "stop"
role_text role.Platform = codes "platform"
role_text role.ForwardStop = codes "forward_stop"
role_text role.BackwardStop = codes "backward_stop"
role_text role.StopEntryOnly = codes "stop_entry_only"
role_text role.StopExitOnly = codes "stop_exit_only"
role_text role.PlatformEntryOnly = codes "platform_entry_only"
role_text role.PlatformExitOnly = codes "platform_exit_only"
role_text role.MainStream = codes "main_stream"
role_text role.SideStream = codes "side_stream"
role_text role.From = codes "from"
role_text role.Via = codes "via"
role_text role.To = codes "to"
role_text role.House = codes "house"
role_text role.Street = codes "street"
role_text role.Outline = codes "outline"
role_text role.Part = codes "part"
role_text role.AdminCentre = codes "admin_centre"
role_text role.Label = codes "label"
role_text role.Subarea = codes "subarea"

-- the values of a link's row, column by column
abbrev pub short_link_values : ShortLink → Row
short_link_values link = Int link.off ∷ Int (pos link.position) ∷ Int (pos link.number) ∷ Int (pos (element_code link.kind)) ∷ Int link.id ∷ Words (role_text link.role) ∷ []

-- the values of a tag's row, column by column
abbrev pub short_tag_values : ShortTag → Row
short_tag_values tag = Int tag.off ∷ Int (pos tag.position) ∷ Int (pos tag.number) ∷ Words (take tag.key_length tag.texts.items) ∷ Words (drop tag.key_length tag.texts.items) ∷ []

-- the link with these numbers, the two long ones by the bits above their lower 32 and by those
abbrev pub link_of : MemberKind → UsualRole → ℕ → ℕ → ℕ → ℕ → ℕ → ℕ → ShortLink
link_of kind role number position off_upper id_upper off_lower id_lower = record { off = pos (off_upper * 4294967296 + off_lower); id = pos (id_upper * 4294967296 + id_lower); position = position; number = number; kind = kind; role = role }

-- the values of the row, column by column
abbrev pub columns_of : PartForm → Row
columns_of (Tag tag) = short_tag_values tag.value
columns_of (NodeLink role number position off_upper id_upper off_lower id_lower) = short_link_values (link_of kind.Node role number position off_upper id_upper off_lower id_lower)
columns_of (WayLink role number position off_upper id_upper off_lower id_lower) = short_link_values (link_of kind.Way role number position off_upper id_upper off_lower id_lower)
columns_of (RelationLink role number position off_upper id_upper off_lower id_lower) = short_link_values (link_of kind.Relation role number position off_upper id_upper off_lower id_lower)
columns_of (Other row) = row.value
