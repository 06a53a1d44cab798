-- The indexes of all texts of some elements.
use Rattle.std.specs.Prelude.{◌≡◌, ℤ, pos, negsuc, List, ◌++◌, map, Option, Some, slice_index_or}
use Rattle.osm_value.specs.declared.element.Element.{Element}
use Rattle.osm_value.specs.Value.{Text}
use Rattle.osm_columns.specs.declared.dictionary.Dictionary.{Dictionary}
use Rattle.osm_columns.specs.declared.indexes.TextIndexes.{TextIndexes}
use Rattle.osm_columns.specs.Values.{user_of_element}
use Rattle.osm_columns.specs.Lists.{all_tags, all_members}
use Rattle.osm_columns.specs.Texts.{NameAll, Extends}

-- what a column of texts names of these elements, in their order: the user of each element, the key and the value of each tag,
-- the role of each member
abbrev pub users_of : List Element → List (Option Text)
users_of es = map user_of_element es

abbrev pub keys_of : List Element → List (Option Text)
keys_of es = map (λ t. Some t.0) (all_tags es)

abbrev pub values_of : List Element → List (Option Text)
values_of es = map (λ t. Some t.1) (all_tags es)

abbrev pub roles_of : List Element → List (Option Text)
roles_of es = map (λ m. Some m.role) (all_members es)

-- the texts of a dictionary, in its order
abbrev pub texts_in : Dictionary → List Text
texts_in d = map (λ t. t.now) d.texts.items

pub record AreIndexes (t : TextIndexes) (es : List Element) : Type 0 where
  pub users_are : NameAll (texts_in t.dictionary) t.users.items (users_of es)
  pub keys_are : NameAll (texts_in t.dictionary) t.keys.items (keys_of es)
  pub values_are : NameAll (texts_in t.dictionary) t.values.items (values_of es)
  pub roles_are : NameAll (texts_in t.dictionary) t.roles.items (roles_of es)

-- Behind the indexes that were there stand more, which name these texts in what the dictionary has become.
pub record NamesMore (named : List (Option Text)) (old new : Dictionary) (before after : List ℤ) : Type 0 where
  pub extends : Extends (texts_in old) (texts_in new)
  pub added : List ℤ
  pub behind : after ≡ before ++ added
  pub names : NameAll (texts_in new) added named

-- the index that a table of indexes has at that place
abbrev pub index_in : List ℤ → ℤ → ℤ
index_in table (pos place) = slice_index_or table place (negsuc 0)
index_in table (negsuc n) = negsuc 0
