-- In which order SQLite keeps an index, or a table WITHOUT ROWID, as its text and that of its table ask
-- (lang_createindex.html, "Indexed columns"; withoutrowid.html; fileformat2.html, section 2.4).
use Rattle.std.specs.Prelude.{ℕ, ◌+◌, ◌-◌, Bool, false, ◌==◌, ◌&&◌, ◌||◌, not, if◌then◌else◌, Option, None, Some, option_map, option_and_then, unwrap_or, is_some, Ok, Err, List, [], ◌∷◌, ◌++◌, length, take, drop, reverse, find, slice_get, codes}
use Rattle.std.specs.List.{list_any}
use Rattle.std.specs.Str.{bytes_eq}
use Rattle.std.specs.Fmt.{decimal}
use Rattle.sqlite_value.specs.declared.value.Value.{Value}
use Rattle.sqlite_value.specs.declared.value.Value.TheVariants.{Null, Text}
use Rattle.sqlite_value.specs.declared.keys.Collation.{Collation}
use Rattle.sqlite_value.specs.declared.keys.Key.{Key}
use Rattle.sqlite_value.specs.declared.keys.Order.{Order}
use Rattle.sqlite_value.specs.Order.{Row, column, bytes, class}
use Rattle.sqlite_value.specs.Keys.{ascending, collation_code, first_key, joined, later, plain}
use Rattle.sqlite_trees.specs.Sound.{is_word, same_name}
use Rattle.sqlite_schema.specs.declared.schema.Index.{Index}
use Rattle.sqlite_schema.specs.declared.schema.Table.{Table}
use Rattle.sqlite_resolve.specs.Lowering.{Checked}
use Rattle.sqlite_resolve.specs.Compile.{table_defined_by, index_defined_by}

-- what a text defines, if that is understood
abbrev pub if_defined : {X : Type 0} → Checked X → Option X
if_defined (Ok defined) = Some defined
if_defined (Err e) = None

-- ---- texts

-- up to the first closing parenthesis: an index without its WHERE, where no column is an expression
abbrev pub to_closing : List ℕ → List ℕ
to_closing [] = []
to_closing (b ∷ text) = if b == 41 then b ∷ [] else b ∷ to_closing text

abbrev pub from_closing : List ℕ → List ℕ
from_closing [] = []
from_closing (b ∷ text) = if b == 41 then b ∷ text else from_closing text

-- up to the last closing parenthesis: a table without its options
abbrev pub without_options : List ℕ → List ℕ
without_options text = reverse (from_closing (reverse text))

abbrev pub options : List ℕ → List ℕ
options text = drop (length (without_options text)) text

-- the word stands somewhere in the text, in any letters
abbrev pub mentions : List ℕ → List ℕ → Bool
mentions word [] = false
mentions word (b ∷ text) = same_name (take (length word) (b ∷ text)) word || mentions word text

-- the table has the option WITHOUT ROWID
abbrev pub is_without_rowid : List ℕ → Bool
is_without_rowid text = mentions (codes "rowid") (options text)

abbrev pub ends_in : List ℕ → List ℕ → Bool
ends_in ending text = bytes_eq (drop (length text - length ending) text) ending

-- ---- keys

-- a key before those of an order, if an order can hold them
abbrev pub before : Key → Option Order → Option Order
before key None = None
before key (Some order) = joined key order

-- one of these columns, with the keys of this order, is at this place and has this collation
abbrev pub has_column : List ℕ → Order → ℕ → Collation → Bool
has_column [] order place by = false
has_column (p ∷ columns) order place by = (p == place && (collation_code (first_key order).collation == collation_code by)) || has_column columns (later order) place by

-- In an index that a statement makes, a column of the primary key has the direction that it has there; in an automatic one it ascends.
abbrev pub as_followed : Bool → Key → Key
as_followed is_automatic key = record { collation = key.collation; descending = not is_automatic && key.descending }

-- those of the columns of a primary key that aren't among these columns of an index
abbrev pub lacking : Bool → List ℕ → Order → List ℕ → Order → Option Order
lacking is_automatic columns order [] keys = Some plain
lacking is_automatic columns order (place ∷ primary) keys =
    if has_column columns order place (first_key keys).collation then lacking is_automatic columns order primary (later keys)
    else before (as_followed is_automatic (first_key keys)) (lacking is_automatic columns order primary (later keys))

-- the keys of these columns, and then others
abbrev pub followed : List ℕ → Order → Option Order → Option Order
followed [] order others = others
followed (place ∷ columns) order others = before (first_key order) (followed columns (later order) others)

-- ---- the primary key

abbrev pub order_for : List ℕ → List (List ℕ) → List Order → Option Order
order_for columns [] orders = None
order_for columns (key ∷ keys) [] = None
order_for columns (key ∷ keys) (order ∷ orders) = if bytes_eq columns key then Some order else order_for columns keys orders

abbrev pub collation_at : Table → ℕ → Option Collation
collation_at table at = option_map (λ c. c.collation) (slice_get table.columns at)

abbrev pub has_repeated : List ℕ → Bool
has_repeated [] = false
has_repeated (place ∷ places) = list_any (λ other. other == place) places || has_repeated places

-- of one column of the type INTEGER, which else is the rowid; it isn't known if it may descend
abbrev pub integer_order : List ℕ → Table → ℕ → Option Order
integer_order text table at = if mentions (codes "desc") text then None else option_and_then (λ by. joined (ascending by) plain) (collation_at table at)

-- of any other; it isn't known if it names a column twice
abbrev pub columns_order : Table → Option Order
columns_order table = if has_repeated table.primary then None else order_for table.primary table.uniques table.orders

abbrev pub primary_by : List ℕ → Table → Option ℕ → Option Order
primary_by text table (Some at) = integer_order text table at
primary_by text table None = columns_order table

-- the order of the primary key of a table WITHOUT ROWID that has this text, which is that of the table
abbrev pub primary_order : List ℕ → Table → Option Order
primary_order text table = primary_by text table table.key

-- ---- indexes

-- the columns and the order of the automatic index with this name, which ends in its number among those of its table
abbrev pub automatic_from : ℕ → List ℕ → List (List ℕ) → List Order → Option (List ℕ × Order)
automatic_from number name [] orders = None
automatic_from number name (key ∷ keys) [] = None
automatic_from number name (key ∷ keys) (order ∷ orders) =
    if ends_in (codes "_" ++ decimal number) name then Some (key, order) else automatic_from (number + 1) name keys orders

-- those of the index that has this name and text
abbrev pub told_keys : Table → Value → Value → Option (List ℕ × Order)
told_keys table name Null = automatic_from 1 (bytes name) table.uniques table.orders
told_keys table name (Text sql) = option_map (λ (i : Index). (i.columns, i.order)) (if_defined (index_defined_by table (to_closing sql)))
told_keys table name _ = None

-- the keys of an index's columns, and behind them the rowid; in a table WITHOUT ROWID, the columns of the primary key that it lacks
abbrev pub whole : Bool → List ℕ → Table → List ℕ × Order → Option Order
whole is_automatic text table keys =
    if is_without_rowid text then option_and_then (λ primary. followed keys.0 keys.1 (lacking is_automatic keys.0 keys.1 table.primary primary)) (primary_order text table)
    else Some keys.1

-- ---- rows of `sqlite_schema`

abbrev pub is_table_named : List ℕ → Row → Bool
is_table_named name row = is_word (codes "table") (column row 1) && same_name (bytes (column row 2)) name

-- the text of the table of which the row tells, or of the row's table
abbrev pub text_of_table : List Row → Row → Option Value
text_of_table rows row = option_map (λ (found : Row). column found 5) (find (is_table_named (bytes (column row 3))) rows)

-- a primary key or a UNIQUE makes an index without a text
abbrev pub order_by : List ℕ → Table → Row → Option Order
order_by text table row =
    if is_word (codes "table") (column row 1) then primary_order text table
    else option_and_then (whole (class (column row 5) == 0) text table) (told_keys table (column row 2) (column row 5))

abbrev pub order_in : Option Value → Row → Option Order
order_in (Some (Text sql)) row = option_and_then (λ table. order_by sql table row) (if_defined (table_defined_by (without_options sql)))
order_in _ row = None

-- the order of the index, or of the table WITHOUT ROWID, of which the row tells, as these rows say
abbrev pub told_order : List Row → Row → Option Order
told_order rows row = order_in (text_of_table rows row) row

-- the order of the index of which the row tells; where none is told, that of their bytes
abbrev pub index_order : List Row → Row → Order
index_order rows row = unwrap_or (told_order rows row) plain

-- of these rows, the first whose tree is an index and whose order isn't told
abbrev pub first_untold : List Row → List Row → List Bool → Option Row
first_untold entries [] roots = None
first_untold entries (row ∷ rows) [] = None
first_untold entries (row ∷ rows) (root ∷ roots) = if root && not (is_some (told_order entries row)) then Some row else first_untold entries rows roots
