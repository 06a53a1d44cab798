-- What a block says before its groups.
use Rattle.std.specs.Prelude.{◌≡◌, ℕ, List, true, None, pos, ◌≤ℤ◌}
use Rattle.std.specs.List.{AllByRecursion}
use Rattle.pbf_wire.specs.Readings.{fields, wire, each, is_there}
use Rattle.osm_value.specs.Ranges.{IsText}
use Rattle.osm_block.specs.declared.fields.TheConstants.{BLOCK_STRINGTABLE}
use Rattle.osm_block.specs.Message.{Context, context}

pub record HeadRead (b : Context) (w : List ℕ) : Type 0 where
  pub context_is : b ≡ context (fields w)
  pub is_message : wire w ≡ None
  pub has_table : is_there (each (fields w) BLOCK_STRINGTABLE) ≡ true
  pub tables_are : AllByRecursion (λ p. wire p ≡ None) (each (fields w) BLOCK_STRINGTABLE)
  pub texts_are : AllByRecursion IsText (context (fields w)).table
  pub granularity : pos 1 ≤ℤ (context (fields w)).granularity
  pub date_granularity : pos 1 ≤ℤ (context (fields w)).date_granularity
