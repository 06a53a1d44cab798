-- What two states of a connection have in common that have the same last commit.
use Rattle.std.proofs.Common.{◌≡◌, ap, ◌∙◌}
use Rattle.sqlite.specs.Effect.{Database}
use Rattle.sqlite.specs.Schema.{Schema}

-- what is the same after one call and after the next is the same after both
pub same_then : {T : Type 0} (first next last : T) → next ≡ first → last ≡ next → last ≡ first
same_then first next last one two = two ∙ one

-- the same commit has the same rows, of the same tables
pub trees_after : (one other : Database) → other ≡ one → other.trees ≡ one.trees
trees_after one other same = ap (λ (d : Database). d.trees) same

pub schema_after : {schema : Schema} (one other : Database) → other ≡ one → one.schema ≡ schema → other.schema ≡ schema
schema_after one other same is = ap (λ (d : Database). d.schema) same ∙ is
