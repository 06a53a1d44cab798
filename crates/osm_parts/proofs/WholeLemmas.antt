-- The one map whose parts follow one another.
use Rattle.std.proofs.Common.{sym, ◌∙◌}
use Rattle.std.specs.Cmp.{nat_cmp_total}
use Rattle.std.specs.FinMap.{from_entries, get-from_entries}
use Rattle.osm_import.proofs.MergeLemmas.{one_map}
use Rattle.osm_parts.specs.Parts.{entries_in}
use Rattle.osm_parts.specs.Interleaved.{WholeExists, WholeIsOne}
use Rattle.osm_parts.proofs.PartsLemmas.{in_part-found, found-in_part}

pub whole-exists : WholeExists
whole-exists parts from follow = (
  from_entries (entries_in parts),
  record {
    kept = λ off blob held. get-from_entries nat_cmp_total (entries_in parts) off ∙ in_part-found from parts off blob follow held;
    only = λ off blob found. found-in_part parts off blob (sym (get-from_entries nat_cmp_total (entries_in parts) off) ∙ found);
  },
)

pub whole-is_one : WholeIsOne
whole-is_one parts whole other are also =
    one_map whole other (λ off blob. ((λ found. also.kept off blob (are.only off blob found)), (λ found. are.kept off blob (also.only off blob found))))
