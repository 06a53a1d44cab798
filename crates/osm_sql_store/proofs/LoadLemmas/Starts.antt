-- Where a search for the extents that reach past an offset may start.
use Rattle.std.proofs.Common.{◌≡◌, ℕ, ℤ, pos, ◌<◌, ◌≤◌, List, [], ◌∷◌, Ok, Result, refl, sym, ap, subst, arith}
use Rattle.std.specs.Prelude.{filter, MatchResult}
use Rattle.std.specs.List.{AllByRecursion}
use Rattle.std.specs.FinMap.{entries}
use Rattle.std.proofs.lemmas.Bool.Decides.{nat_tests}
use Rattle.std.proofs.lemmas.Result.{MatchResult-weaker}
use Rattle.sqlite.specs.declared.types.Value.TheVariants.{Int}
use Rattle.sqlite.specs.Order.{Row}
use Rattle.sqlite_trees.specs.Tree.{IsAscending}
use Rattle.sqlite_trees.proofs.ListLemmas.{all_of, all_weaker, all_both, all-map, filter_same}
use Rattle.osm_rows.specs.declared.keeper.Extent.{Extent}
use Rattle.osm_rows.specs.Held.{HeldMap, IsApart}
use Rattle.osm_rows.specs.declared.fault.StoreFault.{StoreFault}
use Rattle.osm_rows.specs.declared.fault.StoreFault.TheVariants.{Memory}
use Rattle.osm_rows.specs.Keeping.{IsForeign, extent_of, extents_of, touches}
use Rattle.osm_sql_store.specs.Load.Starting.{IsStart}
use Rattle.osm_sql_store.proofs.LoadLemmas.ReadLemmas.{ShowsOne, touches_from}
use Rattle.osm_rows.proofs.LoadLemmas.ExtentLaws.{apart_each, held_each}

-- ---- the extents as a list

filled_each : (held : HeldMap) → IsApart held → AllByRecursion (λ (e : Extent). e.off < e.fin) (extents_of held)
filled_each held apart = all-map (λ (e : Extent). e.off < e.fin) extent_of (entries held) (all_weaker _ _ (λ e is. apart.filled e.0 e.1 is) (entries held) (held_each held))

-- the extents that end past `from` start here or later
abbrev pub Starts : ℕ → List Extent → ℕ → Type 0
Starts from extents off = AllByRecursion (λ (e : Extent). from < e.fin → off ≤ e.off) extents

-- an extent that starts at `from` or before is such a start
starts_each : (from : ℕ) (es : List Extent) → AllByRecursion (λ (e : Extent). e.off < e.fin) es → IsAscending (λ (a b : Extent). a.fin ≤ b.off) es → AllByRecursion (λ (e : Extent). e.off ≤ from → Starts from es e.off) es
starts_each from [] filled up = tt
starts_each from (e ∷ es) filled up = (
  λ low. (λ past. omega arith, all_weaker _ _ (λ x after past. let own : e.off < e.fin = filled.0 in omega arith) es up.0),
  all_both _ _ (λ (x : Extent). x.off ≤ from → Starts from (e ∷ es) x.off) (λ x after rest low. (λ past. absurd (omega arith), rest low)) es up.0 (starts_each from es filled.1 up.1),
)

pub held_starts : (from : ℕ) (held : HeldMap) → IsApart held → AllByRecursion (λ (e : Extent). e.off ≤ from → Starts from (extents_of held) e.off) (extents_of held)
held_starts from held apart = starts_each from (extents_of held) (filled_each held apart) (apart_each held apart)

-- no offset is below 0
pub starts_at_0 : (from : ℕ) (extents : List Extent) → Starts from extents 0
starts_at_0 from extents = all_of (λ (e : Extent). from < e.fin → 0 ≤ e.off) (λ e past. omega arith) extents

-- from such a start on the same extents touch
pub touch_from : (start from to : ℕ) (extents : List Extent) → Starts from extents start → filter (touches_from start from to) extents ≡ filter (touches from to) extents
touch_from start from to extents starts = filter_same _ (touches from to) extents (all_weaker _ _ (λ e later. same e later) extents starts)
  where
    same : (e : Extent) → (from < e.fin → start ≤ e.off) → touches_from start from to e ≡ touches from to e
    same e later = grind (arith, nat_tests, later)

-- the first row shows such a start; where there is none, 0 is one
pub start_found : (from : ℕ) (extents : List Extent) (rows : List Row) (r : Result ℤ StoreFault) → AllByRecursion (ShowsOne (Starts from extents)) rows
    → (rows ≡ [] → r ≡ Ok (pos 0)) → ((off : ℤ) (more : List Row) → rows ≡ (Int off ∷ []) ∷ more → MatchResult r (λ found. found ≡ off) (λ fault. fault ≡ Memory))
    → MatchResult r (IsStart from extents) (λ fault. ¬ (IsForeign fault))
start_found from extents [] r each none first =
    subst (λ r. MatchResult r (IsStart from extents) (λ fault. ¬ (IsForeign fault))) (sym (none refl)) (record { off = 0; is = refl; later = starts_at_0 from extents })
start_found from extents (row ∷ rows) r each none first =
    let it = each.0 in
    MatchResult-weaker r (first (pos it.0) rows (ap (λ r. r ∷ rows) it.2)) (λ found same. record { off = it.0; is = same; later = it.1 }) (λ fault is foreign. subst IsForeign is foreign)
