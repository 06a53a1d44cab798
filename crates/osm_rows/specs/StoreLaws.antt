-- What a crash leaves of a store that can go on: what it holds, alone.
use Rattle.std.proofs.Common.{◌≡◌, ◌⊎◌, ℕ, Bool, true, false, List, [], ◌∷◌, Some, cond, eqb, IsTrue, refl, inl, inr, sym, ap, subst, ◌∙◌}
use Rattle.std.specs.List.{AllByRecursion}
use Rattle.std.specs.Ordering.{nat_cmp}
use Rattle.std.specs.Cmp.{unsigned_tied}
use Rattle.std.specs.FinMap.{get, entries, find, get-entries}
use Rattle.std.proofs.lemmas.Bool.Decides.{eqb_tells}
use Rattle.sqlite.specs.Tree.{Trees}
use Rattle.sqlite.specs.Effect.{Database}
use Rattle.sqlite.specs.State.{State}
use Rattle.osm_rows.specs.declared.schema.layout.Layout.{Layout}
use Rattle.osm_rows.specs.Held.{Blob, HeldMap, HaveFewTexts}
use Rattle.osm_rows.specs.LayoutHolding.{IsBlob, IsKept, TablesHold, Holds, MayLeave, LeavesAMap}

-- an open store leaves its last commit to a crash
abbrev pub IsSettled : State → Type 0
IsSettled s = (db : Trees) → IsTrue s.is_open → s.may_leave db → db ≡ s.committed.trees

module _ (layout : Layout) (s : State) (held : HeldMap) (holds : Holds layout s held) (settles : IsSettled s) where
  left_is : (db : Trees) → s.may_leave db → db ≡ s.now.trees
  left_is db left = settles db holds.opened left ∙ ap (λ (d : Database). d.trees) (sym holds.settled)

  pub leaves_held_alone : (left : HeldMap) → MayLeave layout s left → left ≡ held
  leaves_held_alone left may =
      holds.only left may.kept (subst (TablesHold layout left) (left_is may.trees may.left) may.tables)

  pub leaves_held : LeavesAMap layout s
  leaves_held db left = (held, holds.kept, subst (TablesHold layout held) (sym (left_is db left)) holds.tables)

-- over a clean disk a connection is open or isn't
pub open_or_shut : (is_open : Bool) {IsClean : Type 0} → IsClean → (IsClean × IsTrue is_open) ⊎ ¬ (IsClean × IsTrue is_open)
open_or_shut true clean = inl (clean, refl)
open_or_shut false clean = inr (λ both. (let is : false ≡ true = both.1 in cc))

kept_at : (layout : Layout) (es : List (ℕ × Blob)) (off : ℕ) (blob : Blob) → AllByRecursion (λ (entry : ℕ × Blob). IsBlob layout entry.1) es → find nat_cmp off es ≡ Some blob → IsBlob layout blob
kept_at layout [] off blob all found = absurd (cc)
kept_at layout (e ∷ es) off blob all found =
    let known : cond (eqb off e.0) (Some e.1) (find nat_cmp off es) ≡ Some blob = ap (λ b. cond b (Some e.1) (find nat_cmp off es)) (sym (unsigned_tied off e.0)) ∙ found in
    elim (eqb_tells off e.0) [
      | inl (test, same) ↦
          let there : Some e.1 ≡ Some blob = ap (λ b. cond b (Some e.1) (find nat_cmp off es)) (sym test) ∙ known in
          let one : e.1 ≡ blob = cc in subst (IsBlob layout) one all.0
      | inr (test, apart) ↦ kept_at layout es off blob all.1 (ap (λ b. cond b (Some e.1) (find nat_cmp off es)) (sym test) ∙ known)
    ]

-- each element of a map that is kept uses few texts
pub few_texts_of : (layout : Layout) (held : HeldMap) → IsKept layout held → (off : ℕ) (blob : Blob) → get held off ≡ Some blob → HaveFewTexts blob.elements
few_texts_of layout held kept off blob found = (kept_at layout (entries held) off blob kept.blobs (sym (get-entries held off) ∙ found)).few_texts
