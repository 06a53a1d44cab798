-- A put of a blob leaves the list of objects as it is.
use Rattle.std.proofs.Common.{◌≡◌, ◌∙◌, ◌⊎◌, ◌≤◌, false, IsTrue, Result, Ok, Err, inl, inr, sym, ap, subst, arith}
use Rattle.std.specs.Prelude.{OnOk, OnErr}
use Rattle.sqlite_trees.specs.Tree.{Trees}
use Rattle.sqlite_trees.specs.View.{View, IsClean, doubt}
use Rattle.sqlite_trees.specs.Objects.{catalog_tree}
use Rattle.osm_openings.specs.Asked.{ListsAsAsked}
use Rattle.osm_restarts.specs.Beside.{StandsBeside}

-- what a put says of the list: what it committed and what a crash leaves has the one that was there, or the store was left as it was
pub record KeepsList (Leaves : Trees → Type 0) (Recovers : Trees → Type 0) (old new : View) : Type 0 where
  pub clean : doubt old.is_clean ≤ doubt new.is_clean
  pub usable : IsClean new → IsTrue new.is_open → IsTrue old.is_open × (new.is_broken ≡ false → new.trees ≡ new.committed)
      × ((new.committed ≡ old.committed) ⊎ ((old.is_broken ≡ false) × (new.committed catalog_tree ≡ old.trees catalog_tree)))
  pub crash : IsClean new → (db : Trees) → Recovers db → Leaves db ⊎ (IsTrue old.is_open × (old.is_broken ≡ false) × (db catalog_tree ≡ old.trees catalog_tree))

module _ (Leaves Recovers : Trees → Type 0) (old new : View) (keeps : KeepsList Leaves Recovers old new) (stands : StandsBeside old Leaves) (clean : IsClean new) where
  was_clean : IsClean old
  was_clean = let fewer = keeps.clean in omega (arith, fewer, clean)

  as_listed : IsTrue old.is_open → old.is_broken ≡ false → (rows : Trees) → rows catalog_tree ≡ old.trees catalog_tree → ListsAsAsked (rows catalog_tree)
  as_listed up unbroken db same =
      subst ListsAsAsked (sym (same ∙ ap (λ (f : Trees). f catalog_tree) (stands.settled (was_clean, up) unbroken))) (stands.committed (was_clean, up))

  pub stands_still : StandsBeside new Recovers
  stands_still = record {
    settled = λ up unbroken. (keeps.usable clean up.1).1 unbroken;
    committed = λ up. let u = keeps.usable clean up.1 in elim u.2 [
      | inl same ↦ subst (λ (f : Trees). ListsAsAsked (f catalog_tree)) (sym same) (stands.committed (was_clean, u.0))
      | inr put ↦ as_listed u.0 put.0 new.committed put.1
    ];
    left = λ db left. elim (keeps.crash clean db left) [ inl before ↦ stands.left db before | inr put ↦ as_listed put.0 put.1 db put.2 ];
  }

-- a put that adds the rows of a blob, or fails, keeps the list
pub kept_by_put : {T F : Type 0} (Leaves Recovers Puts : Trees → Type 0) (Stored : Type 0) (old new : View) (r : Result T F)
    → ((db : Trees) → Puts db → db catalog_tree ≡ old.trees catalog_tree) → (old.is_broken ≡ false → IsTrue old.is_open)
    → (IsClean new → OnOk r (Puts new.trees)) → (IsClean new → OnOk r ((old.is_broken ≡ false) × (new.is_broken ≡ false) × (new.committed ≡ new.trees)))
    → (IsClean new → IsTrue new.is_open → OnErr r (IsTrue old.is_open × (new.is_broken ≡ false) × (new.trees ≡ old.committed) × (new.committed ≡ old.committed)))
    → doubt old.is_clean ≤ doubt new.is_clean → (IsClean new → (db : Trees) → Recovers db → Leaves db ⊎ ((old.is_broken ≡ false) × Stored × Puts db)) → KeepsList Leaves Recovers old new
kept_by_put Leaves Recovers Puts Stored old new (Ok x) catalog opens added committed unchanged clean crash = record {
  clean = clean;
  usable = λ sure up. let c = committed sure in (opens c.0, λ unbroken. sym c.2, inr (c.0, ap (λ (f : Trees). f catalog_tree) c.2 ∙ catalog new.trees (added sure)));
  crash = λ sure db left. elim (crash sure db left) [ inl before ↦ inl before | inr put ↦ inr (opens put.0, put.0, catalog db put.2) ];
}
kept_by_put Leaves Recovers Puts Stored old new (Err e) catalog opens added committed unchanged clean crash = record {
  clean = clean;
  usable = λ sure up. let u = unchanged sure up in (u.0, λ unbroken. u.2 ∙ sym u.3, inl u.3);
  crash = λ sure db left. elim (crash sure db left) [ inl before ↦ inl before | inr put ↦ inr (opens put.0, put.0, catalog db put.2) ];
}
