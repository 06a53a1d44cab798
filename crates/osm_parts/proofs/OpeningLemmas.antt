-- A store that is opened, read and closed.
use Rattle.std.proofs.Common.{◌≡◌, ℕ, ◌≤◌, List, slice_get, Some, Result, Ok, Err, sym, ◌∙◌, subst, inl, inr, arith}
use Rattle.std.specs.Prelude.{OnOk, IfErr, IsErrAnd}
use Rattle.osm_rows.specs.Held.{HeldMap}
use Rattle.osm_rows.specs.declared.fault.StoreFault.{StoreFault}
use Rattle.osm_rows.specs.declared.keeper.BlobReader.{Ghosts}
use Rattle.osm_import.specs.Step.{HasCause}
use Rattle.osm_import.specs.Stores.{Rereads}
use Rattle.osm_parts.specs.Opening.{IsLent, OnlyOpens, AddsUp}

-- what `?` has handed on
pub if-err : {T E : Type 0} (r : Result T E) (e : E) (P : E → Type 0) → IsErrAnd r (λ y. y ≡ e) → P e → IfErr r P
if-err (Ok x) e P h p = absurd h
if-err (Err y) e P h p = subst P (sym h) p

-- the one at this place
pub same-held : (maps : List HeldMap) (place : ℕ) (one held : HeldMap) → slice_get maps place ≡ Some one → slice_get maps place ≡ Some held → one ≡ held
same-held maps place one held at also = let e : Some one ≡ Some held = sym at ∙ also in cc

module _ {S T V E : Type 0} (holds : S → List HeldMap → Type 0) (lends : S → List HeldMap → HeldMap → Type 0) (is_honest is_open : S → Type 0) (store : Ghosts T)
    (old lent new : S) (first last : T) (place : ℕ) (result : Result V E)
    (lent_by : (maps : List HeldMap) → holds old maps → is_honest lent → store.is_honest first → IsLent (lends lent) (store.holds first) maps place)
    (honest : is_honest lent → store.is_honest first → is_honest old) (open_if : is_open lent → store.is_open first → is_open old)
    (reread : Rereads store first result last)
    (back : (maps : List HeldMap) (held : HeldMap) → lends lent maps held → store.holds last held → is_honest new → holds new maps)
    (honest_too : is_honest new → is_honest lent × store.is_honest last) (open_too : is_open new → is_open lent × store.is_open last) where
  pub given-out : (maps : List HeldMap) → holds old maps → is_honest new → IsLent (lends lent) (store.holds first) maps place
  given-out maps held h = let both = honest_too h in lent_by maps held both.0 (reread.stays.honest both.1)

  pub opened-closed : OnlyOpens holds is_honest is_open old result new
  opened-closed = record {
    keeps = record {
      honest = λ h. (let both = honest_too h in honest both.0 (reread.stays.honest both.1));
      open_if = λ o. (let both = open_too o in open_if both.0 (reread.stays.open_if both.1));
      kept = λ h o maps held. (let it = given-out maps held h in back maps it.held it.lent (reread.stays.kept (honest_too h).1 (open_too o).1 it.held it.store) h);
    };
    ok = at result reread.ok;
  }
    where
      at : (r : Result V E) → OnOk r (store.is_honest last → (held : HeldMap) → store.holds first held → store.holds last held) → OnOk r (is_honest new → (maps : List HeldMap) → holds old maps → holds new maps)
      at (Ok value) ok = λ h maps held. (let it = given-out maps held h in back maps it.held it.lent (ok (honest_too h).1 it.held it.store) h)
      at (Err fault) ok = tt

-- ---- what has failed

pub cause-closed : (old lent new first last : ℕ) (fault : StoreFault) → lent ≡ old → AddsUp lent last new → HasCause first last fault → HasCause old new fault
cause-closed old lent new first last fault same (more, adds) cause = elim cause [
  | inl memory ↦ inl memory
  | inr counted ↦ elim adds [
    | inl is ↦ elim counted [ inl less ↦ inr (inl (omega arith)) | inr top ↦ inr (inr (omega arith)) ]
    | inr top ↦ inr (inr top)
  ]
]

pub cause-later : (old middle new : ℕ) (fault : StoreFault) → old ≤ middle → HasCause middle new fault → HasCause old new fault
cause-later old middle new fault le cause = elim cause [ inl memory ↦ inl memory | inr counted ↦ elim counted [ inl less ↦ inr (inl (omega arith)) | inr top ↦ inr (inr top) ] ]
