-- Why a query that the database understands fails.
use Rattle.std.proofs.Common.{◌≡◌, inl, inr, ℕ, ◌≤◌, ◌&&◌, ◌==◌, Bool, true, false, true≢false, List, [], length, Ok, Err, Result, sym, ap, subst, subst₂, ◌∙◌, arith, append-nil, ◌⊎◌}
use Rattle.std.specs.Prelude.{nat_le}
use Rattle.std.proofs.lemmas.Bool.Decides.{nat_tests}
use Rattle.sqlite.specs.Order.{Row}
use Rattle.sqlite.specs.Term.{Term}
use Rattle.sqlite.specs.declared.error.Error.{Error}
use Rattle.sqlite.specs.Listing.{understood, reads_listing, IsSourceOf}
use Rattle.sqlite.specs.Effect.{RefusesToRead}
use Rattle.sqlite.specs.State.{State, IsNoStatement, IsNotRun, FailsToQuery, store_error}
use Rattle.sqlite.specs.Schema.{Schema}
use Rattle.sqlite.specs.Command.TheVariants.{Select}
use Rattle.sqlite.specs.Tree.{Trees}
use Rattle.sqlite.specs.Program.{ProgramOverflows}
use Rattle.sqlite.proofs.Callers.{command_of}
use Rattle.sqlite_typing.specs.Types.{accepts_program}
use Rattle.sqlite_resolve.specs.declared.compiled.Compiled.{Compiled}
use Rattle.sqlite_resolve.specs.declared.error.CompileError.{CompileError}
use Rattle.sqlite.specs.declared.error.Error.TheVariants.{SqliteFailure}
use Rattle.sqlite.specs.declared.error.ErrorCode.TheVariants.{OperationInterrupted}
use Rattle.sqlite_trees.specs.declared.error.StoreError.{StoreError}
use Rattle.sqlite_trees.specs.declared.error.StoreError.TheVariants.{OutOfMemory, Io, Corrupt, Full, Broken, Unstorable}
use Rattle.osm_rows.specs.Faults.{fault_over_unknown}
use Rattle.osm_rows.specs.Keeping.{IsForeign}
use Rattle.osm_sql_store.specs.Load.Selects.{selects}
use Rattle.osm_sql_store.proofs.LoadLemmas.SelectLemmas.{query_plain}
use Rattle.osm_sql_store.proofs.LoadLemmas.OneTable.{select}

-- the store failed, or the limit on steps was met: all that can befall a query that the database understands
abbrev pub IsCause : Error → Type 0
IsCause e = ((cause : StoreError) × (e ≡ store_error cause)) ⊎ (e ≡ SqliteFailure OperationInterrupted)

-- the text is one statement with so many parameters
abbrev pub takes : Result Compiled CompileError → ℕ → ℕ → Bool
takes (Ok c) len params = nat_le len c.tail && (length c.names == params)
takes (Err e) len params = false

taken : (c : Compiled) (len params : ℕ) → takes (Ok c) len params ≡ true → (len ≤ c.tail) × (params ≡ length c.names)
taken c len params is = (grind (arith, nat_tests), grind (arith, nat_tests))

module _ (sql : List ℕ) (params : Row) (old new : State) (schema : Schema) (has : old.now.schema ≡ schema) (is : selects sql ≡ true) (fits : takes (understood schema sql) (length sql) (length params) ≡ true)
    (tree : ℕ) (tests shown keys : List Term) (names : List (List ℕ)) (command : command_of (understood schema sql) ≡ Select (record { lets = []; body = select tree tests shown keys }) names)
    (unlisted : reads_listing schema sql ≡ false) (accepted : accepts_program schema [] (select tree tests shown keys) params ≡ true) where
  never_lost : (db : Trees) → ProgramOverflows db params [] [] (select tree tests shown keys) → ⊥
  never_lost db (inl h) = h
  never_lost db (inr h) = h.4

  never_refused : (e : Error) → IsNoStatement old sql params e → ⊥
  never_refused e (inl h) = let known = sym (ap (λ s. understood s sql) has) ∙ h.1 in absurd (true≢false (sym (rw known at fits)))
  never_refused e (inr h) =
      let known : understood schema sql ≡ Ok h.0 = sym (ap (λ s. understood s sql) has) ∙ h.1 in
      let it = taken h.0 (length sql) (length params) (rw known at fits) in
      elim h.2 [
        | inl p ↦ p.0 it.0
        | inr q ↦ elim q [ inl p ↦ p.0 it.1 | inr p ↦ p.0 (query_plain old.now.schema sql is h.0 h.1).1 ]
      ]

  -- the store failed, or the limit on steps was met
  pub query_causes : (e : Error) → FailsToQuery sql params old new e → IsCause e
  unfolding FailsToQuery IsNotRun
  query_causes e (inl h) = elim h [ inl none ↦ absurd (never_refused e none.0) | inr failed ↦ inl (failed.0, failed.1) ]
  query_causes e (inr h) =
      let known : understood schema sql ≡ Ok h.0 = sym (ap (λ s. understood s sql) has) ∙ h.1.is in
      let silent = query_plain old.now.schema sql is h.0 h.1.is in
      let it = rw (silent.0, silent.1, append-nil params) at h.2 in
      let db : it.0 ≡ old.now = subst (λ b. IsSourceOf b old.now it.0) (ap (λ s. reads_listing s sql) has ∙ unlisted) it.1 in
      let same : h.0.command ≡ Select (record { lets = []; body = select tree tests shown keys }) names = sym (ap command_of known) ∙ command in
      let refused : RefusesToRead old.step_limit (Select (record { lets = []; body = select tree tests shown keys }) names) old.now params e =
      subst₂ (λ k d. RefusesToRead old.step_limit k d params e) same db it.2 in
      elim refused [
        | inl typed ↦ absurd (true≢false (sym accepted ∙ ap (λ s. accepts_program s [] (select tree tests shown keys) params) (sym has) ∙ typed.1))
        | inr more ↦ elim more [ inl lost ↦ absurd (never_lost old.now.trees lost.1) | inr stopped ↦ inr stopped.0 ]
      ]

code_ours : (cause : StoreError) → IsForeign (fault_over_unknown (store_error cause)) → ⊥
code_ours OutOfMemory foreign = foreign
code_ours Io foreign = foreign
code_ours Corrupt foreign = foreign
code_ours Full foreign = foreign
code_ours Broken foreign = foreign
code_ours Unstorable foreign = foreign

-- such a cause doesn't say that the tables are another's
pub cause_ours : (e : Error) → IsCause e → IsForeign (fault_over_unknown e) → ⊥
cause_ours e (inl h) foreign = code_ours h.0 (subst (λ e. IsForeign (fault_over_unknown e)) h.1 foreign)
cause_ours e (inr is) foreign = subst (λ e. IsForeign (fault_over_unknown e)) is foreign
