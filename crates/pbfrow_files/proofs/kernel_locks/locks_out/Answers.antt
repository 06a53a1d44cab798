use Rattle.std.proofs.Common.{◌≡◌, ℕ, List, codes, sym, subst, ap, ◌∙◌, rules}
use Rattle.pbfrow_files.specs.KernelLocks.{first_word, after_word, IsOnBytes, NamesFile, MeetsLocks}
use Rattle.pbfrow_files.proofs.kernel_locks.locks_out.Goals as goal
use Rattle.pbfrow_files.proofs.kernel_locks.locks_out.Goals.{then-is_on_bytes, else-is_on_bytes, then-eq, else-eq}

meets_along : (first last first' last' : List ℕ) → first ≡ first' → last ≡ last' → MeetsLocks first last → MeetsLocks first' last'
meets_along first last first' last' e f meets =
    subst (λ (b : List ℕ). MeetsLocks b last') e (subst (λ (b : List ℕ). MeetsLocks first b) f meets)

pub returns-then-names_file : goal.returns-then-names_file
returns-then-names_file c =
    let line = c.args.line.now in
    let from_kind : c.split_word.result.1.now ≡ after_word line = c.split_word.ensures.rest in
    let after_kind = c.split_word-2.ensures.rest ∙ ap after_word from_kind in
    let from_mode = c.split_word-3.ensures.rest ∙ ap after_word after_kind in
    let after_mode = c.split_word-4.ensures.rest ∙ ap after_word from_mode in
    let from_file = c.split_word-5.ensures.rest ∙ ap after_word after_mode in
    let from_first = c.split_word-6.ensures.rest ∙ ap after_word from_file in
    let from_last = c.split_word-7.ensures.rest ∙ ap after_word from_first in
    let kind = c.split_word-2.ensures.word ∙ ap first_word from_kind in
    let mode = c.split_word-4.ensures.word ∙ ap first_word from_mode in
    let file = c.split_word-6.ensures.word ∙ ap first_word from_file in
    let first = c.split_word-7.ensures.word ∙ ap first_word from_first in
    let last = c.split_word-8.ensures.word ∙ ap first_word from_last in
    elim c.if-eq.branch [
      | then-eq w ↦ elim c.if-is_on_bytes.branch [
        | then-is_on_bytes v ↦
            let held : IsOnBytes c.split_word-2.result.0.now = search rules in
            let write : c.split_word-4.result.0.now ≡ codes "WRITE" = search rules in
            let named : NamesFile c.args.major c.args.minor c.args.inode c.split_word-6.result.0.now = search rules in (
              λ meets. (
                subst IsOnBytes kind held,
                sym mode ∙ write,
                subst (NamesFile c.args.major c.args.minor c.args.inode) file named,
                meets_along _ _ _ _ first last (c.meets_locks.ensures.0 meets),
              ),
              λ it. c.meets_locks.ensures.1 (meets_along _ _ _ _ (sym first) (sym last) it.3),
            )
        | else-is_on_bytes v ↦ search rules
      ]
      | else-eq w ↦ search rules
    ]
