use Rattle.std.proofs.Common.{ℕ, List, ◌++◌, ◌+◌, ◌∙◌, drop, length, sym, ap, arith}
use Rattle.std.proofs.lemmas.List.Folds.{drop_split}
use Rattle.osm_verify.proofs.file_bytes.MemoryFileFileBytes.read_at.Goals as goal

pub returns-clause-filled : goal.returns-clause-filled
returns-clause-filled c =
    let file = c.args.self.now.bytes.now in
    let to = c.args.off + length c.args.buffer.now in
    (drop to file, drop_split file c.args.off to (omega arith) ∙ ap (λ (bytes : List ℕ). bytes ++ drop to file) (sym c.copy_from_slice.ensures.after))
