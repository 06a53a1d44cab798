use Rattle.std.proofs.Common.{sym, ◌∙◌}
use Rattle.pbfrow_files.proofs.ChangeLemmas.{length-fold_changed}
use Rattle.pbfrow_files.proofs.overlay.Overlay.len.Goals as goal

pub returns : goal.returns
returns c = λ file is. c.args.self.now.measured ∙ sym (length-fold_changed file c.args.self.now.base_len c.args.self.now.changes.items is)
