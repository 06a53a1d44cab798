use Rattle.std.proofs.Common.{◌≡◌, ℕ, ◌+◌, ◌<◌, List, length, take, slice_index, sym, ap, ◌∙◌, arith}
use Rattle.std.specs.List.{fold}
use Rattle.std.proofs.lemmas.List.{take_all}
use Rattle.std.proofs.lemmas.List.Sums.{fold_more}
use Rattle.pbfrow_files.specs.Change.{changed, byte_after}
use Rattle.pbfrow_files.proofs.ChangeLemmas.{changed_at}
use Rattle.pbfrow_files.proofs.overlay.Overlay.lay_over.Goals as goal

pub loop-change-preserved : goal.loop-change-preserved
loop-change-preserved c = λ file is i low.
    let items = c.deref-change-items.result.now in
    let index = c.loop-change.change-index in
    let change = c.change-item.result in
    let before = fold changed file (take index items) in
    let place = c.args.at + i in
    let low' : i < length c.loop-change.buf = omega (arith, c.lay_over.auto.buf) in
    let more = fold_more changed file items index change c.loop-change-test.true ∙ ap (changed before) (sym c.change-item.is) in
    c.lay_over.ensures i low ∙ ap (byte_after change place) (c.loop-change.invariant file is i low') ∙ sym (changed_at before change place)
    ∙ ap (λ (f : List ℕ). slice_index f place) (sym more)

pub returns : goal.returns
returns c = λ file is i low.
    let items = c.deref-change-items.result.now in
    let whole : take c.loop-change.change-index items ≡ c.args.self.now.changes.items = take_all c.loop-change.change-index items c.loop-change-test.false ∙ c.deref-change-items.ensures.value in
    c.loop-change.invariant file is i low ∙ ap (λ xs. slice_index (fold changed file xs) (c.args.at + i)) whole
