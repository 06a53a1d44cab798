use Rattle.std.proofs.Common.{◌≡◌, inl, inr, length, rules, subst}
use Rattle.std.proofs.lemmas.Result.{on_ok_weaker}
use Rattle.osm_rows.specs.Held.{Blob}
use Rattle.osm_trees.specs.Reading.{Reading}
use Rattle.osm_trees.specs.Putting.{AddsBelow, KeepsAddedIndexes}
use Rattle.osm_trees.proofs.Adding.{put_adds}
use Rattle.osm_trees.proofs.tree_store.TreeStoreBlobKeeper.put.Goals as goal

pub returns : goal.returns
returns g c =
    let blob : Blob = record { fin = c.args.fin; digest = c.args.digest.now; kind = c.args.kind; elements = c.args.elements.now } in
    let inside : Reading _ = record { store = c.self.inside.store; failures = c.self.inside.failures } in
    let new : Reading _ = record { store = c.put_blob-answer.new.store; failures = c.failures_after-self-inside.result } in
    let wide : length c.args.digest.now ≡ 32 = search rules in
    let says = c.put_blob-answer.ensures in
    let adds = put_adds g.S.Store inside new c.args.off blob c.requires.order c.requires.limit wide (λ db up there. g.met.S.Store.settled c.self.inside.store db up there) (g.met.S.Store.broken_if_shut c.self.inside.store)
    c.put_blob-answer.result
    says c.failures_after-self-inside.ensures in
    let kept : KeepsAddedIndexes g.S.Store inside.store new.store c.put_blob-answer.result = record {
      written = λ clean. on_ok_weaker c.put_blob-answer.result (λ puts. puts.more_indexed) (says.added clean);
      crash = λ clean db left. elim (says.crash clean db left) [ inl before ↦ inl before | inr put ↦ inr put.2.more_indexed ];
    } in
    record {
      adds = subst (λ old. AddsBelow g.S.Store c.args.off blob old c.put_blob-answer.result new) c.self.view_is adds;
      added_indexes = subst (λ (old : Reading _). KeepsAddedIndexes g.S.Store old.store new.store c.put_blob-answer.result) c.self.view_is kept;
    }
