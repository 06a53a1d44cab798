use Rattle.std.proofs.Common.{◌≡◌, length, rules, subst}
use Rattle.osm_rows.specs.Held.{Blob}
use Rattle.osm_sql_store.specs.Store.{Store, AddsBlob}
use Rattle.osm_sql_store.proofs.PutLemmas.KeeperPromises.{put_adds}
use Rattle.osm_sql_store.proofs.blob_store.BlobStoreBlobKeeper.put.Goals as goal

pub returns : goal.returns
returns g c =
    let blob : Blob = record { fin = c.args.fin; digest = c.args.digest.now; kind = c.args.kind; elements = c.args.elements.now } in
    let inside : Store _ = record { connection = c.self.inside.connection; failures = c.self.inside.failures } in
    let new : Store _ = record { connection = c.put_rows-answer.new.connection; failures = c.failures_after-self-inside.result } in
    let wide : length c.args.digest.now ≡ 32 = search rules in
    let says = c.put_rows-answer.ensures in
    let adds = put_adds g.L.StoreLayout.LAYOUT g.S.Store inside new c.args.off blob c.requires.order c.requires.limit wide (λ db there left. g.met.S.Store.settled c.self.inside.connection.store db there left)
    c.put_rows-answer.result
    (record { committed = says.committed; can_store = says.can_store; unchanged = says.unchanged; ours = says.ours; crash = says.crash })
    c.failures_after-self-inside.ensures in
    record {
      adds = subst (λ old. AddsBlob g.L.StoreLayout.LAYOUT g.S.Store c.args.off blob old c.put_rows-answer.result new) c.self.view_is adds;
    }
