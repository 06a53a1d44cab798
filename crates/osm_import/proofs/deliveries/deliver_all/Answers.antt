use Rattle.std.proofs.Common.{◌≡◌, ◌++◌, ◌∷◌, [], refl, arith, rules}
use Rattle.std.proofs.lemmas.Grind.{common_steps}
use Rattle.osm_import.specs.Stores.{TakesOne}
use Rattle.osm_import.proofs.EachLemmas.{each-push-at, each-all, each-honest, each-open, each-causes, each-same, each-run, each-own, each-first-own}
use Rattle.osm_import.proofs.RunsLemmas.{run-imports}
use Rattle.osm_import.proofs.ShutLemmas.{each-come, come-leaves, come-leaves_a_map}
use Rattle.osm_import.proofs.deliveries.deliver_all.Goals as goal

pub loop-delivery-init : goal.loop-delivery-init
loop-delivery-init g c = record { room = search rules; count = search rules; each = rw c.in_ok-answers.ensures.items refl }

pub loop-delivery-preserved : goal.loop-delivery-preserved
loop-delivery-preserved g c =
    let pushed : c.push.new.self.items ≡ c.loop-delivery.answers.items ++ c.deliver.result ∷ [] = rw c.unwrap.ensures at c.push.ensures.items in
    let one : TakesOne g.K.BlobReader c.loop-delivery.keeper c.deliver.new.keeper c.delivery.inside.off c.delivery.inside.bytes.now c.deliver.result
    = c.deliver.ensures in
    record {
      room = search rules;
      count = grind (arith, common_steps);
      each = each-push-at g.K.BlobReader c.args.keeper.now c.loop-delivery.keeper c.deliver.new.keeper c.args.deliveries.now c.loop-delivery.delivery-index _ c.delivery-item.result
          c.loop-delivery.answers.items c.push.new.self.items c.deliver.result (omega arith) c.delivery.view_is c.delivery-item.is pushed c.loop-delivery.invariant.each one;
    }

pub returns-clause-taken : goal.returns-clause-taken
returns-clause-taken g c =
    let K = g.K.BlobReader in
    let old = c.args.keeper.now in
    let new = c.loop-delivery.keeper in
    let deliveries = c.args.deliveries.now in
    let answers = c.loop-delivery.answers.items in
    let each = each-all K old new deliveries c.loop-delivery.delivery-index answers (omega arith) c.loop-delivery.invariant.each in
    let come = each-come K g.met.K.BlobReader.open_or_shut old new deliveries answers each in
    let run = each-run K old new deliveries answers each in
    record {
      each = each;
      same = λ honest up none. each-same K g.met.K.BlobReader.same_tables_self g.met.K.BlobReader.same_tables_then old new deliveries answers each honest up none;
      run = run;
      one_file = λ held frames holds honest whole of_files of_file either.
          let all = run held holds honest either in
          (all.0, run-imports frames whole held deliveries answers all.0 all.1 of_files of_file, all.2);
      crash = λ held holds honest. come-leaves K g.met.K.BlobReader.settled new held deliveries answers (come held holds honest);
      whole = λ held holds honest. come-leaves_a_map K g.met.K.BlobReader.leaves_held new held deliveries answers (come held holds honest);
      first_own = λ held holds honest. each-first-own K old new deliveries answers each held holds honest;
      own = λ held holds honest either. each-own K old new deliveries answers each held holds honest either;
      cause = each-causes K old new deliveries answers each;
      honest = each-honest K old new deliveries answers each;
      open_if = each-open K old new deliveries answers each;
    }
