use Rattle.std.proofs.Common.{◌≡◌, ◌+◌, ◌-◌, refl, rules, take}
use Rattle.std.specs.Prelude.{option_map}
use Rattle.osm_import.specs.Flows.{output}
use Rattle.osm_import.specs.Stores.{Takes}
use Rattle.pbfrow_commands.specs.Importing.{ImportsFront}
use Rattle.pbfrow_commands.proofs.ImportRanges.{file-imported, front-on, part-imported, range-imported}
use Rattle.pbfrow_commands.proofs.import.import.Goals.{in-None, in-Some}
use Rattle.pbfrow_commands.proofs.import.import.Goals as goal

pub returns-clause-imports : goal.returns-clause-imports
returns-clause-imports g c =
    let start = c.args.start in
    let bytes = g.R.Read.remaining c.args.reader in
    let front : ImportsFront start.dropped start.at c.args.to bytes (output (g.T.Teller.tells c.args.teller.now) g.S.Sink c.args.out.now c.match-to.out) (c.match-to.store ≡ c.args.store.now) (Takes g.K.BlobReader c.args.store.now c.match-to.store) c.match-to.told
    = elim c.match-to.branch [
      | in-None w ↦ (
          let all : g.R.Read.remaining w.new.result.reader ≡ bytes = search rules in
          rw (w.store-is, w.out-is, w.told-is, w.in-None.is) (record {
            source = _;
            before_is = all;
            outcome = w.import_from-told.result;
            imports = w.import_from-told.ensures;
            is_told = refl;
          }))
      | in-Some w ↦ (
          let front : option_map (take w.new-input.result.reader.now.limit) (g.R.Read.remaining w.new-input.result.reader.now.inner) ≡ option_map (take (start.dropped + (w.in-Some.to - start.at))) bytes = search rules in
          rw (w.store-is, w.out-is, w.told-is, w.in-Some.is) (record {
            source = _;
            before_is = front;
            outcome = w.import_from-outcome.result;
            imports = w.import_from-outcome.ensures;
            is_told = w.require_end-told.ensures;
          }))
    ] in
    record {
      told = c.match-to.told;
      listed = g.S.Sink.written c.match-to.out;
      front = front-on front (g.S.Sink.has_failed c.finish.new.out) c.finish.ensures.kept;
      line = c.finish.ensures.line;
      status_is = c.finish.ensures.status;
    }

pub returns-clause-one_file : goal.returns-clause-one_file
returns-clause-one_file g c = λ bytes is zero ended. file-imported (returns-clause-imports g c) ended bytes is zero

pub returns-clause-part : goal.returns-clause-part
returns-clause-part g c = λ bytes is ended. part-imported (returns-clause-imports g c) ended bytes is

pub returns-clause-whole : goal.returns-clause-whole
returns-clause-whole g c = range-imported c.args.to (returns-clause-imports g c)
