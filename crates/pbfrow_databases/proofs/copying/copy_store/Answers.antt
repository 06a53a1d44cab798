use Rattle.pbfrow_databases.proofs.MeteredLemmas.{inner-in_turn}
use Rattle.pbfrow_databases.proofs.copying.copy_store.Goals as goal

pub returns-clause-copies : goal.returns-clause-copies
returns-clause-copies g c =
    let made = c.migrate-status.ensures.copies in (
      made.0,
      record {
        copies = made.1.copies;
        crash = made.1.crash;
        kept = made.1.kept;
        whole = made.1.whole;
        list = made.1.list;
        own = made.1.own;
        cause = made.1.cause;
        told = made.1.told;
        each = inner-in_turn made.1.each g.F.BlobReader (λ metered. metered.store)
            (λ first last stays. record { honest = stays.honest; open_if = stays.open_if; kept = stays.kept; crash = stays.crash; whole = stays.whole })
            (λ first last old new copy one. record {
              step = one.step;
              crash = one.crash;
              kept = one.kept;
              whole = one.whole;
              list = one.list;
              own = one.own;
              source = record {
                stays = record { honest = one.source.stays.honest; open_if = one.source.stays.open_if; kept = one.source.stays.kept; crash = one.source.stays.crash; whole = one.source.stays.whole };
                ok = one.source.ok;
              };
              cause = one.cause;
              told = one.told;
              same = one.same;
              complete = one.complete;
              honest = one.honest;
              open_if = one.open_if;
              counted = one.counted;
            });
        same = made.1.same;
        counted = made.1.counted;
      },
      made.2,
      made.3,
    )

pub returns-clause-source : goal.returns-clause-source
returns-clause-source g c = assumption c.migrate-status.ensures.source
