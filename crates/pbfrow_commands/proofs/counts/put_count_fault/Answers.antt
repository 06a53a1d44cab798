use Rattle.std.proofs.Common.{List, ℕ, sym, subst}
use Rattle.osm_value.specs.Sink.{Writes}
use Rattle.pbfrow_counts.specs.declared.fault.CountFault.{CountFault}
use Rattle.pbfrow_commands.specs.Counting.{count_fault_line}
use Rattle.pbfrow_commands.proofs.CensusLemmas.{miscounted-line}
use Rattle.pbfrow_commands.proofs.counts.put_count_fault.Goals as goal

pub returns-in-Miscounted : goal.returns-in-Miscounted
returns-in-Miscounted g c =
    let new = c.put_fault_at.new.out in
    subst (λ (text : List ℕ). Writes (g.S.Sink.written c.args.out.now) (g.S.Sink.has_failed c.args.out.now) (g.S.Sink.written new) (g.S.Sink.has_failed new) text)
    (miscounted-line c.args.fault c.in-Miscounted.off _ _ c.in-Miscounted.is c.number.ensures c.name.ensures) c.put_fault_at.ensures

pub returns-in-Store : goal.returns-in-Store
returns-in-Store g c =
    let new = c.put_store_fault.new.out in
    subst (λ (fault : CountFault). Writes (g.S.Sink.written c.args.out.now) (g.S.Sink.has_failed c.args.out.now) (g.S.Sink.written new) (g.S.Sink.has_failed new) (count_fault_line fault))
    (sym c.in-Store.is) c.put_store_fault.ensures
