use Rattle.std.proofs.Common.{◌++◌, List, ℕ, sym, subst}
use Rattle.osm_value.specs.Sink.{Wrote}
use Rattle.osm_reading.specs.Faults.{name_of}
use Rattle.osm_import.specs.Faults.{conflict_name_of}
use Rattle.osm_import.specs.Lines.{answer_line}
use Rattle.osm_reading.specs.Lines.{fault_line}
use Rattle.osm_import.specs.declared.answer.Answer.{Answer}
use Rattle.osm_import.proofs.stream.line.put_answer.Goals as goal

pub returns-in-Stored : goal.returns-in-Stored
returns-in-Stored g c = λ start before h.
    subst (λ (a : Answer). Wrote start (before ++ answer_line c.args.off a) (g.S.Sink.written c.put_stored.new.out) (g.S.Sink.has_failed c.put_stored.new.out)) (sym c.in-Stored.is) (c.put_stored.ensures start before h)

pub returns-in-AlreadyHeld : goal.returns-in-AlreadyHeld
returns-in-AlreadyHeld g c = λ start before h.
    subst (λ (a : Answer). Wrote start (before ++ answer_line c.args.off a) (g.S.Sink.written c.put_held.new.out) (g.S.Sink.has_failed c.put_held.new.out)) (sym c.in-AlreadyHeld.is) (c.put_held.ensures start before h)

pub returns-in-Bad : goal.returns-in-Bad
returns-in-Bad g c = λ start before h.
    subst (λ (a : Answer). Wrote start (before ++ answer_line c.args.off a) (g.S.Sink.written c.put_fault_at.new.out) (g.S.Sink.has_failed c.put_fault_at.new.out)) (sym c.in-Bad.is)
    (subst (λ n. Wrote start (before ++ fault_line n (name_of c.in-Bad.fault) c.args.off) (g.S.Sink.written c.put_fault_at.new.out) (g.S.Sink.has_failed c.put_fault_at.new.out)) c.number.ensures
    (subst (λ (name : List ℕ). Wrote start (before ++ fault_line c.number.result name c.args.off) (g.S.Sink.written c.put_fault_at.new.out) (g.S.Sink.has_failed c.put_fault_at.new.out)) c.name.ensures (c.put_fault_at.ensures start before h)))

pub returns-in-Refused : goal.returns-in-Refused
returns-in-Refused g c = λ start before h.
    subst (λ (a : Answer). Wrote start (before ++ answer_line c.args.off a) (g.S.Sink.written c.put_fault_at-in-Refused.new.out) (g.S.Sink.has_failed c.put_fault_at-in-Refused.new.out)) (sym c.in-Refused.is)
    (subst (λ n. Wrote start (before ++ fault_line n (conflict_name_of c.in-Refused.conflict) c.args.off) (g.S.Sink.written c.put_fault_at-in-Refused.new.out) (g.S.Sink.has_failed c.put_fault_at-in-Refused.new.out)) c.number-in-Refused.ensures
    (subst (λ (name : List ℕ). Wrote start (before ++ fault_line c.number-in-Refused.result name c.args.off) (g.S.Sink.written c.put_fault_at-in-Refused.new.out) (g.S.Sink.has_failed c.put_fault_at-in-Refused.new.out)) c.name-in-Refused.ensures (c.put_fault_at-in-Refused.ensures start before h)))
