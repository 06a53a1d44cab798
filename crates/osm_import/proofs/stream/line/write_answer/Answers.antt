use Rattle.std.proofs.Common.{◌≡◌, ◌∙◌, true, List, ℕ, [], sym, subst}
use Rattle.std.specs.Io.KnownBytes.{Appends}
use Rattle.osm_value.specs.Sink.{AppendsFront}
use Rattle.osm_value.proofs.SinkLemmas.{started, whole_text, front_text}
use Rattle.osm_import.proofs.AnswerLines.{told_here}
use Rattle.osm_import.proofs.stream.line.write_answer.Goals as goal

pub returns-then-failed-clause-front : goal.returns-then-failed-clause-front
returns-then-failed-clause-front g c =
    let told : g.T.Teller.tells c.args.teller.now c.args.answer.now ≡ true = sym c.tells.ensures ∙ c.if-not-tells.false in
    subst (λ (text : List ℕ). AppendsFront (g.S.Sink.written c.args.out.now) (g.S.Sink.written c.put_answer.new.out) text) (told_here (g.T.Teller.tells c.args.teller.now) c.args.off c.args.answer.now told)
    (front_text _ _ _ _ (sym c.if-failed.ensures) (c.put_answer.ensures _ [] (started _ _)))

pub returns-clause-line : goal.returns-clause-line
returns-clause-line g c =
    let told : g.T.Teller.tells c.args.teller.now c.args.answer.now ≡ true = sym c.tells.ensures ∙ c.if-not-tells.false in
    subst (λ (text : List ℕ). Appends (g.S.Sink.written c.args.out.now) (g.S.Sink.written c.put_answer.new.out) text) (told_here (g.T.Teller.tells c.args.teller.now) c.args.off c.args.answer.now told)
    (whole_text _ _ _ _ (sym c.if-failed.ensures) (c.put_answer.ensures _ [] (started _ _)))
