use Rattle.std.proofs.Common.{◌++◌, ℤ, Option, sym, ap, ◌∙◌, append_assoc, rules, FitsSigned, w64}
use Rattle.std.proofs.lemmas.Int.{to_z-of_z}
use Rattle.std.specs.Prelude.{codes}
use Rattle.std.specs.Fmt.{signed_decimal}
use Rattle.osm_value.proofs.SinkLemmas.{Wrote-text}
use Rattle.pbfrow_counts.specs.Lines.{time_text}
use Rattle.pbfrow_counts.proofs.lines.put_time.Goals as goal

pub returns-in-Some : goal.returns-in-Some
returns-in-Some g c = λ start before h.
    let fits : FitsSigned w64 c.in-Some.time = search rules in
    Wrote-text start _ _ _ _
    (append_assoc before c.args.label.now _ ∙ ap (λ (z : ℤ). before ++ (c.args.label.now ++ signed_decimal z)) (to_z-of_z w64 c.in-Some.time fits)
    ∙ ap (λ (t : Option ℤ). before ++ (c.args.label.now ++ time_text t)) (sym c.in-Some.is))
    (c.put_number.ensures start _ (c.put.ensures start before h))

pub returns-in-None : goal.returns-in-None
returns-in-None g c = λ start before h.
    Wrote-text start _ _ _ _ (append_assoc before c.args.label.now (codes "-") ∙ ap (λ (t : Option ℤ). before ++ (c.args.label.now ++ time_text t)) (sym c.in-None.is))
    (c.put-in-None.ensures start _ (c.put.ensures start before h))
