use Rattle.std.proofs.Common.{◌++◌, ◌∙◌, ap, sym, append-nil}
use Rattle.osm_value.proofs.SinkLemmas.{Wrote-text}
use Rattle.osm_verify.specs.declared.comparing.Agreement.{Agreement}
use Rattle.pbfrow_commands.specs.Verifying.{agreement_line}
use Rattle.pbfrow_commands.proofs.verify.put_agreement.Goals as goal

pub returns-in-Same : goal.returns-in-Same
returns-in-Same g c = λ start before h.
    Wrote-text start _ _ _ _ (sym (append-nil before) ∙ ap (λ (a : Agreement). before ++ agreement_line c.args.at a) (sym c.in-Same.is)) h

pub returns-in-Missing : goal.returns-in-Missing
returns-in-Missing g c = λ start before h.
    Wrote-text start _ _ _ _ (ap (λ (a : Agreement). before ++ agreement_line c.args.at a) (sym c.in-Missing.is)) (c.put_at.ensures start before h)

pub returns-in-Differs : goal.returns-in-Differs
returns-in-Differs g c = λ start before h.
    Wrote-text start _ _ _ _ (ap (λ (a : Agreement). before ++ agreement_line c.args.at a) (sym c.in-Differs.is)) (c.put_at-in-Differs.ensures start before h)
