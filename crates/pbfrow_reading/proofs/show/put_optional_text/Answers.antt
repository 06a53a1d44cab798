use Rattle.std.proofs.Common.{ap, refl}
use Rattle.std.specs.Prelude.{option_copied}
use Rattle.osm_value.proofs.SinkLemmas.{Wrote-text}
use Rattle.pbfrow_reading.specs.Showing.{text_line}
use Rattle.pbfrow_reading.proofs.ShowLemmas.{no_text, some_text}
use Rattle.pbfrow_reading.proofs.show.put_optional_text.Goals as goal

pub returns-in_default : goal.returns-in_default
returns-in_default g c = λ start before h. Wrote-text start _ _ _ _ (no_text (text_line c.args.label.now) before (option_copied c.args.text) (ap option_copied c.in_default.is)) h

pub returns : goal.returns
returns g c = λ start before h.
    Wrote-text start _ _ _ _ (some_text (text_line c.args.label.now) before _ (option_copied c.args.text) c.in-Some.text.now (ap option_copied c.in-Some.is) refl) (c.put_text.ensures start before h)
