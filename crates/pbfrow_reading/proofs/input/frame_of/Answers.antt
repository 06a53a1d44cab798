use Rattle.std.proofs.Common.{sym, ap, ◌∙◌}
use Rattle.std.specs.Prelude.{is_ok}
use Rattle.std.proofs.lemmas.Bool.{true≢false}
use Rattle.pbf_frame.proofs.FrameLaws.{whole_again}
use Rattle.pbfrow_reading.proofs.input.frame_of.Goals as goal

pub unreachable-requires : goal.unreachable-requires
unreachable-requires c = true≢false (ap is_ok (sym (whole_again c.requires.0 c.requires.1 c.args.bytes.now c.requires.2) ∙ c.in-Err.ensures.exact))
