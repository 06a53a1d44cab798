use Rattle.std.proofs.Common.{◌≡◌, ◌-◌, length, ◌∙◌}
use Rattle.std.specs.Prelude.{slice_get, unwrap_or}
use Rattle.pbfrow_reading.proofs.RangesLemmas.{cut-refused, last-or-none}
use Rattle.pbfrow_reading.proofs.ranges.cut.Goals as goal

pub returns-clause-err : goal.returns-clause-err
returns-clause-err g c =
    let ends = c.in-Ok.ends.items in
    let read = c.in-Ok.ensures.ok in
    let last : c.unwrap_or.result ≡ unwrap_or (slice_get c.in-Ok.ends.items (length c.in-Ok.ends.items - 1)) 0 =
    cc (c.unwrap_or.ensures, c.copied.ensures, c.last.ensures.value, c.deref-in-Err-ranges_of.ensures.value) in
    (read.0, cut-refused (g.R.Read.remaining c.args.input.now) read.0 ends c.unwrap_or.result c.memory_refused.result read.1 read.3 (last ∙ last-or-none ends) c.memory_refused.ensures)
