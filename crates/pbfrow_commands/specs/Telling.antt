-- What commands have told.
use Rattle.std.specs.Prelude.{ℕ, Bool}
use Rattle.osm_value.specs.declared.sink.Sink.{Ghosts as SinkOf}
use Rattle.osm_reading.specs.Framings.{Known}

-- what a command told over a call: how often its stores failed, what it wrote, and the exit status
pub record Telling : Type 0 where
  -- how many calls of the stores, or openings of them, had failed before
  pub failures_before : ℕ
  -- how many have failed by now
  pub failures_now : ℕ
  -- the bytes that were written before, where they are known
  pub before : Known
  -- the bytes that are written now
  pub after : Known
  -- whether a write has failed so far
  pub has_failed : Bool
  -- the exit status
  pub status : ℕ

-- what a command told over a call, of a store or of what opens several, whose failures are counted so, and of a sink
abbrev pub telling : {K S : Type 0} → (K → ℕ) → SinkOf S → K → K → S → S → ℕ → Telling
telling failures sink store_old store_new out_old out_new status = record {
  failures_before = failures store_old;
  failures_now = failures store_new;
  before = sink.written out_old;
  after = sink.written out_new;
  has_failed = sink.has_failed out_new;
  status = status;
}
