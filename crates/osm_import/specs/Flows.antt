-- What a call does to the bytes that it reads and to those that it writes.
use Rattle.std.specs.Prelude.{ℕ, Bool, List}
use Rattle.std.specs.Io.KnownBytes.{prepend_known}
use Rattle.osm_value.specs.declared.sink.Sink.{Ghosts as SinkOf}
use Rattle.osm_reading.specs.Framings.{Known}
use Rattle.osm_reading.specs.declared.stream.source.Source.{Ghosts as SourceOf}
use Rattle.osm_import.specs.declared.answer.Answer.{Answer}

-- an input: the bytes left before and after, where they are known, and whether a read has failed so far
pub record Input : Type 0 where
  pub before : Known
  pub after : Known
  pub has_failed : Bool

-- an output: of which answers it gets the line, the bytes held before and after, where they are known, and whether a write has
-- failed so far
pub record Output : Type 0 where
  pub tells : Answer → Bool
  pub before : Known
  pub after : Known
  pub has_failed : Bool

-- a source over a call
abbrev pub input : {R : Type 0} → SourceOf R → R → R → Input
input source old new = record { before = source.bytes_left old; after = source.bytes_left new; has_failed = source.has_failed new }

-- the same with bytes that were read and not given on, before and after
abbrev pub input_behind : {R : Type 0} → SourceOf R → List ℕ → List ℕ → R → R → Input
input_behind source unread_before unread_after old new =
    record { before = prepend_known unread_before (source.bytes_left old); after = prepend_known unread_after (source.bytes_left new); has_failed = source.has_failed new }

-- a sink that gets the lines of such answers, over a call
abbrev pub output : {S : Type 0} → (Answer → Bool) → SinkOf S → S → S → Output
output tells sink old new = record { tells = tells; before = sink.written old; after = sink.written new; has_failed = sink.has_failed new }
