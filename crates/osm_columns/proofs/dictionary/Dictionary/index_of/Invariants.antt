use Rattle.std.proofs.Common.{◌≡◌}
use Rattle.osm_columns.specs.Indexes.{texts_in}
use Rattle.osm_columns.proofs.dictionary.Dictionary.index_of.Given as goal

abbrev pub invariant-loop-step : goal.invariant-loop-step
invariant-loop-step l = texts_in l.self ≡ texts_in l.fn.self
