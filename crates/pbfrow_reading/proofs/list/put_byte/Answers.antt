use Rattle.std.proofs.Common.{List, ℕ, ◌++◌, ap}
use Rattle.osm_value.proofs.SinkLemmas.{Wrote-text}
use Rattle.pbfrow_reading.proofs.CommandTexts.{escaped_byte, plain_byte}
use Rattle.pbfrow_reading.proofs.list.put_byte.Goals as goal

pub returns-then-byte-eq37 : goal.returns-then-byte-eq37
returns-then-byte-eq37 g c = λ start before h.
    Wrote-text start _ _ _ _ (ap (λ (t : List ℕ). before ++ t) (escaped_byte c.args.byte _ _ c.if-byte-eq37.either c.hex_digit.ensures c.hex_digit-then-byte-eq37.ensures)) (c.put.ensures start before h)

pub returns-else-byte-eq37 : goal.returns-else-byte-eq37
returns-else-byte-eq37 g c = λ start before h.
    let test = c.if-byte-eq37.false in
    Wrote-text start _ _ _ _ (ap (λ (t : List ℕ). before ++ t) (plain_byte c.args.byte test.0 test.1 test.2)) (c.put-else-byte-eq37.ensures start before h)
