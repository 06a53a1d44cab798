use Rattle.pbfrow_reading.specs.Listing.{byte_text}
use Rattle.pbfrow_reading.proofs.LineLemmas.{lines-all, lines-more, lines-none}
use Rattle.pbfrow_reading.proofs.list.put_type.Goals as goal

pub loop-byte-init : goal.loop-byte-init
loop-byte-init g c = λ start before h. lines-none start before _ _ h

pub loop-byte-preserved : goal.loop-byte-preserved
loop-byte-preserved g c = λ start before h.
    lines-more byte_text start before c.args.type_name.now c.loop-byte.byte-index 0 _ _ c.loop-byte-test.true (c.put_byte.ensures start _ (c.loop-byte.invariant start before h))

pub returns : goal.returns
returns g c = λ start before h.
    lines-all byte_text start before c.args.type_name.now c.loop-byte.byte-index _ _ c.loop-byte-test.false (c.loop-byte.invariant start before h)
