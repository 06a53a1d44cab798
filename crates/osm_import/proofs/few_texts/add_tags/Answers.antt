use Rattle.osm_import.proofs.SeenTextsLemmas.{tags-more}
use Rattle.osm_import.proofs.few_texts.add_tags.Goals as goal

pub loop-tag-preserved : goal.loop-tag-preserved
loop-tag-preserved c =
    tags-more c.args.seen.now c.loop-tag.seen c.insert.new.self c.insert-in-loop-tag.new.self c.args.tags.now c.loop-tag.tag-index _ c.loop-tag-test.true c.loop-tag.invariant c.in_ok-insert.ensures.updates.0
    c.in_ok-insert-2.ensures.updates.0
