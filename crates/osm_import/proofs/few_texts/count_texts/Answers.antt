use Rattle.std.proofs.Common.{◌∙◌}
use Rattle.osm_write.specs.Canon.{texts_of}
use Rattle.osm_import.proofs.SeenTextsLemmas.{count-first}
use Rattle.osm_import.proofs.few_texts.count_texts.Goals as goal

pub returns : goal.returns
returns c =
    c.len.ensures.len ∙ count-first c.new-seen.result c.add_texts.new.seen (texts_of c.args.element.now) c.new-seen.ensures.empty c.in_ok-add_texts.ensures c.len.ensures.unique
