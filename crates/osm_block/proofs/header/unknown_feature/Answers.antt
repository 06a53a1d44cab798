use Rattle.std.proofs.Common.{rules, arith, tests, inl, not, length, ap}
use Rattle.std.proofs.lemmas.Iterator.Consumers.{YieldsList-from_first}
use Rattle.std.proofs.lemmas.Iterator.Search.{position_from_yields_List}
use Rattle.osm_block.specs.declared.fields.TheConstants.{HEADER_REQUIRED_FEATURES}
use Rattle.osm_block.specs.HeaderBlock.{is_known}
use Rattle.osm_block.specs.HeaderTexts.{texts_left}
use Rattle.osm_block.proofs.HeaderLemmas.{few_payloads}
use Rattle.osm_block.proofs.header.unknown_feature.Goals as goal

pub position-requires-clause-fits : goal.position-requires-clause-fits
position-requires-clause-fits c = inl (omega (arith, few_payloads c.args.bytes.now HEADER_REQUIRED_FEATURES, ap length c.new.ensures))

pub returns : goal.returns
returns c =
    position_from_yields_List (λ f. not (is_known f)) c.position.new.self _ c.position.result c.position.ensures.ran (YieldsList-from_first (λ t. t.now) texts_left {s = c.new.result} _ c.new.ensures) (λ x b q k. search (rules, tests))
