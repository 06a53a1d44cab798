use Rattle.std.proofs.Common.{◌∙◌, ◌++◌, ap, sym}
use Rattle.pbf_wire.specs.Field.{content_of}
use Rattle.osm_block.specs.FieldsLeft.{numbers_in}
use Rattle.osm_block.proofs.number_array.NumberArray.take.Goals as goal

pub returns-in_ok-fault-in-Bytes-clause-numbers : goal.returns-in_ok-fault-in-Bytes-clause-numbers
returns-in_ok-fault-in-Bytes-clause-numbers c =
    c.in_ok-fault-in-Bytes.ensures.numbers ∙ ap (λ v. c.args.self.now.numbers.items ++ numbers_in (content_of v)) (sym c.in-Bytes.is)
