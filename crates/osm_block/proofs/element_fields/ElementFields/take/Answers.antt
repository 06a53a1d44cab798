use Rattle.std.proofs.Common.{◌≡◌, ◌∷◌, ◌∙◌, ap, subst}
use Rattle.pbf_wire.specs.Field.{Bytes, Entry, content_of, view}
use Rattle.osm_block.specs.declared.fields.TheConstants.{ELEMENT_INFO}
use Rattle.osm_block.specs.FieldsLeft.{ElementLeft}
use Rattle.osm_block.proofs.FieldLemmas.{info_taken}
use Rattle.osm_block.proofs.element_fields.ElementFields.take.Goals as goal

pub returns-in-4-Bytes : goal.returns-in-4-Bytes
returns-in-4-Bytes c = λ rest whole before.
    let field : view c.args.field ≡ record { number = ELEMENT_INFO; content = Bytes c.in-4-Bytes.info.now } =
    ap (λ n. record { number = n; content = content_of c.args.field.value }) c.in-4-Bytes.is-0 ∙ ap (λ v. record { number = ELEMENT_INFO; content = content_of v }) c.in-4-Bytes.is-1 in
    let left = subst (λ (f : Entry). ElementLeft c.args.self.now (f ∷ rest) whole) field before in
    record {
      id = record { number = left.id.number };
      keys = record { numbers = left.keys.numbers; fault = left.keys.fault };
      vals = record { numbers = left.vals.numbers; fault = left.vals.fault };
      info = info_taken _ _ _ rest whole c.take-in-4-Bytes.ensures.numbers c.take-in-4-Bytes.ensures.fault left.info;
    }
