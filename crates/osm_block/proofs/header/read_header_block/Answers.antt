use Rattle.std.proofs.Common.{◌∙◌, sym, ap, refl, None, Some, true, false}
use Rattle.std.specs.Prelude.{option_map}
use Rattle.pbf_wire.specs.Readings.{fields}
use Rattle.osm_block.specs.declared.header.fault.HeaderFault.TheVariants as faults
use Rattle.osm_block.proofs.HeaderLemmas.{header_fault_is, incomplete_is}
use Rattle.osm_block.proofs.header.read_header_block.Goals as goal

pub returns-in-Some-wire_of_boxes-clause-fault : goal.returns-in-Some-wire_of_boxes-clause-fault
returns-in-Some-wire_of_boxes-clause-fault c =
    let w = c.args.bytes.now in
    header_fault_is w None (Some (faults.HeaderBlockWire c.in-Some-wire_of_boxes.fault)) _ _ _
    (sym c.in_default.is ∙ c.wire_of.ensures)
    (ap (option_map faults.HeaderBlockWire) (sym c.in-Some-wire_of_boxes.is) ∙ c.wire_of_boxes.ensures)
    refl refl refl

pub returns-then-has_box-is_none-clause-fault : goal.returns-then-has_box-is_none-clause-fault
returns-then-has_box-is_none-clause-fault c =
    let w = c.args.bytes.now in
    header_fault_is w None None true _ _
    (sym c.in_default.is ∙ c.wire_of.ensures)
    (ap (option_map faults.HeaderBlockWire) (sym c.in_default-wire_of_boxes.is) ∙ c.wire_of_boxes.ensures)
    (incomplete_is (fields w) c.has_box.result c.is_none.result true c.bbox_of-bbox.result c.has_box.ensures c.bbox_of-bbox.ensures c.is_none.ensures c.if-has_box-is_none.true)
    refl refl

pub returns-then-not-are_texts-clause-fault : goal.returns-then-not-are_texts-clause-fault
returns-then-not-are_texts-clause-fault c =
    let w = c.args.bytes.now in
    header_fault_is w None None false false _
    (sym c.in_default.is ∙ c.wire_of.ensures)
    (ap (option_map faults.HeaderBlockWire) (sym c.in_default-wire_of_boxes.is) ∙ c.wire_of_boxes.ensures)
    (incomplete_is (fields w) c.has_box.result c.is_none.result false c.bbox_of-bbox.result c.has_box.ensures c.bbox_of-bbox.ensures c.is_none.ensures c.if-has_box-is_none.false)
    (sym c.if-not-are_texts.true ∙ c.are_texts.ensures)
    refl

pub returns-in-Some-unknown_feature-clause-fault : goal.returns-in-Some-unknown_feature-clause-fault
returns-in-Some-unknown_feature-clause-fault c =
    let w = c.args.bytes.now in
    header_fault_is w None None false true (Some c.in-Some-unknown_feature.index)
    (sym c.in_default.is ∙ c.wire_of.ensures)
    (ap (option_map faults.HeaderBlockWire) (sym c.in_default-wire_of_boxes.is) ∙ c.wire_of_boxes.ensures)
    (incomplete_is (fields w) c.has_box.result c.is_none.result false c.bbox_of-bbox.result c.has_box.ensures c.bbox_of-bbox.ensures c.is_none.ensures c.if-has_box-is_none.false)
    (sym c.if-not-are_texts.false ∙ c.are_texts.ensures)
    (sym c.in-Some-unknown_feature.is ∙ c.unknown_feature.ensures)

pub returns-clause-fault : goal.returns-clause-fault
returns-clause-fault c =
    let w = c.args.bytes.now in
    header_fault_is w None None false true None
    (sym c.in_default.is ∙ c.wire_of.ensures)
    (ap (option_map faults.HeaderBlockWire) (sym c.in_default-wire_of_boxes.is) ∙ c.wire_of_boxes.ensures)
    (incomplete_is (fields w) c.has_box.result c.is_none.result false c.bbox_of-bbox.result c.has_box.ensures c.bbox_of-bbox.ensures c.is_none.ensures c.if-has_box-is_none.false)
    (sym c.if-not-are_texts.false ∙ c.are_texts.ensures)
    (sym c.in_default-unknown_feature.is ∙ c.unknown_feature.ensures)
