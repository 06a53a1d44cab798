use Rattle.std.proofs.Common.{◌≡◌, ◌∙◌, ◌<◌, List, map, length, ap, sym, subst, arith, true≢false, Some, ℕ, ℤ, Bor, Vec, Global}
use Rattle.sqlite.specs.Order.{Row, column}
use Rattle.osm_value.specs.declared.element.Element.{Element}
use Rattle.osm_value.specs.Elements.{IsElement, tags_of_element, kind_of_element}
use Rattle.osm_value.specs.Ranges.{IsWay, IsRelation}
use Rattle.osm_value.specs.Value.{Text, MemberValue}
use Rattle.osm_rows.specs.Rows.{Placed}
use Rattle.osm_rows.specs.TableRows.{parts, element_row, tags_at, links_of, links_at, link_row}
use Rattle.osm_rows.specs.Load.TableElements.{item_of}
use Rattle.osm_rows.proofs.MapLemmas.PartLaws.{items_of}
use Rattle.osm_rows.proofs.LoadLemmas.ElementKinds.{node_there, way_there, relation_there, tag_parts, node_parts, refs_are, member_parts, found_as}
use Rattle.osm_rows.proofs.LoadLemmas.Numbering.{tags_numbered, links_numbered}
use Rattle.osm_rows.proofs.LoadLemmas.StoredRows.{some_is}
use Rattle.osm_rows.proofs.load.tables.elements.element_of.Goals as goal

abbrev Words : Type 0
Words = Bor (List ℕ)

abbrev pair : Words × Words → Text × Text
pair t = (t.0.now, t.1.now)

abbrev HaveTags : Placed → Vec (Words × Words) Global → Type 0
HaveTags p tags = map pair tags.items ≡ map item_of (tags_at p)

abbrev HaveRefs : Placed → Vec ℤ Global → Type 0
HaveRefs p refs = refs.items ≡ map (λ x. x.item.id) (links_at p)

abbrev HaveMembers : Placed → Vec MemberValue Global → Type 0
HaveMembers p members = members.items ≡ map item_of (links_at p)

long : (row : Row) (p : Placed) → row ≡ element_row p → 2 < length row
long row p is = subst (λ (r : Row). 2 < length r) (sym is) (omega arith)

at_kind : (row : Row) (p : Placed) → row ≡ element_row p → column row 2 ≡ column (element_row p) 2
at_kind row p is = ap (λ (r : Row). column r 2) is

pub returns-then-not-are_in_order : goal.returns-then-not-are_in_order
returns-then-not-are_in_order c p is row tags links =
    absurd (true≢false (sym (c.are_in_order.ensures.1 (tags_numbered p c.args.tags.now tags, links_numbered p c.args.links.now links)) ∙ c.if-not-are_in_order.true))

pub returns-in_default : goal.returns-in_default
returns-in_default c p is row tags links = absurd (found_as (HaveTags p) _ _ (c.in_ok-tags.ensures.exact (tags_at p) (tag_parts p is) tags) c.in_default.is)

pub returns-in-Some-Node : goal.returns-in-Some-Node
returns-in-Some-Node c p is row tags links =
    let there = node_there p.2 (sym (some_is _ _ (c.in-Some-Node.ensures.exact (kind_of_element p.2) (long c.args.row.now p row) (at_kind c.args.row.now p row))) ∙ c.in-Some-Node.field-0-is) in
    let its : HaveTags p c.in-Some.tags = found_as (HaveTags p) _ _ (c.in_ok-tags.ensures.exact (tags_at p) (tag_parts p is) tags) c.in-Some.is in
    let its_row = subst (λ (e : Element). c.args.row.now ≡ element_row (p.0, p.1, e)) there.1 row in
    c.node_of.ensures p.0 p.1 there.0 (subst IsElement there.1 is) its_row (links ∙ ap (λ (e : Element). map link_row (parts p.0 p.1 0 (links_of e))) there.1)
    (its ∙ items_of p.0 p.1 0 (tags_of_element p.2) ∙ ap tags_of_element there.1)
    ∙ ap Some (sym there.1)

pub returns-in-Some-2 : goal.returns-in-Some-2
returns-in-Some-2 c p is row tags links =
    let there = way_there p.2 (sym (some_is _ _ (c.in-Some-Way.ensures.exact (kind_of_element p.2) (long c.args.row.now p row) (at_kind c.args.row.now p row))) ∙ c.in-Some-Way.field-0-is) in
    let is_way : IsWay there.0 = subst IsElement there.1 is in
    let its : HaveTags p c.in-Some.tags = found_as (HaveTags p) _ _ (c.in_ok-tags.ensures.exact (tags_at p) (tag_parts p is) tags) c.in-Some.is in
    let its_refs : HaveRefs p c.in-Some-2.refs = found_as (HaveRefs p) _ _ (c.in_ok-refs-in-Some-Way.ensures.exact (links_at p) (node_parts p there.0 there.1 is_way) links) c.in-Some-2.is in
    let its_row = subst (λ (e : Element). c.args.row.now ≡ element_row (p.0, p.1, e)) there.1 row in
    c.way_of.ensures p.0 p.1 there.0 is_way its_row (its_refs ∙ refs_are p there.0 there.1) (its ∙ items_of p.0 p.1 0 (tags_of_element p.2) ∙ ap tags_of_element there.1) ∙ ap Some (sym there.1)

pub returns-in-Some-Way : goal.returns-in-Some-Way
returns-in-Some-Way c p is row tags links =
    let there = way_there p.2 (sym (some_is _ _ (c.in-Some-Way.ensures.exact (kind_of_element p.2) (long c.args.row.now p row) (at_kind c.args.row.now p row))) ∙ c.in-Some-Way.field-0-is) in
    let is_way : IsWay there.0 = subst IsElement there.1 is in
    absurd (found_as (HaveRefs p) _ _ (c.in_ok-refs-in-Some-Way.ensures.exact (links_at p) (node_parts p there.0 there.1 is_way) links) c.in-None-2.is)

pub returns-in-Some-3 : goal.returns-in-Some-3
returns-in-Some-3 c p is row tags links =
    let there = relation_there p.2 (sym (some_is _ _ (c.in-Some-Relation.ensures.exact (kind_of_element p.2) (long c.args.row.now p row) (at_kind c.args.row.now p row))) ∙ c.in-Some-Relation.field-0-is) in
    let is_relation : IsRelation there.0 = subst IsElement there.1 is in
    let its : HaveTags p c.in-Some.tags = found_as (HaveTags p) _ _ (c.in_ok-tags.ensures.exact (tags_at p) (tag_parts p is) tags) c.in-Some.is in
    let its_members : HaveMembers p c.in-Some-3.members
    = found_as (HaveMembers p) _ _ (c.in_ok-members-in-Some-Relation.ensures.exact (links_at p) (member_parts p there.0 there.1 is_relation) links) c.in-Some-3.is in
    let its_row = subst (λ (e : Element). c.args.row.now ≡ element_row (p.0, p.1, e)) there.1 row in
    c.relation_of.ensures p.0 p.1 there.0 is_relation its_row (its_members ∙ items_of p.0 p.1 0 (links_of p.2) ∙ ap links_of there.1)
    (its ∙ items_of p.0 p.1 0 (tags_of_element p.2) ∙ ap tags_of_element there.1)
    ∙ ap Some (sym there.1)

pub returns-in-Some-Relation : goal.returns-in-Some-Relation
returns-in-Some-Relation c p is row tags links =
    let there = relation_there p.2 (sym (some_is _ _ (c.in-Some-Relation.ensures.exact (kind_of_element p.2) (long c.args.row.now p row) (at_kind c.args.row.now p row))) ∙ c.in-Some-Relation.field-0-is) in
    let is_relation : IsRelation there.0 = subst IsElement there.1 is in
    absurd (found_as (HaveMembers p) _ _ (c.in_ok-members-in-Some-Relation.ensures.exact (links_at p) (member_parts p there.0 there.1 is_relation) links) c.in-None-3.is)
