-- The parts of an element of each kind.
use Rattle.std.proofs.Common.{◌≡◌, ℕ, ◌+◌, ℤ, List, [], ◌∷◌, map, All, Option, refl, sym, ap, subst}
use Rattle.std.specs.Prelude.{IsSomeAnd}
use Rattle.std.specs.List.{AllByRecursion}
use Rattle.std.proofs.lemmas.List.Elements.{All-from_recursion}
use Rattle.sqlite_trees.proofs.ListLemmas.{all_weaker, all-map}
use Rattle.osm_value.specs.declared.element.Element.{Element}
use Rattle.osm_value.specs.declared.element.Element.TheVariants as elements
use Rattle.osm_value.specs.declared.element.MemberKind.TheVariants.{Node, Way, Relation}
use Rattle.osm_value.specs.Elements.{IsElement, tags_of_element, kind_of_element}
use Rattle.osm_value.specs.Ranges.{IsText, IsWide, IsMember, IsWay, IsRelation, AreTags}
use Rattle.osm_value.specs.Value.{Text, MemberValue, NodeValue, WayValue, RelationValue}
use Rattle.osm_rows.specs.Rows.{Placed}
use Rattle.osm_rows.specs.TableRows.{Part, parts, node_link, tags_at, links_of, links_at}
use Rattle.osm_rows.specs.Load.TableElements.{IsTagPart, IsMemberPart, IsNodePart}

-- ---- an element by its kind

pub node_there : (e : Element) → kind_of_element e ≡ Node → (n : NodeValue) × (e ≡ elements.Node n)
node_there (elements.Node n) is = (n, refl)
node_there (elements.Way w) is = absurd (cc)
node_there (elements.Relation r) is = absurd (cc)

pub way_there : (e : Element) → kind_of_element e ≡ Way → (w : WayValue) × (e ≡ elements.Way w)
way_there (elements.Node n) is = absurd (cc)
way_there (elements.Way w) is = (w, refl)
way_there (elements.Relation r) is = absurd (cc)

pub relation_there : (e : Element) → kind_of_element e ≡ Relation → (r : RelationValue) × (e ≡ elements.Relation r)
relation_there (elements.Node n) is = absurd (cc)
relation_there (elements.Way w) is = absurd (cc)
relation_there (elements.Relation r) is = (r, refl)

-- ---- parts that are inside their ranges

all_parts : {A : Type 0} (P : A → Type 0) (off position number : ℕ) (xs : List A) → AllByRecursion P xs → AllByRecursion (λ (x : Part A). P x.item) (parts off position number xs)
all_parts P off position number [] all = tt
all_parts P off position number (x ∷ xs) all = (all.0, all_parts P off position (number + 1) xs all.1)

tags_in_range : (e : Element) → IsElement e → AreTags (tags_of_element e)
tags_in_range (elements.Node n) is = is.tags
tags_in_range (elements.Way w) is = is.tags
tags_in_range (elements.Relation r) is = is.tags

pub tag_parts : (p : Placed) → IsElement p.2 → All IsTagPart (tags_at p)
tag_parts p is = All-from_recursion _ _ (all_parts (λ (t : Text × Text). IsText t.0 × IsText t.1) p.0 p.1 0 (tags_of_element p.2) (tags_in_range p.2 is))

abbrev IsNodeItem : MemberValue → Type 0
IsNodeItem m = IsWide m.id × (m ≡ node_link m.id)

pub node_parts : (p : Placed) (w : WayValue) → p.2 ≡ elements.Way w → IsWay w → All IsNodePart (links_at p)
node_parts p w there is =
    let items = all-map IsNodeItem node_link w.refs (all_weaker IsWide _ (λ r wide. (wide, refl)) w.refs is.refs) in
    subst (λ (e : Element). All IsNodePart (parts p.0 p.1 0 (links_of e))) (sym there) (All-from_recursion _ _ (all_parts IsNodeItem p.0 p.1 0 (map node_link w.refs) items))

nodes_of : (off position number : ℕ) (refs : List ℤ) → map (λ (x : Part MemberValue). x.item.id) (parts off position number (map node_link refs)) ≡ refs
nodes_of off position number [] = refl
nodes_of off position number (r ∷ refs) = ap (λ l. r ∷ l) (nodes_of off position (number + 1) refs)

pub refs_are : (p : Placed) (w : WayValue) → p.2 ≡ elements.Way w → map (λ (x : Part MemberValue). x.item.id) (links_at p) ≡ w.refs
refs_are p w there = subst (λ (e : Element). map (λ (x : Part MemberValue). x.item.id) (parts p.0 p.1 0 (links_of e)) ≡ w.refs) (sym there) (nodes_of p.0 p.1 0 w.refs)

pub member_parts : (p : Placed) (r : RelationValue) → p.2 ≡ elements.Relation r → IsRelation r → All IsMemberPart (links_at p)
member_parts p r there is =
    subst (λ (e : Element). All IsMemberPart (parts p.0 p.1 0 (links_of e))) (sym there) (All-from_recursion _ _ (all_parts (λ (m : MemberValue). IsMember m) p.0 p.1 0 r.members is.members))

-- ---- what was found

pub found_as : {X : Type 0} (P : X → Type 0) (found other : Option X) → IsSomeAnd found P → found ≡ other → IsSomeAnd other P
found_as P found other h is = subst (λ o. IsSomeAnd o P) is h
