-- Counts of elements, of dense nodes and of two lists of elements.
use Rattle.std.proofs.Common.{◌≡◌, ◌==◌, suc, ◌+◌, List, [], ◌∷◌, ◌++◌, length, map, refl, sym, ap, subst, ◌∙◌, arith}
use Rattle.std.specs.List.{count_by}
use Rattle.std.proofs.lemmas.List.{length-append, length-map}
use Rattle.std.proofs.lemmas.List.Sums.{sum_by-append, sum_by-cons}
use Rattle.osm_value.specs.declared.element.Element.{Element}
use Rattle.osm_value.specs.declared.element.Element.TheVariants as elements
use Rattle.osm_value.specs.Value.{NodeValue}
use Rattle.osm_columns.specs.declared.tally.Tally.{Tally}
use Rattle.osm_columns.specs.Values.{kind_number, refs_of_element}
use Rattle.osm_columns.specs.Lists.{all_refs}
use Rattle.osm_columns.specs.Tally.{AreTallied, Added}
use Rattle.osm_columns.proofs.GroupLemmas.{joined-parts, none-of-nodes}

pub nodes-count : (ns : List NodeValue) → count_by (λ e. kind_number e == 0) (map elements.Node ns) ≡ length ns
nodes-count [] = refl
nodes-count (n ∷ ns) =
    let first : count_by (λ e. kind_number e == 0) (elements.Node n ∷ map elements.Node ns) ≡ 1 + count_by (λ e. kind_number e == 0) (map elements.Node ns) = sum_by-cons _ (elements.Node n) (map elements.Node ns) in
    let rest : count_by (λ e. kind_number e == 0) (map elements.Node ns) ≡ length ns = nodes-count ns in
    first ∙ ap (λ k. 1 + k) rest ∙ (let one : 1 + length ns ≡ suc (length ns) = omega arith in one)

pub no-ways : (ns : List NodeValue) → count_by (λ e. kind_number e == 1) (map elements.Node ns) ≡ 0
no-ways [] = refl
no-ways (n ∷ ns) =
    let first : count_by (λ e. kind_number e == 1) (elements.Node n ∷ map elements.Node ns) ≡ 0 + count_by (λ e. kind_number e == 1) (map elements.Node ns) = sum_by-cons _ (elements.Node n) (map elements.Node ns) in
    first ∙ ap (λ k. 0 + k) (no-ways ns)

pub no-relations : (ns : List NodeValue) → count_by (λ e. kind_number e == 2) (map elements.Node ns) ≡ 0
no-relations [] = refl
no-relations (n ∷ ns) =
    let first : count_by (λ e. kind_number e == 2) (elements.Node n ∷ map elements.Node ns) ≡ 0 + count_by (λ e. kind_number e == 2) (map elements.Node ns) = sum_by-cons _ (elements.Node n) (map elements.Node ns) in
    first ∙ ap (λ k. 0 + k) (no-relations ns)

pub nodes-tallied : (t : Tally) (es : List Element) (ns : List NodeValue) → es ≡ map elements.Node ns → t.elements ≡ length ns → t.nodes ≡ length ns → t.ways ≡ 0 → t.relations ≡ 0 → t.refs ≡ 0 → AreTallied t es
nodes-tallied t es ns is all nodes ways relations refs =
    let P : List Element → Type 0 = λ l. AreTallied t l in
    let tallied : AreTallied t (map elements.Node ns) = record {
      elements_are = all ∙ sym (length-map ns elements.Node);
      nodes_are = nodes ∙ sym (nodes-count ns);
      ways_are = ways ∙ sym (no-ways ns);
      relations_are = relations ∙ sym (no-relations ns);
      refs_are = refs ∙ sym (ap length (none-of-nodes refs_of_element elements.Node (λ n. refl) ns));
    } in
    subst P (sym is) tallied

pub tallied-more : (a b t : Tally) (es front here : List Element) → es ≡ front ++ here → AreTallied a front → AreTallied b here → Added a b t → AreTallied t es
tallied-more a b t es front here parts h k s = record {
  elements_are = s.elements_are ∙ ap (λ n. n + b.elements) h.elements_are ∙ ap (λ n. length front + n) k.elements_are ∙ sym (length-append front here) ∙ ap length (sym parts);
  nodes_are = s.nodes_are ∙ ap (λ n. n + b.nodes) h.nodes_are ∙ ap (λ n. count_by (λ e. kind_number e == 0) front + n) k.nodes_are ∙ sym (sum_by-append _ front here) ∙ ap (count_by (λ e. kind_number e == 0)) (sym parts);
  ways_are = s.ways_are ∙ ap (λ n. n + b.ways) h.ways_are ∙ ap (λ n. count_by (λ e. kind_number e == 1) front + n) k.ways_are ∙ sym (sum_by-append _ front here) ∙ ap (count_by (λ e. kind_number e == 1)) (sym parts);
  relations_are = s.relations_are ∙ ap (λ n. n + b.relations) h.relations_are ∙ ap (λ n. count_by (λ e. kind_number e == 2) front + n) k.relations_are ∙ sym (sum_by-append _ front here) ∙ ap (count_by (λ e. kind_number e == 2)) (sym parts);
  refs_are = s.refs_are ∙ ap (λ n. n + b.refs) h.refs_are ∙ ap (λ n. length (all_refs front) + n) k.refs_are ∙ sym (length-append (all_refs front) (all_refs here)) ∙ ap length (sym (joined-parts refs_of_element front here) ∙ ap all_refs (sym parts));
}

-- that of no elements
pub none-tallied : (t : Tally) (es : List Element) → es ≡ [] → t.elements ≡ 0 → t.nodes ≡ 0 → t.ways ≡ 0 → t.relations ≡ 0 → t.refs ≡ 0 → AreTallied t es
none-tallied t [] is all nodes ways relations refs = record { elements_are = all; nodes_are = nodes; ways_are = ways; relations_are = relations; refs_are = refs }
none-tallied t (e ∷ es) is all nodes ways relations refs = absurd cc
