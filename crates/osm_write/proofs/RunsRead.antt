-- A group holds elements of one kind, and nodes with the same fields of info.
use Rattle.std.proofs.Common.{◌≡◌, List, [], ◌∷◌, map, refl, ap, ◌∙◌, sym, Bool, true, false, if◌then◌else◌, ◌&&◌, Option, is_some}
use Rattle.std.specs.List.{AllByRecursion}
use Rattle.std.proofs.lemmas.Bool.{and_parts, true≢false}
use Rattle.osm_value.specs.declared.element.Element.{Element}
use Rattle.osm_value.specs.declared.element.Element.TheVariants.{Node, Way, Relation}
use Rattle.osm_value.specs.Value.{InfoValue, NodeValue, WayValue, RelationValue}
use Rattle.osm_write.specs.Canon.{same, same_present, fit_together, put_before, groups_of}
use Rattle.osm_write.proofs.ArraysRead.{IsUniform}
use Rattle.osm_write.proofs.DenseInfoRead.{IsSame}

-- each element fits together with the one before it
abbrev pub IsRun : List Element → Type 0
IsRun [] = Unit {0}
IsRun (e ∷ []) = Unit {0}
IsRun (e ∷ f ∷ es) = (fit_together e f ≡ true) × IsRun (f ∷ es)

put_run : (e : Element) (gs : List (List Element)) → AllByRecursion IsRun gs → AllByRecursion IsRun (put_before e gs)
put_run e [] all = (tt, tt)
put_run e ([] ∷ gs) all = (tt, (tt, all.1))
put_run e ((f ∷ g) ∷ gs) all = by (fit_together e f) refl
  where
    by : (b : Bool) → fit_together e f ≡ b → AllByRecursion IsRun (if b then (e ∷ f ∷ g) ∷ gs else (e ∷ []) ∷ (f ∷ g) ∷ gs)
    by true is = ((is, all.0), all.1)
    by false is = (tt, (all.0, all.1))

pub groups_are_runs : (es : List Element) → AllByRecursion IsRun (groups_of es)
groups_are_runs [] = tt
groups_are_runs (e ∷ es) = put_run e (groups_of es) (groups_are_runs es)

-- ---- the same fields

abbrev Chain : NodeValue → List NodeValue → Type 0
Chain n [] = Unit {0}
Chain n (m ∷ ms) = (same_present n.info m.info ≡ true) × Chain m ms

same_is : (a b : Bool) → same a b ≡ true → a ≡ b
same_is true true e = refl
same_is true false e = sym e
same_is false true e = absurd (true≢false (sym e))
same_is false false e = refl

record SamePresent (i j : InfoValue) : Type 0 where
  pub version : is_some i.version ≡ is_some j.version
  pub time : is_some i.time ≡ is_some j.time
  pub changeset : is_some i.changeset ≡ is_some j.changeset
  pub uid : is_some i.uid ≡ is_some j.uid
  pub user : is_some i.user ≡ is_some j.user
  pub visible : is_some i.visible ≡ is_some j.visible

present_is : (i j : InfoValue) → same_present i j ≡ true → SamePresent i j
present_is i j e =
    let v : Bool = same (is_some i.version) (is_some j.version) in
    let t : Bool = same (is_some i.time) (is_some j.time) in
    let c : Bool = same (is_some i.changeset) (is_some j.changeset) in
    let u : Bool = same (is_some i.uid) (is_some j.uid) in
    let n : Bool = same (is_some i.user) (is_some j.user) in
    let x : Bool = same (is_some i.visible) (is_some j.visible) in
    let g = and_parts (v && t && c && u && n) x e in
    let a = and_parts (v && t && c && u) n g.0 in
    let b = and_parts (v && t && c) u a.0 in
    let d = and_parts (v && t) c b.0 in
    let f = and_parts v t d.0 in
    record {
      version = same_is _ _ f.0;
      time = same_is _ _ f.1;
      changeset = same_is _ _ d.1;
      uid = same_is _ _ b.1;
      user = same_is _ _ a.1;
      visible = same_is _ _ g.1;
    }

uniform : {A : Type 0} (get : InfoValue → Option A) → ((i j : InfoValue) → SamePresent i j → is_some (get i) ≡ is_some (get j)) → (n : NodeValue) (ms : List NodeValue) → Chain n ms
    → (there : Bool) → is_some (get n.info) ≡ there → IsUniform get there (map (λ (m : NodeValue). m.info) (n ∷ ms))
uniform get at n [] chain there e = (e, tt)
uniform get at n (m ∷ ms) chain there e = (e, uniform get at m ms chain.1 there (sym (at n.info m.info (present_is n.info m.info chain.0)) ∙ e))

same_fields : (n : NodeValue) (ms : List NodeValue) → Chain n ms → IsSame (map (λ (m : NodeValue). m.info) (n ∷ ms))
same_fields n ms chain = record {
  version = (is_some n.info.version, uniform (λ (i : InfoValue). i.version) (λ i j h. h.version) n ms chain (is_some n.info.version) refl);
  time = (is_some n.info.time, uniform (λ (i : InfoValue). i.time) (λ i j h. h.time) n ms chain (is_some n.info.time) refl);
  changeset = (is_some n.info.changeset, uniform (λ (i : InfoValue). i.changeset) (λ i j h. h.changeset) n ms chain (is_some n.info.changeset) refl);
  uid = (is_some n.info.uid, uniform (λ (i : InfoValue). i.uid) (λ i j h. h.uid) n ms chain (is_some n.info.uid) refl);
  user = (is_some n.info.user, uniform (λ (i : InfoValue). i.user) (λ i j h. h.user) n ms chain (is_some n.info.user) refl);
  visible = (is_some n.info.visible, uniform (λ (i : InfoValue). i.visible) (λ i j h. h.visible) n ms chain (is_some n.info.visible) refl);
}

-- ---- one kind

pub record Nodes (es : List Element) : Type 0 where
  pub nodes : List NodeValue
  pub are : es ≡ map Node nodes
  pub same : IsSame (map (λ (m : NodeValue). m.info) nodes)

pub record Ways (es : List Element) : Type 0 where
  pub ways : List WayValue
  pub are : es ≡ map Way ways

pub record Relations (es : List Element) : Type 0 where
  pub relations : List RelationValue
  pub are : es ≡ map Relation relations

pub data OneKind (es : List Element) : Type 0 where
  AllNodes : Nodes es → OneKind es
  AllWays : Ways es → OneKind es
  AllRelations : Relations es → OneKind es

record NodesAfter (n : NodeValue) (es : List Element) : Type 0 where
  pub nodes : List NodeValue
  pub are : es ≡ map Node nodes
  pub chain : Chain n nodes

nodes_after : (n : NodeValue) (es : List Element) → IsRun (Node n ∷ es) → NodesAfter n es
nodes_after n [] run = record { nodes = []; are = refl; chain = tt }
nodes_after n (Node m ∷ es) run =
    let a = nodes_after m es run.1 in
    record { nodes = m ∷ a.nodes; are = ap (λ (xs : List Element). Node m ∷ xs) a.are; chain = (run.0, a.chain) }
nodes_after n (Way w ∷ es) run = absurd (true≢false (sym run.0))
nodes_after n (Relation r ∷ es) run = absurd (true≢false (sym run.0))

ways_from : (w : WayValue) (es : List Element) → IsRun (Way w ∷ es) → Ways (Way w ∷ es)
ways_from w [] run = record { ways = w ∷ []; are = refl }
ways_from w (Way v ∷ es) run = let a = ways_from v es run.1 in record { ways = w ∷ a.ways; are = ap (λ (xs : List Element). Way w ∷ xs) a.are }
ways_from w (Node m ∷ es) run = absurd (true≢false (sym run.0))
ways_from w (Relation r ∷ es) run = absurd (true≢false (sym run.0))

relations_from : (r : RelationValue) (es : List Element) → IsRun (Relation r ∷ es) → Relations (Relation r ∷ es)
relations_from r [] run = record { relations = r ∷ []; are = refl }
relations_from r (Relation q ∷ es) run = let a = relations_from q es run.1 in record { relations = r ∷ a.relations; are = ap (λ (xs : List Element). Relation r ∷ xs) a.are }
relations_from r (Node m ∷ es) run = absurd (true≢false (sym run.0))
relations_from r (Way w ∷ es) run = absurd (true≢false (sym run.0))

pub one_kind : (es : List Element) → IsRun es → OneKind es
one_kind [] run = AllWays (record { ways = []; are = refl })
one_kind (Node n ∷ es) run =
    let a = nodes_after n es run in
    AllNodes (record { nodes = n ∷ a.nodes; are = ap (λ (xs : List Element). Node n ∷ xs) a.are; same = same_fields n a.nodes a.chain })
one_kind (Way w ∷ es) run = AllWays (ways_from w es run)
one_kind (Relation r ∷ es) run = AllRelations (relations_from r es run)
