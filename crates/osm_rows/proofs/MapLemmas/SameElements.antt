-- In the layout of tables, an element's rows are those of no other.
use Rattle.std.proofs.Common.{◌≡◌, ℕ, ℤ, List, [], ◌∷◌, map, Option, Some, None, Bool, true, false, refl, sym, ap, ap₂, ◌∙◌, arith}
use Rattle.std.specs.Prelude.{flat_map}
use Rattle.sqlite.specs.declared.types.Value.{Value}
use Rattle.sqlite.specs.declared.types.Value.TheVariants.{Null, Int, Text as Words}
use Rattle.sqlite.specs.Values.{or_null}
use Rattle.sqlite_trees.specs.Tree.{IsAscending}
use Rattle.osm_value.specs.declared.element.Element.{Element}
use Rattle.osm_value.specs.declared.element.Element.TheVariants as elements
use Rattle.osm_value.specs.declared.element.MemberKind.{MemberKind}
use Rattle.osm_value.specs.declared.element.MemberKind.TheVariants.{Node, Way, Relation}
use Rattle.osm_value.specs.Elements.{tags_of_element, info_of_element, kind_of_element, id_of_element}
use Rattle.osm_value.specs.Value.{Text, InfoValue, MemberValue, NodeValue, WayValue, RelationValue}
use Rattle.osm_rows.specs.Rows.{Placed, element_code}
use Rattle.osm_rows.specs.TableRows.{Part, lat_of, lon_of, links_of, node_link, flag, info_columns, element_row, element_rows, tags_at, links_at, tag_row, link_row}
use Rattle.osm_rows.proofs.MapLemmas.PlacedLaws.{IsBefore}
use Rattle.osm_rows.proofs.MapLemmas.PartLaws.{first_parts}

-- ---- columns

same_option : {X : Type 0} (f : X → Value) → ((x y : X) → f x ≡ f y → x ≡ y) → ((x : X) → f x ≡ Null → ⊥) → (a b : Option X) → or_null f a ≡ or_null f b → a ≡ b
same_option f once filled None None is = refl
same_option f once filled None (Some y) is = absurd (filled y (sym is))
same_option f once filled (Some x) None is = absurd (filled x is)
same_option f once filled (Some x) (Some y) is = ap Some (once x y is)

same_numbers : (a b : Option ℤ) → or_null Int a ≡ or_null Int b → a ≡ b
same_numbers = same_option Int (λ x y e. cc) (λ x e. cc)

same_words : (a b : Option Text) → or_null Words a ≡ or_null Words b → a ≡ b
same_words = same_option Words (λ x y e. cc) (λ x e. cc)

same_flag : (a b : Bool) → flag a ≡ flag b → a ≡ b
same_flag true true e = refl
same_flag true false e = absurd (cc)
same_flag false true e = absurd (cc)
same_flag false false e = refl

same_flags : (a b : Option Bool) → or_null flag a ≡ or_null flag b → a ≡ b
same_flags = same_option flag same_flag (λ x e. cc)

pub same_kind : (j k : MemberKind) → element_code j ≡ element_code k → j ≡ k
same_kind Node Node e = refl
same_kind Node Way e = absurd (omega arith)
same_kind Node Relation e = absurd (omega arith)
same_kind Way Node e = absurd (omega arith)
same_kind Way Way e = refl
same_kind Way Relation e = absurd (omega arith)
same_kind Relation Node e = absurd (omega arith)
same_kind Relation Way e = absurd (omega arith)
same_kind Relation Relation e = refl

record SameInfo (i j : InfoValue) : Type 0 where
  version : i.version ≡ j.version
  time : i.time ≡ j.time
  changeset : i.changeset ≡ j.changeset
  uid : i.uid ≡ j.uid
  user : i.user ≡ j.user
  visible : i.visible ≡ j.visible

one_info : (i j : InfoValue) → SameInfo i j → i ≡ j
one_info i j s =
    let make : Option ℤ → Option ℤ → Option ℤ → Option ℤ → Option Text → Option Bool → InfoValue = λ a b c d e f. record { version = a; time = b; changeset = c; uid = d; user = e; visible = f } in
    ap (λ x. make x i.time i.changeset i.uid i.user i.visible) s.version ∙ ap (λ x. make j.version x i.changeset i.uid i.user i.visible) s.time
    ∙ ap (λ x. make j.version j.time x i.uid i.user i.visible) s.changeset ∙ ap (λ x. make j.version j.time j.changeset x i.user i.visible) s.uid
    ∙ ap (λ x. make j.version j.time j.changeset j.uid x i.visible) s.user ∙ ap (make j.version j.time j.changeset j.uid j.user) s.visible

same_info : (i j : InfoValue) → info_columns i ≡ info_columns j → i ≡ j
same_info i j is =
    let version : or_null Int i.version ≡ or_null Int j.version = cc in
    let time : or_null Int i.time ≡ or_null Int j.time = cc in
    let changeset : or_null Int i.changeset ≡ or_null Int j.changeset = cc in
    let uid : or_null Int i.uid ≡ or_null Int j.uid = cc in
    let user : or_null Words i.user ≡ or_null Words j.user = cc in
    let visible : or_null flag i.visible ≡ or_null flag j.visible = cc in
    one_info i j (record {
      version = same_numbers i.version j.version version;
      time = same_numbers i.time j.time time;
      changeset = same_numbers i.changeset j.changeset changeset;
      uid = same_numbers i.uid j.uid uid;
      user = same_words i.user j.user user;
      visible = same_flags i.visible j.visible visible;
    })

-- ---- parts

same_items : {X R : Type 0} (row : X → R) → ((x y : X) → row x ≡ row y → x ≡ y) → (xs ys : List X) → map row xs ≡ map row ys → xs ≡ ys
same_items row once [] [] is = refl
same_items row once [] (y ∷ ys) is = absurd (cc)
same_items row once (x ∷ xs) [] is = absurd (cc)
same_items row once (x ∷ xs) (y ∷ ys) is =
    let head : row x ≡ row y = cc in
    let tail : map row xs ≡ map row ys = cc in
    ap₂ ◌∷◌ (once x y head) (same_items row once xs ys tail)

one_part : {A : Type 0} (x y : Part A) → x.off ≡ y.off → x.position ≡ y.position → x.number ≡ y.number → x.item ≡ y.item → x ≡ y
one_part {A} x y off position number item =
    let make : ℕ → ℕ → ℕ → A → Part A = λ a b c d. record { off = a; position = b; number = c; item = d } in
    ap (λ n. make n x.position x.number x.item) off ∙ ap (λ n. make y.off n x.number x.item) position ∙ ap (λ n. make y.off y.position n x.item) number ∙ ap (make y.off y.position y.number) item

same_tag : (x y : Part (Text × Text)) → tag_row x ≡ tag_row y → x ≡ y
same_tag x y is =
    let off : x.off ≡ y.off = cc in
    let position : x.position ≡ y.position = cc in
    let number : x.number ≡ y.number = cc in
    let key : x.item.0 ≡ y.item.0 = cc in
    let val : x.item.1 ≡ y.item.1 = cc in
    let make : Text → Text → Text × Text = λ a b. (a, b) in
    one_part x y off position number (ap₂ make key val)

one_member : (x y : MemberValue) → x.kind ≡ y.kind → x.id ≡ y.id → x.role ≡ y.role → x ≡ y
one_member x y kind id role =
    let make : MemberKind → ℤ → Text → MemberValue = λ a b c. record { kind = a; id = b; role = c } in
    ap (λ k. make k x.id x.role) kind ∙ ap (λ n. make y.kind n x.role) id ∙ ap (make y.kind y.id) role

same_link : (x y : Part MemberValue) → link_row x ≡ link_row y → x ≡ y
same_link x y is =
    let off : x.off ≡ y.off = cc in
    let position : x.position ≡ y.position = cc in
    let number : x.number ≡ y.number = cc in
    let code : element_code x.item.kind ≡ element_code y.item.kind = cc in
    let id : x.item.id ≡ y.item.id = cc in
    let role : x.item.role ≡ y.item.role = cc in
    one_part x y off position number (one_member x.item y.item (same_kind x.item.kind y.item.kind code) id role)

-- ---- elements

-- what the rows of two elements say alike
record SameRows (d e : Element) : Type 0 where
  kind : element_code (kind_of_element d) ≡ element_code (kind_of_element e)
  id : id_of_element d ≡ id_of_element e
  lat : lat_of d ≡ lat_of e
  lon : lon_of d ≡ lon_of e
  info : info_of_element d ≡ info_of_element e
  tags : tags_of_element d ≡ tags_of_element e
  links : links_of d ≡ links_of e

one_node : (d e : NodeValue) → SameRows (elements.Node d) (elements.Node e) → elements.Node d ≡ elements.Node e
one_node d e s =
    let make : ℤ → ℤ → ℤ → List (Text × Text) → InfoValue → Element = λ a b c t i. elements.Node (record { id = a; lat = b; lon = c; tags = t; info = i }) in
    let some_lat : Some d.lat ≡ Some e.lat = s.lat in
    let some_lon : Some d.lon ≡ Some e.lon = s.lon in
    let lat : d.lat ≡ e.lat = cc in
    let lon : d.lon ≡ e.lon = cc in
    ap (λ x. make x d.lat d.lon d.tags d.info) s.id ∙ ap (λ x. make e.id x d.lon d.tags d.info) lat ∙ ap (λ x. make e.id e.lat x d.tags d.info) lon
    ∙ ap (λ x. make e.id e.lat e.lon x d.info) s.tags ∙ ap (make e.id e.lat e.lon e.tags) s.info

one_way : (d e : WayValue) → SameRows (elements.Way d) (elements.Way e) → elements.Way d ≡ elements.Way e
one_way d e s =
    let make : ℤ → List ℤ → List (Text × Text) → InfoValue → Element = λ a r t i. elements.Way (record { id = a; refs = r; tags = t; info = i }) in
    let refs : d.refs ≡ e.refs = same_items node_link (λ x y is. ap (λ (m : MemberValue). m.id) is) d.refs e.refs s.links in
    ap (λ x. make x d.refs d.tags d.info) s.id ∙ ap (λ x. make e.id x d.tags d.info) refs ∙ ap (λ x. make e.id e.refs x d.info) s.tags ∙ ap (make e.id e.refs e.tags) s.info

one_relation : (d e : RelationValue) → SameRows (elements.Relation d) (elements.Relation e) → elements.Relation d ≡ elements.Relation e
one_relation d e s =
    let make : ℤ → List MemberValue → List (Text × Text) → InfoValue → Element = λ a m t i. elements.Relation (record { id = a; members = m; tags = t; info = i }) in
    ap (λ x. make x d.members d.tags d.info) s.id ∙ ap (λ x. make e.id x d.tags d.info) s.links ∙ ap (λ x. make e.id e.members x d.info) s.tags ∙ ap (make e.id e.members e.tags) s.info

one_element : (d e : Element) → SameRows d e → d ≡ e
one_element (elements.Node d) (elements.Node e) s = one_node d e s
one_element (elements.Node d) (elements.Way e) s = absurd (omega (arith, s.kind))
one_element (elements.Node d) (elements.Relation e) s = absurd (omega (arith, s.kind))
one_element (elements.Way d) (elements.Node e) s = absurd (omega (arith, s.kind))
one_element (elements.Way d) (elements.Way e) s = one_way d e s
one_element (elements.Way d) (elements.Relation e) s = absurd (omega (arith, s.kind))
one_element (elements.Relation d) (elements.Node e) s = absurd (omega (arith, s.kind))
one_element (elements.Relation d) (elements.Way e) s = absurd (omega (arith, s.kind))
one_element (elements.Relation d) (elements.Relation e) s = one_relation d e s

one_placed : (p q : Placed) → p.0 ≡ q.0 → p.1 ≡ q.1 → p.2 ≡ q.2 → p ≡ q
one_placed p q off position element =
    let make : ℕ → ℕ → Element → Placed = λ a b e. (a, b, e) in
    ap (λ n. make n p.1 p.2) off ∙ ap (λ n. make q.0 n p.2) position ∙ ap (make q.0 q.1) element

-- elements that ascend, with the same rows
same_parts : (ps qs : List Placed) → IsAscending IsBefore ps → IsAscending IsBefore qs → element_rows ps ≡ element_rows qs → flat_map tags_at ps ≡ flat_map tags_at qs → flat_map links_at ps ≡ flat_map links_at qs → ps ≡ qs
same_parts [] [] up vp rows tags links = refl
same_parts [] (q ∷ qs) up vp rows tags links = absurd (cc)
same_parts (p ∷ ps) [] up vp rows tags links = absurd (cc)
same_parts (p ∷ ps) (q ∷ qs) up vp rows tags links =
    let head : element_row p ≡ element_row q = cc in
    let tail : element_rows ps ≡ element_rows qs = cc in
    let off : p.0 ≡ q.0 = cc in
    let position : p.1 ≡ q.1 = cc in
    let code : element_code (kind_of_element p.2) ≡ element_code (kind_of_element q.2) = cc in
    let id : id_of_element p.2 ≡ id_of_element q.2 = cc in
    let lat : or_null Int (lat_of p.2) ≡ or_null Int (lat_of q.2) = cc in
    let lon : or_null Int (lon_of p.2) ≡ or_null Int (lon_of q.2) = cc in
    let info : info_columns (info_of_element p.2) ≡ info_columns (info_of_element q.2) = cc in
    let its_tags = first_parts (λ (p : Placed). tags_of_element p.2) p q ps qs off position up.0 vp.0 tags in
    let its_links = first_parts (λ (p : Placed). links_of p.2) p q ps qs off position up.0 vp.0 links in
    let same : SameRows p.2 q.2 = record {
      kind = code;
      id = id;
      lat = same_numbers (lat_of p.2) (lat_of q.2) lat;
      lon = same_numbers (lon_of p.2) (lon_of q.2) lon;
      info = same_info (info_of_element p.2) (info_of_element q.2) info;
      tags = its_tags.0;
      links = its_links.0;
    } in
    ap₂ ◌∷◌ (one_placed p q off position (one_element p.2 q.2 same)) (same_parts ps qs up.1 vp.1 tail its_tags.1 its_links.1)

pub same_tables : (ps qs : List Placed) → IsAscending IsBefore ps → IsAscending IsBefore qs → element_rows ps ≡ element_rows qs → map tag_row (flat_map tags_at ps) ≡ map tag_row (flat_map tags_at qs)
    → map link_row (flat_map links_at ps) ≡ map link_row (flat_map links_at qs) → ps ≡ qs
same_tables ps qs up vp rows tags links =
    same_parts ps qs up vp rows (same_items tag_row same_tag (flat_map tags_at ps) (flat_map tags_at qs) tags) (same_items link_row same_link (flat_map links_at ps) (flat_map links_at qs) links)
