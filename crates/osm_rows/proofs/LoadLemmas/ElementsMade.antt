-- An element that is made of the parts of another is that one.
use Rattle.std.proofs.Common.{◌≡◌, ◌∙◌, ℤ, List, ap}
use Rattle.osm_value.specs.Value.{Text, InfoValue, MemberValue, NodeValue, WayValue, RelationValue}

abbrev made_node : ℤ → ℤ → ℤ → List (Text × Text) → InfoValue → NodeValue
made_node id lat lon tags info = record { id = id; lat = lat; lon = lon; tags = tags; info = info }

pub node_is : (n : NodeValue) (id lat lon : ℤ) (tags : List (Text × Text)) (info : InfoValue) → id ≡ n.id → lat ≡ n.lat → lon ≡ n.lon → tags ≡ n.tags → info ≡ n.info → made_node id lat lon tags info ≡ n
node_is n id lat lon tags info same_id same_lat same_lon same_tags same_info =
    ap (λ x. made_node x lat lon tags info) same_id ∙ ap (λ x. made_node n.id x lon tags info) same_lat ∙ ap (λ x. made_node n.id n.lat x tags info) same_lon
    ∙ ap (λ x. made_node n.id n.lat n.lon x info) same_tags ∙ ap (made_node n.id n.lat n.lon n.tags) same_info

abbrev made_way : ℤ → List ℤ → List (Text × Text) → InfoValue → WayValue
made_way id refs tags info = record { id = id; refs = refs; tags = tags; info = info }

pub way_is : (w : WayValue) (id : ℤ) (refs : List ℤ) (tags : List (Text × Text)) (info : InfoValue) → id ≡ w.id → refs ≡ w.refs → tags ≡ w.tags → info ≡ w.info → made_way id refs tags info ≡ w
way_is w id refs tags info same_id same_refs same_tags same_info =
    ap (λ x. made_way x refs tags info) same_id ∙ ap (λ x. made_way w.id x tags info) same_refs ∙ ap (λ x. made_way w.id w.refs x info) same_tags ∙ ap (made_way w.id w.refs w.tags) same_info

abbrev made_relation : ℤ → List MemberValue → List (Text × Text) → InfoValue → RelationValue
made_relation id members tags info = record { id = id; members = members; tags = tags; info = info }

pub relation_is : (r : RelationValue) (id : ℤ) (members : List MemberValue) (tags : List (Text × Text)) (info : InfoValue) → id ≡ r.id → members ≡ r.members → tags ≡ r.tags → info ≡ r.info
    → made_relation id members tags info ≡ r
relation_is r id members tags info same_id same_members same_tags same_info =
    ap (λ x. made_relation x members tags info) same_id ∙ ap (λ x. made_relation r.id x tags info) same_members ∙ ap (λ x. made_relation r.id r.members x info) same_tags
    ∙ ap (made_relation r.id r.members r.tags) same_info
