-- Tests of elements that are given as literals: where one passes, the element is in its ranges.
use Rattle.std.proofs.Common.{◌≡◌, List, [], ◌∷◌, Bool, true, ◌&&◌, Option, Some, None}
use Rattle.std.specs.List.{list_all, AllByRecursion}
use Rattle.osm_value.specs.Value.{Text, InfoValue, MemberValue, NodeValue, WayValue, RelationValue}
use Rattle.osm_value.specs.Ranges.{passes, is_wide, is_version, is_uid, IsText, IsTextOrNone, AreTags, IsInfo, IsMember, IsNode, IsWay, IsRelation}
use Rattle.osm_block.specs.Texts.{is_text}
use Rattle.osm_block.proofs.IndexesLemmas.{and_left, and_right}
use Rattle.osm_block.proofs.RangeLemmas.{each_true, text_from}

each_from : {A : Type 0} (p : A → Bool) (P : A → Type 0) → ((x : A) → p x ≡ true → P x) → (xs : List A) → list_all p xs ≡ true → AllByRecursion P xs
each_from p P from [] h = tt
each_from p P from (x ∷ xs) h = (from x (and_left _ _ h), each_from p P from xs (and_right _ _ h))

abbrev pub are_tags : List (Text × Text) → Bool
are_tags tags = list_all (λ t. is_text t.0 && is_text t.1) tags

tags_from : (tags : List (Text × Text)) → are_tags tags ≡ true → AreTags tags
tags_from tags h = each_from (λ t. is_text t.0 && is_text t.1) (λ t. IsText t.0 × IsText t.1) (λ t e. (text_from t.0 (and_left _ _ e), text_from t.1 (and_right _ _ e))) tags h

abbrev pub is_info : InfoValue → Bool
is_info i = passes is_version i.version && (passes is_wide i.time && (passes is_wide i.changeset && (passes is_uid i.uid && passes is_text i.user)))

user_from : (u : Option Text) → passes is_text u ≡ true → IsTextOrNone u
user_from None h = tt
user_from (Some t) h = text_from t h

pub info_from : (i : InfoValue) → is_info i ≡ true → IsInfo i
info_from i h =
    let a = and_right (passes is_version i.version) (passes is_wide i.time && (passes is_wide i.changeset && (passes is_uid i.uid && passes is_text i.user))) h in
    let b = and_right (passes is_wide i.time) (passes is_wide i.changeset && (passes is_uid i.uid && passes is_text i.user)) a in
    let c = and_right (passes is_wide i.changeset) (passes is_uid i.uid && passes is_text i.user) b in
    record {
      version = and_left (passes is_version i.version) _ h;
      time = and_left (passes is_wide i.time) _ a;
      changeset = and_left (passes is_wide i.changeset) _ b;
      uid = and_left (passes is_uid i.uid) _ c;
      user = user_from i.user (and_right (passes is_uid i.uid) _ c);
    }

abbrev pub is_node : NodeValue → Bool
is_node n = is_wide n.id && (is_wide n.lat && (is_wide n.lon && (are_tags n.tags && is_info n.info)))

pub node_from : (n : NodeValue) → is_node n ≡ true → IsNode n
node_from n h =
    let a = and_right (is_wide n.id) (is_wide n.lat && (is_wide n.lon && (are_tags n.tags && is_info n.info))) h in
    let b = and_right (is_wide n.lat) (is_wide n.lon && (are_tags n.tags && is_info n.info)) a in
    let c = and_right (is_wide n.lon) (are_tags n.tags && is_info n.info) b in
    record {
      id = and_left (is_wide n.id) _ h;
      lat = and_left (is_wide n.lat) _ a;
      lon = and_left (is_wide n.lon) _ b;
      tags = tags_from n.tags (and_left (are_tags n.tags) _ c);
      info = info_from n.info (and_right (are_tags n.tags) _ c);
    }

abbrev pub is_way : WayValue → Bool
is_way w = is_wide w.id && (list_all is_wide w.refs && (are_tags w.tags && is_info w.info))

pub way_from : (w : WayValue) → is_way w ≡ true → IsWay w
way_from w h =
    let a = and_right (is_wide w.id) (list_all is_wide w.refs && (are_tags w.tags && is_info w.info)) h in
    let b = and_right (list_all is_wide w.refs) (are_tags w.tags && is_info w.info) a in
    record {
      id = and_left (is_wide w.id) _ h;
      refs = each_true is_wide w.refs (and_left (list_all is_wide w.refs) _ a);
      tags = tags_from w.tags (and_left (are_tags w.tags) _ b);
      info = info_from w.info (and_right (are_tags w.tags) _ b);
    }

abbrev pub is_member : MemberValue → Bool
is_member m = is_wide m.id && is_text m.role

member_from : (m : MemberValue) → is_member m ≡ true → IsMember m
member_from m h = record { id = and_left (is_wide m.id) _ h; role = text_from m.role (and_right (is_wide m.id) _ h) }

abbrev pub is_relation : RelationValue → Bool
is_relation r = is_wide r.id && (list_all is_member r.members && (are_tags r.tags && is_info r.info))

pub relation_from : (r : RelationValue) → is_relation r ≡ true → IsRelation r
relation_from r h =
    let a = and_right (is_wide r.id) (list_all is_member r.members && (are_tags r.tags && is_info r.info)) h in
    let b = and_right (list_all is_member r.members) (are_tags r.tags && is_info r.info) a in
    record {
      id = and_left (is_wide r.id) _ h;
      members = each_from is_member IsMember member_from r.members (and_left (list_all is_member r.members) _ a);
      tags = tags_from r.tags (and_left (are_tags r.tags) _ b);
      info = info_from r.info (and_right (are_tags r.tags) _ b);
    }
