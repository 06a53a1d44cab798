-- What is in its range where the tests passed.
use Rattle.std.proofs.Common.{◌≡◌, ℕ, zero, suc, List, [], ◌∷◌, map, refl, sym, ap, ◌∙◌, ℤ, pos, negsuc, Option, Some, None, Bool, true, ◌&&◌, IsTrue}
use Rattle.std.specs.Prelude.{option_map, unwrap_or, slice_get}
use Rattle.std.specs.List.{list_all, AllByRecursion}
use Rattle.std.specs.Str.{is_utf8}
use Rattle.std.proofs.lemmas.Str.{IsUtf8-from_is_utf8, is_utf8-from_IsUtf8}
use Rattle.osm_value.specs.Value.{Text, InfoValue}
use Rattle.osm_value.specs.Ranges.{has_no_nul, passes, is_wide, is_version, is_uid, IsText, IsTextOrNone, AreTags, IsInfo, IsWay}
use Rattle.osm_block.specs.Message.{Context, InfoMessage}
use Rattle.osm_block.specs.Texts.{is_text}
use Rattle.osm_block.specs.Block.{text_at, version, time, TagsAt}
use Rattle.osm_block.specs.Phases.{info_in_range}
use Rattle.osm_block.proofs.IndexesLemmas.{and_left, and_right}
use Rattle.osm_block.proofs.InfoLemmas.{info_in_range-is}

pub both : (a b : Bool) → a ≡ true → b ≡ true → (a && b) ≡ true
both a b g h = ap (λ c. c && b) g ∙ h

pub all_true : {A : Type 0} (p : A → Bool) (xs : List A) → AllByRecursion (λ x. IsTrue (p x)) xs → list_all p xs ≡ true
all_true p [] h = refl
all_true p (x ∷ xs) h = both (p x) (list_all p xs) h.0 (all_true p xs h.1)

pub each_true : {A : Type 0} (p : A → Bool) (xs : List A) → list_all p xs ≡ true → AllByRecursion (λ x. IsTrue (p x)) xs
each_true p [] h = tt
each_true p (x ∷ xs) h = (and_left _ _ h, each_true p xs (and_right _ _ h))

-- ---- texts

pub text_from : (t : Text) → is_text t ≡ true → IsText t
text_from t h = record { utf8 = IsUtf8-from_is_utf8 t (and_left _ _ h); no_nul = and_right _ _ h }

pub text_passes : (t : Text) → IsText t → is_text t ≡ true
text_passes t h = both (is_utf8 t) (has_no_nul t) (is_utf8-from_IsUtf8 t h.utf8) h.no_nul

pub table_passes : (ts : List Text) → AllByRecursion IsText ts → list_all is_text ts ≡ true
table_passes [] h = refl
table_passes (t ∷ ts) h = both (is_text t) (list_all is_text ts) (text_passes t h.0) (table_passes ts h.1)

passes_there : {A : Type 0} (p : A → Bool) (xs : List A) (i : ℕ) (x : A) → list_all p xs ≡ true → slice_get xs i ≡ Some x → p x ≡ true
passes_there p [] i x h e = cc
passes_there p (y ∷ ys) zero x h e =
    let same : y ≡ x = cc in
    ap p (sym same) ∙ and_left _ _ h
passes_there p (y ∷ ys) (suc i) x h e = passes_there p ys i x (and_right _ _ h) e

pub text_there : (table : List Text) (k : ℤ) (t : Text) → list_all is_text table ≡ true → text_at table k ≡ Some t → IsText t
text_there table (pos i) t h e = text_from t (passes_there is_text table i t h e)
text_there table (negsuc i) t h e = cc

-- the text that x has stands at its index, for each of them
pub texts_there : {A : Type 0} (get : A → Text) (table : List Text) (xs : List A) (ks : List ℤ) → list_all is_text table ≡ true →
    map (λ x. Some (get x)) xs ≡ map (text_at table) ks → AllByRecursion (λ x. IsText (get x)) xs
texts_there get table [] ks h e = tt
texts_there get table (x ∷ xs) [] h e = cc
texts_there get table (x ∷ xs) (k ∷ ks) h e =
    let here : text_at table k ≡ Some (get x) = cc in
    let rest : map (λ x. Some (get x)) xs ≡ map (text_at table) ks = cc in
    (text_there table k (get x) h here, texts_there get table xs ks h rest)

joined : (tags : List (Text × Text)) → AllByRecursion (λ (t : Text × Text). IsText t.0) tags → AllByRecursion (λ (t : Text × Text). IsText t.1) tags → AreTags tags
joined [] g h = tt
joined (t ∷ tags) g h = ((g.0, h.0), joined tags g.1 h.1)

pub tags_in_range : (table : List Text) (tags : List (Text × Text)) (keys vals : List ℤ) → list_all is_text table ≡ true → TagsAt table tags keys vals → AreTags tags
tags_in_range table tags keys vals h t = joined tags (texts_there (λ t. t.0) table tags keys h t.keys_are) (texts_there (λ t. t.1) table tags vals h t.vals_are)

pub user_in_range : (table : List Text) (user : Option Text) (k : Option ℤ) → list_all is_text table ≡ true → option_map Some user ≡ option_map (text_at table) k → IsTextOrNone user
user_in_range table None k h e = tt
user_in_range table (Some t) None h e = cc
user_in_range table (Some t) (Some k) h e =
    let here : text_at table k ≡ Some t = cc in
    text_there table k t h here

-- ---- an Info

pub info_is_in_range : (b : Context) (m : InfoMessage) (i : InfoValue) → info_in_range b m ≡ true → list_all is_text b.table ≡ true →
    i.version ≡ unwrap_or (option_map version m.version) None → i.time ≡ option_map (time b.date_granularity) m.timestamp → i.changeset ≡ m.changeset → i.uid ≡ m.uid →
    option_map Some i.user ≡ option_map (text_at b.table) m.user_sid → IsInfo i
info_is_in_range b m i h texts is_v is_t is_c is_u is_user =
    let all = info_in_range-is b.date_granularity m.version m.timestamp m.changeset m.uid i.version i.time is_v is_t h in
    let three = and_left (passes is_version i.version && passes is_wide i.time && passes is_wide m.changeset) (passes is_uid m.uid) all in
    let two = and_left (passes is_version i.version && passes is_wide i.time) (passes is_wide m.changeset) three in
    record {
      version = and_left (passes is_version i.version) (passes is_wide i.time) two;
      time = and_right (passes is_version i.version) (passes is_wide i.time) two;
      changeset = ap (passes is_wide) is_c ∙ and_right (passes is_version i.version && passes is_wide i.time) (passes is_wide m.changeset) three;
      uid = ap (passes is_uid) is_u ∙ and_right (passes is_version i.version && passes is_wide i.time && passes is_wide m.changeset) (passes is_uid m.uid) all;
      user = user_in_range b.table i.user m.user_sid texts is_user;
    }

pub info_time : (b : Context) (m : InfoMessage) → info_in_range b m ≡ true → passes (λ t. is_wide (time b.date_granularity t)) m.timestamp ≡ true
info_time b m h =
    let v : Bool = passes (λ v. passes is_version (version v)) m.version in
    let t : Bool = passes (λ t. is_wide (time b.date_granularity t)) m.timestamp in
    and_right v t (and_left (v && t) (passes is_wide m.changeset) (and_left (v && t && passes is_wide m.changeset) (passes is_uid m.uid) h))

-- ---- elements

-- the ranges as the code tests them
pub way_is_in_range : (id : ℤ) (read refs : List ℤ) (tags : List (Text × Text)) (info : InfoValue) (test others : Bool) → read ≡ refs →
    test ≡ (is_wide id && list_all is_wide read && others) → test ≡ true → AreTags tags → IsInfo info →
    IsWay (record { id = id; refs = refs; tags = tags; info = info })
way_is_in_range id read refs tags info test others same is passed are_tags is_info =
    let two : (is_wide id && list_all is_wide read) ≡ true = and_left (is_wide id && list_all is_wide read) others (sym is ∙ passed) in
    record {
      id = and_left (is_wide id) (list_all is_wide read) two;
      refs = each_true is_wide refs (ap (list_all is_wide) (sym same) ∙ and_right (is_wide id) (list_all is_wide read) two);
      tags = are_tags;
      info = is_info;
    }
