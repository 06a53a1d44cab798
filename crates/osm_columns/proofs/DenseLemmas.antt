-- What the columns have of dense nodes, from their arrays.
use Rattle.std.proofs.Common.{◌≡◌, ℕ, suc, ◌+◌, ◌<◌, List, [], ◌∷◌, length, map, sum, replicate, refl, sym, ap, ◌∙◌, ℤ, pos, negsuc, zero, Option, Some, None, arith}
use Rattle.std.specs.Prelude.{unwrap_or}
use Rattle.std.proofs.lemmas.List.{length-map, map-id}
use Rattle.osm_value.specs.declared.element.Element.TheVariants as elements
use Rattle.osm_value.specs.Value.{NodeValue}
use Rattle.osm_value.specs.Elements.{id_of_element, tags_of_element}
use Rattle.osm_block.specs.declared.dense.arrays.DenseArrays.{DenseArrays}
use Rattle.osm_block.specs.Message.{Context}
use Rattle.osm_block.specs.DenseTags.{Pair}
use Rattle.osm_block.specs.NodeTags.{node_pairs}
use Rattle.osm_block.specs.Block.{time, version, values_for, texts_at, all_there}
use Rattle.osm_block.specs.Groups.{AreNodesOf}
use Rattle.osm_columns.specs.Values.{kind_number, version_of_element, time_of_element, changeset_of_element, uid_of_element, flag_of_element, number_of_flag, no_int, no_long}
use Rattle.std.proofs.lemmas.List.Sums.{sum_by-cons}
use Rattle.osm_columns.specs.Lists.{sums_from}
use Rattle.osm_columns.proofs.GroupLemmas.{mapped-twice}

pub node-count : (b : Context) (c : DenseArrays) (ns : List NodeValue) → AreNodesOf b c ns → length ns ≡ length c.ids.items
node-count b c ns h = sym (length-map ns (λ n. n.id)) ∙ ap length h.ids

pub same-for-all : {A B : Type 0} (x : B) (xs : List A) → replicate (length xs) x ≡ map (λ y. x) xs
same-for-all x [] = refl
same-for-all x (y ∷ ys) = ap (λ l. x ∷ l) (same-for-all x ys)

mapped-same : {B C : Type 0} (g : B → C) (n : ℕ) (x : B) → map g (replicate n x) ≡ replicate n (g x)
mapped-same g zero x = refl
mapped-same g (suc n) x = ap (λ l. g x ∷ l) (mapped-same g n x)

-- an array that has a number for each node, and one that has none
pub values-there : {A B : Type 0} (m : A → Option B) (n : ℕ) (xs : List A) → 0 < length xs → values_for n (map m xs) ≡ map m xs
values-there m n [] h = absurd (omega arith)
values-there m n (x ∷ xs) h = refl

pub values-missing : {A B : Type 0} (m : A → Option B) (n : ℕ) (xs : List A) → length xs ≡ 0 → values_for n (map m xs) ≡ replicate n None
values-missing m n [] h = refl
values-missing m n (x ∷ xs) h = absurd (omega arith)

pub there : {N A B C : Type 0} (of : N → Option B) (g : Option B → C) (m : A → Option B) (ns : List N) (xs : List A) → map of ns ≡ values_for (length ns) (map m xs) → 0 < length xs → map (λ x. g (m x)) xs ≡ map (λ n. g (of n)) ns
there of g m ns xs e h = sym (mapped-twice m g xs) ∙ sym (ap (map g) (e ∙ values-there m (length ns) xs h)) ∙ mapped-twice of g ns

pub missing : {N A B C : Type 0} (of : N → Option B) (g : Option B → C) (m : A → Option B) (ns : List N) (xs : List A) (n : ℕ) → map of ns ≡ values_for (length ns) (map m xs) → length xs ≡ 0 → length ns ≡ n → replicate n (g None) ≡ map (λ n. g (of n)) ns
missing of g m ns xs n e h count =
    ap (λ k. replicate k (g None)) (sym count) ∙ sym (mapped-same g (length ns) None) ∙ sym (ap (map g) (e ∙ values-missing m (length ns) xs h)) ∙ mapped-twice of g ns

-- -1 is the version that says nothing
same-version : (v : ℤ) → unwrap_or (version v) (negsuc 0) ≡ v
same-version (negsuc zero) = refl
same-version (negsuc (suc k)) = refl
same-version (pos k) = refl

same-versions : (vs : List ℤ) → map (λ v. unwrap_or (version v) (negsuc 0)) vs ≡ vs
same-versions [] = refl
same-versions (v ∷ vs) = ap (λ l. unwrap_or (version v) (negsuc 0) ∷ l) (same-versions vs) ∙ ap (λ z. z ∷ vs) (same-version v)

pub kinds-of : (b : Context) (c : DenseArrays) (ns : List NodeValue) → AreNodesOf b c ns → replicate (length c.ids.items) 0 ≡ map (λ n. kind_number (elements.Node n)) ns
kinds-of b c ns h = ap (λ k. replicate k 0) (sym (node-count b c ns h)) ∙ same-for-all 0 ns

pub ids-of : (b : Context) (c : DenseArrays) (ns : List NodeValue) → AreNodesOf b c ns → c.ids.items ≡ map (λ n. id_of_element (elements.Node n)) ns
ids-of b c ns h = sym h.ids

pub versions-there : (b : Context) (c : DenseArrays) (ns : List NodeValue) → AreNodesOf b c ns → 0 < length c.versions.items → c.versions.items ≡ map (λ n. version_of_element (elements.Node n)) ns
versions-there b c ns h some = sym (same-versions c.versions.items) ∙ there (λ n. n.info.version) (λ o. unwrap_or o (negsuc 0)) version ns c.versions.items h.versions some

pub versions-missing : (b : Context) (c : DenseArrays) (ns : List NodeValue) → AreNodesOf b c ns → length c.versions.items ≡ 0 → replicate (length c.ids.items) (negsuc 0) ≡ map (λ n. version_of_element (elements.Node n)) ns
versions-missing b c ns h none = missing (λ n. n.info.version) (λ o. unwrap_or o (negsuc 0)) version ns c.versions.items (length c.ids.items) h.versions none (node-count b c ns h)

pub times-there : (b : Context) (c : DenseArrays) (ns : List NodeValue) → AreNodesOf b c ns → 0 < length c.timestamps.items → map (time b.date_granularity) c.timestamps.items ≡ map (λ n. time_of_element (elements.Node n)) ns
times-there b c ns h some = there (λ n. n.info.time) (λ o. unwrap_or o no_long) (λ t. Some (time b.date_granularity t)) ns c.timestamps.items h.times some

pub times-missing : (b : Context) (c : DenseArrays) (ns : List NodeValue) → AreNodesOf b c ns → length c.timestamps.items ≡ 0 → replicate (length c.ids.items) no_long ≡ map (λ n. time_of_element (elements.Node n)) ns
times-missing b c ns h none = missing (λ n. n.info.time) (λ o. unwrap_or o no_long) (λ t. Some (time b.date_granularity t)) ns c.timestamps.items (length c.ids.items) h.times none (node-count b c ns h)

pub changesets-there : (b : Context) (c : DenseArrays) (ns : List NodeValue) → AreNodesOf b c ns → 0 < length c.changesets.items → c.changesets.items ≡ map (λ n. changeset_of_element (elements.Node n)) ns
changesets-there b c ns h some = sym (map-id c.changesets.items) ∙ there (λ n. n.info.changeset) (λ o. unwrap_or o no_long) (λ v. Some v) ns c.changesets.items h.changesets some

pub changesets-missing : (b : Context) (c : DenseArrays) (ns : List NodeValue) → AreNodesOf b c ns → length c.changesets.items ≡ 0 → replicate (length c.ids.items) no_long ≡ map (λ n. changeset_of_element (elements.Node n)) ns
changesets-missing b c ns h none = missing (λ n. n.info.changeset) (λ o. unwrap_or o no_long) (λ v. Some v) ns c.changesets.items (length c.ids.items) h.changesets none (node-count b c ns h)

pub uids-there : (b : Context) (c : DenseArrays) (ns : List NodeValue) → AreNodesOf b c ns → 0 < length c.uids.items → c.uids.items ≡ map (λ n. uid_of_element (elements.Node n)) ns
uids-there b c ns h some = sym (map-id c.uids.items) ∙ there (λ n. n.info.uid) (λ o. unwrap_or o no_int) (λ v. Some v) ns c.uids.items h.uids some

pub uids-missing : (b : Context) (c : DenseArrays) (ns : List NodeValue) → AreNodesOf b c ns → length c.uids.items ≡ 0 → replicate (length c.ids.items) no_int ≡ map (λ n. uid_of_element (elements.Node n)) ns
uids-missing b c ns h none = missing (λ n. n.info.uid) (λ o. unwrap_or o no_int) (λ v. Some v) ns c.uids.items (length c.ids.items) h.uids none (node-count b c ns h)

pub flags-there : (b : Context) (c : DenseArrays) (ns : List NodeValue) → AreNodesOf b c ns → 0 < length c.visible.items → map (λ f. number_of_flag (Some f)) c.visible.items ≡ map (λ n. flag_of_element (elements.Node n)) ns
flags-there b c ns h some = there (λ n. n.info.visible) number_of_flag (λ v. Some v) ns c.visible.items h.visibles some

pub flags-missing : (b : Context) (c : DenseArrays) (ns : List NodeValue) → AreNodesOf b c ns → length c.visible.items ≡ 0 → replicate (length c.ids.items) 2 ≡ map (λ n. flag_of_element (elements.Node n)) ns
flags-missing b c ns h none = missing (λ n. n.info.visible) number_of_flag (λ v. Some v) ns c.visible.items (length c.ids.items) h.visibles none (node-count b c ns h)

-- ---- how many tags, references and members dense nodes have

pub same-map : {A B : Type 0} (f g : A → B) (same : (x : A) → f x ≡ g x) (xs : List A) → map f xs ≡ map g xs
same-map f g same [] = refl
same-map f g same (x ∷ xs) = ap (λ l. f x ∷ l) (same-map f g same xs) ∙ ap (λ y. y ∷ map g xs) (same x)

pub tag-counts : (b : Context) (c : DenseArrays) (ns : List NodeValue) → AreNodesOf b c ns → map (λ ps. length ps) (node_pairs (length c.ids.items) c.keys_vals.items) ≡ map (λ n. length (tags_of_element (elements.Node n))) ns
tag-counts b c ns h =
    let pairs : List (List Pair) = node_pairs (length ns) c.keys_vals.items in
    let counted : map (λ (ps : List Pair). length (texts_at b.table ps)) pairs ≡ map (λ (ps : List Pair). length ps) pairs = same-map (λ (ps : List Pair). length (texts_at b.table ps)) (λ ps. length ps) (λ ps. length-map ps _) pairs in
    let tagged : map (λ (n : NodeValue). length (all_there n.tags)) ns ≡ map (λ n. length n.tags) ns = same-map (λ (n : NodeValue). length (all_there n.tags)) (λ n. length n.tags) (λ n. length-map n.tags _) ns in
    ap (λ k. map (λ (ps : List Pair). length ps) (node_pairs k c.keys_vals.items)) (sym (node-count b c ns h))
    ∙ sym counted ∙ sym (mapped-twice (texts_at b.table) (λ ts. length ts) pairs) ∙ sym (ap (map (λ ts. length ts)) h.tags)
    ∙ mapped-twice (λ (n : NodeValue). all_there n.tags) (λ ts. length ts) ns ∙ tagged

pub sums-of-none : {N : Type 0} (end : ℕ) (ns : List N) → sums_from end (map (λ n. 0) ns) ≡ replicate (length ns) end
sums-of-none end [] = refl
sums-of-none end (n ∷ ns) =
    let same : end + 0 ≡ end = omega arith in
    ap (λ k. k ∷ sums_from k (map (λ m. 0) ns)) same ∙ ap (λ l. end ∷ l) (sums-of-none end ns)

pub sum-of-none : {N : Type 0} (ns : List N) → sum (map (λ n. 0) ns) ≡ 0
sum-of-none [] = refl
sum-of-none (n ∷ ns) = sum_by-cons (λ k. k) 0 (map (λ m. 0) ns) ∙ ap (λ k. 0 + k) (sum-of-none ns)
