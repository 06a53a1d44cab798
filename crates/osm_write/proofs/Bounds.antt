-- A block that isn't too large uses few texts.
use Rattle.std.proofs.Common.{◌≡◌, ℕ, ◌+◌, ◌*◌, ◌^◌, ◌<◌, ◌≤◌, List, [], ◌∷◌, ◌++◌, length, take, get_or, ap, ◌∙◌, sym, arith, subst, Vec, Result, Ok, Err, IfOk, OnOk}
use Rattle.std.specs.List.{AllByRecursion, flat_map}
use Rattle.std.proofs.lemmas.List.{length-append, take_more}
use Rattle.osm_value.specs.declared.element.Element.{Element}
use Rattle.osm_value.specs.Elements.{IsElement}
use Rattle.osm_value.specs.Value.{Text}
use Rattle.osm_value.proofs.Ranges.{all_push}
use Rattle.osm_block.specs.declared.fields.TheConstants.{BLOCK_DATE_GRANULARITY, BLOCK_GRANULARITY, BLOCK_PRIMITIVEGROUP, BLOCK_STRINGTABLE, STRINGTABLE_S}
use Rattle.osm_block.specs.Block.{Block}
use Rattle.osm_write.specs.declared.block.TheConstants.{MAX_BLOCK_LEN}
use Rattle.osm_write.specs.Canon.{Scale, number, bytes_field, granularity_field, group_bytes, groups_of, scale_of, block_bytes, canon}
use Rattle.osm_write.specs.Laws.{FewTexts}
use Rattle.osm_write.proofs.Pieces.{number_starts}
use Rattle.osm_write.proofs.BlockRead.{reads_back, texts_are}

-- one more that passes
pub all_more : {A : Type 0} (P : A → Type 0) (xs : List A) (i : ℕ) (x : A) → i < length xs → x ≡ get_or xs i x → P x → AllByRecursion P (take i xs) → AllByRecursion P (take (i + 1) xs)
all_more P xs i x within is here all = rw (take_more xs i x within) (all_push P (take i xs) (get_or xs i x) all (subst P is here))

-- a text takes two bytes or more
text_long : (t : Text) → 2 ≤ length (bytes_field STRINGTABLE_S t)
text_long t =
    let a = number_starts (8 * STRINGTABLE_S + 2) in
    let b = number_starts (length t) in
    let c : length (number (8 * STRINGTABLE_S + 2)) ≡ 1 + length a.1 = ap length a.2 ∙ omega arith in
    let d : length (number (length t)) ≡ 1 + length b.1 = ap length b.2 ∙ omega arith in
    let e = length-append (number (8 * STRINGTABLE_S + 2) ++ number (length t)) t in
    let f = length-append (number (8 * STRINGTABLE_S + 2)) (number (length t)) in
    omega arith

texts_long : (ts : List Text) → 2 * length ts ≤ length (flat_map (bytes_field STRINGTABLE_S) ts)
texts_long [] = omega arith
texts_long (t ∷ ts) =
    let a = text_long t in
    let b = texts_long ts in
    let c = length-append (bytes_field STRINGTABLE_S t) (flat_map (bytes_field STRINGTABLE_S) ts) in
    omega arith

table_long : (s : Scale) (es : List Element) → 2 * length s.texts ≤ length (block_bytes s es)
table_long s es =
    let T : List ℕ = flat_map (bytes_field STRINGTABLE_S) ([] ∷ s.texts) in
    let G : List ℕ = flat_map (λ g. bytes_field BLOCK_PRIMITIVEGROUP (group_bytes s g)) (groups_of es) in
    let a = texts_long s.texts in
    let b = length-append (bytes_field STRINGTABLE_S []) (flat_map (bytes_field STRINGTABLE_S) s.texts) in
    let c = length-append (number (8 * BLOCK_STRINGTABLE + 2) ++ number (length T)) T in
    let d = length-append (bytes_field BLOCK_STRINGTABLE T) G in
    let e = length-append (bytes_field BLOCK_STRINGTABLE T ++ G) (granularity_field BLOCK_GRANULARITY 100 s.granularity) in
    let f = length-append (bytes_field BLOCK_STRINGTABLE T ++ G ++ granularity_field BLOCK_GRANULARITY 100 s.granularity) (granularity_field BLOCK_DATE_GRANULARITY 1000 s.date_granularity) in
    omega arith

-- of a list whose block has at most the bytes of a raw payload
pub few_texts : (es : List Element) → length (canon es) ≤ MAX_BLOCK_LEN → FewTexts es
unfolding canon
few_texts es short =
    let a = table_long (scale_of es) es in
    let b = ap length (texts_are es) in
    omega arith

pub block_is_read_back : (es : List Element) (v : List ℕ) → v ≡ canon es → length v ≤ MAX_BLOCK_LEN → AllByRecursion IsElement es → Block es v
block_is_read_back es v is short ranges =
    let l = ap length is in
    subst (Block es) (sym is) (reads_back es ranges (few_texts es (omega arith)) (omega arith))

pub one_is_read_back : (es : List Element) (v : List ℕ) → v ≡ canon es → length v < 2 ^ 63 → AllByRecursion IsElement es → FewTexts es → Block es v
one_is_read_back es v is short ranges few =
    let l = ap length is in
    subst (Block es) (sym is) (reads_back es ranges few (omega arith))

-- a vector has fewer than 2^63 bytes
pub answer_is_read_back : {Z E : Type 0} (es xs : List Element) (r : Result (Vec ℕ Z) E) → xs ≡ es → IfOk r (λ v. v.items ≡ canon xs) → OnOk r (AllByRecursion IsElement xs)
    → IfOk r (λ v. FewTexts es → Block es v.items)
answer_is_read_back es xs (Ok v) same is ranges =
    let len = v.ok.0 in
    let within = v.ok.1 in
    let small = v.small in
    λ few. one_is_read_back es v.items (is ∙ ap canon same) (omega arith) (subst (AllByRecursion IsElement) same ranges) few
answer_is_read_back es xs (Err e) same is ranges = is
