-- A block is read back: the law of the canonical block.
use Rattle.std.proofs.Common.{◌≡◌, ℕ, suc, ◌-◌, ◌%◌, ◌^◌, ◌<◌, ◌==◌, List, [], ◌∷◌, ◌++◌, length, map, filter, refl, ap, ◌∙◌, sym, arith, ℤ, pos, Bool, true, false, not, ◌||◌, if◌then◌else◌, Option, Some, None, option_map, append_assoc, append-nil, subst, bytes_eq}
use Rattle.std.specs.Prelude.{option_to_list, unsigned_abs, unwrap_or}
use Rattle.std.specs.List.{AllByRecursion, flat_map, list_all}
use Rattle.std.proofs.lemmas.List.{length-append}
use Rattle.std.proofs.lemmas.Int.{ints}
use Rattle.std.proofs.lemmas.Str.{IsUtf8-nil}
use Rattle.std.proofs.lemmas.Slice.Eq.{bytes_eq-Decides}
use Rattle.std.proofs.lemmas.Bool.{and_parts, true≢false, eqb-true}
use Rattle.pbf_wire.specs.Field.{Entry}
use Rattle.pbf_wire.specs.Readings.{fields, wire, int32, int64, last, each, sub}
use Rattle.osm_value.specs.declared.element.Element.{Element}
use Rattle.osm_value.specs.declared.element.Element.TheVariants as elements
use Rattle.osm_value.specs.Elements.{IsElement, info_of_element}
use Rattle.osm_value.specs.Value.{Text, InfoValue, MemberValue}
use Rattle.osm_value.specs.Ranges.{IsText, IsTextOrNone, IsInfo, AreTags, IsMember}
use Rattle.osm_value.proofs.Ranges.{all_append, all_front, all_back, all_mapped, all_weaker}
use Rattle.osm_block.specs.declared.fields.TheConstants.{BLOCK_DATE_GRANULARITY, BLOCK_GRANULARITY, BLOCK_LAT_OFFSET, BLOCK_LON_OFFSET, BLOCK_PRIMITIVEGROUP, BLOCK_STRINGTABLE, STRINGTABLE_S}
use Rattle.osm_block.specs.Message.{Context, context}
use Rattle.osm_block.specs.Block.{Block, GroupOf, Joins}
use Rattle.osm_write.specs.Canon.{Scale, number_field, bytes_field, optional, tag_texts, texts_of, first_uses, index_in, coordinates_of, divisor, scale_of, groups_of, group_bytes, granularity_field, block_bytes, canon}
use Rattle.osm_write.specs.Texts.{has}
use Rattle.osm_write.specs.Laws.{FewTexts, ReadsBack}
use Rattle.osm_write.proofs.TextsRead.{text_at_index, first_uses_has}
use Rattle.osm_write.proofs.GroupsJoin.{groups_join}
use Rattle.osm_write.proofs.Values.{int32_read, Whole, whole_one, whole_of}
use Rattle.osm_write.proofs.Known.{context_of, IsKnown, IsScale, keys_known, values_known}
use Rattle.osm_write.proofs.Pieces.{bytes_entry}
use Rattle.osm_write.proofs.Segments.{Segment, IsSegment, optional_segment, optional_entries, is_optional_segment, optional_last, repeated_segment, is_repeated_segment, repeated_each, message_read, entries_of, bytes_in, each_at, last_at}
use Rattle.osm_write.proofs.InfoRead.{IsWritten}
use Rattle.osm_write.proofs.GroupRead.{ElementIsKnown, each_short, group_read}
use Rattle.osm_write.proofs.RunsRead.{IsRun, groups_are_runs}

-- ---- the texts of the table

index_below : (ts : List Text) (t : Text) → has ts t ≡ true → index_in t ts < length ts
index_below [] t e = absurd (true≢false (sym e))
index_below (u ∷ us) t e = by (bytes_eq u t) (index_below us t) e
  where
    by : (b : Bool) → (has us t ≡ true → index_in t us < length us) → (b || has us t) ≡ true → (if b then 0 else suc (index_in t us)) < suc (length us)
    by true again h = omega arith
    by false again h = let lt = again h in omega arith

has_self : (us : List Text) (t : Text) → has (t ∷ us) t ≡ true
has_self us t = let e : bytes_eq t t ≡ true = (bytes_eq-Decides t t).1 refl in rw e refl

has_more : (u : Text) (us : List Text) (t : Text) → has us t ≡ true → has (u ∷ us) t ≡ true
has_more u us t e = by (bytes_eq u t)
  where
    by : (b : Bool) → (b || has us t) ≡ true
    by true = refl
    by false = e

pub all_had : (all us : List Text) → ((t : Text) → has us t ≡ true → has all t ≡ true) → AllByRecursion (λ t. has all t ≡ true) us
all_had all [] h = tt
all_had all (u ∷ us) h = (h u (has_self us u), all_had all us (λ t e. h t (has_more u us t e)))

known : (s : Scale) (us : List Text) (t : Text) → s.texts ≡ first_uses us → length (first_uses us) < 2 ^ 31 - 1 → has us t ≡ true → IsKnown s t
known s us t is few e =
    let there : has s.texts t ≡ true = rw is (first_uses_has us t e) in
    let p = index_below s.texts t there in
    let l = ap length is in
    record { small = omega arith; text_is = text_at_index s us t is e }

pub all_known : (s : Scale) (us : List Text) → s.texts ≡ first_uses us → length (first_uses us) < 2 ^ 31 - 1 → AllByRecursion (IsKnown s) us
all_known s us is few = all_weaker (λ t. has us t ≡ true) (IsKnown s) us (λ t e. known s us t is few e) (all_had us us (λ t e. e))

-- ---- granularities

equal_of : (n m : ℕ) → (n == m) ≡ true → n ≡ m
equal_of n m e = eqb-true n m e

wholes : (n : ℕ) (zs : List ℤ) → list_all (λ z. unsigned_abs z % n == 0) zs ≡ true → AllByRecursion (Whole n) zs
wholes n [] e = tt
wholes n (z ∷ zs) e = let p = and_parts (unsigned_abs z % n == 0) _ e in (whole_of n z (equal_of _ _ p.0), wholes n zs p.1)

ones : (zs : List ℤ) → AllByRecursion (Whole 1) zs
ones [] = tt
ones (z ∷ zs) = (whole_one z, ones zs)

divisor_whole : (n : ℕ) (zs : List ℤ) → AllByRecursion (Whole (divisor n zs)) zs
divisor_whole n zs = by (list_all (λ z. unsigned_abs z % n == 0) zs) refl
  where
    by : (b : Bool) → list_all (λ z. unsigned_abs z % n == 0) zs ≡ b → AllByRecursion (Whole (if b then n else 1)) zs
    by true e = wholes n zs e
    by false e = ones zs

record IsDivisor (n : ℕ) : Type 0 where
  pub some : 0 < n
  pub small : n < 2 ^ 31

divisor_is : (n : ℕ) (zs : List ℤ) → IsDivisor n → IsDivisor (divisor n zs)
divisor_is n zs h = by (list_all (λ z. unsigned_abs z % n == 0) zs)
  where
    by : (b : Bool) → IsDivisor (if b then n else 1)
    by true = h
    by false = record { some = omega arith; small = omega arith }

-- ---- each element is known

abbrev pub times_of : Element → List ℤ
times_of e = option_to_list (info_of_element e).time

info_known : (s : Scale) (i : InfoValue) → IsInfo i → AllByRecursion (IsKnown s) (option_to_list i.user) → AllByRecursion (Whole s.date_granularity) (option_to_list i.time) → IsWritten s i
info_known s i h user time = record { in_range = h; user = user; time = time }

element_known : (s : Scale) (e : Element) → IsElement e → AllByRecursion (IsKnown s) (texts_of e) → AllByRecursion (Whole s.granularity) (coordinates_of e) → AllByRecursion (Whole s.date_granularity) (times_of e)
    → ElementIsKnown s e
element_known s (elements.Node n) h texts coordinates times =
    let tags = all_front (IsKnown s) (tag_texts n.tags) (option_to_list n.info.user) texts in
    record {
      in_range = h;
      keys = keys_known s n.tags tags;
      values = values_known s n.tags tags;
      info = info_known s n.info h.info (all_back (IsKnown s) (tag_texts n.tags) (option_to_list n.info.user) texts) times;
      lat = coordinates.0;
      lon = coordinates.1.0;
    }
element_known s (elements.Way w) h texts coordinates times =
    let tags = all_front (IsKnown s) (tag_texts w.tags) (option_to_list w.info.user) texts in
    record {
      in_range = h;
      head = record { keys = keys_known s w.tags tags; values = values_known s w.tags tags };
      info = info_known s w.info h.info (all_back (IsKnown s) (tag_texts w.tags) (option_to_list w.info.user) texts) times;
    }
element_known s (elements.Relation r) h texts coordinates times =
    let roles : List Text = map (λ (m : MemberValue). m.role) r.members in
    let front = all_front (IsKnown s) (tag_texts r.tags ++ option_to_list r.info.user) roles texts in
    let tags = all_front (IsKnown s) (tag_texts r.tags) (option_to_list r.info.user) front in
    record {
      in_range = h;
      head = record { keys = keys_known s r.tags tags; values = values_known s r.tags tags };
      info = info_known s r.info h.info (all_back (IsKnown s) (tag_texts r.tags) (option_to_list r.info.user) front) times;
      roles = all_mapped (IsKnown s) (λ (m : MemberValue). m.role) r.members (all_back (IsKnown s) (tag_texts r.tags ++ option_to_list r.info.user) roles texts);
    }

elements_known : (s : Scale) (es : List Element) → AllByRecursion IsElement es → AllByRecursion (IsKnown s) (flat_map texts_of es) → AllByRecursion (Whole s.granularity) (flat_map coordinates_of es)
    → AllByRecursion (Whole s.date_granularity) (flat_map times_of es) → AllByRecursion (ElementIsKnown s) es
elements_known s [] h texts coordinates times = tt
elements_known s (e ∷ es) h texts coordinates times = (
  element_known s e h.0 (all_front _ _ _ texts) (all_front _ _ _ coordinates) (all_front _ _ _ times),
  elements_known s es h.1 (all_back _ (texts_of e) _ texts) (all_back _ (coordinates_of e) _ coordinates) (all_back _ (times_of e) _ times),
)

-- ---- groups

abbrev grouped : List (List Element) → List Element
grouped gs = flat_map (λ g. g) gs

groups_joined : (s : Scale) (gs : List (List Element)) → IsScale s → AllByRecursion (ElementIsKnown s) (grouped gs) → AllByRecursion IsRun gs
    → AllByRecursion (λ (bs : List ℕ). length bs < 2 ^ 64) (map (group_bytes s) gs) → Joins (GroupOf (context_of s)) (grouped gs) (map (group_bytes s) gs)
groups_joined s [] sc all runs short = refl
groups_joined s (g ∷ gs) sc all runs short = (
  g,
  grouped gs,
  refl,
  group_read s g sc (all_front (ElementIsKnown s) g (grouped gs) all) runs.0 short.0,
  groups_joined s gs sc (all_back (ElementIsKnown s) g (grouped gs) all) runs.1 short.1,
)

-- ---- texts

tags_texts : (tags : List (Text × Text)) → AreTags tags → AllByRecursion IsText (tag_texts tags)
tags_texts [] all = tt
tags_texts (t ∷ tags) all = (all.0.0, (all.0.1, tags_texts tags all.1))

user_text : (o : Option Text) → IsTextOrNone o → AllByRecursion IsText (option_to_list o)
user_text None h = tt
user_text (Some t) h = (h, tt)

roles_texts : (ms : List MemberValue) → AllByRecursion IsMember ms → AllByRecursion IsText (map (λ (m : MemberValue). m.role) ms)
roles_texts [] all = tt
roles_texts (m ∷ ms) all = (all.0.role, roles_texts ms all.1)

element_texts : (e : Element) → IsElement e → AllByRecursion IsText (texts_of e)
element_texts (elements.Node n) h = all_append IsText _ _ (tags_texts n.tags h.tags) (user_text n.info.user h.info.user)
element_texts (elements.Way w) h = all_append IsText _ _ (tags_texts w.tags h.tags) (user_text w.info.user h.info.user)
element_texts (elements.Relation r) h = all_append IsText _ _ (all_append IsText _ _ (tags_texts r.tags h.tags) (user_text r.info.user h.info.user)) (roles_texts r.members h.members)

all_texts : (es : List Element) → AllByRecursion IsElement es → AllByRecursion IsText (flat_map texts_of es)
all_texts [] all = tt
all_texts (e ∷ es) all = all_append IsText _ _ (element_texts e all.0) (all_texts es all.1)

all_filter : {A : Type 0} (P : A → Type 0) (p : A → Bool) (xs : List A) → AllByRecursion P xs → AllByRecursion P (filter p xs)
all_filter P p [] all = tt
all_filter P p (x ∷ xs) all = by (p x) (all_filter P p xs all.1)
  where
    by : (b : Bool) → AllByRecursion P (filter p xs) → AllByRecursion P (if b then x ∷ filter p xs else filter p xs)
    by true again = (all.0, again)
    by false again = again

uses_texts : (us : List Text) → AllByRecursion IsText us → AllByRecursion IsText (first_uses us)
uses_texts [] all = tt
uses_texts (u ∷ us) all = (all.0, all_filter IsText (λ v. not (bytes_eq v u)) (first_uses us) (uses_texts us all.1))

-- ---- the block

abbrev table_bytes : Scale → List ℕ
table_bytes s = flat_map (bytes_field STRINGTABLE_S) ([] ∷ s.texts)

abbrev unless : ℕ → ℕ → Option ℕ
unless default n = if n == default then None else Some n

abbrev block_segments : Scale → List Element → List Segment
block_segments s es = repeated_segment BLOCK_STRINGTABLE (table_bytes s ∷ []) ∷ repeated_segment BLOCK_PRIMITIVEGROUP (map (group_bytes s) (groups_of es)) ∷ optional_segment BLOCK_GRANULARITY (unless 100 s.granularity)
    ∷ optional_segment BLOCK_DATE_GRANULARITY (unless 1000 s.date_granularity) ∷ []

granularity_is : (k default n : ℕ) → granularity_field k default n ≡ optional (number_field k) (unless default n)
granularity_is k default n = by (n == default)
  where
    by : (b : Bool) → (if b then [] else number_field k n) ≡ optional (number_field k) (if b then None else Some n)
    by true = refl
    by false = refl

mapped_groups : (s : Scale) (gs : List (List Element)) → flat_map (λ g. bytes_field BLOCK_PRIMITIVEGROUP (group_bytes s g)) gs ≡ flat_map (bytes_field BLOCK_PRIMITIVEGROUP) (map (group_bytes s) gs)
mapped_groups s [] = refl
mapped_groups s (g ∷ gs) = ap (λ xs. bytes_field BLOCK_PRIMITIVEGROUP (group_bytes s g) ++ xs) (mapped_groups s gs)

four_parts : (a b c d : List ℕ) → a ++ b ++ c ++ d ≡ (a ++ []) ++ (b ++ (c ++ (d ++ [])))
four_parts a b c d = simp (append_assoc, append-nil)

bytes_are : (s : Scale) (es : List Element) → block_bytes s es ≡ bytes_in (block_segments s es)
bytes_are s es =
    rw (mapped_groups s (groups_of es), granularity_is BLOCK_GRANULARITY 100 s.granularity, granularity_is BLOCK_DATE_GRANULARITY 1000 s.date_granularity)
    (four_parts (bytes_field BLOCK_STRINGTABLE (table_bytes s)) (flat_map (bytes_field BLOCK_PRIMITIVEGROUP) (map (group_bytes s) (groups_of es))) (optional (number_field BLOCK_GRANULARITY) (unless 100 s.granularity)) (optional (number_field BLOCK_DATE_GRANULARITY) (unless 1000 s.date_granularity)))

unless_fits : (default n : ℕ) → n < 2 ^ 31 → AllByRecursion (λ m. m < 2 ^ 64) (option_to_list (unless default n))
unless_fits default n small = by (n == default)
  where
    by : (b : Bool) → AllByRecursion (λ m. m < 2 ^ 64) (option_to_list (if b then None else Some n))
    by true = tt
    by false = (omega arith, tt)

-- the granularity that is read
unless_read : (default n : ℕ) → n < 2 ^ 31 → unwrap_or (option_map int32 (unless default n)) (pos default) ≡ pos n
unless_read default n small = by (n == default) refl
  where
    by : (b : Bool) → (n == default) ≡ b → unwrap_or (option_map int32 (if b then None else Some n)) (pos default) ≡ pos n
    by true e = ap pos (sym (equal_of n default e))
    by false e = int32_read n small

record BlockIsWritten (s : Scale) (es : List Element) : Type 0 where
  pub scale : IsScale s
  pub known : AllByRecursion (ElementIsKnown s) es
  pub texts : AllByRecursion IsText s.texts
  pub short : length (block_bytes s es) < 2 ^ 64

block_all : (s : Scale) (es : List Element) → BlockIsWritten s es → AllByRecursion IsSegment (block_segments s es)
block_all s es h =
    let T : List ℕ = bytes_field BLOCK_STRINGTABLE (table_bytes s) in
    let G : List ℕ = flat_map (bytes_field BLOCK_PRIMITIVEGROUP) (map (group_bytes s) (groups_of es)) in
    let short : length (block_bytes s es) < 2 ^ 64 = h.short in
    let l = ap length (bytes_are s es) in
    let p = length-append (T ++ []) (G ++ (optional (number_field BLOCK_GRANULARITY) (unless 100 s.granularity) ++ (optional (number_field BLOCK_DATE_GRANULARITY) (unless 1000 s.date_granularity) ++ []))) in
    let q = length-append G (optional (number_field BLOCK_GRANULARITY) (unless 100 s.granularity) ++ (optional (number_field BLOCK_DATE_GRANULARITY) (unless 1000 s.date_granularity) ++ [])) in
    let table : length (T ++ []) < 2 ^ 64 = omega arith in
    let groups : length G < 2 ^ 64 = omega arith in (
      is_repeated_segment BLOCK_STRINGTABLE refl (omega arith) (table_bytes s ∷ []) (each_short BLOCK_STRINGTABLE (table_bytes s ∷ []) table),
      (
        is_repeated_segment BLOCK_PRIMITIVEGROUP refl (omega arith) (map (group_bytes s) (groups_of es)) (each_short BLOCK_PRIMITIVEGROUP (map (group_bytes s) (groups_of es)) groups),
        (
          is_optional_segment BLOCK_GRANULARITY refl (omega arith) (unless 100 s.granularity) (unless_fits 100 s.granularity h.scale.small),
          (is_optional_segment BLOCK_DATE_GRANULARITY refl (omega arith) (unless 1000 s.date_granularity) (unless_fits 1000 s.date_granularity h.scale.date_small), tt),
        ),
      ),
    )

groups_short : (s : Scale) (es : List Element) → BlockIsWritten s es → AllByRecursion (λ (bs : List ℕ). length bs < 2 ^ 64) (map (group_bytes s) (groups_of es))
groups_short s es h =
    let T : List ℕ = bytes_field BLOCK_STRINGTABLE (table_bytes s) in
    let G : List ℕ = flat_map (bytes_field BLOCK_PRIMITIVEGROUP) (map (group_bytes s) (groups_of es)) in
    let short : length (block_bytes s es) < 2 ^ 64 = h.short in
    let l = ap length (bytes_are s es) in
    let p = length-append (T ++ []) (G ++ (optional (number_field BLOCK_GRANULARITY) (unless 100 s.granularity) ++ (optional (number_field BLOCK_DATE_GRANULARITY) (unless 1000 s.date_granularity) ++ []))) in
    let q = length-append G (optional (number_field BLOCK_GRANULARITY) (unless 100 s.granularity) ++ (optional (number_field BLOCK_DATE_GRANULARITY) (unless 1000 s.date_granularity) ++ [])) in
    each_short BLOCK_PRIMITIVEGROUP (map (group_bytes s) (groups_of es)) (omega arith)

-- the string table as a message
table_short : (s : Scale) (es : List Element) → BlockIsWritten s es → length (table_bytes s) < 2 ^ 64
table_short s es h =
    let T : List ℕ = bytes_field BLOCK_STRINGTABLE (table_bytes s) in
    let rest : List ℕ = flat_map (bytes_field BLOCK_PRIMITIVEGROUP) (map (group_bytes s) (groups_of es)) ++ (optional (number_field BLOCK_GRANULARITY) (unless 100 s.granularity) ++ (optional (number_field BLOCK_DATE_GRANULARITY) (unless 1000 s.date_granularity) ++ [])) in
    let short : length (block_bytes s es) < 2 ^ 64 = h.short in
    let l = ap length (bytes_are s es) in
    let p = length-append (T ++ []) rest in
    let table : length (T ++ []) < 2 ^ 64 = omega arith in
    (each_short BLOCK_STRINGTABLE (table_bytes s ∷ []) table).0

abbrev made_context : List Text → ℤ → ℤ → ℤ → ℤ → Context
made_context t g d la lo = record { table = t; granularity = g; date_granularity = d; lat_offset = la; lon_offset = lo }

record IsTable (s : Scale) (w : List ℕ) : Type 0 where
  pub sound : wire w ≡ None
  pub texts_are : each (fields w) STRINGTABLE_S ≡ [] ∷ s.texts

table_read : (s : Scale) → length (table_bytes s) < 2 ^ 64 → IsTable s (table_bytes s)
table_read s short =
    let ss : List Segment = repeated_segment STRINGTABLE_S ([] ∷ s.texts) ∷ [] in
    let whole : AllByRecursion IsSegment ss = (is_repeated_segment STRINGTABLE_S refl (omega arith) ([] ∷ s.texts) (each_short STRINGTABLE_S ([] ∷ s.texts) short), tt) in
    let m = message_read ss (table_bytes s) (sym (append-nil _)) whole in
    let e = each_at ss whole STRINGTABLE_S (map (bytes_entry STRINGTABLE_S) ([] ∷ s.texts)) (append-nil _) ∙ repeated_each STRINGTABLE_S ([] ∷ s.texts) in
    record { sound = m.sound; texts_are = ap (λ (fs : List Entry). each fs STRINGTABLE_S) m.fields_are ∙ e }

-- what is read of the block's own fields
record IsBlock (s : Scale) (es : List Element) (fs : List Entry) : Type 0 where
  pub table_is : each fs BLOCK_STRINGTABLE ≡ table_bytes s ∷ []
  pub groups_are : each fs BLOCK_PRIMITIVEGROUP ≡ map (group_bytes s) (groups_of es)
  pub granularity_is : last fs BLOCK_GRANULARITY ≡ unless 100 s.granularity
  pub date_granularity_is : last fs BLOCK_DATE_GRANULARITY ≡ unless 1000 s.date_granularity
  pub lat_offset_is : last fs BLOCK_LAT_OFFSET ≡ None
  pub lon_offset_is : last fs BLOCK_LON_OFFSET ≡ None

block_fields : (s : Scale) (es : List Element) → BlockIsWritten s es → IsBlock s es (entries_of (block_segments s es))
block_fields s es h =
    let ss : List Segment = block_segments s es in
    let whole = block_all s es h in
    record {
      table_is = each_at ss whole BLOCK_STRINGTABLE (bytes_entry BLOCK_STRINGTABLE (table_bytes s) ∷ []) refl ∙ repeated_each BLOCK_STRINGTABLE (table_bytes s ∷ []);
      groups_are = each_at ss whole BLOCK_PRIMITIVEGROUP (map (bytes_entry BLOCK_PRIMITIVEGROUP) (map (group_bytes s) (groups_of es))) (append-nil _) ∙ repeated_each BLOCK_PRIMITIVEGROUP (map (group_bytes s) (groups_of es));
      granularity_is = last_at ss whole BLOCK_GRANULARITY (optional_entries BLOCK_GRANULARITY (unless 100 s.granularity)) (append-nil _) ∙ optional_last BLOCK_GRANULARITY (unless 100 s.granularity);
      date_granularity_is = last_at ss whole BLOCK_DATE_GRANULARITY (optional_entries BLOCK_DATE_GRANULARITY (unless 1000 s.date_granularity)) (append-nil _) ∙ optional_last BLOCK_DATE_GRANULARITY (unless 1000 s.date_granularity);
      lat_offset_is = last_at ss whole BLOCK_LAT_OFFSET [] refl;
      lon_offset_is = last_at ss whole BLOCK_LON_OFFSET [] refl;
    }

context_read : (s : Scale) (es : List Element) (fs : List Entry) → IsScale s → IsBlock s es fs → IsTable s (table_bytes s) → context fs ≡ context_of s
context_read s es fs sc h t =
    let a : each (sub fs BLOCK_STRINGTABLE) STRINGTABLE_S ≡ [] ∷ s.texts = rw h.table_is (rw (append-nil (fields (table_bytes s))) t.texts_are) in
    let b : unwrap_or (option_map int32 (last fs BLOCK_GRANULARITY)) (pos 100) ≡ pos s.granularity = rw h.granularity_is (unless_read 100 s.granularity sc.small) in
    let c : unwrap_or (option_map int32 (last fs BLOCK_DATE_GRANULARITY)) (pos 1000) ≡ pos s.date_granularity = rw h.date_granularity_is (unless_read 1000 s.date_granularity sc.date_small) in
    let d : unwrap_or (option_map int64 (last fs BLOCK_LAT_OFFSET)) (pos 0) ≡ pos 0 = rw h.lat_offset_is refl in
    let e : unwrap_or (option_map int64 (last fs BLOCK_LON_OFFSET)) (pos 0) ≡ pos 0 = rw h.lon_offset_is refl in
    same_context _ _ _ _ _ _ _ _ _ _ a b c d e
  where
    same_context : (ta tb : List Text) (ga gb da db la lb oa ob : ℤ) → ta ≡ tb → ga ≡ gb → da ≡ db → la ≡ lb → oa ≡ ob
        → made_context ta ga da la oa ≡ made_context tb gb db lb ob
    same_context ta tb ga gb da db la lb oa ob e1 e2 e3 e4 e5 = rw (e1, e2, e3, e4, e5) refl

block_written : (s : Scale) (es : List Element) → BlockIsWritten s es → Block es (block_bytes s es)
block_written s es h =
    let ss : List Segment = block_segments s es in
    let m = message_read ss (block_bytes s es) (bytes_are s es) (block_all s es h) in
    let t = table_read s (table_short s es h) in
    let f = subst (IsBlock s es) (sym m.fields_are) (block_fields s es h) in
    let c = context_read s es (fields (block_bytes s es)) h.scale f t in
    let known : AllByRecursion (ElementIsKnown s) (grouped (groups_of es)) = subst (λ (xs : List Element). AllByRecursion (ElementIsKnown s) xs) (sym (groups_join es)) h.known in
    let joins = groups_joined s (groups_of es) h.scale known (groups_are_runs es) (groups_short s es h) in
    let J : List Element → Type 0 = λ xs. Joins (GroupOf (context_of s)) xs (map (group_bytes s) (groups_of es)) in
    let whole : J es = subst J (groups_join es) joins in
    let K : List (List ℕ) → Type 0 = λ gs. Joins (GroupOf (context_of s)) es gs in
    let L : Context → Type 0 = λ b. Joins (GroupOf b) es (each (fields (block_bytes s es)) BLOCK_PRIMITIVEGROUP) in
    let some = h.scale.some in
    let date_some = h.scale.date_some in
    record {
      is_message = m.sound;
      has_table = rw f.table_is refl;
      tables_are = rw f.table_is (t.sound, tt);
      texts_are = rw (ap (λ (b : Context). b.table) c) (record { utf8 = IsUtf8-nil; no_nul = refl }, h.texts);
      granularity = rw (ap (λ (b : Context). b.granularity) c) (search (arith, ints));
      date_granularity = rw (ap (λ (b : Context). b.date_granularity) c) (search (arith, ints));
      elements_are = subst L (sym c) (subst K (sym f.groups_are) whole);
    }

scale_is : (es : List Element) → IsScale (scale_of es)
unfolding scale_of
scale_is es =
    let a = divisor_is 100 (flat_map coordinates_of es) (record { some = omega arith; small = omega arith }) in
    let b = divisor_is 1000 (flat_map times_of es) (record { some = omega arith; small = omega arith }) in
    record { some = a.some; small = a.small; date_some = b.some; date_small = b.small }

pub texts_are : (es : List Element) → (scale_of es).texts ≡ first_uses (flat_map texts_of es)
unfolding scale_of
texts_are es = refl

coordinates_are : (es : List Element) → AllByRecursion (Whole (scale_of es).granularity) (flat_map coordinates_of es)
unfolding scale_of
coordinates_are es = divisor_whole 100 (flat_map coordinates_of es)

times_are : (es : List Element) → AllByRecursion (Whole (scale_of es).date_granularity) (flat_map times_of es)
unfolding scale_of
times_are es = divisor_whole 1000 (flat_map times_of es)

block_is_written : (es : List Element) → AllByRecursion IsElement es → FewTexts es → length (block_bytes (scale_of es) es) < 2 ^ 64 → BlockIsWritten (scale_of es) es
block_is_written es ranges few short =
    let s : Scale = scale_of es in
    record {
      scale = scale_is es;
      known = elements_known s es ranges (all_known s (flat_map texts_of es) (texts_are es) few) (coordinates_are es) (times_are es);
      texts = rw (texts_are es) (uses_texts (flat_map texts_of es) (all_texts es ranges));
      short = short;
    }

-- the canonical block of a list says that list
pub reads_back : (es : List Element) → ReadsBack es
unfolding canon
reads_back es ranges few short = block_written (scale_of es) es (block_is_written es ranges few short)
