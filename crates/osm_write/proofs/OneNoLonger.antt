-- The block of a list is at least as long as that of its first element alone.
use Rattle.std.proofs.Common.{◌≡◌, ℕ, zero, suc, ◌+◌, ◌≤◌, ◌==◌, List, [], ◌∷◌, ◌++◌, length, take, refl, ap, arith, Bool, true, false, if◌then◌else◌, eq-eqb, inl, inr}
use Rattle.std.specs.List.{AllByRecursion, flat_map}
use Rattle.std.proofs.lemmas.List.{length-append}
use Rattle.std.proofs.lemmas.Grind.{flat_map-append}
use Rattle.osm_value.specs.declared.element.Element.{Element}
use Rattle.osm_value.specs.Elements.{IsElement}
use Rattle.osm_value.specs.Value.{Text}
use Rattle.pbf_wire.specs.Write.{shortest_within, shortest}
use Rattle.osm_block.specs.declared.fields.TheConstants.{BLOCK_DATE_GRANULARITY, BLOCK_GRANULARITY, BLOCK_PRIMITIVEGROUP, BLOCK_STRINGTABLE, STRINGTABLE_S}
use Rattle.osm_write.specs.declared.block.TheConstants.{MAX_BLOCK_LEN}
use Rattle.osm_write.specs.Canon.{Scale, bytes_field, fit_together, put_before, groups_of, group_bytes, granularity_field, scale_of, block_bytes, canon}
use Rattle.osm_write.specs.Cutter.{FirstFits}
use Rattle.osm_write.proofs.Coarser.{Coarser}
use Rattle.osm_write.proofs.NumberLengths.{Finer, bytes_field_no_longer}
use Rattle.osm_write.proofs.ScaleNoLonger.{more_texts, coarser}
use Rattle.osm_write.proofs.GroupNoLonger.{group_no_longer}

-- ---- the table and the granularities

abbrev table_bytes : List Text → List ℕ
table_bytes ts = flat_map (bytes_field STRINGTABLE_S) ([] ∷ ts)

table_no_longer : (ts all more : List Text) → all ≡ ts ++ more → length (bytes_field BLOCK_STRINGTABLE (table_bytes ts)) ≤ length (bytes_field BLOCK_STRINGTABLE (table_bytes all))
table_no_longer ts all more is =
    let a = ap (λ xs. length (table_bytes xs)) is in
    let b = ap length (flat_map-append (bytes_field STRINGTABLE_S) ([] ∷ ts) more) in
    let c = length-append (table_bytes ts) (flat_map (bytes_field STRINGTABLE_S) more) in
    (bytes_field_no_longer BLOCK_STRINGTABLE (table_bytes ts) (table_bytes all) (record { le = omega arith })).le

granularity_no_longer : (k default one all : ℕ) → Finer default one all → length (granularity_field k default one) ≤ length (granularity_field k default all)
granularity_no_longer k default one all (inl same) = rw same (omega arith)
granularity_no_longer k default one all (inr apart) = let test : (one == default) ≡ true = eq-eqb one default apart.0 in rw test (omega arith)

-- ---- the groups

-- the element, and what is in its group, and the further groups
abbrev Begins : Element → List (List Element) → Type 0
Begins e gs = (g : List Element) × (more : List (List Element)) × (gs ≡ (e ∷ g) ∷ more)

put_begins : (e : Element) (gs : List (List Element)) → Begins e (put_before e gs)
put_begins e [] = ([], [], refl)
put_begins e ([] ∷ gs) = ([], [] ∷ gs, refl)
put_begins e ((f ∷ g) ∷ gs) = by (fit_together e f)
  where
    by : (b : Bool) → Begins e (if b then (e ∷ f ∷ g) ∷ gs else (e ∷ []) ∷ (f ∷ g) ∷ gs)
    by true = (f ∷ g, gs, refl)
    by false = ([], (f ∷ g) ∷ gs, refl)

abbrev all_groups : Scale → List (List Element) → List ℕ
all_groups s gs = flat_map (λ g. bytes_field BLOCK_PRIMITIVEGROUP (group_bytes s g)) gs

groups_no_longer : (e : Element) (es : List Element) (one all : Scale) → IsElement e → Coarser e one all → length (all_groups one (groups_of (e ∷ []))) ≤ length (all_groups all (groups_of (e ∷ es)))
groups_no_longer e es one all range coarse =
    let b = put_begins e (groups_of es) in
    let is = ap (λ gs. length (all_groups all gs)) b.2 in
    let joined = length-append (bytes_field BLOCK_PRIMITIVEGROUP (group_bytes all (e ∷ b.0))) (all_groups all b.1) in
    let alone = length-append (bytes_field BLOCK_PRIMITIVEGROUP (group_bytes one (e ∷ []))) [] in
    let first = (bytes_field_no_longer BLOCK_PRIMITIVEGROUP (group_bytes one (e ∷ [])) (group_bytes all (e ∷ b.0)) (record { le = group_no_longer e b.0 one all range coarse })).le in
    omega arith

-- ---- the block

-- the length of a block is that of its parts
parts_length : (s : Scale) (es : List Element) → length (block_bytes s es) ≡ length (bytes_field BLOCK_STRINGTABLE (table_bytes s.texts)) + length (all_groups s (groups_of es))
    + length (granularity_field BLOCK_GRANULARITY 100 s.granularity) + length (granularity_field BLOCK_DATE_GRANULARITY 1000 s.date_granularity)
parts_length s es =
    let T : List ℕ = bytes_field BLOCK_STRINGTABLE (table_bytes s.texts) in
    let G : List ℕ = all_groups s (groups_of es) in
    let a = length-append T G in
    let b = length-append (T ++ G) (granularity_field BLOCK_GRANULARITY 100 s.granularity) in
    let c = length-append (T ++ G ++ granularity_field BLOCK_GRANULARITY 100 s.granularity) (granularity_field BLOCK_DATE_GRANULARITY 1000 s.date_granularity) in
    omega arith

block_no_longer : (e : Element) (es : List Element) → IsElement e → length (block_bytes (scale_of (e ∷ [])) (e ∷ [])) ≤ length (block_bytes (scale_of (e ∷ es)) (e ∷ es))
block_no_longer e es range =
    let one : Scale = scale_of (e ∷ []) in
    let all : Scale = scale_of (e ∷ es) in
    let coarse = coarser e es in
    let m = more_texts e es in
    let a = parts_length one (e ∷ []) in
    let b = parts_length all (e ∷ es) in
    let c = table_no_longer one.texts all.texts m.0 m.1 in
    let d = groups_no_longer e es one all range coarse in
    let f = granularity_no_longer BLOCK_GRANULARITY 100 one.granularity all.granularity coarse.coordinates in
    let g = granularity_no_longer BLOCK_DATE_GRANULARITY 1000 one.date_granularity all.date_granularity coarse.times in
    omega arith

pub one_no_longer : (e : Element) (es : List Element) → IsElement e → length (canon (e ∷ [])) ≤ length (canon (e ∷ es))
unfolding canon
one_no_longer e es range = block_no_longer e es range

-- ---- a block that is given

pub first_fits : (es : List Element) (count : ℕ) → 1 ≤ count → count ≤ length es → AllByRecursion IsElement (take count es) → length (canon (take count es)) ≤ MAX_BLOCK_LEN → FirstFits es
first_fits es zero some within ranges fits = absurd (omega arith)
first_fits [] (suc count) some within ranges fits = absurd (omega arith)
first_fits (e ∷ es) (suc count) some within ranges fits = let a = one_no_longer e (take count es) ranges.0 in omega arith

-- the block of no elements
empty_block : length (canon []) ≡ 4
unfolding canon scale_of shortest shortest_within
empty_block = refl

pub none_fits : (es : List Element) → length es ≡ 0 → FirstFits es
none_fits [] none = omega (arith, empty_block)
none_fits (e ∷ es) none = absurd (omega arith)
