-- The plain reading of an element's name against what such a name is.
use Rattle.std.proofs.Common.{◌≡◌, ℕ, ◌+◌, ◌-◌, ◌*◌, ◌<◌, ◌≤◌, Bool, true, false, cond, eqb, leb, List, [], ◌∷◌, length, Option, Some, None, refl, sym, ap, subst, inl, inr, ◌∙◌, arith}
use Rattle.std.specs.Prelude.{IfSome, ◌&&◌, ◌⊎◌, ℤ, pos, neg_ℤ, option_map, option_and_then}
use Rattle.std.specs.Str.Parse.{AllDigits, IsNumeral, digits_value, digits_value_after}
use Rattle.std.specs.Char.{digit_value}
use Rattle.std.proofs.lemmas.Bool.{eqb-true, leb-true, le-leb, false_from_ne_true}
use Rattle.std.proofs.Math.Dec.{eqb-suc-zero}
use Rattle.std.proofs.lemmas.Str.Parse.{digit_from_value}
use Rattle.std.proofs.lemmas.Str.{digit_value_digit}
use Rattle.osm_value.specs.declared.element.MemberKind.{MemberKind}
use Rattle.osm_value.specs.declared.element.MemberKind.TheVariants.{Node, Way, Relation}
use Rattle.osm_value.specs.Line.{letter_of}
use Rattle.pbfrow_words.specs.Element.{Names, kind_at, is_digit, magnitude_from, magnitude_at, id_at, element_at}

chosen : {A : Type 0} (b : Bool) (x y z : A) → cond b x y ≡ z → ((b ≡ true) × (x ≡ z)) ⊎ ((b ≡ false) × (y ≡ z))
chosen true x y z e = inl (refl, e)
chosen false x y z e = inr (refl, e)

both : (a b : Bool) → (a && b) ≡ true → (a ≡ true) × (b ≡ true)
both true b e = (refl, e)
both false b e = absurd cc

some_is : {A : Type 0} (x y : A) → Some x ≡ Some y → x ≡ y
some_is x y e = cc

no_some : {A C : Type 0} (x : A) → None ≡ Some x → C
no_some x e = absurd cc

mapped : {A B : Type 0} (f : A → B) (o : Option A) (y : B) → option_map f o ≡ Some y → (x : A) × (o ≡ Some x) × (f x ≡ y)
mapped f (Some x) y e = (x, refl, some_is (f x) y e)
mapped f None y e = no_some y e

-- ---- digits

digit_is : (c : ℕ) → is_digit c ≡ true → (digit_value c < 10) × (digit_value c ≡ c - 48)
digit_is c e =
    let t = both (leb 48 c) (leb c 57) e in
    let low = leb-true 48 c t.0 in
    let high = leb-true c 57 t.1 in
    let h = digit_value_digit c (low, high) in
    (omega (arith, h, low, high), omega (arith, h, low, high))

is_digit_of : (c : ℕ) → digit_value c < 10 → (is_digit c ≡ true) × (digit_value c ≡ c - 48) × (48 ≤ c)
is_digit_of c lt =
    let r = digit_from_value c lt in
    let t : is_digit c ≡ true = rw (le-leb 48 c r.0, le-leb c 57 r.1) refl in
    (t, (digit_is c t).1, r.0)

magnitude_read : (ds : List ℕ) (n m : ℕ) → n ≤ 4611686018427387903 → magnitude_from n ds ≡ Some m → AllDigits 10 ds × (digits_value_after 10 n ds ≡ m) × (m ≤ 4611686018427387903)
magnitude_read [] n m le e = let same = some_is n m e in (tt, same, subst (λ (k : ℕ). k ≤ 4611686018427387903) same le)
magnitude_read (c ∷ cs) n m le e =
    elim (chosen (is_digit c && leb (n * 10 + (c - 48)) 4611686018427387903) (magnitude_from (n * 10 + (c - 48)) cs) None (Some m) e) [
      | inl p ↦
          let t = both (is_digit c) (leb (n * 10 + (c - 48)) 4611686018427387903) p.0 in
          let d = digit_is c t.0 in
          let behind = magnitude_read cs (n * 10 + (c - 48)) m (leb-true (n * 10 + (c - 48)) 4611686018427387903 t.1) p.1 in
          ((d.0, behind.0), ap (λ (k : ℕ). digits_value_after 10 (n * 10 + k) cs) d.1 ∙ behind.1, behind.2)
      | inr p ↦ no_some m p.1
    ]

grows : (ds : List ℕ) (n : ℕ) → n ≤ digits_value_after 10 n ds
grows [] n = omega arith
grows (c ∷ cs) n = omega (arith, grows cs (n * 10 + digit_value c))

magnitude_written : (ds : List ℕ) (n : ℕ) → AllDigits 10 ds → digits_value_after 10 n ds ≤ 4611686018427387903 → magnitude_from n ds ≡ Some (digits_value_after 10 n ds)
magnitude_written [] n are le = refl
magnitude_written (c ∷ cs) n are le =
    let d = is_digit_of c are.0 in
    let v = n * 10 + (c - 48) in
    let same : digits_value_after 10 (n * 10 + digit_value c) cs ≡ digits_value_after 10 v cs = ap (λ (k : ℕ). digits_value_after 10 (n * 10 + k) cs) d.1 in
    let within : digits_value_after 10 v cs ≤ 4611686018427387903 = subst (λ (k : ℕ). k ≤ 4611686018427387903) same le in
    let small : v ≤ 4611686018427387903 = omega (arith, within, grows cs v) in
    rw (d.0, le-leb v 4611686018427387903 small) (magnitude_written cs v are.1 within ∙ ap Some (sym same))

numeral_read : (ds : List ℕ) (m : ℕ) → magnitude_at ds ≡ Some m → IsNumeral 10 ds × (digits_value 10 ds ≡ m) × (m ≤ 4611686018427387903)
numeral_read [] m e = no_some m e
numeral_read (c ∷ cs) m e = let t = magnitude_read (c ∷ cs) 0 m (omega arith) (rw (eqb-suc-zero (length cs)) at e) in ((omega arith, t.0), t.1, t.2)

numeral_written : (ds : List ℕ) → IsNumeral 10 ds → digits_value 10 ds ≤ 4611686018427387903 → magnitude_at ds ≡ Some (digits_value 10 ds)
numeral_written [] is le = let h = is.0 in absurd (omega arith)
numeral_written (c ∷ cs) is le = rw (eqb-suc-zero (length cs)) (magnitude_written (c ∷ cs) 0 is.1 le)

-- ---- the id, with its sign

abbrev IsIdText : ℤ → List ℕ → Type 0
IsIdText id text = (digits : List ℕ) × IsNumeral 10 digits × (digits_value 10 digits ≤ 4611686018427387903)
    × (((text ≡ digits) × (id ≡ pos (digits_value 10 digits))) ⊎ ((text ≡ 45 ∷ digits) × (id ≡ neg_ℤ (pos (digits_value 10 digits)))))

id_read : (text : List ℕ) (id : ℤ) → id_at text ≡ Some id → IsIdText id text
id_read [] id e = no_some id e
id_read (c ∷ cs) id e =
    elim (chosen (eqb c 45) (option_map (λ n. neg_ℤ (pos n)) (magnitude_at cs)) (option_map pos (magnitude_at (c ∷ cs))) (Some id) e) [
      | inl p ↦
          let m = mapped (λ n. neg_ℤ (pos n)) (magnitude_at cs) id p.1 in
          let t = numeral_read cs m.0 m.1 in
          (cs, t.0, omega (arith, t.1, t.2), inr (ap (λ (k : ℕ). k ∷ cs) (eqb-true c 45 p.0), sym m.2 ∙ ap (λ (k : ℕ). neg_ℤ (pos k)) (sym t.1)))
      | inr p ↦
          let m = mapped pos (magnitude_at (c ∷ cs)) id p.1 in
          let t = numeral_read (c ∷ cs) m.0 m.1 in
          (c ∷ cs, t.0, omega (arith, t.1, t.2), inl (refl, sym m.2 ∙ ap pos (sym t.1)))
    ]

no_minus : (ds : List ℕ) → IsNumeral 10 ds → id_at ds ≡ option_map pos (magnitude_at ds)
no_minus [] is = let h = is.0 in absurd (omega arith)
no_minus (c ∷ cs) is =
    let d = is_digit_of c is.1.0 in
    let other : eqb c 45 ≡ false = false_from_ne_true (eqb c 45) (λ e. let same = eqb-true c 45 e in absurd (omega (arith, same, d.2))) in
    rw other refl

id_written : (text : List ℕ) (id : ℤ) → IsIdText id text → id_at text ≡ Some id
id_written text id (ds, is, le, inl (same, value)) =
    ap id_at same ∙ no_minus ds is ∙ ap (option_map pos) (numeral_written ds is le) ∙ ap Some (sym value)
id_written text id (ds, is, le, inr (same, value)) =
    ap id_at same ∙ ap (option_map (λ n. neg_ℤ (pos n))) (numeral_written ds is le) ∙ ap Some (sym value)

-- ---- the letter

letter_read : (letter : ℕ) (kind : MemberKind) → kind_at letter ≡ Some kind → letter ≡ letter_of kind
letter_read letter kind e =
    elim (chosen (eqb letter 110) (Some Node) (cond (eqb letter 119) (Some Way) (cond (eqb letter 114) (Some Relation) None)) (Some kind) e) [
      | inl p ↦ eqb-true letter 110 p.0 ∙ ap letter_of (some_is Node kind p.1)
      | inr p ↦ elim (chosen (eqb letter 119) (Some Way) (cond (eqb letter 114) (Some Relation) None) (Some kind) p.1) [
        | inl q ↦ eqb-true letter 119 q.0 ∙ ap letter_of (some_is Way kind q.1)
        | inr q ↦ elim (chosen (eqb letter 114) (Some Relation) None (Some kind) q.1) [
          | inl r ↦ eqb-true letter 114 r.0 ∙ ap letter_of (some_is Relation kind r.1)
          | inr r ↦ no_some kind r.1
        ]
      ]
    ]

letter_written : (kind : MemberKind) → kind_at (letter_of kind) ≡ Some kind
letter_written Node = refl
letter_written Way = refl
letter_written Relation = refl

-- ---- the whole

chained : {A B : Type 0} (f : A → Option B) (o : Option A) (y : B) → option_and_then f o ≡ Some y → (x : A) × (o ≡ Some x) × (f x ≡ Some y)
chained f (Some x) y e = (x, refl, e)
chained f None y e = no_some y e

named : (letter : ℕ) (number : List ℕ) (kind : MemberKind) (id : ℤ) → letter ≡ letter_of kind → IsIdText id number → Names kind id (letter ∷ number)
named letter number kind id same (ds, is, le, inl (text, value)) =
    record { digits = ds; are_digits = is; small = le; written = inl (ap (λ (k : ℕ). k ∷ number) same ∙ ap (λ (k : List ℕ). letter_of kind ∷ k) text, value) }
named letter number kind id same (ds, is, le, inr (text, value)) =
    record { digits = ds; are_digits = is; small = le; written = inr (ap (λ (k : ℕ). k ∷ number) same ∙ ap (λ (k : List ℕ). letter_of kind ∷ k) text, value) }

pub element_read : (text : List ℕ) (kind : MemberKind) (id : ℤ) → element_at text ≡ Some (kind, id) → Names kind id text
element_read [] kind id e = no_some {A = MemberKind × ℤ} (kind, id) e
element_read (letter ∷ number) kind id e =
    let a = chained (λ kind. option_map (λ id. (kind, id)) (id_at number)) (kind_at letter) (kind, id) e in
    let b = mapped (λ id. let p : MemberKind × ℤ = (a.0, id) in p) (id_at number) (kind, id) a.2 in
    let kinds : a.0 ≡ kind = ap (λ (p : MemberKind × ℤ). p.0) b.2 in
    let ids : b.0 ≡ id = ap (λ (p : MemberKind × ℤ). p.1) b.2 in
    named letter number kind id (letter_read letter a.0 a.1 ∙ ap letter_of kinds) (id_read number id (b.1 ∙ ap Some ids))

spelled : (kind : MemberKind) (number : List ℕ) (id : ℤ) → id_at number ≡ Some id → element_at (letter_of kind ∷ number) ≡ Some (kind, id)
spelled kind number id e = rw (letter_written kind, e) refl

pub element_written : (text : List ℕ) (kind : MemberKind) (id : ℤ) → Names kind id text → element_at text ≡ Some (kind, id)
element_written text kind id n = elim n.written [
  | inl p ↦ ap element_at p.0 ∙ spelled kind n.digits id (id_written n.digits id (n.digits, n.are_digits, n.small, inl (refl, p.1)))
  | inr p ↦ ap element_at p.0 ∙ spelled kind (45 ∷ n.digits) id (id_written (45 ∷ n.digits) id (n.digits, n.are_digits, n.small, inr (refl, p.1)))
]

pub element_named : (text : List ℕ) (r : Option (MemberKind × ℤ)) → r ≡ element_at text → IfSome r (λ e. Names e.0 e.1 text)
element_named text (Some e) same = element_read text e.0 e.1 (sym same)
element_named text None same = tt
