-- Groups one after the other, and what is mapped of what they hold.
use Rattle.std.proofs.Common.{◌≡◌, ℕ, ◌+◌, ◌<◌, ◌≤◌, List, [], ◌∷◌, ◌++◌, length, map, take, drop, get_or, refl, sym, ap, subst, ◌∙◌, append_assoc, append-nil, arith}
use Rattle.std.proofs.lemmas.List.{take_more, take-append-drop, length-append, map-append}
use Rattle.osm_block.specs.Block.{Joins}
use Rattle.osm_columns.specs.Lists.{joined}
use Rattle.osm_columns.proofs.ListLemmas.{joined-append}

pub mapped-twice : {A B C : Type 0} (f : A → B) (g : B → C) (xs : List A) → map g (map f xs) ≡ map (λ x. g (f x)) xs
mapped-twice f g [] = refl
mapped-twice f g (x ∷ xs) = ap (λ l. g (f x) ∷ l) (mapped-twice f g xs)

-- what two lists of groups hold, in two parts
pub joins-split : {A B : Type 0} (R : List A → B → Type 0) (es : List A) (xs ys : List B) → Joins R es (xs ++ ys) → (front rest : List A) × (es ≡ front ++ rest) × Joins R front xs × Joins R rest ys
joins-split R es [] ys h = ([], es, refl, refl, h)
joins-split R es (x ∷ xs) ys (a, b, e, r, h) =
    let s = joins-split R b xs ys h in
    (a ++ s.0, s.1, e ∙ ap (λ l. a ++ l) s.2 ∙ sym (append_assoc a s.0 s.1), (a, s.0, refl, r, s.3), s.4)

-- what the first groups hold, and then the next one
pub record NextGroup {A B : Type 0} (R : List A → B → Type 0) (es : List A) (before : List B) (x : B) : Type 0 where
  pub front : List A
  pub here : List A
  pub parts : es ≡ front ++ here
  pub before_holds : Joins R front before
  pub holds : R here x

pub joins-last : {A B : Type 0} (R : List A → B → Type 0) (es : List A) (xs : List B) (x : B) → Joins R es (xs ++ x ∷ []) → NextGroup R es xs x
joins-last R es xs x h =
    let s = joins-split R es xs (x ∷ []) h in
    let here : List _ = s.4.0 in
    let none : s.4.1 ≡ [] = s.4.4 in
    record {
      front = s.0;
      here = here;
      parts = s.2 ∙ ap (λ l. s.0 ++ l) (s.4.2 ∙ ap (λ l. here ++ l) none ∙ append-nil here);
      before_holds = s.3;
      holds = s.4.3;
    }

pub next-group : {A B : Type 0} (R : List A → B → Type 0) (es : List A) (xs : List B) (i : ℕ) (x d : B) → i < length xs → x ≡ get_or xs i d → Joins R es (take (i + 1) xs) → NextGroup R es (take i xs) x
next-group R es xs i x d within is h =
    let P : List _ → Type 0 = λ l. Joins R es l in
    joins-last R es (take i xs) x (subst P (take_more xs i d within ∙ ap (λ y. take i xs ++ y ∷ []) (sym is)) h)

-- of what all groups hold, what the first ones and the next hold is no more
pub record GroupWithin {A B : Type 0} (R : List A → B → Type 0) (es : List A) (before : List B) (x : B) : Type 0 where
  pub front : List A
  pub here : List A
  pub behind : List A
  pub parts : es ≡ front ++ here ++ behind
  pub before_holds : Joins R front before
  pub holds : R here x

pub group-within : {A B : Type 0} (R : List A → B → Type 0) (es : List A) (xs : List B) (i : ℕ) (x d : B) → i < length xs → x ≡ get_or xs i d → Joins R es xs → GroupWithin R es (take i xs) x
group-within R es xs i x d within is h =
    let P : List _ → Type 0 = λ l. Joins R es l in
    let s = joins-split R es (take (i + 1) xs) (drop (i + 1) xs) (subst P (sym (take-append-drop (i + 1) xs)) h) in
    let n = next-group R s.0 xs i x d within is s.3 in
    record {
      front = n.front;
      here = n.here;
      behind = s.1;
      parts = s.2 ∙ ap (λ l. l ++ s.1) n.parts;
      before_holds = n.before_holds;
      holds = n.holds;
    }

-- there is room for a group behind those before it
pub group-fits : {A : Type 0} (es front here behind : List A) (at n : ℕ) → es ≡ front ++ here ++ behind → length front ≡ at → length es ≤ n → at + length here ≤ n
group-fits es front here behind at n parts count room =
    let two : length (front ++ here) ≡ length front + length here = length-append front here in
    let all : length (front ++ here ++ behind) ≡ length (front ++ here) + length behind = length-append (front ++ here) behind in
    let same : length es ≡ length (front ++ here ++ behind) = ap length parts in
    omega arith

pub joined-parts : {A B : Type 0} (items : A → List B) (xs ys : List A) → joined (map items (xs ++ ys)) ≡ joined (map items xs) ++ joined (map items ys)
joined-parts items xs ys = ap joined (map-append items xs ys) ∙ joined-append (map items xs) (map items ys)

-- what nodes have none of
pub none-of-nodes : {A B N : Type 0} (items : A → List B) (node : N → A) (none : (n : N) → items (node n) ≡ []) (ns : List N) → joined (map items (map node ns)) ≡ []
none-of-nodes items node none [] = refl
none-of-nodes items node none (n ∷ ns) = ap (λ l. l ++ joined (map items (map node ns))) (none n) ∙ none-of-nodes items node none ns

-- what a group has of lists fits behind that of those before it, where that of all does
pub lists-fit : {A B : Type 0} (items : A → List B) (es front here behind : List A) (at n : ℕ) → es ≡ front ++ here ++ behind → length (joined (map items front)) ≡ at → length (joined (map items es)) ≤ n → at + length (joined (map items here)) ≤ n
lists-fit items es front here behind at n parts so_far all =
    let split : joined (map items es) ≡ joined (map items front) ++ joined (map items here) ++ joined (map items behind) =
    ap (λ l. joined (map items l)) parts ∙ joined-parts items (front ++ here) behind ∙ ap (λ l. l ++ joined (map items behind)) (joined-parts items front here) in
    let two : length (joined (map items front) ++ joined (map items here)) ≡ length (joined (map items front)) + length (joined (map items here)) = length-append (joined (map items front)) (joined (map items here)) in
    let three : length (joined (map items front) ++ joined (map items here) ++ joined (map items behind)) ≡ length (joined (map items front) ++ joined (map items here)) + length (joined (map items behind)) =
    length-append (joined (map items front) ++ joined (map items here)) (joined (map items behind)) in
    let same : length (joined (map items es)) ≡ length (joined (map items front) ++ joined (map items here) ++ joined (map items behind)) = ap length split in
    omega arith

-- what is mapped of lists, joined
pub mapped-lists : {A B C : Type 0} (f : B → C) (g : A → List B) (es : List A) → joined (map (λ e. map f (g e)) es) ≡ map f (joined (map g es))
mapped-lists f g [] = refl
mapped-lists f g (e ∷ es) = ap (λ l. map f (g e) ++ l) (mapped-lists f g es) ∙ sym (map-append f (g e) (joined (map g es)))
