-- A line for each item.
use Rattle.std.proofs.Common.{◌≡◌, ℕ, ◌+◌, ◌<◌, ◌≤◌, List, [], ◌++◌, take, get_or, length, Bool, sym, ap, ◌∙◌, append-nil}
use Rattle.std.specs.List.{flat_map}
use Rattle.std.proofs.lemmas.List.{flat_map_more, take_all, take_more}
use Rattle.osm_value.specs.Sink.{Wrote}
use Rattle.osm_value.proofs.SinkLemmas.{Wrote-text}
use Rattle.osm_reading.specs.Framings.{Known}

pub lines-none : (start : Known) (before : List ℕ) (written : Known) (failed : Bool) → Wrote start before written failed → Wrote start (before ++ []) written failed
lines-none start before written failed h = Wrote-text start before (before ++ []) written failed (sym (append-nil before)) h

-- one line more
pub lines-more : {X : Type 0} (line : X → List ℕ) (start : Known) (before : List ℕ) (xs : List X) (i : ℕ) (d : X) (written : Known) (failed : Bool) → i < length xs
    → Wrote start ((before ++ flat_map line (take i xs)) ++ line (get_or xs i d)) written failed → Wrote start (before ++ flat_map line (take (i + 1) xs)) written failed
lines-more {X} line start before xs i d written failed within h =
    Wrote-text start _ _ written failed (flat_map_more line before (take i xs) (get_or xs i d) ∙ ap (λ (ys : List X). before ++ flat_map line ys) (sym (take_more xs i d within))) h

-- the same, of an item that was lent
pub lines-more-at : {X : Type 0} (line : X → List ℕ) (start : Known) (before : List ℕ) (xs : List X) (i : ℕ) (x : X) (written : Known) (failed : Bool) → i < length xs → x ≡ get_or xs i x
    → Wrote start ((before ++ flat_map line (take i xs)) ++ line x) written failed → Wrote start (before ++ flat_map line (take (i + 1) xs)) written failed
lines-more-at {X} line start before xs i x written failed within at h =
    lines-more line start before xs i x written failed within (Wrote-text start _ _ written failed (ap (λ (y : X). (before ++ flat_map line (take i xs)) ++ line y) at) h)

pub lines-all : {X : Type 0} (line : X → List ℕ) (start : Known) (before : List ℕ) (xs : List X) (i : ℕ) (written : Known) (failed : Bool) → length xs ≤ i
    → Wrote start (before ++ flat_map line (take i xs)) written failed → Wrote start (before ++ flat_map line xs) written failed
lines-all {X} line start before xs i written failed all h = Wrote-text start _ _ written failed (ap (λ (ys : List X). before ++ flat_map line ys) (take_all i xs all)) h
