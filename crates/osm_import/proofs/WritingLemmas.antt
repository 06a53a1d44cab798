-- Texts that are written piece by piece.
use Rattle.std.proofs.Common.{◌≡◌, ℕ, ◌+◌, ◌<◌, ◌≤◌, List, [], ◌∷◌, ◌++◌, length, take, drop, refl, sym, ◌∙◌, ap, subst, append_assoc, get_or, append-nil}
use Rattle.std.proofs.lemmas.List.{take_more, take_all, take-append-drop}
use Rattle.std.specs.Io.KnownBytes.{Appends}
use Rattle.std.proofs.KnownBytes.{Appends-trans}
use Rattle.osm_value.specs.declared.element.Element.{Element}
use Rattle.osm_value.specs.Line.{line}
use Rattle.osm_value.specs.Sink.{AppendsFront}
use Rattle.osm_reading.specs.Framings.{Known}
use Rattle.osm_import.specs.Exports.{lines_of}

pub lines_of-append : (xs ys : List Element) → lines_of (xs ++ ys) ≡ lines_of xs ++ lines_of ys
lines_of-append [] ys = refl
lines_of-append (x ∷ xs) ys = ap (λ (l : List ℕ). line x ++ l) (lines_of-append xs ys) ∙ sym (append_assoc (line x) (lines_of xs) (lines_of ys))

lines_of-more : (es : List Element) (i : ℕ) (e : Element) → i < length es → e ≡ get_or es i e → lines_of (take (i + 1) es) ≡ lines_of (take i es) ++ line e
lines_of-more es i e within at =
    ap lines_of (take_more es i e within ∙ ap (λ (y : Element). take i es ++ y ∷ []) (sym at))
    ∙ lines_of-append (take i es) (e ∷ []) ∙ ap (λ (l : List ℕ). lines_of (take i es) ++ l) (append-nil (line e))

-- a front of a piece, behind what was written so far, is a front of the whole
pub front-of-piece : (before middle after : Known) (so_far piece behind text : List ℕ) → Appends before middle so_far → (so_far ++ piece) ++ behind ≡ text
    → AppendsFront middle after piece → AppendsFront before after text
front-of-piece before middle after so_far piece behind text wrote whole front = (
  so_far ++ front.0,
  front.1 ++ behind,
  append_assoc so_far front.0 (front.1 ++ behind)
      ∙ ap (λ (l : List ℕ). so_far ++ l) (sym (append_assoc front.0 front.1 behind) ∙ ap (λ (l : List ℕ). l ++ behind) front.2)
      ∙ sym (append_assoc so_far piece behind) ∙ whole,
  Appends-trans before middle after so_far front.0 wrote front.3,
)

pub lines-more : (before middle after : Known) (es : List Element) (i : ℕ) (e : Element) → i < length es → e ≡ get_or es i e
    → Appends before middle (lines_of (take i es)) → Appends middle after (line e) → Appends before after (lines_of (take (i + 1) es))
lines-more before middle after es i e within at so_far wrote =
    subst (λ (text : List ℕ). Appends before after text) (sym (lines_of-more es i e within at)) (Appends-trans before middle after (lines_of (take i es)) (line e) so_far wrote)

pub lines-front : (before middle after : Known) (es : List Element) (i : ℕ) (e : Element) → i < length es → e ≡ get_or es i e
    → Appends before middle (lines_of (take i es)) → AppendsFront middle after (line e) → AppendsFront before after (lines_of es)
lines-front before middle after es i e within at so_far front =
    front-of-piece before middle after (lines_of (take i es)) (line e) (lines_of (drop (i + 1) es)) (lines_of es) so_far
    (ap (λ (l : List ℕ). l ++ lines_of (drop (i + 1) es)) (sym (lines_of-more es i e within at)) ∙ sym (lines_of-append (take (i + 1) es) (drop (i + 1) es)) ∙ ap lines_of (take-append-drop (i + 1) es))
    front

pub all-lines : (before after : Known) (es : List Element) (i : ℕ) → length es ≤ i → Appends before after (lines_of (take i es)) → Appends before after (lines_of es)
all-lines before after es i all wrote = subst (λ (xs : List Element). Appends before after (lines_of xs)) (take_all i es all) wrote
