-- Indexes behind those that were there, while the dictionary grows.
use Rattle.std.proofs.Common.{◌≡◌, List, [], ◌++◌, ℤ, Option, sym, ap, subst, ◌∙◌, append_assoc}
use Rattle.osm_value.specs.Value.{Text}
use Rattle.osm_columns.specs.declared.dictionary.Dictionary.{Dictionary}
use Rattle.osm_columns.specs.Texts.{NameAll, Extends}
use Rattle.osm_columns.specs.Indexes.{NamesMore, texts_in}
use Rattle.osm_columns.proofs.TextLemmas.{extended, extends-twice, all-append}

pub more-twice : (a b : List (Option Text)) (d e f : Dictionary) (u v w : List ℤ) → NamesMore a d e u v → NamesMore b e f v w → NamesMore (a ++ b) d f u w
more-twice a b d e f u v w h k = record {
  extends = extends-twice _ _ _ h.extends k.extends;
  added = h.added ++ k.added;
  behind = k.behind ∙ ap (λ l. l ++ k.added) h.behind ∙ append_assoc u h.added k.added;
  names = all-append _ h.added k.added a b (extended _ _ _ _ k.extends h.names) k.names;
}

-- indexes that named some texts name these behind them, too
pub names-grown : (before after : List Text) (d e : Dictionary) (v w : List ℤ) (named more : List (Option Text)) →
    NameAll before v named → Extends before (texts_in d) → NamesMore more d e v w → Extends (texts_in e) after → NameAll after w (named ++ more)
names-grown before after d e v w named more h x k y =
    let P : List ℤ → Type 0 = λ l. NameAll after l (named ++ more) in
    let old : NameAll after v named = extended _ _ _ _ y (extended _ _ _ _ k.extends (extended _ _ _ _ x h)) in
    subst P (sym k.behind) (all-append after v k.added named more old (extended _ _ _ _ y k.names))

-- indexes that nothing stood before
pub named-alone : (more : List (Option Text)) (d e : Dictionary) (v w : List ℤ) → v ≡ [] → NamesMore more d e v w → NameAll (texts_in e) w more
named-alone more d e v w none k =
    let P : List ℤ → Type 0 = λ l. NameAll (texts_in e) l more in
    subst P (sym (k.behind ∙ ap (λ l. l ++ k.added) none)) k.names
