-- The groups joined are the elements.
use Rattle.std.proofs.Common.{◌≡◌, List, [], ◌∷◌, refl, ap, Bool, true, false, if◌then◌else◌, ◌∙◌}
use Rattle.std.specs.List.{flat_map}
use Rattle.osm_value.specs.declared.element.Element.{Element}
use Rattle.osm_write.specs.Canon.{fit_together, put_before, groups_of}

joined_put : (e : Element) (gs : List (List Element)) → flat_map (λ g. g) (put_before e gs) ≡ e ∷ flat_map (λ g. g) gs
joined_put e [] = refl
joined_put e ([] ∷ gs) = refl
joined_put e ((f ∷ g) ∷ gs) = by (fit_together e f)
  where
    by : (b : Bool) → flat_map (λ h. h) (if b then (e ∷ f ∷ g) ∷ gs else (e ∷ []) ∷ (f ∷ g) ∷ gs) ≡ e ∷ flat_map (λ h. h) ((f ∷ g) ∷ gs)
    by true = refl
    by false = refl

pub groups_join : (es : List Element) → flat_map (λ g. g) (groups_of es) ≡ es
groups_join [] = refl
groups_join (e ∷ es) = joined_put e (groups_of es) ∙ ap (λ xs. e ∷ xs) (groups_join es)
