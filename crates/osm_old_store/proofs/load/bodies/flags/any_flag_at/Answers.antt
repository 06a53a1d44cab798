use Rattle.std.proofs.Common.{◌≡◌, ap, ◌∙◌}
use Rattle.std.specs.List.{list_any}
use Rattle.osm_rows.specs.Flags.{has_flag}
use Rattle.osm_rows.proofs.LoadLemmas.ElementKinds.{found_as}
use Rattle.osm_old_store.proofs.load.bodies.flags.any_flag_at.Goals as goal

pub returns-clause-held : goal.returns-clause-held
returns-clause-held g c held blob is clean holds =
    let loaded = c.in_ok-loaded.ensures.held held clean holds in
    let elements = found_as (λ made. made.items ≡ blob.elements) _ _ (c.in_ok-elements.ensures blob.elements (loaded.0 blob is)) c.in-Some.is in
    (c.any_flag.ensures ∙ ap (list_any has_flag) (c.deref.ensures.value ∙ elements), loaded.1)

pub returns-in_default-clause-held : goal.returns-in_default-clause-held
returns-in_default-clause-held g c held blob is clean holds =
    let loaded = c.in_ok-loaded.ensures.held held clean holds in
    absurd (found_as (λ made. made.items ≡ blob.elements) _ _ (c.in_ok-elements.ensures blob.elements (loaded.0 blob is)) c.in_default.is)
