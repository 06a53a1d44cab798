-- What an Info says is in its range where its fields are.
use Rattle.std.proofs.Common.{◌≡◌, ℕ, List, true, ◌&&◌, refl, sym, ap, ◌∙◌, ℤ, Option, Some, None}
use Rattle.std.specs.Prelude.{option_map, unwrap_or}
use Rattle.pbf_wire.specs.Readings.{uint32}
use Rattle.osm_value.specs.Value.{Text}
use Rattle.osm_value.specs.Ranges.{passes, is_version, is_wide, is_uid}
use Rattle.osm_block.specs.Block.{version, time, text_at}

pub version_passes : (v : Option ℤ) → passes (λ v. passes is_version (version v)) v ≡ passes is_version (unwrap_or (option_map version v) None)
version_passes None = refl
version_passes (Some v) = refl

pub time_passes : (g : ℤ) (t : Option ℤ) → passes (λ t. is_wide (time g t)) t ≡ passes is_wide (option_map (time g) t)
time_passes g None = refl
time_passes g (Some t) = refl

pub info_passes : (g : ℤ) (v t c u : Option ℤ) → (passes (λ v. passes is_version (version v)) v && passes (λ t. is_wide (time g t)) t && passes is_wide c && passes is_uid u) ≡ true →
    (passes is_version (unwrap_or (option_map version v) None) && passes is_wide (option_map (time g) t) && passes is_wide c && passes is_uid u) ≡ true
info_passes g v t c u h =
    sym (ap (λ b. b && passes (λ t. is_wide (time g t)) t && passes is_wide c && passes is_uid u) (version_passes v)
    ∙ ap (λ b. passes is_version (unwrap_or (option_map version v) None) && b && passes is_wide c && passes is_uid u) (time_passes g t)) ∙ h

pub user_text : (table : List Text) (u : Option ℕ) → option_map (λ i. text_at table (uint32 i)) u ≡ option_map (text_at table) (option_map uint32 u)
user_text table None = refl
user_text table (Some i) = refl

pub info_in_range-is : (g : ℤ) (v t c u V T : Option ℤ) → V ≡ unwrap_or (option_map version v) None → T ≡ option_map (time g) t →
    (passes (λ v. passes is_version (version v)) v && passes (λ t. is_wide (time g t)) t && passes is_wide c && passes is_uid u) ≡ true →
    (passes is_version V && passes is_wide T && passes is_wide c && passes is_uid u) ≡ true
info_in_range-is g v t c u V T e1 e2 h =
    ap (λ x. passes is_version x && passes is_wide T && passes is_wide c && passes is_uid u) e1
    ∙ ap (λ x. passes is_version (unwrap_or (option_map version v) None) && passes is_wide x && passes is_wide c && passes is_uid u) e2
    ∙ info_passes g v t c u h
