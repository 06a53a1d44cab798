-- What stands before the groups of a block.
use Rattle.std.proofs.Common.{◌≡◌, ℕ, ◌<◌, List, [], ◌∷◌, ◌++◌, map, length, drop, get_or, refl, sym, ap, ◌∙◌, Option, Some, None, Bool, true, false, not, ◌&&◌, pos, ℤ}
use Rattle.std.specs.Prelude.{int_le, IsUtf8, option_map}
use Rattle.std.specs.List.{flat_map, AllByRecursion}
use Rattle.std.specs.Str.{is_utf8}
use Rattle.std.proofs.lemmas.Str.{IsUtf8-from_is_utf8, is_utf8-from_IsUtf8}
use Rattle.std.proofs.lemmas.List.{drop_more}
use Rattle.pbf_wire.specs.declared.fault.WireFault.{WireFault}
use Rattle.osm_block.specs.declared.fields.TheConstants.{BLOCK_STRINGTABLE}
use Rattle.osm_block.specs.declared.fault.BlockFault.{BlockFault}
use Rattle.osm_block.specs.declared.fault.BlockFault.TheVariants as faults
use Rattle.pbf_wire.specs.Readings.{fields, wire}
use Rattle.osm_block.specs.Message.{context}
use Rattle.pbf_wire.specs.Readings.{each, is_there}
use Rattle.osm_value.specs.Ranges.{has_no_nul}
use Rattle.osm_block.specs.Phases.{Phase, first, when, wire_phases, text_phases, head_phases}
use Rattle.osm_block.proofs.HeaderLemmas.{bool_false}
use Rattle.osm_block.proofs.ReadingLemmas.{first-append_none, first-append_some}

pub text_not_utf8 : (bs : List ℕ) → ¬ (IsUtf8 bs) → first (text_phases bs) ≡ Some faults.TextNotUtf8
text_not_utf8 bs h =
    ap (λ b. first (when (not b) faults.TextNotUtf8 ∷ when (not (has_no_nul bs)) faults.TextHasNul ∷ [])) (bool_false (is_utf8 bs) (λ e. h (IsUtf8-from_is_utf8 bs e)))

pub text_of_utf8 : (bs : List ℕ) (n : Bool) → IsUtf8 bs → has_no_nul bs ≡ n → first (text_phases bs) ≡ first (when (not n) faults.TextHasNul ∷ [])
text_of_utf8 bs n h e =
    ap (λ b. first (when (not b) faults.TextNotUtf8 ∷ when (not (has_no_nul bs)) faults.TextHasNul ∷ [])) (is_utf8-from_IsUtf8 bs h)
    ∙ ap (λ b. first (when (not b) faults.TextHasNul ∷ [])) e

pub texts_stop : {B : Type 0} (now : B → List ℕ) (ps : List B) (i : ℕ) (d : B) (whole : Phase) (f : BlockFault) → i < length ps →
    first (flat_map text_phases (map now (drop i ps))) ≡ whole → first (text_phases (now (get_or ps i d))) ≡ Some f → whole ≡ Some f
texts_stop now ps i d whole f h so_far some =
    sym so_far ∙ ap (λ l. first (flat_map text_phases (map now l))) (drop_more ps i d h) ∙ first-append_some (text_phases (now (get_or ps i d))) _ f some

-- ---- the phases of a head, one part after the other

abbrev pub tables : List ℕ → List Phase
tables w = wire_phases (map wire (each (fields w) BLOCK_STRINGTABLE))

abbrev pub texts : List ℕ → List Phase
texts w = flat_map text_phases (context (fields w)).table

abbrev pub scales : List ℕ → Bool
scales w = int_le (pos 1) (context (fields w)).granularity && int_le (pos 1) (context (fields w)).date_granularity

abbrev pub last_phase : List ℕ → List Phase
last_phase w = when (not (scales w)) faults.BadGranularity ∷ []

pub past_table : (w : List ℕ) → wire w ≡ None → is_there (each (fields w) BLOCK_STRINGTABLE) ≡ true → first (head_phases w) ≡ first ((tables w ++ texts w) ++ last_phase w)
past_table w none there =
    ap (λ o. first (option_map faults.BlockWire o ∷ when (not (is_there (each (fields w) BLOCK_STRINGTABLE))) faults.NoStringTable ∷ (tables w ++ texts w) ++ last_phase w)) none
    ∙ ap (λ v. first (when (not v) faults.NoStringTable ∷ (tables w ++ texts w) ++ last_phase w)) there

pub stop_tables : (w : List ℕ) (whole : Phase) → whole ≡ first ((tables w ++ texts w) ++ last_phase w) → (f : BlockFault) → first (tables w) ≡ Some f → whole ≡ Some f
stop_tables w whole e f s = e ∙ first-append_some (tables w ++ texts w) (last_phase w) f (first-append_some (tables w) (texts w) f s)

pub stop_texts : (w : List ℕ) (whole : Phase) → whole ≡ first ((tables w ++ texts w) ++ last_phase w) → first (tables w) ≡ None → (f : BlockFault) → first (texts w) ≡ Some f → whole ≡ Some f
stop_texts w whole e n f s = e ∙ first-append_some (tables w ++ texts w) (last_phase w) f (first-append_none (tables w) (texts w) n ∙ s)

pub past_texts : (w : List ℕ) (whole : Phase) → whole ≡ first ((tables w ++ texts w) ++ last_phase w) → first (tables w) ≡ None → first (texts w) ≡ None → whole ≡ first (last_phase w)
past_texts w whole e n m = e ∙ first-append_none (tables w ++ texts w) (last_phase w) (first-append_none (tables w) (texts w) n ∙ m)

none_more : (p : List ℕ) (ps : List (List ℕ)) (o : Option WireFault) → wire p ≡ o → (first (wire_phases (map wire ps)) ≡ None → AllByRecursion (λ p. wire p ≡ None) ps) →
    first (wire_phases (map wire (p ∷ ps))) ≡ None → AllByRecursion (λ p. wire p ≡ None) (p ∷ ps)
none_more p ps None g rest e = (g, rest (sym (ap (λ o. first (option_map faults.BlockWire o ∷ wire_phases (map wire ps))) g) ∙ e))
none_more p ps (Some f) g rest e =
    let h : Some (faults.BlockWire f) ≡ None = sym (ap (λ o. first (option_map faults.BlockWire o ∷ wire_phases (map wire ps))) g) ∙ e in absurd cc

pub all_none : (ps : List (List ℕ)) → first (wire_phases (map wire ps)) ≡ None → AllByRecursion (λ p. wire p ≡ None) ps
all_none [] e = tt
all_none (p ∷ ps) e = none_more p ps (wire p) refl (all_none ps) e

pub bad_scales : (w : List ℕ) (whole : Phase) (t : Bool) → whole ≡ first (when (not (scales w)) faults.BadGranularity ∷ []) → t ≡ scales w → t ≡ false → whole ≡ Some faults.BadGranularity
bad_scales w whole t e is fails = e ∙ ap (λ b. first (when (not b) faults.BadGranularity ∷ [])) (sym is ∙ fails)

pub good_scales : (w : List ℕ) (whole : Phase) (t : Bool) → whole ≡ first (when (not (scales w)) faults.BadGranularity ∷ []) → t ≡ scales w → t ≡ true → whole ≡ None
good_scales w whole t e is passes = e ∙ ap (λ b. first (when (not b) faults.BadGranularity ∷ [])) (sym is ∙ passes)

pub scales_are : (w : List ℕ) (t : Bool) (g d : ℤ) → t ≡ (int_le (pos 1) g && int_le (pos 1) d) → g ≡ (context (fields w)).granularity → d ≡ (context (fields w)).date_granularity → t ≡ scales w
scales_are w t g d is eg ed = is ∙ ap (λ x. int_le (pos 1) x && int_le (pos 1) d) eg ∙ ap (λ x. int_le (pos 1) (context (fields w)).granularity && int_le (pos 1) x) ed

pub context_parts : (w : List ℕ) (t : List (List ℕ)) (g d a o : ℤ) → t ≡ (context (fields w)).table → g ≡ (context (fields w)).granularity → d ≡ (context (fields w)).date_granularity →
    a ≡ (context (fields w)).lat_offset → o ≡ (context (fields w)).lon_offset → record { table = t; granularity = g; date_granularity = d; lat_offset = a; lon_offset = o } ≡ context (fields w)
context_parts w t g d a o et eg ed ea eo =
    ap (λ x. record { table = x; granularity = g; date_granularity = d; lat_offset = a; lon_offset = o }) et
    ∙ ap (λ x. record { table = (context (fields w)).table; granularity = x; date_granularity = d; lat_offset = a; lon_offset = o }) eg
    ∙ ap (λ x. record { table = (context (fields w)).table; granularity = (context (fields w)).granularity; date_granularity = x; lat_offset = a; lon_offset = o }) ed
    ∙ ap (λ x. record { table = (context (fields w)).table; granularity = (context (fields w)).granularity; date_granularity = (context (fields w)).date_granularity; lat_offset = x; lon_offset = o }) ea
    ∙ ap (λ x. record { table = (context (fields w)).table; granularity = (context (fields w)).granularity; date_granularity = (context (fields w)).date_granularity; lat_offset = (context (fields w)).lat_offset; lon_offset = x }) eo
