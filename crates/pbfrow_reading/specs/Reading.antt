-- The plain reading of a listing: frame after frame, as far as there are some.
use Rattle.std.specs.Prelude.{ℕ, zero, suc, ◌+◌, ◌-◌, nat_lt, Bool, true, false, List, [], ◌++◌, length, drop, Result, Ok, Err, if◌then◌else◌}
use Rattle.pbf_frame.specs.declared.fault.FrameFault.{FrameFault}
use Rattle.pbf_frame.specs.Frame.{Found, frame_at}
use Rattle.pbf_frame.specs.Fault.{number_of, name_of}
use Rattle.osm_reading.specs.Lines.{fault_line}
use Rattle.pbfrow_reading.specs.Listing.{frame_line}

-- the lines, and whether the bytes are frames to their end
pub record Listing : Type 0 where
  pub text : List ℕ
  pub whole : Bool

abbrev pub line_and : ℕ → Result Found FrameFault → (ℕ → Listing) → Listing
line_and at (Ok f) behind = record { text = frame_line at f.type_name f.blob ++ (behind (at + f.len)).text; whole = (behind (at + f.len)).whole }
line_and at (Err fault) behind = record { text = fault_line (number_of fault) (name_of fault) at; whole = false }

-- the frames of w from a place on, at most `left`
unfoldable pub listing_within : ℕ → ℕ → List ℕ → Listing
listing_within zero at w = record { text = []; whole = true }
listing_within (suc left) at w =
    if nat_lt at (length w) then line_and at (frame_at (drop at w)) (λ next. listing_within left next w)
    else record { text = []; whole = true }

-- the same with no bound: each frame takes a byte
unfoldable pub listing_from : ℕ → List ℕ → Listing
listing_from at w = listing_within (length w - at) at w

-- the plain reading of what `list` writes of the bytes, frame after frame
abbrev pub listing : List ℕ → Listing
listing w = listing_from 0 w
