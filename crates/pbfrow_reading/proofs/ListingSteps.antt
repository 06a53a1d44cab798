-- Listing frame by frame, as a loop does.
use Rattle.std.proofs.Common.{◌≡◌, ℕ, zero, suc, ◌+◌, ◌-◌, ◌<◌, ◌≤◌, true, cond, ltb, List, [], ◌++◌, length, drop, Result, Ok, Err, refl, sym, ap, arith}
use Rattle.std.proofs.lemmas.Bool.{le-ltb, lt-ltb}
use Rattle.pbf_frame.specs.declared.fault.FrameFault.{FrameFault}
use Rattle.pbf_frame.specs.Frame.{Found, frame_at}
use Rattle.pbf_frame.proofs.FrameLaws.{frame_len}
use Rattle.pbfrow_reading.specs.Listing.{frame_line}
use Rattle.pbfrow_reading.specs.Reading.{Listing, line_and, listing_within, listing_from}

abbrev pub nothing : Listing
nothing = record { text = []; whole = true }

same_lines : (at : ℕ) (r : Result Found FrameFault) (f g : ℕ → Listing) → ((x : Found) → r ≡ Ok x → f (at + x.len) ≡ g (at + x.len)) → line_and at r f ≡ line_and at r g
same_lines at (Ok x) f g h = ap (λ (l : Listing). let made : Listing = record { text = frame_line at x.type_name x.blob ++ l.text; whole = l.whole } in made) (h x refl)
same_lines at (Err e) f g h = refl

past : (left at : ℕ) (w : List ℕ) → length w ≤ at → listing_within left at w ≡ nothing
unfolding listing_within
past zero at w le = refl
past (suc left) at w le = rw (le-ltb _ _ le) refl

enough : (a b at : ℕ) (w : List ℕ) → length w - at ≤ a → length w - at ≤ b → listing_within a at w ≡ listing_within b at w
unfolding listing_within
enough zero b at w p q = sym (past b at w (omega arith))
enough (suc a) zero at w p q = past (suc a) at w (omega arith)
enough (suc a) (suc b) at w p q =
    ap (λ (l : Listing). cond (ltb at (length w)) l nothing)
    (same_lines at (frame_at (drop at w)) (λ next. listing_within a next w) (λ next. listing_within b next w) (λ x e.
    let t = frame_len (drop at w) x e in
    enough a b (at + x.len) w (omega arith) (omega arith)))

pub listing_step : (at : ℕ) (w : List ℕ) → at < length w → listing_from at w ≡ line_and at (frame_at (drop at w)) (λ next. listing_from next w)
unfolding listing_from listing_within
listing_step at w lt =
    let k : length w - at ≡ suc (length w - (at + 1)) = omega arith in
    rw (k, lt-ltb _ _ lt) (same_lines at (frame_at (drop at w)) (λ next. listing_within (length w - (at + 1)) next w) (λ next. listing_within (length w - next) next w) (λ x e.
    let t = frame_len (drop at w) x e in
    enough (length w - (at + 1)) (length w - (at + x.len)) (at + x.len) w (omega arith) (omega arith)))

pub listing_end : (at : ℕ) (w : List ℕ) → length w ≤ at → listing_from at w ≡ nothing
unfolding listing_from
listing_end at w le = past (length w - at) at w le

-- ---- what a writer holds
