-- One more frame and its answer.
use Rattle.std.proofs.Common.{◌≡◌, ℕ, Bool, suc, ◌+◌, ◌≤◌, List, [], ◌∷◌, ◌++◌, length, refl, sym, ap, ◌∙◌, append_assoc, append-nil}
use Rattle.std.proofs.lemmas.List.Sums.{count_by-le-length}
use Rattle.osm_reading.specs.Good.{IsFrame}
use Rattle.osm_import.specs.Files.{AreFrames, joined}
use Rattle.osm_import.specs.Deliveries.{DeliveryValue}
use Rattle.osm_import.specs.Lines.{told_line}
use Rattle.osm_import.specs.Streams.{Reply, frames_of, answers_of, deliveries_at, lines_at, end_at, is_stored, is_held, is_bad, is_refused, summary_of}
use Rattle.osm_import.specs.declared.answer.Answer.{Answer}
use Rattle.osm_import.specs.declared.stream.summary.Summary.{Summary}

pub frames-push : (rs : List Reply) (r : Reply) → frames_of (rs ++ r ∷ []) ≡ frames_of rs ++ r.0 ∷ []
frames-push [] r = refl
frames-push (x ∷ rs) r = ap (λ (l : List (List ℕ)). x.0 ∷ l) (frames-push rs r)

pub answers-push : (rs : List Reply) (r : Reply) → answers_of (rs ++ r ∷ []) ≡ answers_of rs ++ r.1 ∷ []
answers-push [] r = refl
answers-push (x ∷ rs) r = ap (λ (l : List Answer). x.1 ∷ l) (answers-push rs r)

abbrev pub delivery_of : ℕ → List ℕ → DeliveryValue
delivery_of off bytes = record { off = off; bytes = bytes }

pub deliveries-push : (off : ℕ) (rs : List Reply) (r : Reply) → deliveries_at off (rs ++ r ∷ []) ≡ deliveries_at off rs ++ delivery_of (end_at off rs) r.0 ∷ []
deliveries-push off [] r = refl
deliveries-push off (x ∷ rs) r = ap (λ (l : List DeliveryValue). delivery_of off x.0 ∷ l) (deliveries-push (off + length x.0) rs r)

pub lines-push : (tells : Answer → Bool) (off : ℕ) (rs : List Reply) (r : Reply) → lines_at tells off (rs ++ r ∷ []) ≡ lines_at tells off rs ++ told_line tells (end_at off rs) r.1
lines-push tells off [] r = append-nil (told_line tells off r.1)
lines-push tells off (x ∷ rs) r = ap (λ (l : List ℕ). told_line tells off x.1 ++ l) (lines-push tells (off + length x.0) rs r)
    ∙ sym (append_assoc (told_line tells off x.1) (lines_at tells (off + length x.0) rs) (told_line tells (end_at (off + length x.0) rs) r.1))

pub end-push : (off : ℕ) (rs : List Reply) (r : Reply) → end_at off (rs ++ r ∷ []) ≡ end_at off rs + length r.0
end-push off [] r = refl
end-push off (x ∷ rs) r = end-push (off + length x.0) rs r

pub answers-length : (rs : List Reply) → length (answers_of rs) ≡ length rs
answers-length [] = refl
answers-length (x ∷ rs) = ap (λ n. suc n) (answers-length rs)

pub frames-more : (ws : List (List ℕ)) (w : List ℕ) → AreFrames ws → IsFrame w → AreFrames (ws ++ w ∷ [])
frames-more [] w all is = (is, tt)
frames-more (x ∷ ws) w all is = (all.0, frames-more ws w all.1 is)

pub joined-push : (ws : List (List ℕ)) (w : List ℕ) → joined (ws ++ w ∷ []) ≡ joined ws ++ w
joined-push [] w = append-nil w
joined-push (x ∷ ws) w = ap (λ (l : List ℕ). x ++ l) (joined-push ws w) ∙ sym (append_assoc x (joined ws) w)

-- no count is above that of the blobs
pub record Small (s : Summary) (n : ℕ) : Type 0 where
  pub stored : s.stored ≤ n
  pub held : s.held ≤ n
  pub bad : s.bad ≤ n
  pub refused : s.refused ≤ n

pub small-of : (list : List Answer) (next : ℕ) → Small (summary_of list next) (length list)
small-of list next = record { stored = count_by-le-length is_stored list; held = count_by-le-length is_held list; bad = count_by-le-length is_bad list; refused = count_by-le-length is_refused list }
