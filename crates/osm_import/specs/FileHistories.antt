-- Histories of deliveries of one file, and the events of a stream of its frames.
use Rattle.std.specs.Prelude.{◌≡◌, ℕ, List, [], ◌∷◌, ◌++◌, length}
use Rattle.osm_import.specs.Deliveries.{DeliveryValue}
use Rattle.osm_import.specs.Files.{IsFrameAt, joined}
use Rattle.osm_import.specs.Histories.{Event, answered, broken, OfDeliveries}
use Rattle.osm_import.specs.declared.answer.Answer.{Answer}
use Rattle.osm_import.specs.declared.answer.Answer.TheVariants.{Fault}

-- each delivery is the frame of the file at its offset
abbrev pub AreEventsOf : List (List ℕ) → List Event → Type 0
AreEventsOf frames events = OfDeliveries (λ delivery. IsFrameAt frames delivery.off delivery.bytes) events

-- the events that deliveries in turn are, with a crash behind them: each was answered, up to one that a fault or the crash broke off
abbrev pub events_of : List DeliveryValue → List Answer → List Event
events_of deliveries [] = []
events_of [] (answer ∷ answers) = []
events_of (delivery ∷ deliveries) (Fault fault ∷ answers) = broken delivery ∷ []
events_of (delivery ∷ deliveries) (answer ∷ answers) = answered delivery answer ∷ events_of deliveries answers

-- the bytes stand at this offset of the file, where one of its frames begins, and may end before the file does
pub record StandIn (frames : List (List ℕ)) (from : ℕ) (bytes : List ℕ) : Type 0 where
  pub before : List (List ℕ)
  pub later : List (List ℕ)
  pub behind : List ℕ
  pub parted : frames ≡ before ++ later
  pub begins : from ≡ length (joined before)
  pub there : bytes ++ behind ≡ joined later
