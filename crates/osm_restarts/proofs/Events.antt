-- A history that goes on, and a store over files that holds the end of one.
use Rattle.std.proofs.Common.{ℕ, List, [], ◌∷◌, ◌++◌, refl, sym, subst, append_assoc, append-nil}
use Rattle.std.specs.FinMap.{empty}
use Rattle.sqlite_disk.specs.declared.Disk.{Ghosts}
use Rattle.sqlite_wal.proofs.LogLemmas.{SeenMayStay}
use Rattle.sqlite_trees.specs.Objects.{catalog_tree}
use Rattle.sqlite_store.specs.declared.store.FileStore.{FileStore}
use Rattle.sqlite_store.specs.FileStore.{view, recovers}
use Rattle.sqlite_store.specs.Laws.{settled_at, shut_is_broken}
use Rattle.osm_rows.specs.declared.schema.layout.Layout.TheVariants.{Tables}
use Rattle.osm_rows.specs.Held.{HeldMap}
use Rattle.osm_trees.specs.Below.{HoldsBelow}
use Rattle.osm_trees.specs.Reading.{leaves_held}
use Rattle.osm_import.specs.Deliveries.{DeliveryValue}
use Rattle.osm_import.specs.FileHistories.{AreEventsOf}
use Rattle.osm_import.specs.Files.{AreFrames, IsFrameAt}
use Rattle.osm_import.specs.Histories.{Event, IsEvent, IsHistory, OfDeliveries}
use Rattle.osm_import.proofs.HistoryLemmas.{history-of_file, histories-restart, nothing-held}
use Rattle.osm_restarts.specs.Further.{IsFileHistory}
use Rattle.osm_restarts.specs.Left.{CanCrash, GoesOn}
use Rattle.osm_restarts.specs.Lives.{Restart, AreRestarts, events_in}
use Rattle.osm_restarts.proofs.Held.{reopened_holds}
use Rattle.osm_restarts.proofs.ListLemmas.{lists_still, listed_opens}

pub history_join : (first : HeldMap) (events more : List Event) (held last : HeldMap) → IsHistory first events held → IsHistory held more last → IsHistory first (events ++ more) last
history_join first [] more held last same walked = subst (λ (map : HeldMap). IsHistory map more last) same walked
history_join first (e ∷ events) more held last walked further = (walked.0, walked.1, history_join walked.0 events more held last walked.2 further)

pub deliveries_join : (P : DeliveryValue → Type 0) (events more : List Event) → OfDeliveries P events → OfDeliveries P more → OfDeliveries P (events ++ more)
deliveries_join P [] more all others = others
deliveries_join P (e ∷ events) more all others = (all.0, deliveries_join P events more all.1 others)

-- one event
pub one_event : (held : HeldMap) (event : Event) (left : HeldMap) → IsEvent held event left → IsHistory held (event ∷ []) left
one_event held event left step = (left, step, refl)

-- what a store over files is that can go on
module _ {D : Type 0} {g : Ghosts D} (stays : SeenMayStay g) (it : FileStore D g) where
  pub can_crash : (left : HeldMap) → HoldsBelow Tables (view it) left → CanCrash it
  can_crash left holds = record {
    whole = leaves_held (view it) (recovers it) left holds (settled_at it stays) (shut_is_broken it);
    list = lists_still stays it left holds;
    opens = listed_opens it ((view it).trees catalog_tree) (lists_still stays it left holds);
  }

  pub goes_on : (frames : List (List ℕ)) (events : List Event) (left : HeldMap) → AreFrames frames → AreEventsOf frames events → IsHistory empty events left → HoldsBelow Tables (view it) left → GoesOn frames events left it
  goes_on frames events left whole delivered history holds = record {
    holds = holds;
    of_file = history-of_file frames empty events left history delivered (λ off blob is. absurd (nothing-held off blob is));
    delivered = delivered;
    history = history;
    restartable = histories-restart frames events left whole delivered history;
    crash = can_crash left holds;
  }

  -- after more events
  pub goes_further : (frames : List (List ℕ)) (events more : List Event) (held left : HeldMap) → IsFileHistory frames events held → AreEventsOf frames more → IsHistory held more left
      → HoldsBelow Tables (view it) left → GoesOn frames (events ++ more) left it
  goes_further frames events more held left before further history holds =
      goes_on frames (events ++ more) left before.whole (deliveries_join (λ (d : DeliveryValue). IsFrameAt frames d.off d.bytes) events more before.of_file further)
      (history_join empty events more held left before.history history) holds

-- one restart after the other
pub life_goes_on : {D : Type 0} {g : Ghosts D} → SeenMayStay g → (frames : List (List ℕ)) → AreFrames frames → (restarts : List (Restart g)) (events : List Event) (held : HeldMap) (first last : FileStore D g)
    → AreEventsOf frames events → IsHistory empty events held → HoldsBelow Tables (view first) held → AreRestarts frames first restarts last
    → (left : HeldMap) × GoesOn frames (events ++ events_in restarts) left last
life_goes_on {D} {g} stays frames whole [] events held first last delivered walked holds same = (
  held,
  subst (λ (es : List Event). GoesOn frames es held last) (sym (append-nil events))
      (goes_on stays last frames events held whole delivered walked (subst (λ (s : FileStore D g). HoldsBelow Tables (view s) held) (sym same) holds)),
)
life_goes_on stays frames whole (r ∷ restarts) events held first last delivered walked holds (one, others) =
    let left = one.after held holds in
    let found = reopened_holds r.before r.after left.whole one.reopened in
    let all = deliveries_join (λ (d : DeliveryValue). IsFrameAt frames d.off d.bytes) events r.events delivered one.of_file in
    let history = history_join empty events r.events held found.0 walked (left.history found.0 found.1) in
    let rest = life_goes_on stays frames whole restarts (events ++ r.events) found.0 r.after last all history found.2 others in
    (rest.0, subst (λ (es : List Event). GoesOn frames es rest.0 last) (append_assoc events r.events (events_in restarts)) rest.1)
