-- Histories of deliveries of a file that go on over what crashes leave.
use Rattle.std.specs.Prelude.{◌≡◌, ℕ, List, [], ◌++◌, Option, Some}
use Rattle.std.specs.FinMap.{empty}
use Rattle.sqlite_disk.specs.declared.Disk.{Ghosts}
use Rattle.sqlite_trees.specs.Tree.{Trees}
use Rattle.sqlite_trees.specs.View.{IsClean}
use Rattle.sqlite_store.specs.declared.store.FileStore.{FileStore}
use Rattle.sqlite_store.specs.FileStore.{view, recovers}
use Rattle.osm_rows.specs.declared.schema.layout.Layout.TheVariants.{Tables}
use Rattle.osm_rows.specs.Held.{HeldMap}
use Rattle.osm_trees.specs.Below.{HoldsBelow, LeavesAMap, MayLeave}
use Rattle.osm_import.specs.Deliveries.{DeliveryValue}
use Rattle.osm_import.specs.FileHistories.{AreEventsOf, StandIn, events_of}
use Rattle.osm_import.specs.Files.{AreFrames, AreOfFile, IsFrameAt, IsHeldOfFile}
use Rattle.osm_import.specs.Histories.{Event, IsHistory, LeavesEvents}
use Rattle.osm_import.specs.declared.answer.Answer.{Answer}
use Rattle.osm_restarts.specs.Left.{CrashesAfter, GoesOn, IsReopened, LeavesHistory}

-- ---- what is delivered of a file

-- these are the frames of a file, the deliveries are some of them, and nothing but blobs of that file is held
pub record AreOfOneFile (frames : List (List ℕ)) (deliveries : List DeliveryValue) (held : HeldMap) : Type 0 where
  pub whole : AreFrames frames
  pub of_file : AreOfFile frames deliveries
  pub held_of_file : IsHeldOfFile frames held

-- The bytes are known, and stand in the file of these frames at this offset, where a frame begins. They may end before the file does.
pub record IsPartOf (frames : List (List ℕ)) (from : ℕ) (bytes : Option (List ℕ)) : Type 0 where
  pub piece : List ℕ
  pub whole : AreFrames frames
  pub stands : StandIn frames from piece
  pub given : bytes ≡ Some piece

-- ---- the history so far

-- these are the frames of a file, and what is held comes of a history of deliveries of them to a new store
pub record IsFileHistory (frames : List (List ℕ)) (events : List Event) (held : HeldMap) : Type 0 where
  pub whole : AreFrames frames
  pub of_file : AreEventsOf frames events
  pub history : IsHistory empty events held

-- the store holds what comes of this history of deliveries of a file
pub record HoldsHistory {D : Type 0} {g : Ghosts D} (frames : List (List ℕ)) (events : List Event) (store : FileStore D g) : Type 0 where
  pub held : HeldMap
  pub comes_of : IsFileHistory frames events held
  pub holds : HoldsBelow Tables (view store) held

-- ---- what a crash leaves of it

-- Behind the history came more deliveries of the file. Whatever a crash leaves is a map, and comes of them over what was held.
pub record LeavesMore (frames : List (List ℕ)) (events more : List Event) (recovers : Trees → Type 0) : Type 0 where
  pub held : HeldMap
  pub comes_of : IsFileHistory frames events held
  pub of_file : AreEventsOf frames more
  pub leaves : LeavesHistory held more recovers

-- Behind the history came one more delivery of the file, so answered. Whatever a crash leaves is a map, and is as `deliver` promises.
pub record LeavesDelivery (frames : List (List ℕ)) (events : List Event) (delivery : DeliveryValue) (answer : Answer) (recovers : Trees → Type 0) : Type 0 where
  pub held : HeldMap
  pub comes_of : IsFileHistory frames events held
  pub of_file : IsFrameAt frames delivery.off delivery.bytes
  pub whole : LeavesAMap recovers
  pub leaves : LeavesEvents (MayLeave recovers) held delivery answer

-- The deliveries of a stream, so answered, were of the file, and made the first store the last: a crash leaves what comes of them.
abbrev pub CrashesAfterStream : {D : Type 0} {g : Ghosts D} → List (List ℕ) → FileStore D g → FileStore D g → List DeliveryValue → List Answer → Type 0
CrashesAfterStream frames first last deliveries answers = AreEventsOf frames (events_of deliveries answers) × CrashesAfter (events_of deliveries answers) first last

-- ---- how it goes on

-- Once the first store has crashed and was opened again as the second, that holds a map that the crash may have left, and with it the
-- history of these deliveries goes on.
abbrev pub GoesOnAfter : {D : Type 0} {g : Ghosts D} {E : Type 0} {h : Ghosts E} → FileStore D g → List (List ℕ) → List Event → FileStore E h → Type 0
GoesOnAfter before frames events after = IsReopened before after → (left : HeldMap) × MayLeave (recovers before) left × GoesOn frames events left after

-- Whatever history of deliveries of the file the first store held, it goes on with these behind it, once that store has crashed as
-- `before` and was opened again as `after`.
abbrev pub GoesFurther : {D : Type 0} {g : Ghosts D} {E : Type 0} {h : Ghosts E} → List (List ℕ) → List Event → FileStore D g → FileStore D g → FileStore E h → Type 0
GoesFurther frames more first before after = (events : List Event) → HoldsHistory frames events first → GoesOnAfter before frames (events ++ more) after

-- so it goes on with the deliveries of a stream, so answered
abbrev pub StreamGoesOn : {D : Type 0} {g : Ghosts D} {E : Type 0} {h : Ghosts E} → List (List ℕ) → FileStore D g → FileStore D g → FileStore E h → List DeliveryValue → List Answer → Type 0
StreamGoesOn frames first before after deliveries answers = GoesFurther frames (events_of deliveries answers) first before after

-- Once the first store has crashed, over an honest disk, and was opened again as the second, that holds no blob, and a history of
-- deliveries of the file begins with it.
abbrev pub BeginsAfter : {D : Type 0} {g : Ghosts D} {E : Type 0} {h : Ghosts E} → FileStore D g → List (List ℕ) → FileStore E h → Type 0
BeginsAfter before frames after = IsClean (view before) → IsReopened before after → GoesOn frames [] empty after
