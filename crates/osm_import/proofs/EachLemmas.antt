-- Deliveries in turn, of which each is one that `deliver` may have made, and what follows of all of them.
use Rattle.std.proofs.Common.{◌≡◌, ◌⊎◌, ℕ, ◌+◌, ◌<◌, ◌≤◌, List, [], ◌∷◌, ◌++◌, length, take, get_or, refl, sym, ◌∙◌, ap, subst, inl, inr}
use Rattle.std.proofs.lemmas.List.{take_more, take_all}
use Rattle.osm_rows.specs.Held.{HeldMap}
use Rattle.osm_rows.specs.declared.keeper.BlobReader.{Ghosts}
use Rattle.osm_import.specs.Deliveries.{DeliveryValue}
use Rattle.osm_import.specs.Runs.{IsStored, IsFault, IsNone, HaveCauses, AreOwn, IsFirstFaultOwn, Runs}
use Rattle.osm_import.specs.Step.{IsStep, IsOwn}
use Rattle.osm_import.specs.Stores.{TakesOne, TakesEach}
use Rattle.osm_import.specs.declared.answer.Answer.{Answer}
use Rattle.osm_import.specs.declared.answer.Answer.TheVariants.{Stored, AlreadyHeld, Bad, Refused, Fault}
use Rattle.osm_import.proofs.RunsLemmas.{delivers-step, delivers-sound}

-- one more delivery
pub each-push : {S : Type 0} (store : Ghosts S) (old mid new : S) (ds : List DeliveryValue) (rs : List Answer) (d : DeliveryValue) (a : Answer)
    → TakesEach store old mid ds rs → TakesOne store mid new d.off d.bytes a → TakesEach store old new (ds ++ d ∷ []) (rs ++ a ∷ [])
each-push {S} store old mid new [] [] d a all one = (new, subst (λ (s : S). TakesOne store s new d.off d.bytes a) all one, refl)
each-push store old mid new [] (r ∷ rs) d a all one = absurd all
each-push store old mid new (e ∷ ds) [] d a all one = absurd all
each-push store old mid new (e ∷ ds) (r ∷ rs) d a all one = (all.0, all.1, each-push store all.0 mid new ds rs d a all.2 one)

-- the same at a place of a list of deliveries
pub each-push-at : {S : Type 0} (store : Ghosts S) (old mid new : S) (ds : List DeliveryValue) (i : ℕ) (d item : DeliveryValue) (rs items : List Answer) (a : Answer)
    → i < length ds → d ≡ item → item ≡ get_or ds i item → items ≡ rs ++ a ∷ []
    → TakesEach store old mid (take i ds) rs → TakesOne store mid new d.off d.bytes a → TakesEach store old new (take (i + 1) ds) items
each-push-at store old mid new ds i d item rs items a within is_item at pushed all one =
    let taken : take (i + 1) ds ≡ take i ds ++ d ∷ [] = take_more ds i item within ∙ ap (λ (y : DeliveryValue). take i ds ++ y ∷ []) (sym at ∙ sym is_item) in
    subst (λ (xs : List DeliveryValue). TakesEach store old new xs items) (sym taken)
    (subst (λ (ys : List Answer). TakesEach store old new (take i ds ++ d ∷ []) ys) (sym pushed) (each-push store old mid new (take i ds) rs d a all one))

-- all of a list were delivered
pub each-all : {S : Type 0} (store : Ghosts S) (old new : S) (ds : List DeliveryValue) (i : ℕ) (rs : List Answer) → length ds ≤ i → TakesEach store old new (take i ds) rs → TakesEach store old new ds rs
each-all store old new ds i rs whole all = subst (λ (xs : List DeliveryValue). TakesEach store old new xs rs) (take_all i ds whole) all

pub each-honest : {S : Type 0} (store : Ghosts S) (old new : S) (ds : List DeliveryValue) (rs : List Answer) → TakesEach store old new ds rs → store.is_honest new → store.is_honest old
each-honest {S} store old new [] [] all honest = subst (λ (s : S). store.is_honest s) all honest
each-honest store old new [] (a ∷ rs) all honest = absurd all
each-honest store old new (d ∷ ds) [] all honest = absurd all
each-honest store old new (d ∷ ds) (a ∷ rs) all honest = all.1.honest (each-honest store all.0 new ds rs all.2 honest)

pub each-open : {S : Type 0} (store : Ghosts S) (old new : S) (ds : List DeliveryValue) (rs : List Answer) → TakesEach store old new ds rs → store.is_open new → store.is_open old
each-open {S} store old new [] [] all up = subst (λ (s : S). store.is_open s) all up
each-open store old new [] (a ∷ rs) all up = absurd all
each-open store old new (d ∷ ds) [] all up = absurd all
each-open store old new (d ∷ ds) (a ∷ rs) all up = all.1.open_if (each-open store all.0 new ds rs all.2 up)

pub each-causes : {S : Type 0} (store : Ghosts S) (old new : S) (ds : List DeliveryValue) (rs : List Answer) → TakesEach store old new ds rs → HaveCauses (store.failures old) (store.failures new) rs
each-causes store old new [] [] all = ap store.failures all
each-causes store old new [] (a ∷ rs) all = absurd all
each-causes store old new (d ∷ ds) [] all = absurd all
each-causes store old new (d ∷ ds) (a ∷ rs) all = (store.failures all.0, all.1.counted, all.1.cause, each-causes store all.0 new ds rs all.2)

-- where none is stored
pub each-same : {S : Type 0} (store : Ghosts S) → ((s : S) → store.same_tables s s) → ((first next last : S) → store.same_tables first next → store.same_tables next last → store.same_tables first last)
    → (old new : S) (ds : List DeliveryValue) (rs : List Answer) → TakesEach store old new ds rs → store.is_honest new → store.is_open new → IsNone IsStored rs → store.same_tables old new
each-same {S} store self joined old new [] [] all honest up none = subst (λ (s : S). store.same_tables old s) (sym all) (self old)
each-same store self joined old new [] (a ∷ rs) all honest up none = absurd all
each-same store self joined old new (d ∷ ds) [] all honest up none = absurd all
each-same store self joined old new (d ∷ ds) (a ∷ rs) all honest up none =
    joined old all.0 new (all.1.same (each-honest store all.0 new ds rs all.2 honest) (each-open store all.0 new ds rs all.2 up) none.0)
    (each-same store self joined all.0 new ds rs all.2 honest up none.1)

-- the first of them is a step, where the store can go on behind all of them or none is answered with a fault
each-step : {S : Type 0} (store : Ghosts S) (old next new : S) (d : DeliveryValue) (ds : List DeliveryValue) (a : Answer) (rs : List Answer)
    → TakesOne store old next d.off d.bytes a → TakesEach store next new ds rs → (held : HeldMap) → store.holds old held → store.is_honest new → store.is_open new ⊎ IsNone IsFault (a ∷ rs)
    → (after : HeldMap) × IsStep held d.off d.bytes a after × store.holds next after
each-step store old next new d ds a rs one rest held holds honest sound =
    let made = one.step held holds (each-honest store next new ds rs rest honest) in elim sound [
      | inl up ↦ delivers-step (store.is_open next) (store.holds next) held d.off d.bytes a made (each-open store next new ds rs rest up)
      | inr none ↦ delivers-sound (store.is_open next) (store.holds next) held d.off d.bytes a none.0 made
    ]

rest-sound : (P : Type 0) (a : Answer) (rs : List Answer) → P ⊎ IsNone IsFault (a ∷ rs) → P ⊎ IsNone IsFault rs
rest-sound P a rs sound = elim sound [ inl up ↦ inl up | inr none ↦ inr none.1 ]

-- all of them are steps there
pub each-run : {S : Type 0} (store : Ghosts S) (old new : S) (ds : List DeliveryValue) (rs : List Answer) → TakesEach store old new ds rs
    → (held : HeldMap) → store.holds old held → store.is_honest new → store.is_open new ⊎ IsNone IsFault rs → Runs (store.holds new) held ds rs
each-run {S} store old new [] [] all held holds honest sound = (held, refl, subst (λ (s : S). store.holds s held) (sym all) holds)
each-run store old new [] (a ∷ rs) all held holds honest sound = absurd all
each-run store old new (d ∷ ds) [] all held holds honest sound = absurd all
each-run store old new (d ∷ ds) (a ∷ rs) all held holds honest sound =
    let step = each-step store old all.0 new d ds a rs all.1 all.2 held holds honest sound in
    let rest = each-run store all.0 new ds rs all.2 step.0 step.2 honest (rest-sound (store.is_open new) a rs sound) in
    (rest.0, (step.0, step.1, rest.1), rest.2)

-- and no fault among the answers says that the tables are another store's
pub each-own : {S : Type 0} (store : Ghosts S) (old new : S) (ds : List DeliveryValue) (rs : List Answer) → TakesEach store old new ds rs
    → (held : HeldMap) → store.holds old held → store.is_honest new → store.is_open new ⊎ IsNone IsFault rs → AreOwn rs
each-own store old new [] [] all held holds honest sound = tt
each-own store old new [] (a ∷ rs) all held holds honest sound = absurd all
each-own store old new (d ∷ ds) [] all held holds honest sound = absurd all
each-own store old new (d ∷ ds) (a ∷ rs) all held holds honest sound =
    let step = each-step store old all.0 new d ds a rs all.1 all.2 held holds honest sound in (
      all.1.own held holds (each-honest store all.0 new ds rs all.2 honest),
      each-own store all.0 new ds rs all.2 step.0 step.2 honest (rest-sound (store.is_open new) a rs sound),
    )

first-own-cons : (a : Answer) (rs : List Answer) → IsOwn a → (¬ (IsFault a) → IsFirstFaultOwn rs) → IsFirstFaultOwn (a ∷ rs)
first-own-cons (Fault fault) rs own rest = own
first-own-cons (Stored count) rs own rest = rest (λ h. h)
first-own-cons AlreadyHeld rs own rest = rest (λ h. h)
first-own-cons (Bad fault) rs own rest = rest (λ h. h)
first-own-cons (Refused reason) rs own rest = rest (λ h. h)

-- nor does the first one, whatever the store is behind it
pub each-first-own : {S : Type 0} (store : Ghosts S) (old new : S) (ds : List DeliveryValue) (rs : List Answer) → TakesEach store old new ds rs
    → (held : HeldMap) → store.holds old held → store.is_honest new → IsFirstFaultOwn rs
each-first-own store old new [] [] all held holds honest = tt
each-first-own store old new [] (a ∷ rs) all held holds honest = absurd all
each-first-own store old new (d ∷ ds) [] all held holds honest = absurd all
each-first-own store old new (d ∷ ds) (a ∷ rs) all held holds honest =
    let mid = each-honest store all.0 new ds rs all.2 honest in
    first-own-cons a rs (all.1.own held holds mid)
    (λ none. let step = delivers-sound (store.is_open all.0) (store.holds all.0) held d.off d.bytes a none (all.1.step held holds mid) in each-first-own store all.0 new ds rs all.2 step.0 step.2 honest)
