use Rattle.std.proofs.Common.{◌≡◌, ◌∙◌, List, Ok, Err, length, refl, sym, ap, subst, rules}
use Rattle.osm_value.specs.declared.element.Element.{Element}
use Rattle.osm_rows.specs.Calls.{OfHeld}
use Rattle.osm_rows.specs.Held.{Blob, HaveFewTexts}
use Rattle.osm_rows.specs.Keeping.{IsAddable, with_blob}
use Rattle.osm_rows.specs.declared.keeper.Extent.{Extent}
use Rattle.osm_import.specs.declared.copy.BlobCopy.TheVariants.{Added, AlreadyHeld}
use Rattle.osm_import.specs.declared.copy.CopyFault.TheVariants.{Refused, Store}
use Rattle.osm_import.specs.Copies.{CopiesBlob}
use Rattle.osm_import.specs.Places.{IsPlaceOf}
use Rattle.osm_import.specs.Stores.{WhereHeld, blob_of}
use Rattle.osm_import.specs.declared.place.Place.{Place}
use Rattle.osm_import.proofs.CopiesLemmas.{keeps-free, keeps-same, kept-failed, kept-still}
use Rattle.osm_import.proofs.CopyLemmas.{blob_put}
use Rattle.osm_import.proofs.Copying.{copies_by_putting, copies_by_reading, held_there, in_its_way, kept_by_putting}
use Rattle.osm_import.proofs.Taking.{Promises}
use Rattle.osm_import.proofs.copy.copy_blob.Goals as goal

pub returns-in-Held : goal.returns-in-Held
returns-in-Held g c =
    let T = g.met.T.BlobReader in
    let promised : Promises g.T.BlobReader = record { settled = T.settled; leaves_held = T.leaves_held; is_apart = T.is_apart; same_then = T.same_tables_then } in
    let reads = c.in_ok-place.ensures.reads in
    copies_by_reading g.F.BlobReader g.T.BlobReader promised c.args.from.now c.args.from.now c.args.to.now c.place_of.new.keeper c.args.extent.now (Ok AlreadyHeld) _ reads
    (λ source held blob from_holds from_honest holds honest of is. (
      held,
      held_there held c.args.extent.now blob is (subst (λ (p : Place). IsPlaceOf held c.args.extent.now.off c.args.extent.now.fin c.args.extent.now.digest p) c.in-Held.is (c.in_ok-place.ensures.place held holds honest)),
      reads.ok honest held holds,
    ))
    (λ held holds honest. kept-still g.T.BlobReader c.place_of.new.keeper _ held (reads.ok honest held holds) (λ left leaves. T.settled _ held left holds (reads.crash honest left leaves)))
    (λ source held blob from_holds from_honest holds honest of is. tt)
    (record { stays = record { honest = λ h. h; open_if = λ h. h; kept = λ h up all holds. holds; crash = λ h left leaves. leaves; whole = λ h all. all }; ok = λ h all holds. holds })
    tt (search rules) tt (search rules)

pub returns-in_err-place : goal.returns-in_err-place
returns-in_err-place g c =
    let T = g.met.T.BlobReader in
    let promised : Promises g.T.BlobReader = record { settled = T.settled; leaves_held = T.leaves_held; is_apart = T.is_apart; same_then = T.same_tables_then } in
    let reads = c.in_err-place.ensures.reads in
    copies_by_reading g.F.BlobReader g.T.BlobReader promised c.args.from.now c.args.from.now c.args.to.now c.place_of.new.keeper c.args.extent.now c.from_residual.result _ reads
    (search rules)
    (λ held holds honest. kept-failed g.T.BlobReader c.place_of.new.keeper c.from_residual.result held c.from_residual.ensures.0 (λ up. reads.err honest up held holds) (λ left leaves. T.settled _ held left holds (reads.crash honest left leaves)))
    (search rules) (search rules) (search rules) (search rules) (search rules) (search rules)

pub returns-in-Taken : goal.returns-in-Taken
returns-in-Taken g c =
    let T = g.met.T.BlobReader in
    let promised : Promises g.T.BlobReader = record { settled = T.settled; leaves_held = T.leaves_held; is_apart = T.is_apart; same_then = T.same_tables_then } in
    let reads = c.in_ok-place.ensures.reads in
    copies_by_reading g.F.BlobReader g.T.BlobReader promised c.args.from.now c.args.from.now c.args.to.now c.place_of.new.keeper c.args.extent.now (Err (Refused c.in-Taken.conflict)) _ reads
    (λ source held blob from_holds from_honest holds honest of is. (
      held,
      in_its_way held c.args.extent.now blob c.in-Taken.conflict is (subst (λ (p : Place). IsPlaceOf held c.args.extent.now.off c.args.extent.now.fin c.args.extent.now.digest p) c.in-Taken.is (c.in_ok-place.ensures.place held holds honest)),
      reads.ok honest held holds,
    ))
    (λ held holds honest. kept-still g.T.BlobReader c.place_of.new.keeper _ held (reads.ok honest held holds) (λ left leaves. T.settled _ held left holds (reads.crash honest left leaves)))
    (λ source held blob from_holds from_honest holds honest of is. tt)
    (record { stays = record { honest = λ h. h; open_if = λ h. h; kept = λ h up all holds. holds; crash = λ h left leaves. leaves; whole = λ h all. all }; ok = tt })
    tt (search rules) tt (search rules)

pub returns-in_err-loaded : goal.returns-in_err-loaded
returns-in_err-loaded g c =
    let T = g.met.T.BlobReader in
    let promised : Promises g.T.BlobReader = record { settled = T.settled; leaves_held = T.leaves_held; is_apart = T.is_apart; same_then = T.same_tables_then } in
    let reads = c.in_ok-place.ensures.reads in
    copies_by_reading g.F.BlobReader g.T.BlobReader promised c.args.from.now c.load.new.self c.args.to.now c.place_of.new.keeper c.args.extent.now c.from_residual-in_err-loaded.result _ reads
    (search rules)
    (λ held holds honest. kept-still g.T.BlobReader c.place_of.new.keeper _ held (reads.ok honest held holds) (λ left leaves. T.settled _ held left holds (reads.crash honest left leaves)))
    (search rules) (search rules) (search rules) (search rules) (search rules) (search rules)

pub returns-in_err-elements : goal.returns-in_err-elements
returns-in_err-elements g c =
    let T = g.met.T.BlobReader in
    let promised : Promises g.T.BlobReader = record { settled = T.settled; leaves_held = T.leaves_held; is_apart = T.is_apart; same_then = T.same_tables_then } in
    let reads = c.in_ok-place.ensures.reads in
    copies_by_reading g.F.BlobReader g.T.BlobReader promised c.args.from.now c.load.new.self c.args.to.now c.place_of.new.keeper c.args.extent.now c.from_residual-in_err-elements.result _ reads
    (search rules)
    (λ held holds honest. kept-still g.T.BlobReader c.place_of.new.keeper _ held (reads.ok honest held holds) (λ left leaves. T.settled _ held left holds (reads.crash honest left leaves)))
    (search rules) (search rules) (search rules) (search rules) (search rules) (search rules)

pub returns-in-Ok : goal.returns-in-Ok
returns-in-Ok g c =
    let T = g.met.T.BlobReader in
    let F = g.met.F.BlobReader in
    let promised : Promises g.T.BlobReader = record { settled = T.settled; leaves_held = T.leaves_held; is_apart = T.is_apart; same_then = T.same_tables_then } in
    let reads = c.in_ok-place.ensures.reads in
    let extent = c.args.extent.now in
    let stored = c.deref.result.now in
    let put : Blob = blob_of extent stored in
    let same = c.deref.ensures.value in
    let few : HaveFewTexts stored = subst (λ (es : List Element). HaveFewTexts es) (sym same) c.in_ok-elements.ensures.complete.1 in
    let can : OfHeld g.T.BlobReader c.args.to.now c.place_of.new.keeper (λ held. IsAddable held extent.off put)
    = λ held holds honest. record {
      free = subst (λ (p : Place). IsPlaceOf held extent.off extent.fin extent.digest p) c.in-Free.is (c.in_ok-place.ensures.place held holds honest);
      few_texts = few;
    } in
    let is_put : WhereHeld g.F.BlobReader g.T.BlobReader c.args.from.now c.load.new.self c.args.to.now c.put.new.self extent (λ held blob. put ≡ blob)
    = λ source held blob from_holds from_honest holds honest of is.
    let are = c.in_ok-elements.ensures.held blob (c.in_ok-loaded.ensures.rows source blob from_holds from_honest of) (F.has_few_texts _ source from_holds extent.off blob of) (ap (λ (e : Extent). e.n) is) in
    blob_put extent.off extent blob stored is (same ∙ are) in
    let adds = c.in-Ok.ensures.adds in
    let holds_more : OfHeld g.T.BlobReader c.args.to.now c.put.new.self (λ held. g.T.BlobReader.holds c.put.new.self (with_blob held extent.off put))
    = λ held holds honest. adds.ok honest held (reads.ok (adds.honest honest) held holds) (can held holds (adds.honest honest)) in
    copies_by_putting g.F.BlobReader g.T.BlobReader promised c.args.from.now c.load.new.self c.args.to.now c.place_of.new.keeper c.put.new.self extent put _ reads _ adds can c.requires.0 (Ok Added) is_put
    (λ source held blob from_holds from_honest holds honest of is.
    let one = is_put source held blob from_holds from_honest holds honest of is in
    subst (λ (b : Blob). CopiesBlob (g.T.BlobReader.is_open c.put.new.self) (g.T.BlobReader.holds c.put.new.self) held extent.off b (Ok Added)) one
    (with_blob held extent.off put, ((can held holds (adds.honest honest)).free, refl), holds_more held holds honest))
    (kept_by_putting g.F.BlobReader g.T.BlobReader promised c.args.from.now c.load.new.self c.args.to.now c.place_of.new.keeper c.put.new.self extent put _ reads _ adds can c.requires.0 (Ok Added)
    (λ held holds honest. (with_blob held extent.off put, keeps-free held extent.off put (T.is_apart _ held holds) c.requires.0 (can held holds (adds.honest honest)).free, holds_more held holds honest)) (λ held holds honest. tt))
    (λ source held blob from_holds from_honest holds honest of is. tt) (search rules) (search rules) tt (search rules)
    (stored, ap length same ∙ c.in_ok-elements.ensures.complete.0, λ held holds honest. ((can held holds (adds.honest honest)).free, holds_more held holds honest)) (search rules)

pub returns : goal.returns
returns g c =
    let T = g.met.T.BlobReader in
    let F = g.met.F.BlobReader in
    let promised : Promises g.T.BlobReader = record { settled = T.settled; leaves_held = T.leaves_held; is_apart = T.is_apart; same_then = T.same_tables_then } in
    let reads = c.in_ok-place.ensures.reads in
    let extent = c.args.extent.now in
    let stored = c.deref.result.now in
    let put : Blob = blob_of extent stored in
    let same = c.deref.ensures.value in
    let few : HaveFewTexts stored = subst (λ (es : List Element). HaveFewTexts es) (sym same) c.in_ok-elements.ensures.complete.1 in
    let can : OfHeld g.T.BlobReader c.args.to.now c.place_of.new.keeper (λ held. IsAddable held extent.off put)
    = λ held holds honest. record {
      free = subst (λ (p : Place). IsPlaceOf held extent.off extent.fin extent.digest p) c.in-Free.is (c.in_ok-place.ensures.place held holds honest);
      few_texts = few;
    } in
    let is_put : WhereHeld g.F.BlobReader g.T.BlobReader c.args.from.now c.load.new.self c.args.to.now c.put.new.self extent (λ held blob. put ≡ blob)
    = λ source held blob from_holds from_honest holds honest of is.
    let are = c.in_ok-elements.ensures.held blob (c.in_ok-loaded.ensures.rows source blob from_holds from_honest of) (F.has_few_texts _ source from_holds extent.off blob of) (ap (λ (e : Extent). e.n) is) in
    blob_put extent.off extent blob stored is (same ∙ are) in
    let adds = c.in-Err.ensures.adds in
    let holds_still : OfHeld g.T.BlobReader c.args.to.now c.put.new.self (λ held. g.T.BlobReader.is_open c.put.new.self → g.T.BlobReader.holds c.put.new.self held)
    = λ held holds honest up. adds.err honest up held (reads.ok (adds.honest honest) held holds) (can held holds (adds.honest honest)) in
    copies_by_putting g.F.BlobReader g.T.BlobReader promised c.args.from.now c.load.new.self c.args.to.now c.place_of.new.keeper c.put.new.self extent put _ reads _ adds can c.requires.0 (Err (Store c.in-Err.fault)) is_put
    (λ source held blob from_holds from_honest holds honest of is. holds_still held holds honest)
    (kept_by_putting g.F.BlobReader g.T.BlobReader promised c.args.from.now c.load.new.self c.args.to.now c.place_of.new.keeper c.put.new.self extent put _ reads _ adds can c.requires.0 (Err (Store c.in-Err.fault))
    (λ held holds honest. tt) (λ held holds honest up. (held, keeps-same held, holds_still held holds honest up)))
    (λ source held blob from_holds from_honest holds honest of is. adds.own held (reads.ok (adds.honest honest) held holds) honest (can held holds (adds.honest honest)))
    (search rules) (λ honest up other. adds.same honest up) (search rules) (search rules) tt (search rules)
