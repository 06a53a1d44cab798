use Rattle.std.proofs.Common.{◌≡◌, ◌+◌, ◌∙◌, ℕ, List, length, refl, sym, subst, inr, rules}
use Rattle.osm_reading.specs.Bad.{IsBad}
use Rattle.osm_reading.specs.declared.fault.Fault.{Fault as BadFault}
use Rattle.osm_value.specs.declared.element.Element.{Element}
use Rattle.osm_rows.specs.Calls.{OfHeld}
use Rattle.osm_rows.specs.Held.{Blob, HeldMap, HaveFewTexts}
use Rattle.osm_rows.specs.Keeping.{IsAddable, with_blob}
use Rattle.osm_import.specs.Places.{IsPlaceOf}
use Rattle.osm_import.specs.Step.{IsStoring}
use Rattle.osm_import.specs.declared.answer.Answer.TheVariants.{AlreadyHeld, Fault, Refused}
use Rattle.osm_import.specs.declared.place.Place.{Place}
use Rattle.osm_import.proofs.Delivering.{few-texts, held_already, refused_there, storing}
use Rattle.osm_import.proofs.Taking.{Promises, takes_by_putting, takes_by_reading}
use Rattle.osm_import.proofs.delivery.deliver.Goals as goal

pub returns-in-Err-Bad : goal.returns-in-Err-Bad
returns-in-Err-Bad g c = record {
  step = λ held holds honest.
      (held, (subst (λ (fault : BadFault). IsBad c.args.off c.args.bytes.now fault) (sym c.in-Err-Bad.fault-is) (rw c.in-Err-Bad.field-0-is at c.in-Err-Bad.ensures.bad), refl), holds);
  crash = search rules;
  events = search rules;
  whole = search rules;
  list = λ held holds honest rows lists. lists;
  own = search rules;
  cause = search rules;
  same = search rules;
  shut = search rules;
  honest = search rules;
  open_if = search rules;
  counted = search rules;
}

pub returns-in-Err : goal.returns-in-Err
returns-in-Err g c =
    let K = g.met.K.BlobReader in
    takes_by_reading g.K.BlobReader (record { settled = K.settled; leaves_held = K.leaves_held; is_apart = K.is_apart; same_then = K.same_tables_then }) c.args.keeper.now c.place_of.new.keeper c.args.off c.args.bytes.now (Fault c.in-Err.fault)
    _ c.in-Err.ensures.reads (λ held holds honest up. c.in-Err.ensures.reads.err honest up held holds) (λ no. no) (λ held holds honest. c.in-Err.ensures.reads.own held holds honest) (search rules) (search rules)

pub returns-in-Held : goal.returns-in-Held
returns-in-Held g c =
    let K = g.met.K.BlobReader in
    takes_by_reading g.K.BlobReader (record { settled = K.settled; leaves_held = K.leaves_held; is_apart = K.is_apart; same_then = K.same_tables_then }) c.args.keeper.now c.place_of.new.keeper c.args.off c.args.bytes.now AlreadyHeld
    _ c.in-Ok-place_of.ensures.reads
    (λ held holds honest. (
      held,
      held_already held c.args.off c.args.bytes.now _ _ c.digest-digest.result c.in-Ok.ensures.good c.digest-digest.ensures
          (subst (λ (p : Place). IsPlaceOf held c.args.off (c.args.off + length c.args.bytes.now) c.digest-digest.result p) c.in-Held.is (c.in-Ok-place_of.ensures.place held holds honest)),
      c.in-Ok-place_of.ensures.reads.ok honest held holds,
    )) (λ no. no) (λ held holds honest. tt) (search rules) (search rules)

pub returns-in-Taken : goal.returns-in-Taken
returns-in-Taken g c =
    let K = g.met.K.BlobReader in
    takes_by_reading g.K.BlobReader (record { settled = K.settled; leaves_held = K.leaves_held; is_apart = K.is_apart; same_then = K.same_tables_then }) c.args.keeper.now c.place_of.new.keeper c.args.off c.args.bytes.now (Refused c.in-Taken.conflict)
    _ c.in-Ok-place_of.ensures.reads
    (λ held holds honest. (
      held,
      refused_there held c.args.off c.args.bytes.now _ _ c.digest-digest.result c.in-Taken.conflict c.in-Ok.ensures.good c.digest-digest.ensures
          (subst (λ (p : Place). IsPlaceOf held c.args.off (c.args.off + length c.args.bytes.now) c.digest-digest.result p) c.in-Taken.is (c.in-Ok-place_of.ensures.place held holds honest)),
      c.in-Ok-place_of.ensures.reads.ok honest held holds,
    )) (λ no. no) (λ held holds honest. tt) (search rules) (search rules)

pub returns-in-Ok-put : goal.returns-in-Ok-put
returns-in-Ok-put g c =
    let K = g.met.K.BlobReader in
    let promised : Promises g.K.BlobReader = record { settled = K.settled; leaves_held = K.leaves_held; is_apart = K.is_apart; same_then = K.same_tables_then } in
    let stored = c.deref.result.now in
    let blob : Blob = record { fin = c.args.off + length c.args.bytes.now; digest = c.digest-digest.result; kind = c.in-Ok.good.kind; elements = stored } in
    let can : OfHeld g.K.BlobReader c.args.keeper.now c.place_of.new.keeper (λ held. IsAddable held c.args.off blob)
    = λ held holds honest. record {
      free = subst (λ (p : Place). IsPlaceOf held c.args.off (c.args.off + length c.args.bytes.now) c.digest-digest.result p) c.in-Free.is (c.in-Ok-place_of.ensures.place held holds honest);
      few_texts = subst (λ (es : List Element). HaveFewTexts es) (sym c.deref.ensures.value) (few-texts c.args.off c.args.bytes.now c.in-Ok.good.kind c.in-Ok.good.elements.items c.in-Ok.ensures.good);
    } in
    let stores : (held after : HeldMap) (count : ℕ) → g.K.BlobReader.holds c.args.keeper.now held → g.K.BlobReader.is_honest c.place_of.new.keeper → count ≡ length stored → after ≡ with_blob held c.args.off blob → IsStoring held c.args.off c.args.bytes.now count after
    = λ held after count holds honest counted is. storing held c.args.off c.args.bytes.now c.in-Ok.good.kind c.in-Ok.good.elements.items stored c.digest-digest.result count after c.in-Ok.ensures.good c.deref.ensures.value c.digest-digest.ensures (K.is_apart _ held holds) (can held holds honest).free counted is in
    let adds = c.in-Ok-put.ensures.adds in
    takes_by_putting g.K.BlobReader promised c.args.keeper.now c.place_of.new.keeper c.put.new.self c.args.off c.args.bytes.now blob _ c.in-Ok-place_of.ensures.reads _ adds can _
    (λ held after holds honest is left here. inr (length stored, stores held left (length stored) holds (adds.honest honest) refl (here ∙ is)))
    (λ held holds honest. (
      _,
      stores held (with_blob held c.args.off blob) _ holds (adds.honest honest) (search rules) refl,
      adds.ok honest held (c.in-Ok-place_of.ensures.reads.ok (adds.honest honest) held holds) (can held holds (adds.honest honest)),
    ))
    (λ honest shut stored. shut (adds.was_open honest)) (λ held holds honest. tt) (λ honest up other. absurd (other tt)) (search rules) (search rules)

pub returns : goal.returns
returns g c =
    let K = g.met.K.BlobReader in
    let promised : Promises g.K.BlobReader = record { settled = K.settled; leaves_held = K.leaves_held; is_apart = K.is_apart; same_then = K.same_tables_then } in
    let stored = c.deref.result.now in
    let blob : Blob = record { fin = c.args.off + length c.args.bytes.now; digest = c.digest-digest.result; kind = c.in-Ok.good.kind; elements = stored } in
    let can : OfHeld g.K.BlobReader c.args.keeper.now c.place_of.new.keeper (λ held. IsAddable held c.args.off blob)
    = λ held holds honest. record {
      free = subst (λ (p : Place). IsPlaceOf held c.args.off (c.args.off + length c.args.bytes.now) c.digest-digest.result p) c.in-Free.is (c.in-Ok-place_of.ensures.place held holds honest);
      few_texts = subst (λ (es : List Element). HaveFewTexts es) (sym c.deref.ensures.value) (few-texts c.args.off c.args.bytes.now c.in-Ok.good.kind c.in-Ok.good.elements.items c.in-Ok.ensures.good);
    } in
    let stores : (held after : HeldMap) (count : ℕ) → g.K.BlobReader.holds c.args.keeper.now held → g.K.BlobReader.is_honest c.place_of.new.keeper → count ≡ length stored → after ≡ with_blob held c.args.off blob → IsStoring held c.args.off c.args.bytes.now count after
    = λ held after count holds honest counted is. storing held c.args.off c.args.bytes.now c.in-Ok.good.kind c.in-Ok.good.elements.items stored c.digest-digest.result count after c.in-Ok.ensures.good c.deref.ensures.value c.digest-digest.ensures (K.is_apart _ held holds) (can held holds honest).free counted is in
    let adds = c.in-Err-put.ensures.adds in
    takes_by_putting g.K.BlobReader promised c.args.keeper.now c.place_of.new.keeper c.put.new.self c.args.off c.args.bytes.now blob _ c.in-Ok-place_of.ensures.reads _ adds can (Fault c.in-Err-put.fault)
    (λ held after holds honest is left here. inr (length stored, stores held left (length stored) holds (adds.honest honest) refl (here ∙ is)))
    (λ held holds honest up. adds.err honest up held (c.in-Ok-place_of.ensures.reads.ok (adds.honest honest) held holds) (can held holds (adds.honest honest)))
    (λ honest shut no. no)
    (λ held holds honest. adds.own held (c.in-Ok-place_of.ensures.reads.ok (adds.honest honest) held holds) honest (can held holds (adds.honest honest)))
    (λ honest up other. adds.same honest up) (search rules) (search rules)
