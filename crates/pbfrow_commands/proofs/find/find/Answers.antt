use Rattle.std.proofs.Common.{[], inl, inr, refl, sym, subst, w64}
use Rattle.std.proofs.lemmas.Int.{to_z-of_z}
use Rattle.std.specs.Prelude.{filter}
use Rattle.osm_value.specs.Sink.{Wrote}
use Rattle.osm_rows.specs.Load.Finding.{AreMatches}
use Rattle.osm_rows.specs.Rows.{is_of, placed_in}
use Rattle.osm_rows.specs.declared.fault.StoreFault.TheVariants.{Memory}
use Rattle.osm_value.proofs.SinkLemmas.{started}
use Rattle.pbfrow_commands.proofs.FindLemmas.{find-cause}
use Rattle.pbfrow_commands.proofs.StatusLemmas.{tells-front, tells-whole}
use Rattle.pbfrow_commands.proofs.find.find.Goals as goal

pub returns-in-Err-clause-told : goal.returns-in-Err-clause-told
returns-in-Err-clause-told g c = λ held holds clean.
    inr (record { fault = c.in-Err.fault; cause = find-cause _ _ c.in-Err.fault c.in-Err.ensures.reads.counted; own = c.in-Err.ensures.reads.own held holds clean; line = c.put_store_fault.ensures _ [] (started _ _); one = refl })

pub returns-in-Err-write_found-clause-told : goal.returns-in-Err-write_found-clause-told
returns-in-Err-write_found-clause-told g c = λ held holds clean.
    let before = g.S.Sink.written c.args.out.now in
    let nothing : Wrote before [] (g.S.Sink.written c.write_found.new.out) (g.S.Sink.has_failed c.write_found.new.out) =
    subst (λ o. Wrote before [] (g.S.Sink.written o) (g.S.Sink.has_failed o)) (sym c.in-Err-write_found.ensures.none) (started _ _) in
    inr (record { fault = Memory; cause = inl refl; own = λ foreign. absurd foreign; line = c.put_store_fault-in-Err-write_found.ensures before [] nothing; one = refl {a = 1} })

pub returns-then-failed-clause-told : goal.returns-then-failed-clause-told
returns-then-failed-clause-told g c = λ held holds clean.
    let are : AreMatches c.in-Ok.found (filter (is_of c.args.kind c.args.id) (placed_in held)) =
    subst (λ id. AreMatches c.in-Ok.found (filter (is_of c.args.kind id) (placed_in held))) (to_z-of_z w64 c.args.id c.ranges.id) (c.in-Ok.ensures.found held holds clean) in
    inl (tells-front _ (g.S.Sink.written c.args.out.now) (g.S.Sink.written c.write_found.new.out) (g.S.Sink.has_failed c.write_found.new.out) (sym c.if-failed.ensures)
    (c.in-Ok-write_found.ensures.lines _ are _ [] (started _ _)))

pub returns-clause-told : goal.returns-clause-told
returns-clause-told g c = λ held holds clean.
    let are : AreMatches c.in-Ok.found (filter (is_of c.args.kind c.args.id) (placed_in held)) =
    subst (λ id. AreMatches c.in-Ok.found (filter (is_of c.args.kind id) (placed_in held))) (to_z-of_z w64 c.args.id c.ranges.id) (c.in-Ok.ensures.found held holds clean) in
    inl (tells-whole _ (g.S.Sink.written c.args.out.now) (g.S.Sink.written c.write_found.new.out) (g.S.Sink.has_failed c.write_found.new.out) (sym c.if-failed.ensures)
    (c.in-Ok-write_found.ensures.lines _ are _ [] (started _ _)))
