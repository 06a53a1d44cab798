use Rattle.std.proofs.Common.{rules, ◌≡◌, ◌≤◌, List, ℕ, [], ◌∷◌, ◌++◌, ◌+◌, length, map, take, drop, sym, ap, ◌∙◌, Ok, arith, append-nil, append_assoc}
use Rattle.std.proofs.lemmas.List.{take_rest, take_more_set, length-set, length-drop}
use Rattle.pbf_wire.specs.Readings.{front, first_fault}
use Rattle.osm_block.proofs.RowLemmas.{row_from, row_at_number, row_at_eight, row_at_fault, row_at_end, grown, grown_more, fault_behind}
use Rattle.osm_block.proofs.number_array.unpack.Goals as goal

pub loop-at-preserved-in-Some : goal.loop-at-preserved-in-Some
loop-at-preserved-in-Some c =
    let w = c.args.payload.now in
    let count : ℕ = c.in_ok-count.count in
    let out : List ℕ = c.room_for_sixteen.new.out.items in
    let numbers : List ℕ = c.in-Some.numbers in
    let long : 8 ≤ length (drop c.loop-at.at w) = rw take_rest at c.in-Some.ensures.long in
    let e : row_from c.loop-at.at w ≡ map Ok numbers ++ row_from (c.loop-at.at + 8) w =
    row_at_eight numbers c.loop-at.at w long (rw take_rest at c.in-Some.ensures.bytes) c.in-Some.ensures.small in
    let gathered : (out ++ take count c.loop-at.run) ++ front (row_from c.loop-at.at w) ≡ _ = ap (λ l. l ++ front (row_from c.loop-at.at w)) c.in_ok-count.ensures.same ∙ c.loop-at.invariant.so_far in
    let pushed : out ++ take (count + 8) c.put_eight.new.run ≡ (out ++ take count c.loop-at.run) ++ numbers = ap (λ l. out ++ l) c.put_eight.ensures ∙ sym (append_assoc out (take count c.loop-at.run) numbers) in
    record {
      within = omega (arith, length-drop c.loop-at.at w);
      long = c.put_eight.array_long;
      room = omega (arith, c.in_ok-count.ensures.room);
      so_far = grown_more _ _ _ _ _ _ pushed e gathered;
      fault = sym (ap first_fault e ∙ fault_behind numbers _) ∙ c.loop-at.invariant.fault;
    }

pub loop-at-2-preserved : goal.loop-at-2-preserved
loop-at-2-preserved c =
    let w = c.args.payload.now in
    let at : ℕ = c.loop-at-2.at in
    let count : ℕ = c.loop-at-2.count in
    let run : List ℕ = c.loop-at-2.run in
    let out : List ℕ = c.loop-at-2.out.items in
    let e : row_from at w ≡ Ok c.in-Ok.number ∷ row_from (at + c.in-Ok.len) w =
    row_at_number at w _ _ c.in-Ok.ensures.within.0 (rw take_rest at c.in-Ok.ensures.exact) in
    let pushed : out ++ take (count + 1) _ ≡ (out ++ take count run) ++ c.in-Ok.number ∷ [] =
    ap (λ l. out ++ l) (take_more_set run count c.in-Ok.number (omega (arith, c.loop-at-2.invariant.room, c.loop-at-2-test.true, c.loop-at-2.invariant.long))) ∙ sym (append_assoc out (take count run) _) in
    record {
      within = search rules;
      long = length-set run count c.in-Ok.number ∙ c.loop-at-2.invariant.long;
      room = omega (arith, c.loop-at-2.invariant.room, c.loop-at-2-test.true, c.in-Ok.ensures.within.0);
      so_far = grown _ _ _ _ _ _ pushed e c.loop-at-2.invariant.so_far;
      fault = sym (ap first_fault e) ∙ c.loop-at-2.invariant.fault;
    }

pub returns-in-Err-clause-fault : goal.returns-in-Err-clause-fault
returns-in-Err-clause-fault c =
    let w = c.args.payload.now in
    sym (ap first_fault (row_at_fault c.loop-at-2.at w c.in-Err.fault (omega arith) (rw take_rest at c.in-Err.ensures.exact))) ∙ c.loop-at-2.invariant.fault

pub returns-in-Err-clause-numbers : goal.returns-in-Err-clause-numbers
returns-in-Err-clause-numbers c =
    let w = c.args.payload.now in
    let e = row_at_fault c.loop-at-2.at w c.in-Err.fault (omega arith) (rw take_rest at c.in-Err.ensures.exact) in
    let gathered : List ℕ = c.loop-at-2.out.items ++ take c.loop-at-2.count c.loop-at-2.run in
    c.in_ok-extend_from_slice-in-Err.ensures.items ∙ sym (append-nil gathered) ∙ sym (ap (λ r. gathered ++ front r) e) ∙ c.loop-at-2.invariant.so_far

pub returns-clause-fault : goal.returns-clause-fault
returns-clause-fault c =
    let w = c.args.payload.now in
    let e : row_from c.loop-at.at w ≡ [] = row_at_end c.loop-at.at w (omega arith) in
    sym (ap first_fault e) ∙ c.loop-at.invariant.fault

pub returns-clause-numbers : goal.returns-clause-numbers
returns-clause-numbers c =
    let w = c.args.payload.now in
    let e : row_from c.loop-at.at w ≡ [] = row_at_end c.loop-at.at w (omega arith) in
    let gathered : List ℕ = c.loop-at.out.items ++ take c.loop-at.count c.loop-at.run in
    c.in_ok-extend_from_slice.ensures.items ∙ sym (append-nil gathered) ∙ sym (ap (λ r. gathered ++ front r) e) ∙ c.loop-at.invariant.so_far
