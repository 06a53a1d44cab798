-- The plain reading of a packed array against what a packed array is.
use Rattle.std.proofs.Common.{◌≡◌, ℕ, zero, suc, ◌+◌, ◌-◌, ◌<◌, ◌≤◌, List, [], ◌∷◌, ◌++◌, length, take, drop, Some, None, Result, Ok, Err, refl, sym, ap, subst, inl, inr, ◌∙◌, arith, append_assoc}
use Rattle.std.proofs.lemmas.List.{drop_at, drop-drop, length-append, length-take, length-drop, take-append-drop}
use Rattle.std.proofs.Math.Seq.{take-add}
use Rattle.pbf_wire.specs.declared.fault.WireFaultKind.{WireFaultKind}
use Rattle.pbf_wire.specs.declared.fault.WireFault.{WireFault}
use Rattle.pbf_wire.specs.Fault.{◌>>=◌, placed}
use Rattle.pbf_wire.specs.Number.{Num, NumberFault, number_at}
use Rattle.pbf_wire.specs.Row.{Row, RowFault}
use Rattle.pbf_wire.specs.FieldList.{all_ok}
use Rattle.pbf_wire.specs.Readings.{number_and, row_within, row, numbers, packed}
use Rattle.pbf_wire.proofs.Choices.{ok_is, err_is, not_both, neither_both, then_ok, then_err}
use Rattle.pbf_wire.proofs.FieldLaws.{number_at_takes, number_at_again, number_at_faults, faults_at_again}
use Rattle.pbf_wire.proofs.ReadingLaws.{is_front, is_fault, front_is, fault_is}

-- ---- one number of the array

drop_rest : (n b : ℕ) (bs : List ℕ) → 0 < n → drop (n - 1) bs ≡ drop n (b ∷ bs)
drop_rest zero b bs lt = absurd (omega arith)
drop_rest (suc n) b bs lt = let k : suc n - 1 ≡ n = omega arith in rw k refl

abbrev items_of : ℕ → ℕ → ℕ → List ℕ → Result (ℕ × ℕ) WireFaultKind → List (Result ℕ WireFault)
items_of left at b bs r = number_and (placed at r) (λ len. row_within left (at + len) (drop (len - 1) bs))

row_step : (left at b : ℕ) (bs : List ℕ) → row_within (suc left) at (b ∷ bs) ≡ items_of left at b bs (number_at (b ∷ bs))
unfolding row_within
row_step left at b bs = refl

row_none : (left at : ℕ) → row_within left at [] ≡ []
unfolding row_within
row_none zero at = refl
row_none (suc left) at = refl

-- ---- an array

takes_of : (left at b : ℕ) (bs ns : List ℕ) → ((x : ℕ) (v ms : List ℕ) → length v ≤ left → all_ok (row_within left x v) ≡ Ok ms → Row ms v) → length bs ≤ left
    → (r : Result (ℕ × ℕ) WireFaultKind) → number_at (b ∷ bs) ≡ r → all_ok (items_of left at b bs r) ≡ Ok ns → Row ns (b ∷ bs)
takes_of left at b bs ns rest few (Ok n) e h =
    let t = number_at_takes (b ∷ bs) n e in
    let some = t.some in
    let next = drop_rest n.1 b bs some in
    let a = then_ok (all_ok (row_within left (at + n.1) (drop (n.1 - 1) bs))) (λ ms. Ok (n.0 ∷ ms)) ns h in
    let tail : Row a.0 (drop (n.1 - 1) bs) = rest (at + n.1) (drop (n.1 - 1) bs) a.0 (omega (arith, length-drop (n.1 - 1) bs)) a.1 in
    let tail2 : Row a.0 (drop n.1 (b ∷ bs)) = subst (Row a.0) next tail in
    subst (λ (ms : List ℕ). Row ms (b ∷ bs)) (ok_is (n.0 ∷ a.0) ns a.2) (take n.1 (b ∷ bs), drop n.1 (b ∷ bs), t.spelled, tail2, sym (take-append-drop n.1 (b ∷ bs)))
takes_of left at b bs ns rest few (Err kind) e h = neither_both ns (let f : WireFault = record { kind = kind; at = at } in f) h

pub row_takes : (left at : ℕ) (w ns : List ℕ) → length w ≤ left → all_ok (row_within left at w) ≡ Ok ns → Row ns w
row_takes left at [] ns few h =
    let same : [] ≡ ns = ok_is [] ns (sym (ap (λ (items : List (Result ℕ WireFault)). all_ok items) (row_none left at)) ∙ h) in
    subst (λ (ms : List ℕ). Row ms []) same refl
row_takes zero at (b ∷ bs) ns few h = absurd (omega arith)
row_takes (suc left) at (b ∷ bs) ns few h =
    takes_of left at b bs ns (λ x v ms le g. row_takes left x v ms le g) (omega arith) (number_at (b ∷ bs)) refl (rw (sym (row_step left at b bs)) h)

-- a spelling in front of bytes that are read
step_again : (left at : ℕ) (w : List ℕ) (n : ℕ) (first tail : List ℕ) (r : Result (List ℕ) WireFault) → Num n first → w ≡ first ++ tail → length w ≤ left
    → ((fuel : ℕ) → length tail ≤ fuel → all_ok (row_within fuel (at + length first) tail) ≡ r) → all_ok (row_within left at w) ≡ (r >>= λ ns. Ok (n ∷ ns))
step_again left at [] n first tail r spelled joined few again =
    let found : number_at [] ≡ Ok (n, length first) = ap number_at joined ∙ number_at_again n first tail spelled in
    let t = number_at_takes [] (n, length first) found in
    let some = t.some in
    let within = t.within in
    absurd (omega arith)
step_again zero at (b ∷ bs) n first tail r spelled joined few again = absurd (omega arith)
step_again (suc left) at (b ∷ bs) n first tail r spelled joined few again =
    let found : number_at (b ∷ bs) ≡ Ok (n, length first) = ap number_at joined ∙ number_at_again n first tail spelled in
    let some = (number_at_takes (b ∷ bs) (n, length first) found).some in
    let next : drop (length first - 1) bs ≡ tail = drop_rest (length first) b bs some ∙ ap (drop (length first)) joined ∙ drop_at first tail (length first) refl in
    let whole : length (b ∷ bs) ≡ length first + length tail = ap length joined ∙ length-append first tail in
    rw (row_step left at b bs, found, next, again left (omega arith)) refl

pub row_again : (ns : List ℕ) (left at : ℕ) (w : List ℕ) → length w ≤ left → Row ns w → all_ok (row_within left at w) ≡ Ok ns
row_again [] left at w few h = rw (h, row_none left at) refl
row_again (n ∷ ns) left at w few h = step_again left at w n h.0 h.1 (Ok ns) h.2 h.4 few (λ fuel le. row_again ns fuel (at + length h.0) h.1 le h.3)

-- ---- a fault

abbrev failed_row : WireFault → Result (List ℕ) WireFault
failed_row fault = Err fault

-- what items that end in a fault say of w, which stands at an offset
pub record RowBreaks (at : ℕ) (w : List ℕ) (fault : WireFault) : Type 0 where
  pub ns : List ℕ
  pub len : ℕ
  pub here : fault.at ≡ at + len
  pub high : len < length w
  pub before : Row ns (take len w)
  pub stands : NumberFault fault.kind (drop len w)

breaks_of : (left at b : ℕ) (bs : List ℕ) (fault : WireFault) → ((x : ℕ) (v : List ℕ) → length v ≤ left → all_ok (row_within left x v) ≡ Err fault → RowBreaks x v fault) → length bs ≤ left
    → (r : Result (ℕ × ℕ) WireFaultKind) → number_at (b ∷ bs) ≡ r → all_ok (items_of left at b bs r) ≡ Err fault → RowBreaks at (b ∷ bs) fault
breaks_of left at b bs fault rest few (Ok n) e h =
    let t = number_at_takes (b ∷ bs) n e in
    let some = t.some in
    let next = drop_rest n.1 b bs some in
    elim (then_err (all_ok (row_within left (at + n.1) (drop (n.1 - 1) bs))) (λ ms. Ok (n.0 ∷ ms)) fault h) [
      | inl a ↦
          let f = rest (at + n.1) (drop (n.1 - 1) bs) (omega (arith, length-drop (n.1 - 1) bs)) a in
          let before : Row f.ns (take f.len (drop n.1 (b ∷ bs))) = subst (λ (v : List ℕ). Row f.ns (take f.len v)) next f.before in
          let stands : NumberFault fault.kind (drop f.len (drop n.1 (b ∷ bs))) = subst (λ (v : List ℕ). NumberFault fault.kind (drop f.len v)) next f.stands in
          record {
            ns = n.0 ∷ f.ns;
            len = n.1 + f.len;
            here = omega (arith, f.here);
            high = omega (arith, f.high, length-drop (n.1 - 1) bs);
            before = (take n.1 (b ∷ bs), take f.len (drop n.1 (b ∷ bs)), t.spelled, before, take-add n.1 f.len (b ∷ bs));
            stands = subst (λ (v : List ℕ). NumberFault fault.kind v) (drop-drop f.len n.1 (b ∷ bs)) stands;
          }
      | inr a ↦ not_both (n.0 ∷ a.0) fault a.2
    ]
breaks_of left at b bs fault rest few (Err kind) e h =
    let made : WireFault = record { kind = kind; at = at } in
    let same : made ≡ fault = err_is {A = List ℕ} made fault h in
    subst (RowBreaks at (b ∷ bs)) same (record { ns = []; len = 0; here = omega arith; high = omega arith; before = refl; stands = number_at_faults (b ∷ bs) kind e })

pub row_breaks : (left at : ℕ) (w : List ℕ) (fault : WireFault) → length w ≤ left → all_ok (row_within left at w) ≡ Err fault → RowBreaks at w fault
row_breaks left at [] fault few h = not_both [] fault (sym (ap (λ (items : List (Result ℕ WireFault)). all_ok items) (row_none left at)) ∙ h)
row_breaks zero at (b ∷ bs) fault few h = absurd (omega arith)
row_breaks (suc left) at (b ∷ bs) fault few h =
    breaks_of left at b bs fault (λ x v le g. row_breaks left x v fault le g) (omega arith) (number_at (b ∷ bs)) refl (rw (sym (row_step left at b bs)) h)

placed_later : (kind : WireFaultKind) (a b : ℕ) → a ≡ b → failed_row (record { kind = kind; at = a }) ≡ failed_row (record { kind = kind; at = b })
placed_later kind a b e = ap (λ (k : ℕ). failed_row (record { kind = kind; at = k })) e

breaks_again : (ns : List ℕ) (left at : ℕ) (good bad : List ℕ) (kind : WireFaultKind) → length (good ++ bad) ≤ left → Row ns good → 0 < length bad → NumberFault kind bad
    → all_ok (row_within left at (good ++ bad)) ≡ Err (record { kind = kind; at = at + length good })
breaks_again [] left at good [] kind few h some stands = absurd (omega arith)
breaks_again [] zero at good (b ∷ bs) kind few h some stands = absurd (omega (arith, length-append good (b ∷ bs)))
breaks_again [] (suc left) at good (b ∷ bs) kind few h some stands =
    let found : number_at (b ∷ bs) ≡ Err kind = faults_at_again (b ∷ bs) kind stands in
    let none : length good ≡ 0 = ap length h in
    rw (h, row_step left at b bs, found) (placed_later kind at (at + 0) (omega arith))
breaks_again (n ∷ ns) left at good bad kind few h some stands =
    let joined : good ++ bad ≡ h.0 ++ (h.1 ++ bad) = ap (λ (v : List ℕ). v ++ bad) h.4 ∙ append_assoc h.0 h.1 bad in
    let len : length good ≡ length h.0 + length h.1 = ap length h.4 ∙ length-append h.0 h.1 in
    let place : at + length h.0 + length h.1 ≡ at + length good = omega arith in
    step_again left at (good ++ bad) n h.0 (h.1 ++ bad) (Err (record { kind = kind; at = at + length good })) h.2 joined few
    (λ fuel le. subst (λ (k : ℕ). all_ok (row_within fuel (at + length h.0) (h.1 ++ bad)) ≡ failed_row (record { kind = kind; at = k })) place
    (breaks_again ns fuel (at + length h.0) h.1 bad kind le h.3 some stands))

-- ---- the laws

row_read_of : (ns w : List ℕ) → Row ns w → all_ok (row w) ≡ Ok ns
row_read_of ns w h = row_again ns (length w) 0 w (omega arith) h

pub row_read : (ns w : List ℕ) → Row ns w → (packed w ≡ None) × (numbers w ≡ ns)
row_read ns w h = let a = is_front (row w) ns (row_read_of ns w h) in (a.sound, a.is_front)

pub read_row : (w : List ℕ) → packed w ≡ None → Row (numbers w) w
read_row w e = row_takes (length w) 0 w (numbers w) (omega arith) (front_is (row w) e)

row_faults_of : (fault : WireFault) (w : List ℕ) → RowFault fault w → all_ok (row w) ≡ Err fault
row_faults_of fault w h =
    let joined : take fault.at w ++ drop fault.at w ≡ w = take-append-drop fault.at w in
    let place : 0 + length (take fault.at w) ≡ fault.at = omega (arith, h.1, length-take fault.at w) in
    let found = breaks_again h.0 (length w) 0 (take fault.at w) (drop fault.at w) fault.kind (omega (arith, ap length joined)) h.2 (omega (arith, h.1, length-drop fault.at w)) h.3 in
    ap (λ (v : List ℕ). all_ok (row_within (length w) 0 v)) (sym joined) ∙ found ∙ ap (λ (k : ℕ). failed_row (record { kind = fault.kind; at = k })) place

pub row_fault_read : (fault : WireFault) (w : List ℕ) → RowFault fault w → packed w ≡ Some fault
row_fault_read fault w h = is_fault (row w) fault (row_faults_of fault w h)

pub read_row_fault : (fault : WireFault) (w : List ℕ) → packed w ≡ Some fault → RowFault fault w
read_row_fault fault w e =
    let b = row_breaks (length w) 0 w fault (omega arith) (fault_is (row w) fault e) in
    let len : b.len ≡ fault.at = omega (arith, b.here) in
    (b.ns, omega (arith, b.high), subst (λ (k : ℕ). Row b.ns (take k w)) len b.before, subst (λ (k : ℕ). NumberFault fault.kind (drop k w)) len b.stands)

pub one_row : (ns ms w : List ℕ) → Row ns w → Row ms w → ns ≡ ms
one_row ns ms w p q = sym (row_read ns w p).1 ∙ (row_read ms w q).1
