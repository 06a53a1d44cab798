use Rattle.std.proofs.Common.{◌≡◌, ℕ, zero, suc, ◌+◌, ◌-◌, ◌<◌, ◌≤◌, List, [], ◌∷◌, length, get_or, inr, sym, subst, arith}
use Rattle.osm_parts.specs.Pieces.{IfLast}
use Rattle.osm_parts.specs.declared.pieces.Piece.{Piece}
use Rattle.osm_parts.proofs.pieces.add_once.Goals as goal
use Rattle.osm_parts.proofs.pieces.add_once.Goals.{in-Some+else-eq+else-last-piece+else-piece-last, in_default}

last-holds : (P : Piece → Type 0) (xs : List Piece) (k : ℕ) (x : Piece) → k + 1 ≡ length xs → get_or xs k x ≡ x → P x → IfLast P xs
last-holds P [] k x long is p = tt
last-holds P (y ∷ []) zero x long is p = subst P (sym is) p
last-holds P (y ∷ []) (suc k) x long is p = absurd (omega arith)
last-holds P (y ∷ z ∷ xs) zero x long is p = absurd (omega arith)
last-holds P (y ∷ z ∷ xs) (suc k) x long is p = last-holds P (z ∷ xs) k x (omega arith) is p

none-last : (P : Piece → Type 0) (xs : List Piece) → length xs ≤ 0 → IfLast P xs
none-last P [] short = tt
none-last P (x ∷ xs) short = absurd (omega arith)

pub returns-clause-next : goal.returns-clause-next
returns-clause-next c = inr (
  c.in_ok-push.ensures.items,
  elim c.match-last.branch [
    | in-Some+else-eq+else-last-piece+else-piece-last w ↦ (
        let same = c.deref.ensures.value in
        let item = w.in-Some.ensures.item in
        let some : 0 < length c.deref.result.now = item.3.0 in
        subst (λ (l : List Piece). IfLast (λ last. last.extent.fin ≤ c.args.piece.now.extent.off) l) same
        (last-holds (λ last. last.extent.fin ≤ c.args.piece.now.extent.off) c.deref.result.now (length c.deref.result.now - 1) w.in-Some.last.now (omega arith) (sym item.1) w.if-piece-last.false)
        )
    | in_default w ↦ (
        let none : length c.deref.result.now ≤ 0 = w.in_default.ensures.item.3 in
        subst (λ (l : List Piece). IfLast (λ last. last.extent.fin ≤ c.args.piece.now.extent.off) l) c.deref.ensures.value
        (none-last (λ last. last.extent.fin ≤ c.args.piece.now.extent.off) c.deref.result.now none)
        )
  ],
)
