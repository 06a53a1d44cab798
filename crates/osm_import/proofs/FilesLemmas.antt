-- The frames of one file don't meet, and a frame is fixed by its offset.
use Rattle.std.proofs.Common.{◌≡◌, ℕ, ◌+◌, ◌<◌, ◌≤◌, List, [], ◌∷◌, length, sym, ◌∙◌, ap, inl, inr, arith}
use Rattle.osm_rows.specs.Held.{Blob}
use Rattle.osm_import.specs.Files.{AreFrames, StandsAt}
use Rattle.osm_import.specs.Step.{IsEntry}
use Rattle.osm_reading.proofs.GoodLaws.{good-same, frame-filled}

pub stands-from : (start : ℕ) (frames : List (List ℕ)) (off : ℕ) (frame : List ℕ) → StandsAt start frames off frame → start ≤ off
stands-from start [] off frame stands = absurd stands
stands-from start (first ∷ rest) off frame stands = elim stands [
  | inl (here, _) ↦ omega arith
  | inr later ↦ (let h : start + length first ≤ off = stands-from (start + length first) rest off frame later in omega arith)
]

-- two frames of one file don't meet
pub stands-apart : (start : ℕ) (frames : List (List ℕ)) (off next : ℕ) (frame other : List ℕ) → StandsAt start frames off frame → StandsAt start frames next other → off < next → off + length frame ≤ next
stands-apart start [] off next frame other stands stands_next order = absurd stands
stands-apart start (first ∷ rest) off next frame other stands stands_next order = elim stands [
  | inl (here, same) ↦ elim stands_next [
    | inl (there, _) ↦ omega arith
    | inr later ↦ (let h : start + length first ≤ next = stands-from _ rest next other later in omega (arith, ap length same))
  ]
  | inr after ↦ elim stands_next [
    | inl (there, _) ↦ (let h : start + length first ≤ off = stands-from _ rest off frame after in omega arith)
    | inr later ↦ stands-apart (start + length first) rest off next frame other after later order
  ]
]

-- a frame of a file is fixed by its offset
pub stands-same : (start : ℕ) (frames : List (List ℕ)) → AreFrames frames → (off : ℕ) (frame other : List ℕ) → StandsAt start frames off frame → StandsAt start frames off other → frame ≡ other
stands-same start [] whole off frame other stands also = absurd stands
stands-same start (first ∷ rest) whole off frame other stands also =
    let long : 4 ≤ length first = frame-filled whole.0.0 whole.0.1 first whole.0.2 in
    elim stands [
      | inl (here, same) ↦ elim also [
        | inl (_, equal) ↦ same ∙ sym equal
        | inr later ↦ (let h : start + length first ≤ off = stands-from _ rest off other later in absurd (omega arith))
      ]
      | inr later ↦ elim also [
        | inl (there, _) ↦ (let h : start + length first ≤ off = stands-from _ rest off frame later in absurd (omega arith))
        | inr after ↦ stands-same (start + length first) rest whole.1 off frame other later after
      ]
    ]

pub entry-same : (off : ℕ) (frame : List ℕ) (a b : Blob) → IsEntry off frame a → IsEntry off frame b → a ≡ b
entry-same off frame a b x y =
    let fin : a.fin ≡ b.fin = x.ends ∙ sym y.ends in
    let digest : a.digest ≡ b.digest = x.digested ∙ sym y.digested in
    let rest = good-same off frame a.kind b.kind a.elements b.elements x.good y.good in
    λ i. record { fin = fin i; digest = digest i; kind = rest.0 i; elements = rest.1 i }
