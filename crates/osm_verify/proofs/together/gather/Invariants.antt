use Rattle.std.proofs.Common.{◌≡◌, ◌≤◌, ℕ, false, List, [], length, take}
use Rattle.osm_rows.specs.Held.{HeldMap}
use Rattle.osm_parts.specs.Reading.{AreStores}
use Rattle.osm_verify.specs.declared.comparing.Depth.TheVariants.{Elements}
use Rattle.osm_verify.specs.Judging.{ShowsPart}
use Rattle.osm_verify.specs.Showing.{AreShownParts}
use Rattle.osm_verify.specs.Together.{AreAllJudged}
use Rattle.osm_verify.proofs.together.gather.Given as goal

abbrev pub invariant-loop-place : goal.invariant-loop-place
invariant-loop-place g l =
    let O = g.O.Openings in
    let F = g.F.FileBytes in
    let K = g.K.BlobReader in
    let A = g.K.Audited in
    record {
      honest : O.is_honest l.openings → O.is_honest l.fn.openings;
      open_if : O.is_open l.openings → O.is_open l.fn.openings;
      kept : O.is_honest l.openings → (maps : List HeldMap) → O.holds l.fn.openings maps → O.holds l.openings maps;
      counted : O.failures l.fn.openings ≤ O.failures l.openings;
      still : (at : ℕ) (store : g.row.K.Denot) → O.lies l.openings at store → O.lies l.fn.openings at store;
      many : length l.stores.items ≡ l.place;
      shown : O.is_honest l.openings → l.fn.depth ≡ Elements → ((at : ℕ) (store : g.row.K.Denot) → O.lies l.fn.openings at store → K.is_honest store → A.has_tables store)
          → l.findings.items ≡ [] → AreShownParts (O.lies l.fn.openings) (λ store extents. ShowsPart (A.has_rows (A.trees store)) A.layout (A.trees store) (F.bytes l.fn.file) extents) 0 l.stores.items;
      bytes : F.bytes l.file ≡ F.bytes l.fn.file;
      read : (maps : List HeldMap) → O.holds l.fn.openings maps → O.is_honest l.openings → length maps ≡ l.fn.count → AreStores false 0 (take l.place maps) l.stores.items;
      found : (maps : List HeldMap) → O.holds l.fn.openings maps → O.is_honest l.openings → length maps ≡ l.fn.count → AreAllJudged l.fn.depth (F.bytes l.fn.file) (take l.place maps) l.findings.items;
    }
