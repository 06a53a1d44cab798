use Rattle.std.proofs.Common.{◌≡◌, ◌≤◌, List, [], take}
use Rattle.osm_value.specs.declared.element.Element.{Element}
use Rattle.osm_rows.specs.Audit.{counts_of, elements_held}
use Rattle.osm_rows.specs.Held.{HeldMap}
use Rattle.osm_rows.specs.Keeping.{extents_of}
use Rattle.osm_verify.specs.declared.comparing.Depth.TheVariants.{Elements}
use Rattle.osm_verify.specs.Judging.{AreEntriesIn, AreJudged}
use Rattle.osm_verify.proofs.part_audit.audit_extents.Given as goal

abbrev pub invariant-loop-extent : goal.invariant-loop-extent
invariant-loop-extent g l =
    let K = g.K.BlobReader in
    let A = g.K.Audited in
    let F = g.F.FileBytes in
    record {
      honest : K.is_honest l.store → K.is_honest l.fn.store;
      open_if : K.is_open l.store → K.is_open l.fn.store;
      kept : K.is_honest l.store → (held : HeldMap) → K.holds l.fn.store held → K.holds l.store held;
      crash : K.is_honest l.store → (held : HeldMap) → K.leaves l.store held → K.leaves l.fn.store held;
      whole : K.is_honest l.store → K.leaves_a_map l.fn.store → K.leaves_a_map l.store;
      counted : K.failures l.fn.store ≤ K.failures l.store;
      same : K.is_honest l.store → K.is_open l.store → K.same_tables l.fn.store l.store;
      bytes : F.bytes l.file ≡ F.bytes l.fn.file;
      found : (held : HeldMap) → K.holds l.fn.store held → K.is_honest l.store → AreJudged l.depth held (F.bytes l.fn.file) (take l.extent-index l.extents) l.findings.items;
      held_rows : (held : HeldMap) → K.holds l.fn.store held → K.is_honest l.store → l.extents ≡ extents_of held → l.depth ≡ Elements → l.findings.items ≡ [] → l.rows ≡ counts_of (take l.extent-index (elements_held held));
      seen : l.findings.items ≡ [] → (blobs : List (List Element)) × (l.rows ≡ counts_of blobs) × AreEntriesIn (λ off blob. Unit {0}) (F.bytes l.fn.file) (take l.extent-index l.extents) blobs
          × (K.is_honest l.store → K.is_open l.store → A.has_tables l.fn.store → l.depth ≡ Elements → AreEntriesIn (A.has_rows (A.trees l.fn.store)) (F.bytes l.fn.file) (take l.extent-index l.extents) blobs);
    }
