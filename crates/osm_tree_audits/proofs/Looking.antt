-- What is left of trees by looks at them, one after the other.
use Rattle.std.proofs.Common.{◌≡◌, false, sym, ap, ◌∙◌, arith}
use Rattle.sqlite_trees.specs.declared.store.Store.{Ghosts}
use Rattle.sqlite_trees.specs.View.{View, IsClean}
use Rattle.sqlite_exec.specs.Calls.{OnlyReads}
use Rattle.sqlite_rules.proofs.ViewLemmas.{still_quiet}
use Rattle.osm_tree_audits.specs.Looking.{Looks}

pub up_before : (a b : View) → OnlyReads a b → b.is_broken ≡ false → a.is_broken ≡ false
up_before a b reads up = sym (ap (λ (v : View). v.is_broken) reads) ∙ up

pub read_then : (a b c : View) → OnlyReads a b → OnlyReads b c → OnlyReads a c
read_then a b c first second = second ∙ ap (λ (v : View). record v { cursors = c.cursors }) first

module _ {S : Type 0} (g : Ghosts S) where
  pub clean_before : (a b : S) → Looks g a b → IsClean (g.view b) → IsClean (g.view a)
  clean_before a b looks clean = let q = looks.quiet.clean in omega (arith, q, clean)

  pub looks_then : (a b c : S) → Looks g a b → Looks g b c → Looks g a c
  looks_then a b c first second = record {
    reads = λ clean up.
        let later = second.reads clean up in
        read_then (g.view a) (g.view b) (g.view c) (first.reads (clean_before b c second clean) (up_before (g.view b) (g.view c) later up)) later;
    quiet = still_quiet first.quiet second.quiet;
  }
