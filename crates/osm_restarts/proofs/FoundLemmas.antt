-- What pages hold comes out of a truncation: of a database there is one proof at most, up to what its layouts say beside its pages.
use Rattle.std.proofs.Common.{ℕ, List, [], ◌∷◌}
use Rattle.std.proofs.Math.Logic.{∥∥₁_map}
use Rattle.std.proofs.lemmas.Bool.{cases_eq}
use mathlib.Core.Bool.{Bool-set}
use denote.Struct.Props.{props}
use Rattle.sqlite_pages.specs.PageMap.{PageMap}
use Rattle.sqlite_pool.specs.File.{IsSoundFile, ListsFree, in_use}
use Rattle.sqlite_pool.specs.FreeList.{AreLinked}
use Rattle.sqlite_pool.specs.Header.{IsHeader}
use Rattle.sqlite_wal.specs.Recovery.{AreWhole}
use Rattle.sqlite_store.specs.declared.catalog.Wanted.{Wanted}
use Rattle.sqlite_store.specs.Db.{roots_of, slot_shape, slot_root, IsDb, IsFile}
use Rattle.osm_restarts.proofs.StableLemmas.{Stable, by_prop, either, le_stable, eq_stable}
use Rattle.osm_restarts.proofs.LayoutLemmas.{trees_found}

header_stable : (size : ℕ) (header : List ℕ) → Stable (IsHeader size header)
header_stable size header t = (
  record {
    magic = by_prop (hlevel props) (∥∥₁_map t (λ h. h.0.magic));
    size = eq_stable _ _ (∥∥₁_map t (λ h. h.0.size));
    versions = either (cases_eq _ _) (eq_stable _ _) (∥∥₁_map t (λ h. h.0.versions));
  },
  record {
    fractions = eq_stable _ _ (∥∥₁_map t (λ h. h.1.fractions));
    format = either (cases_eq _ _) (eq_stable _ _) (∥∥₁_map t (λ h. h.1.format));
    encoding = either (cases_eq _ _) (eq_stable _ _) (∥∥₁_map t (λ h. h.1.encoding));
    no_vacuum = (eq_stable _ _ (∥∥₁_map t (λ h. h.1.no_vacuum.0)), eq_stable _ _ (∥∥₁_map t (λ h. h.1.no_vacuum.1)));
    counted = eq_stable _ _ (∥∥₁_map t (λ h. h.1.counted));
  },
)

linked_stable : (pages : PageMap) (trunks : List ℕ) → Stable (AreLinked pages trunks)
linked_stable pages [] t = tt
linked_stable pages (x ∷ trunks) t = (eq_stable _ _ (∥∥₁_map t (λ h. h.0)), le_stable _ _ (∥∥₁_map t (λ h. h.1)), linked_stable pages trunks (∥∥₁_map t (λ h. h.2)))

free_list_stable : (pages : PageMap) (header trunks : List ℕ) → Stable (ListsFree pages header trunks)
free_list_stable pages header trunks t = record {
  list = record {
    linked = linked_stable pages trunks (∥∥₁_map t (λ h. h.list.linked));
    once = λ n. le_stable _ _ (∥∥₁_map t (λ h. h.list.once n));
    real = λ n some. (le_stable _ _ (∥∥₁_map t (λ h. (h.list.real n some).0)), by_prop (Bool-set _ _) (∥∥₁_map t (λ h. (h.list.real n some).1)));
  };
  first = eq_stable _ _ (∥∥₁_map t (λ h. h.first));
  count = eq_stable _ _ (∥∥₁_map t (λ h. h.count));
}

sound_stable : (size : ℕ) (pages : PageMap) → Stable (IsSoundFile size pages)
sound_stable size pages t = record {
  header = header_stable size _ (∥∥₁_map t (λ h. h.header));
  counted = λ n. (
    λ some. (le_stable _ _ (∥∥₁_map t (λ h. ((h.counted n).0 some).0)), le_stable _ _ (∥∥₁_map t (λ h. ((h.counted n).0 some).1))),
    λ within. by_prop (Bool-set _ _) (∥∥₁_map t (λ h. (h.counted n).1 within)),
  );
  free = free_list_stable _ _ _ (∥∥₁_map t (λ h. h.free));
}

whole_stable : (size : ℕ) (pages : PageMap) → Stable (AreWhole size pages)
whole_stable size pages t = record { first = by_prop (Bool-set _ _) (∥∥₁_map t (λ h. h.first)); sized = λ n bytes is. eq_stable _ _ (∥∥₁_map t (λ h. h.sized n bytes is)) }

db_found : (size : ℕ) (schema : List Wanted) (pages : PageMap) → ∥ IsDb size schema pages ∥₁ → IsDb size schema pages
db_found size schema pages t =
    let r = trees_found size (slot_shape schema) (slot_root (roots_of size schema pages)) pages (∥∥₁_map t (λ d. (d.layouts, d.trees))) in
    record { layouts = r.0; trees = r.1; known = by_prop (Bool-set _ _) (∥∥₁_map t (λ d. d.known)) }

-- what some proof says of the pages of a file is so
pub file_found : (size : ℕ) (schema : List Wanted) (pages : PageMap) → ∥ IsFile size schema pages ∥₁ → IsFile size schema pages
file_found size schema pages t = record {
  whole = whole_stable size pages (∥∥₁_map t (λ f. f.whole));
  sound = sound_stable size pages (∥∥₁_map t (λ f. f.sound));
  db = db_found size schema (in_use size pages) (∥∥₁_map t (λ f. f.db));
}
