use Rattle.std.proofs.Common.{◌≡◌, ◌<◌, ◌∙◌, [], arith, sym, subst, inl, refl, rules}
use Rattle.std.proofs.lemmas.Result.{on_ok_weaker}
use Rattle.osm_rows.specs.Held.{HeldMap}
use Rattle.osm_rows.specs.Keeping.{extents_of}
use Rattle.osm_import.specs.Copies.{IsUnitedBelow}
use Rattle.osm_import.proofs.CopiesLemmas.{kept-still}
use Rattle.osm_import.proofs.CopyLemmas.{merged_none}
use Rattle.osm_import.proofs.copy.copy_held.Goals as goal

pub returns-in-Err : goal.returns-in-Err
returns-in-Err g c =
    let T = g.met.T.BlobReader in
    let reads = c.in-Err.ensures.reads in
    record {
      copies = λ source held from_holds from_honest holds honest. (held, merged_none (λ off. off < 0) source held (λ off low. omega arith), λ up. holds);
      reached = λ source from_holds from_honest. inl refl;
      crash = λ source held from_holds from_honest holds honest left leaves.
          (0, subst (λ (h : HeldMap). IsUnitedBelow 0 source held h) (sym (T.settled _ held left holds leaves)) (merged_none (λ off. off < 0) source held (λ off low. omega arith)));
      kept = λ held holds honest. kept-still g.T.BlobReader c.args.to.now _ held holds (λ left leaves. T.settled _ held left holds leaves);
      whole = λ held holds honest. T.leaves_held _ held holds;
      list = λ held holds honest rows lists. lists;
      source = record { stays = record { honest = reads.honest; open_if = reads.open_if; kept = reads.err; crash = reads.crash; whole = reads.whole }; ok = tt };
      own = λ source held from_holds from_honest holds honest. reads.own source from_holds from_honest;
      cause = search rules;
      told = tt;
      honest = λ h. h;
      open_if = λ up. up;
      each = record {
        listed = c.extents.new.self;
        lists = record { honest = reads.honest; open_if = reads.open_if; kept = reads.err; crash = reads.crash; whole = reads.whole };
        copies = [];
        each = (refl, refl);
        come = inl refl;
      };
      same = λ honest up. tt;
      counted = search rules;
    }

pub returns : goal.returns
returns g c =
    let F = g.F.BlobReader in
    let reads = c.in-Ok.ensures.reads in
    let all = c.copy_blobs.ensures in
    let stays = all.source.stays in
    let each = all.each in
    let of : (source : HeldMap) → F.holds c.args.from.now source → F.is_honest c.copy_blobs.new.from → F.holds c.extents.new.self source × (c.deref.result.now ≡ extents_of source)
    = λ source holds honest. (reads.ok (stays.honest honest) source holds, c.deref.ensures.value ∙ c.in-Ok.ensures.all source holds (stays.honest honest)) in
    record {
      copies = λ source held holds_from from_honest holds honest. all.copies source held (of source holds_from from_honest) from_honest holds honest;
      reached = λ source holds_from from_honest. all.reached source (of source holds_from from_honest) from_honest;
      crash = λ source held holds_from from_honest holds honest. all.crash source held (of source holds_from from_honest) from_honest holds honest;
      kept = all.kept;
      whole = all.whole;
      list = all.list;
      source = record {
        stays = record {
          honest = λ h. reads.honest (stays.honest h);
          open_if = λ up. reads.open_if (stays.open_if up);
          kept = λ h up source holds. stays.kept h up source (reads.ok (stays.honest h) source holds);
          crash = λ h source left. reads.crash (stays.honest h) source (stays.crash h source left);
          whole = λ h maps. stays.whole h (reads.whole (stays.honest h) maps);
        };
        ok = on_ok_weaker c.copy_blobs.result (λ ok h source holds. ok h source (reads.ok (stays.honest h) source holds)) all.source.ok;
      };
      own = λ source held holds_from from_honest holds honest. all.own source held (of source holds_from from_honest) from_honest holds honest;
      cause = search rules;
      told = search rules;
      honest = all.honest;
      open_if = all.open_if;
      each = record {
        listed = each.listed;
        lists = record {
          honest = λ h. reads.honest (each.lists.honest h);
          open_if = λ up. reads.open_if (each.lists.open_if up);
          kept = λ h up source holds. each.lists.kept h up source (reads.ok (each.lists.honest h) source holds);
          crash = λ h source left. reads.crash (each.lists.honest h) source (each.lists.crash h source left);
          whole = λ h maps. each.lists.whole h (reads.whole (each.lists.honest h) maps);
        };
        copies = each.copies;
        each = each.each;
        come = each.come;
      };
      same = all.same;
      counted = search rules;
    }
