use Rattle.std.proofs.Common.{◌≡◌, ◌++◌, ◌+◌, ◌-◌, [], ◌∷◌, List, length, ◌∙◌, ap, sym, subst, rules, arith, append-nil, append_assoc}
use Rattle.std.proofs.lemmas.Bool.Decides.{nat_tests}
use Rattle.std.proofs.lemmas.List.{length-append}
use Rattle.sqlite_trees.specs.View.{IsClean}
use Rattle.osm_value.specs.declared.element.Element.{Element}
use Rattle.osm_rows.specs.Rows.{placed}
use Rattle.osm_rows.proofs.PutLemmas.Placing.{placed-append}
use Rattle.osm_tree_writes.specs.Putting.{WritesElements}
use Rattle.osm_tree_writes.proofs.Writing.{written_more}
use Rattle.osm_tree_writes.proofs.put.append_elements.Goals as goal

pub loop-rest-init : goal.loop-rest-init
loop-rest-init g c = (
  c.split_at.result.0.now,
  record { whole = c.split_at.ensures.by_index.0; written = c.in_ok-append_some.ensures.written; schema = search rules; quiet = search rules },
)

pub loop-rest-preserved : goal.loop-rest-preserved
loop-rest-preserved g c =
    let done = c.loop-rest.invariant.0 in
    let it = c.loop-rest.invariant.1 in
    let rest = c.loop-rest.rest.now in
    let some = c.split_at-in-loop-rest.result.0.now in
    let after = c.split_at-in-loop-rest.result.1.now in
    let start = g.S.Store.view c.args.store.now in
    let old = g.S.Store.view c.loop-rest.store in
    let new = g.S.Store.view c.append_some-in-loop-rest.new.store in
    let split = c.split_at-in-loop-rest.ensures.by_index.0 in
    let lengths : length c.args.elements.now ≡ length done + length rest = ap length it.whole ∙ length-append done rest in
    let first : length c.args.elements.now - length rest ≡ 0 + length done = omega (arith, lengths) in (
      done ++ some,
      record {
        whole = it.whole ∙ ap (λ l. done ++ l) split ∙ sym (append_assoc done some after);
        written = λ clean.
            let clean_old : IsClean old = omega (arith, clean, c.append_some-in-loop-rest.ensures.harmless.quiet.clean) in
            rw (placed-append c.args.off 0 done some)
            (written_more c.args.more.now start old new (placed c.args.off 0 done) (placed c.args.off (0 + length done) some) (it.written clean_old) (rw first at (c.in_ok-append_some-2.ensures.written clean)));
        schema = search rules;
        quiet = search rules;
      },
    )

-- once no element is left, all are written
all_done : (rest done all : List Element) → length rest ≡ 0 → all ≡ done ++ rest → all ≡ done
all_done [] done all none whole = rw append-nil at whole
all_done (x ∷ rest) done all none whole = absurd (omega arith)

pub returns-clause-written : goal.returns-clause-written
returns-clause-written g c clean =
    let it = c.loop-rest.invariant.1 in
    let none : length c.loop-rest.rest.now ≡ 0 = grind (arith, nat_tests) in
    let whole = all_done c.loop-rest.rest.now c.loop-rest.invariant.0 c.args.elements.now none it.whole in
    subst (λ es. WritesElements c.args.more.now (g.S.Store.view c.args.store.now) (g.S.Store.view c.loop-rest.store) (placed c.args.off 0 es)) (sym whole) (it.written clean)
