use Rattle.osm_tree_audits.proofs.rows.finds_some.Goals as goal

pub returns-in_ok-expected-in-Elements-clause-told : goal.returns-in_ok-expected-in-Elements-clause-told
returns-in_ok-expected-in-Elements-clause-told g c = rw c.in-Elements.is (rw (c.deref.ensures.value, c.in_ok-expected-in-Elements.ensures, c.in-Elements.is) at c.finds_next.ensures.told)

pub returns-in_ok-expected-in-Tags-clause-told : goal.returns-in_ok-expected-in-Tags-clause-told
returns-in_ok-expected-in-Tags-clause-told g c = rw c.in-Tags.is (rw (c.deref-in-Tags.ensures.value, c.in_ok-expected-in-Tags.ensures, c.in-Tags.is) at c.finds_next-in-Tags.ensures.told)

pub returns-in_ok-expected-in-Links-clause-told : goal.returns-in_ok-expected-in-Links-clause-told
returns-in_ok-expected-in-Links-clause-told g c = rw c.in-Links.is (rw (c.deref-in-Links.ensures.value, c.in_ok-expected-in-Links.ensures, c.in-Links.is) at c.finds_next-in-Links.ensures.told)
