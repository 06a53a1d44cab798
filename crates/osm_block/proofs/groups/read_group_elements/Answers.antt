use Rattle.std.proofs.Common.{rules, ◌≡◌, ◌∙◌, ◌∷◌, [], sym, ap, map, true, None, List, ℕ}
use Rattle.pbf_wire.specs.Readings.{wire, is_there}
use Rattle.osm_block.specs.Message.{Dense}
use Rattle.osm_block.specs.Fields.{context_of}
use Rattle.osm_block.specs.GroupMessages.{messages_of}
use Rattle.osm_block.proofs.GroupsLemmas.{PayloadsOf, payloads_of, dense_alone, dense_fault, dense_group}
use Rattle.osm_block.proofs.groups.read_group_elements.Goals as goal

pub returns-then-some_there : goal.returns-then-some_there
returns-then-some_there c =
    let b = context_of c.args.scale.now in
    let p = c.read_group_payloads.new.payloads in
    let q : List (List ℕ) = map (λ x. x.now) c.deref-then-some_there.result.now in
    let read = c.in_ok-read_group_payloads.ensures in
    let none : wire c.args.group.now ≡ None = search rules in
    let is : PayloadsOf p c.args.group.now = payloads_of p c.args.group.now c.is_mixed.result none read.nodes read.dense read.ways read.relations c.is_mixed.ensures c.if-is_mixed.false in
    let there : is_there (map (λ x. x.now) p.dense.items) ≡ true = sym (ap (λ l. is_there (map (λ x. x.now) l)) c.deref.ensures.value) ∙ sym c.some_there.ensures ∙ c.if-some_there.true in
    let alone : messages_of p ≡ Dense q ∷ [] = dense_alone p c.is_mixed.result c.is_mixed.ensures c.if-is_mixed.false there ∙ ap (λ l. Dense (map (λ x. x.now) l) ∷ []) (sym c.deref-then-some_there.ensures.value) in (
      dense_fault b p c.args.group.now q is alone ∙ c.in_ok-arrays.ensures.0,
      dense_group b p c.args.group.now q c.in_ok-arrays.arrays c.args.scale.now.texts is alone c.in_ok-arrays.ensures.0 c.in_ok-arrays.ensures.1.0 c.in_ok-arrays.ensures.1.1,
    )
