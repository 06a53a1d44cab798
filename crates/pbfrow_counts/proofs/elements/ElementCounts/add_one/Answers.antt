use Rattle.std.proofs.Common.{◌≡◌, ◌++◌, cond, length, List, ℤ, Option, sym, ap, subst, ◌∙◌}
use Rattle.std.specs.Prelude.{option_to_list}
use Rattle.std.proofs.lemmas.List.{length-map}
use Rattle.osm_value.specs.declared.element.Element.{Element}
use Rattle.osm_value.specs.Elements.{info_of_element, tags_of_element}
use Rattle.osm_value.specs.Value.{InfoValue}
use Rattle.pbfrow_reading.specs.Checking.{is_node, is_way, is_relation}
use Rattle.pbfrow_counts.specs.Counting.{IsNewest, IsOldest, links_in, times_of}
use Rattle.pbfrow_counts.proofs.CountLemmas.{counted, times-push}
use Rattle.pbfrow_counts.proofs.elements.ElementCounts.add_one.Goals as goal

pub returns : goal.returns
returns c = λ before was.
    let e = c.args.element.now in
    let tags : length c.tags.result.now ≡ length (tags_of_element e) = sym (length-map c.tags.result.now _) ∙ ap length c.tags.ensures.exact in
    let time : c.time-time.result ≡ (info_of_element e).time = c.time-time.ensures.exact ∙ ap (λ (i : InfoValue). i.time) c.info.ensures.exact in
    let times = ap (λ (t : Option ℤ). times_of before ++ option_to_list t) time ∙ sym (times-push before e) in
    record {
      nodes = counted (λ (x : Element). cond (is_node x) 1 0) c.args.self.now.nodes _ _ before e was.nodes c.saturating_add-self.ensures (c.one_if.ensures ∙ ap (λ b. cond b 1 0) c.is_node.ensures);
      ways = counted (λ (x : Element). cond (is_way x) 1 0) c.args.self.now.ways _ _ before e was.ways c.saturating_add-self-2.ensures (c.one_if-2.ensures ∙ ap (λ b. cond b 1 0) c.is_way.ensures);
      relations = counted (λ (x : Element). cond (is_relation x) 1 0) c.args.self.now.relations _ _ before e was.relations c.saturating_add-self-3.ensures (c.one_if-3.ensures ∙ ap (λ b. cond b 1 0) c.is_relation.ensures);
      tags = counted (λ (x : Element). length (tags_of_element x)) c.args.self.now.tags _ _ before e was.tags c.saturating_add-self-4.ensures tags;
      links = counted links_in c.args.self.now.links _ _ before e was.links c.saturating_add-self-5.ensures c.links_in.ensures;
      oldest = subst (λ (ts : List ℤ). IsOldest ts c.older-self.result) times (c.older-self.ensures (times_of before) was.oldest);
      newest = subst (λ (ts : List ℤ). IsNewest ts c.newer-self.result) times (c.newer-self.ensures (times_of before) was.newest);
    }
