use Rattle.std.proofs.Common.{◌≡◌, ℕ, List, [], ◌++◌, ap, sym, ◌∙◌, refl, append-nil, length}
use Rattle.std.specs.Prelude.{option_copied, option_map, option_to_list}
use Rattle.osm_value.specs.Line.{commas, user_info}
use Rattle.osm_value.proofs.SinkLemmas.{Wrote-text}
use Rattle.osm_value.proofs.LineLemmas.{field, one_further, info_texts-is}
use Rattle.osm_value.proofs.line.put_info.Goals as goal

pub returns : goal.returns
returns g c = λ start before h.
    let p1 : List (List ℕ) = field 118 c.widened.result in
    let p2 : List (List ℕ) = p1 ++ field 116 c.time.result in
    let p3 : List (List ℕ) = p2 ++ field 99 c.changeset.result in
    let p4 : List (List ℕ) = p3 ++ field 105 c.widened-2.result in
    let p5 : List (List ℕ) = p4 ++ option_to_list (option_map user_info (option_copied c.user.result)) in
    let l1 : length p1 ≡ c.put_info_number-at.result = one_further [] p1 0 _ refl c.put_info_number-at.ensures.place in
    let l2 : length p2 ≡ c.put_info_number-at-2.result = one_further p1 _ _ _ l1 c.put_info_number-at-2.ensures.place in
    let l3 : length p3 ≡ c.put_info_number-at-3.result = one_further p2 _ _ _ l2 c.put_info_number-at-3.ensures.place in
    let l4 : length p4 ≡ c.put_info_number-at-4.result = one_further p3 _ _ _ l3 c.put_info_number-at-4.ensures.place in
    let l5 : length p5 ≡ c.put_info_user-at.result = one_further p4 _ _ _ l4 c.put_info_user-at.ensures.place in
    Wrote-text start _ _ _ _
    (ap (λ l. before ++ commas l) (info_texts-is c.args.info.now c.widened.result c.time.result c.changeset.result c.widened-2.result (option_copied c.user.result) c.visible.result
    (c.widened.ensures ∙ c.version.ensures.exact) c.time.ensures.exact c.changeset.ensures.exact (c.widened-2.ensures ∙ c.uid.ensures.exact) c.user.ensures.exact c.visible.ensures.exact))
    (c.put_info_visible.ensures start before p5 l5
    (c.put_info_user-at.ensures.text start before p4 l4
    (c.put_info_number-at-4.ensures.text start before p3 l3
    (c.put_info_number-at-3.ensures.text start before p2 l2
    (c.put_info_number-at-2.ensures.text start before p1 l1
    (c.put_info_number-at.ensures.text start before [] refl (Wrote-text start _ _ _ _ (sym (append-nil before)) h)))))))
