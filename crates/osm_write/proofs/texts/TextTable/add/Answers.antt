use Rattle.std.proofs.Common.{◌≡◌, sym, ◌∙◌, ap, map, length, is_some, true, false, List, ◌++◌, ◌∷◌, [], Bor}
use Rattle.std.proofs.lemmas.List.{length-map}
use Rattle.osm_value.specs.Value.{Text}
use Rattle.osm_write.specs.Texts.{find_text}
use Rattle.osm_write.proofs.TextsLemmas.{text_found, text_missing, knows_push, now_push, copied_some}
use Rattle.osm_write.proofs.texts.TextTable.add.Goals as goal

pub returns-then-is_some : goal.returns-then-is_some
returns-then-is_some c =
    let found : is_some (find_text c.args.self.now c.args.text.now) ≡ true =
    rw (← c.self.view_is) (rw (sym (c.self.invariant c.args.text.now)) (ap is_some (sym c.get.ensures.value) ∙ sym (copied_some c.get.result) ∙ sym c.is_some.ensures ∙ c.if-is_some.true)) in
    text_found c.args.self.now c.args.text.now found

pub invariant_of-self-2 : goal.invariant_of-self-2
invariant_of-self-2 c =
    let ts : List Text = map (λ (s : Bor Text). s.now) c.self.inside.texts.items in
    let missing : is_some (find_text ts c.args.text.now) ≡ false =
    rw (sym (c.self.invariant c.args.text.now)) (ap is_some (sym c.get.ensures.value) ∙ sym (copied_some c.get.result) ∙ sym c.is_some.ensures ∙ c.if-is_some.false) in
    let items = now_push c.self.inside.texts.items c.push.new.self.items c.args.text (c.in_ok-push.ensures.items ∙ ap (λ (xs : List (Bor Text)). xs ++ c.args.text ∷ []) c.in_ok-reserve.ensures.items) in
    let index : c.len-index.result ≡ length ts = rw length-map (c.len-index.ensures ∙ c.self.inside.texts.ok.0) in
    rw items (knows_push c.self.inside.indexes c.insert.new.self ts c.args.text.now c.self.invariant missing (rw (sym index) c.in_ok-insert.ensures.updates))

pub returns : goal.returns
returns c =
    let ts : List Text = map (λ (s : Bor Text). s.now) c.self.inside.texts.items in
    let missing : is_some (find_text ts c.args.text.now) ≡ false =
    rw (sym (c.self.invariant c.args.text.now)) (ap is_some (sym c.get.ensures.value) ∙ sym (copied_some c.get.result) ∙ sym c.is_some.ensures ∙ c.if-is_some.false) in
    let items = now_push c.self.inside.texts.items c.push.new.self.items c.args.text (c.in_ok-push.ensures.items ∙ ap (λ (xs : List (Bor Text)). xs ++ c.args.text ∷ []) c.in_ok-reserve.ensures.items) in
    rw (← c.self.view_is) (items ∙ text_missing ts c.args.text.now missing)
