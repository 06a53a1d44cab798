use Rattle.std.proofs.Common.{◌≡◌, List, [], ◌∷◌, ◌++◌, sym, ap, ◌∙◌, append_assoc, append-nil}
use Rattle.std.specs.List.{flat_map}
use Rattle.std.proofs.lemmas.List.{flat_map_more}
use Rattle.osm_value.specs.Value.{Text}
use Rattle.osm_value.proofs.SinkLemmas.{Wrote-text}
use Rattle.osm_block.specs.HeaderTexts.{texts_left}
use Rattle.pbfrow_reading.specs.Showing.{text_line}
use Rattle.pbfrow_reading.proofs.show.put_texts.Goals as goal

pub loop-text-init : goal.loop-text-init
loop-text-init g c = record {
  can = tt;
  ends = tt;
  so_far = ([], sym (ap texts_left c.into_iter-text-iterator.ensures.into_iter_gives), λ start before h. Wrote-text start before (before ++ []) _ _ (sym (append-nil before)) h);
}

pub loop-text-preserved : goal.loop-text-preserved
loop-text-preserved g c =
    let so_far = c.loop-text.invariant.so_far in
    let x = c.in-Some.text.now in
    let first : texts_left c.loop-text.text-iterator ≡ x ∷ texts_left c.next.new.self = c.in-Some.ensures.steps in
    let line = text_line c.args.label.now in
    record {
      can = tt;
      ends = tt;
      so_far = (
        so_far.0 ++ x ∷ [],
        so_far.1 ∙ ap (λ (ts : List Text). so_far.0 ++ ts) first ∙ sym (append_assoc so_far.0 (x ∷ []) (texts_left c.next.new.self)),
        λ start before h. Wrote-text start _ _ _ _ (flat_map_more line before so_far.0 x) (c.put_text.ensures start _ (so_far.2 start before h)),
      );
    }

pub returns : goal.returns
returns g c =
    let so_far = c.loop-text.invariant.so_far in
    let none : texts_left c.loop-text.text-iterator ≡ [] = c.in-None.ensures.steps.0 in
    let all : so_far.0 ≡ texts_left c.args.texts = sym (so_far.1 ∙ ap (λ (ts : List Text). so_far.0 ++ ts) none ∙ append-nil so_far.0) in
    λ start before h. Wrote-text start _ _ _ _ (ap (λ (ts : List Text). before ++ flat_map (text_line c.args.label.now) ts) all) (so_far.2 start before h)
