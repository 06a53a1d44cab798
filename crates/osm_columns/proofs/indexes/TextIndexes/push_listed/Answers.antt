use Rattle.std.proofs.Common.{◌<◌, List, ◌++◌, ◌∷◌, [], length, take, ap, ◌∙◌, sym, subst, append_assoc, append-nil, arith}
use Rattle.osm_value.specs.declared.element.Element.{Element}
use Rattle.osm_columns.specs.Indexes.{AreIndexes}
use Rattle.osm_columns.proofs.ListLemmas.{taken-next}
use Rattle.osm_columns.proofs.TextLemmas.{extends-same, extends-twice}
use Rattle.osm_columns.proofs.indexes.TextIndexes.push_listed.Goals as goal

pub loop-element-init : goal.loop-element-init
loop-element-init c = record {
  extends = extends-same _;
  indexes = λ es h. let P : List Element → Type 0 = λ l. AreIndexes c.args.self.now l in subst P (sym (append-nil es)) h;
}

pub loop-element-preserved : goal.loop-element-preserved
loop-element-preserved c =
    let within : c.loop-element.element-index < length c.args.elements.now = omega (arith, c.loop-element-test.true) in
    record {
      extends = extends-twice _ _ _ c.loop-element.invariant.extends c.in_ok-push.ensures.extends;
      indexes = λ es h.
          let P : List Element → Type 0 = λ l. AreIndexes c.push.new.self l in
          subst P (append_assoc es (take c.loop-element.element-index c.args.elements.now) (c.element-item.result ∷ []) ∙ ap (λ l. es ++ l) (taken-next c.args.elements.now c.loop-element.element-index c.element-item.result _ within c.element-item.is))
          (c.in_ok-push.ensures.indexes (es ++ take c.loop-element.element-index c.args.elements.now) (c.loop-element.invariant.indexes es h));
    }
