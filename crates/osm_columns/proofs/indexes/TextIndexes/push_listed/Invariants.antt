use Rattle.std.proofs.Common.{List, ◌++◌, take}
use Rattle.osm_value.specs.declared.element.Element.{Element}
use Rattle.osm_columns.specs.Texts.{Extends}
use Rattle.osm_columns.specs.Indexes.{AreIndexes, texts_in}
use Rattle.osm_columns.proofs.indexes.TextIndexes.push_listed.Given as goal

abbrev pub invariant-loop-element : goal.invariant-loop-element
invariant-loop-element l = record {
  extends : Extends (texts_in l.fn.self.dictionary) (texts_in l.self.dictionary);
  indexes : (es : List Element) → AreIndexes l.fn.self es → AreIndexes l.self (es ++ take l.element-index l.elements);
}
