use Rattle.std.proofs.Common.{◌++◌, sym, ap}
use Rattle.osm_value.specs.Line.{line}
use Rattle.osm_value.proofs.SinkLemmas.{Wrote-text}
use Rattle.osm_value.proofs.line.put_line.Goals as goal

pub returns-in-Node : goal.returns-in-Node
returns-in-Node g c = λ start before h. Wrote-text start _ _ _ _ (ap (λ e. before ++ line e) (sym c.in-Node.is)) (c.put_node.ensures start before h)

pub returns-in-Way : goal.returns-in-Way
returns-in-Way g c = λ start before h. Wrote-text start _ _ _ _ (ap (λ e. before ++ line e) (sym c.in-Way.is)) (c.put_way.ensures start before h)

pub returns-in-Relation : goal.returns-in-Relation
returns-in-Relation g c = λ start before h. Wrote-text start _ _ _ _ (ap (λ e. before ++ line e) (sym c.in-Relation.is)) (c.put_relation.ensures start before h)
