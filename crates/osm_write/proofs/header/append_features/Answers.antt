use Rattle.std.proofs.Common.{◌∙◌}
use Rattle.osm_write.proofs.Joined.{on_ok}
use Rattle.osm_write.proofs.HeaderRead.{features_with_history, features_alone}
use Rattle.osm_write.proofs.header.append_features.Goals as goal

pub returns-then-history : goal.returns-then-history
returns-then-history c =
    on_ok c.append_bytes-then-history.result
    (λ e. e ∙ features_with_history c.args.history _ _ _ c.if-history.true c.in_ok-append_bytes.ensures c.in_ok-append_bytes-2.ensures) c.append_bytes-then-history.ensures

pub returns-else-history : goal.returns-else-history
returns-else-history c = features_alone c.args.history _ _ _ c.if-history.false c.in_ok-append_bytes.ensures c.in_ok-append_bytes-2.ensures
