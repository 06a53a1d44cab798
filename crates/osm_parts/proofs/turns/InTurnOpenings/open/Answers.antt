use Rattle.std.proofs.Common.{Bor, List, ℕ}
use Rattle.osm_parts.proofs.TurnLemmas.{lent-if_ok}
use Rattle.osm_parts.proofs.turns.InTurnOpenings.open.Goals as goal

pub returns-clause-lent : goal.returns-clause-lent
returns-clause-lent g c = λ maps all honest.
    let K = g.K.BlobReader in
    let same = c.note.ensures.kept in
    let databases = c.args.self.now in
    rw (same.0, same.1)
    (lent-if_ok (λ (name : Bor (List ℕ)). g.O.OpensNamed.lies databases.opener name.now) K.is_honest K.holds databases.names.now maps c.args.place c.open_at-answer.result all c.open_at-answer.ensures.given)
