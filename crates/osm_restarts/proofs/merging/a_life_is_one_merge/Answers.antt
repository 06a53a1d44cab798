use Rattle.osm_restarts.proofs.MergeLemmas.{merges_begin}
use Rattle.osm_restarts.proofs.merging.a_life_is_one_merge.Goals as goal

pub returns : goal.returns
returns g c sources held restarts holds restarted =
    merges_begin {D = g.row.D.Denot} {g = g.D.Disk} g.met.D.Disk.seen_may_stay sources restarts held c.args.first.now c.args.last.now holds restarted
