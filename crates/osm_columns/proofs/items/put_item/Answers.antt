use Rattle.osm_columns.proofs.ColumnLemmas.{put-one}
use Rattle.osm_columns.proofs.items.put_item.Goals as goal

pub returns : goal.returns
returns g c = λ front before e n. put-one front before _ _ _ e n c.requires
