use Rattle.std.proofs.Common.{rules}
use Rattle.osm_tree_writes.proofs.put.put_blob.Goals as goal

pub returns-then-is_broken : goal.returns-then-is_broken
returns-then-is_broken g c = record { added = search rules; can_store = search rules; indexed = search rules; committed = search rules; unchanged = search rules; ours = search rules; clean = search rules; crash = search rules }

pub returns-in-Ok : goal.returns-in-Ok
returns-in-Ok g c = record { added = search rules; can_store = search rules; indexed = search rules; committed = search rules; unchanged = search rules; ours = search rules; clean = search rules; crash = search rules }

pub returns-in-Err : goal.returns-in-Err
returns-in-Err g c = record { added = search rules; can_store = search rules; indexed = search rules; committed = search rules; unchanged = search rules; ours = search rules; clean = search rules; crash = search rules }
