use Rattle.osm_databases.proofs.databases.open_asked.Goals as goal

pub returns-in-Some-clause-found : goal.returns-in-Some-clause-found
returns-in-Some-clause-found g c =
    rw c.new.ensures (record { given = rw c.in-Some.is at c.in_ok-trees.ensures.given; version = rw c.in-Some.is at c.in_ok-trees.ensures.version })
