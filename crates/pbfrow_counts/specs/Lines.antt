-- The lines of the counts of elements.
use Rattle.std.specs.Prelude.{ℕ, ℤ, List, ◌++◌, codes, Option, Some, None}
use Rattle.std.specs.Fmt.{decimal, signed_decimal}
use Rattle.pbfrow_counts.specs.declared.elements.ElementCounts.{ElementCounts}

-- how many elements there are of each kind
abbrev pub kinds_line : ElementCounts → List ℕ
kinds_line c = codes "nodes " ++ decimal c.nodes ++ codes " ways " ++ decimal c.ways ++ codes " relations " ++ decimal c.relations ++ codes "\n"

-- how many tags they have, and nodes and members
abbrev pub links_line : ElementCounts → List ℕ
links_line c = codes "tags " ++ decimal c.tags ++ codes " links " ++ decimal c.links ++ codes "\n"

-- a time in milliseconds since 1970, or `-` where there is none
abbrev pub time_text : Option ℤ → List ℕ
time_text None = codes "-"
time_text (Some time) = signed_decimal time

-- the times of the oldest and the newest
abbrev pub times_line : ElementCounts → List ℕ
times_line c = codes "oldest " ++ time_text c.oldest ++ codes " newest " ++ time_text c.newest ++ codes "\n"

-- the three lines of the counts of elements
abbrev pub element_counts_lines : ElementCounts → List ℕ
element_counts_lines c = kinds_line c ++ links_line c ++ times_line c
