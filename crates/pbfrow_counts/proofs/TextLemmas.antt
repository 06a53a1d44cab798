-- Pieces of the lines of counts, joined.
use Rattle.std.proofs.Common.{◌≡◌, ℕ, List, ◌++◌, append_assoc}
use Rattle.std.specs.Prelude.{codes}
use Rattle.std.specs.Fmt.{decimal}
use Rattle.pbfrow_counts.specs.Lines.{element_counts_lines, kinds_line, links_line, time_text, times_line}
use Rattle.pbfrow_counts.specs.declared.elements.ElementCounts.{ElementCounts}

two : (b k l m n o : List ℕ) → ((b ++ (k ++ l)) ++ (m ++ n)) ++ o ≡ b ++ ((((k ++ l) ++ m) ++ n) ++ o)
two b k l m n o = simp append_assoc

three : (b k l m n o p q : List ℕ) → (((b ++ (k ++ l)) ++ (m ++ n)) ++ (o ++ p)) ++ q ≡ b ++ ((((((k ++ l) ++ m) ++ n) ++ o) ++ p) ++ q)
three b k l m n o p q = simp append_assoc

lines : (b k l m : List ℕ) → ((b ++ k) ++ l) ++ m ≡ b ++ ((k ++ l) ++ m)
lines b k l m = simp append_assoc

pub kinds_parts : (before : List ℕ) (c : ElementCounts) → (((before ++ (codes "nodes " ++ decimal c.nodes)) ++ (codes " ways " ++ decimal c.ways)) ++ (codes " relations " ++ decimal c.relations)) ++ codes "\n" ≡ before ++ kinds_line c
kinds_parts before c = three before (codes "nodes ") (decimal c.nodes) (codes " ways ") (decimal c.ways) (codes " relations ") (decimal c.relations) (codes "\n")

pub links_parts : (before : List ℕ) (c : ElementCounts) → ((before ++ (codes "tags " ++ decimal c.tags)) ++ (codes " links " ++ decimal c.links)) ++ codes "\n" ≡ before ++ links_line c
links_parts before c = two before (codes "tags ") (decimal c.tags) (codes " links ") (decimal c.links) (codes "\n")

pub times_parts : (before : List ℕ) (c : ElementCounts) → ((before ++ (codes "oldest " ++ time_text c.oldest)) ++ (codes " newest " ++ time_text c.newest)) ++ codes "\n" ≡ before ++ times_line c
times_parts before c = two before (codes "oldest ") (time_text c.oldest) (codes " newest ") (time_text c.newest) (codes "\n")

pub counts_parts : (before : List ℕ) (c : ElementCounts) → ((before ++ kinds_line c) ++ links_line c) ++ times_line c ≡ before ++ element_counts_lines c
counts_parts before c = lines before (kinds_line c) (links_line c) (times_line c)
