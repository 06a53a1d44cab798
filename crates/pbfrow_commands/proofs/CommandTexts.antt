-- Pieces of the lines of commands, joined.
use Rattle.std.proofs.Common.{◌≡◌, ℕ, List, ◌++◌, append_assoc}
use Rattle.std.specs.Prelude.{codes}
use Rattle.std.specs.Fmt.{decimal}
use Rattle.osm_import.specs.declared.stream.summary.Summary.{Summary}
use Rattle.osm_reading.proofs.FaultLines.{five}
use Rattle.osm_value.specs.Line.{line}
use Rattle.osm_value.specs.declared.element.Element.{Element}
use Rattle.osm_import.specs.declared.copy.CopyCounts.{CopyCounts}
use Rattle.pbfrow_commands.specs.Copying.{copied_line}
use Rattle.pbfrow_commands.specs.CommandLines.{summary_line, gap_line, counts_line, match_line}

two-counts : (b k l m n o : List ℕ) → ((b ++ (k ++ l)) ++ (m ++ n)) ++ o ≡ b ++ ((((k ++ l) ++ m) ++ n) ++ o)
two-counts b k l m n o = simp append_assoc

three-counts : (b k l m n o p q : List ℕ) → (((b ++ (k ++ l)) ++ (m ++ n)) ++ (o ++ p)) ++ q ≡ b ++ ((((((k ++ l) ++ m) ++ n) ++ o) ++ p) ++ q)
three-counts b k l m n o p q = simp append_assoc

pub four-counts : (b k l m n o p q r s : List ℕ) → ((((b ++ (k ++ l)) ++ (m ++ n)) ++ (o ++ p)) ++ (q ++ r)) ++ s ≡ b ++ ((((((((k ++ l) ++ m) ++ n) ++ o) ++ p) ++ q) ++ r) ++ s)
four-counts b k l m n o p q r s = simp append_assoc

pub summary_parts : (before : List ℕ) (s : Summary)
    → ((((before ++ (codes "blobs stored " ++ decimal s.stored)) ++ (codes " held " ++ decimal s.held)) ++ (codes " bad " ++ decimal s.bad)) ++ (codes " refused " ++ decimal s.refused)) ++ codes "\n" ≡ before ++ summary_line s
summary_parts before s = four-counts before (codes "blobs stored ") (decimal s.stored) (codes " held ") (decimal s.held) (codes " bad ") (decimal s.bad) (codes " refused ") (decimal s.refused) (codes "\n")

pub copied_parts : (before : List ℕ) (counts : CopyCounts) → ((before ++ (codes "copied " ++ decimal counts.copied)) ++ (codes " held " ++ decimal counts.held)) ++ codes "\n" ≡ before ++ copied_line counts
copied_parts before counts = two-counts before (codes "copied ") (decimal counts.copied) (codes " held ") (decimal counts.held) (codes "\n")

pub gap_parts : (before : List ℕ) (from to : ℕ) → ((((before ++ codes "gap ") ++ decimal from) ++ codes " ") ++ decimal to) ++ codes "\n" ≡ before ++ gap_line (from, to)
gap_parts before from to = five before (codes "gap ") (decimal from) (codes " ") (decimal to) (codes "\n")

pub counts_parts : (before : List ℕ) (blobs end gaps : ℕ) → (((before ++ (codes "blobs " ++ decimal blobs)) ++ (codes " end " ++ decimal end)) ++ (codes " gaps " ++ decimal gaps)) ++ codes "\n" ≡ before ++ counts_line blobs end gaps
counts_parts before blobs end gaps = three-counts before (codes "blobs ") (decimal blobs) (codes " end ") (decimal end) (codes " gaps ") (decimal gaps) (codes "\n")

pub match_parts : (before : List ℕ) (off position : ℕ) (element : Element) → ((((before ++ decimal off) ++ codes " ") ++ decimal position) ++ codes " ") ++ line element ≡ before ++ match_line (off, position, element)
match_parts before off position element = five before (decimal off) (codes " ") (decimal position) (codes " ") (line element)
