-- The lines of what is found where several stores are compared with a file.
use Rattle.std.proofs.Common.{◌≡◌, ℕ, ◌+◌, ◌-◌, List, ◌++◌, length, refl, ap, ◌∙◌, append_assoc, arith}
use Rattle.std.specs.Prelude.{codes, not}
use Rattle.std.specs.Fmt.{decimal}
use Rattle.std.specs.List.{count_by}
use Rattle.std.proofs.lemmas.List.Filters.{length-filter_both}
use Rattle.std.proofs.lemmas.List.Sums.{length-filter}
use Rattle.osm_verify.specs.declared.part_audit.Finding.{Finding}
use Rattle.osm_verify.specs.declared.part_audit.Finding.TheVariants.{Differs, Extra}
use Rattle.osm_verify.specs.declared.together.Verdict.{Verdict}
use Rattle.pbfrow_commands.specs.CommandLines.{gap_lines}
use Rattle.pbfrow_commands.specs.VerifyingParts.{finding_lines, is_extra, is_other, verdict_line, verdict_text}
use Rattle.pbfrow_commands.proofs.CommandTexts.{four-counts}

pub line_parts : (before : List ℕ) (blobs gaps others extra : ℕ)
    → ((((before ++ (codes "blobs " ++ decimal blobs)) ++ (codes " gaps " ++ decimal gaps)) ++ (codes " differs " ++ decimal others)) ++ (codes " extra " ++ decimal extra)) ++ codes "\n" ≡ before ++ verdict_line blobs gaps others extra
line_parts before blobs gaps others extra = four-counts before (codes "blobs ") (decimal blobs) (codes " gaps ") (decimal gaps) (codes " differs ") (decimal others) (codes " extra ") (decimal extra) (codes "\n")

-- a blob that isn't one of the file is another one there, or extra
either : (finding : Finding) → is_extra finding ≡ not (is_other finding)
either (Differs off) = refl
either (Extra off) = refl

others_and_extra : (findings : List Finding) → count_by is_other findings + count_by is_extra findings ≡ length findings
others_and_extra findings = omega (arith, length-filter is_other findings, length-filter is_extra findings, length-filter_both is_other is_extra either findings)

four : (b p q r : List ℕ) → b ++ p ++ q ++ r ≡ b ++ (p ++ q ++ r)
four b p q r = simp append_assoc

-- the text in the order in which it is written, from what was lent
pub verdict_parts : (before : List ℕ) (v : Verdict) (written counted : List Finding) (ranges : List (ℕ × ℕ)) (gaps others count : ℕ) → written ≡ v.findings.items → counted ≡ v.findings.items → ranges ≡ v.gaps.items
    → gaps ≡ length v.gaps.items → others ≡ count_by is_other counted → count ≡ length v.findings.items
    → ((before ++ finding_lines written) ++ gap_lines ranges) ++ verdict_line v.blobs gaps others (count - others) ≡ before ++ verdict_text v
verdict_parts before v written counted ranges gaps others count of_findings of_counted of_gaps gaps_are others_are count_is =
    let findings = v.findings.items in
    let many : others ≡ count_by is_other findings = others_are ∙ ap (λ (xs : List Finding). count_by is_other xs) of_counted in
    let rest : count - others ≡ count_by is_extra findings = omega (arith, many, count_is, others_and_extra findings) in
    ap (λ (xs : List Finding). ((before ++ finding_lines xs) ++ gap_lines ranges) ++ verdict_line v.blobs gaps others (count - others)) of_findings
    ∙ ap (λ (xs : List (ℕ × ℕ)). ((before ++ finding_lines findings) ++ gap_lines xs) ++ verdict_line v.blobs gaps others (count - others)) of_gaps
    ∙ ap (λ n. ((before ++ finding_lines findings) ++ gap_lines v.gaps.items) ++ verdict_line v.blobs n others (count - others)) gaps_are
    ∙ ap (λ n. ((before ++ finding_lines findings) ++ gap_lines v.gaps.items) ++ verdict_line v.blobs (length v.gaps.items) n (count - others)) many
    ∙ ap (λ n. ((before ++ finding_lines findings) ++ gap_lines v.gaps.items) ++ verdict_line v.blobs (length v.gaps.items) (count_by is_other findings) n) rest
    ∙ four before (finding_lines findings) (gap_lines v.gaps.items) (verdict_line v.blobs (length v.gaps.items) (count_by is_other findings) (count_by is_extra findings))
