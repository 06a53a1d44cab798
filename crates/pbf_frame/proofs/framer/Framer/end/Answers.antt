use Rattle.std.proofs.Common.{◌≡◌, ◌∙◌, eqb, false, Bool, ap, rules, sym, length, ℕ}
use Rattle.pbf_frame.specs.Framer.{Framing, rest_in}
use Rattle.pbf_frame.proofs.FrontLaws.{end_in}
use Rattle.pbf_frame.proofs.EndLaws.{Ends, ends_as, end_at_part}
use Rattle.pbf_frame.proofs.framer.Framer.end.Goals as goal

pub returns-in_err-part : goal.returns-in_err-part
returns-in_err-part c =
    let f = c.self.inside in
    let now = c.args.self.now in
    let e : c.from_residual.result ≡ end_in (length now.rest) f.part = search rules in
    let ends : Ends now c.from_residual.result = ends_as f.offset f.bytes.items f.is_lent f.part now c.from_residual.result c.self.invariant (ap (λ (v : Framing). v.offset) c.self.view_is) (ap (λ (v : Framing). v.rest) c.self.view_is) e in
    record { fine = ends.fine; fault = ends.fault; stands = ends.stands; exact = ends.exact }

pub returns : goal.returns
returns c =
    let f = c.self.inside in
    let now = c.args.self.now in
    let bytes_are = sym (ap (λ (b : Bool). rest_in b f.bytes.items) c.if-self.false) ∙ ap (λ (v : Framing). v.rest) c.self.view_is in
    let len : c.len.result ≡ length f.bytes.items = search rules in
    let some : false ≡ eqb c.len.result 0 = sym c.if-is_empty.false ∙ c.is_empty.ensures ∙ ap (λ (n : ℕ). eqb n 0) (sym c.len.ensures) in
    let e : c.end_after.result ≡ end_in (length now.rest) f.part = c.end_after.ensures ∙ end_at_part f.part c.in_ok-part.part now.rest c.len.result c.in_ok-part.was (len ∙ ap length bytes_are) some in
    let ends : Ends now c.end_after.result = ends_as f.offset f.bytes.items f.is_lent f.part now c.end_after.result c.self.invariant (ap (λ (v : Framing). v.offset) c.self.view_is) (ap (λ (v : Framing). v.rest) c.self.view_is) e in
    record { fine = ends.fine; fault = ends.fault; stands = ends.stands; exact = ends.exact }
