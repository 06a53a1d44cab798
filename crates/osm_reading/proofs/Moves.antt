-- Moves of bytes from an input to a framer, one after the other.
use Rattle.std.proofs.Common.{ℕ, List, ◌++◌, Option, Some, None, sym, ap, ◌∙◌, append_assoc}
use Rattle.std.specs.Io.KnownBytes.{Consumes}
use Rattle.pbf_frame.specs.Framer.{Framing}
use Rattle.osm_reading.specs.Framings.{Moved}

pub consumes_both : (a b c : Option (List ℕ)) (x y : List ℕ) → Consumes a b x → Consumes b c y → Consumes a c (x ++ y)
consumes_both None b c x y p q = tt
consumes_both (Some xs) None c x y p q = absurd p
consumes_both (Some xs) (Some ys) None x y p q = absurd q
consumes_both (Some xs) (Some ys) (Some zs) x y p q = p ∙ ap (λ (v : List ℕ). x ++ v) q ∙ sym (append_assoc x y zs)

pub moved_both : (f g h : Framing) (a b c : Option (List ℕ)) → Moved f g a b → Moved g h b c → Moved f h a c
moved_both f g h a b c p q =
    (p.0 ++ q.0, q.1 ∙ p.1, q.2 ∙ ap (λ (v : List ℕ). v ++ q.0) p.2 ∙ append_assoc f.rest p.0 q.0, consumes_both a b c p.0 q.0 p.3 q.3)
