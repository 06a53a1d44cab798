use Rattle.std.proofs.Common.{◌≡◌, ℕ, drop, unwrap_or, ap, subst, ◌∙◌}
use Rattle.pbf_wire.specs.Readings.{fields, last}
use Rattle.pbfrow_c.specs.Blob.{number_of_compression}
use Rattle.pbfrow_c.proofs.Places.{rest-is}
use Rattle.pbfrow_c.proofs.Payloads.{IsTold, raw_told, compressed_told}
use Rattle.pbfrow_c.proofs.blob.read_blob.Goals as goal

pub returns-in-Ok-clause-payload : goal.returns-in-Ok-clause-payload
returns-in-Ok-clause-payload c =
    let rest = rest-is c.args.frame.now c.args.from in
    raw_told (drop c.args.from c.args.frame.now) c.args.frame.now c.in-Ok.field-0.now c.place_in.result c.payload_at.result
    (rw rest at c.in-Ok.ensures.payload) (rw rest at c.in-Ok.ensures.exact) c.place_in.ensures.exact c.place_in.ensures.within c.payload_at.ensures

pub returns-in-Err-Compressed-clause-payload : goal.returns-in-Err-Compressed-clause-payload
returns-in-Err-Compressed-clause-payload c =
    let rest = rest-is c.args.frame.now c.args.from in
    let size : c.unwrap_or-raw_size.result ≡ unwrap_or (last (fields (drop c.args.from c.args.frame.now)) 2) 0 = c.unwrap_or-raw_size.ensures ∙ ap (λ o. unwrap_or o 0) (rw rest at c.last_number.ensures) in
    let told = subst (λ (n : ℕ). IsTold c.payload_at-payload.result c.place_in-place.result n (number_of_compression c.in-Err-Compressed.compression)) size (rw c.number_of_compression.ensures at c.payload_at-payload.ensures) in
    compressed_told (drop c.args.from c.args.frame.now) c.args.frame.now c.in-Err-Compressed.compression c.place_in-place.result c.payload_at-payload.result
    (rw rest at rw c.in-Err-Compressed.field-0-is at c.in-Err-Compressed.ensures.fault) (rw rest at rw c.in-Err-Compressed.field-0-is at c.in-Err-Compressed.ensures.exact)
    (rw c.field_of.ensures at c.place_in-place.ensures.exact) c.place_in-place.ensures.within told
