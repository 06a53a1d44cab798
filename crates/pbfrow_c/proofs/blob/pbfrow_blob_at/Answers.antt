use Rattle.std.proofs.Common.{List, ℕ, take, ap, ◌∙◌, subst}
use Rattle.pbf_wire.specs.Readings.{fields}
use Rattle.pbfrow_c.specs.Blob.{TellsPayload, finding_at, status_of}
use Rattle.pbfrow_c.proofs.Places.{blob_fits, blob_behind}
use Rattle.pbfrow_c.proofs.blob.pbfrow_blob_at.Goals as goal

pub overflow_sub-length : goal.overflow_sub-length
overflow_sub-length c = blob_fits _ _ c.args.bytes.now _ c.in-Ok.ensures.within c.in-Ok.ensures.frame

pub returns-in-Ok-clause-status : goal.returns-in-Ok-clause-status
returns-in-Ok-clause-status c =
    let behind = blob_behind _ _ c.args.bytes.now _ c.in-Ok.ensures.within c.in-Ok.ensures.frame in
    rw c.in-Ok.ensures.exact (c.find_blob-status.ensures.status ∙ ap (λ b. status_of (finding_at c.args.offset c.in-Ok.frame.kind b)) behind)

pub returns-in-Ok-clause-payload : goal.returns-in-Ok-clause-payload
returns-in-Ok-clause-payload c =
    let behind = blob_behind _ _ c.args.bytes.now _ c.in-Ok.ensures.within c.in-Ok.ensures.frame in
    let P : List ℕ → Type 0 = λ b. TellsPayload (finding_at c.args.offset c.in-Ok.frame.kind b) (fields b) (take c.in-Ok.frame.length c.args.bytes.now) c.find_blob-status.result.1 in
    rw c.in-Ok.ensures.exact (subst P behind c.find_blob-status.ensures.payload)
