use Rattle.std.proofs.Common.{rules}
use Rattle.pbf_wire.proofs.WriteLaws.{on_ok_appends}
use Rattle.pbf_frame.specs.Write.{IsRawFrame, type_name_of, frame_bytes}
use Rattle.pbf_frame.proofs.WriteLaws.{on_ok_raw_frame}
use Rattle.pbf_frame.proofs.write.write_frame.Goals as goal

pub returns-else-is_err-clause-frame : goal.returns-else-is_err-clause-frame
returns-else-is_err-clause-frame c =
    let kind = c.args.kind in
    let raw = c.args.raw.now in
    let r = c.append_frame-written.result in
    on_ok_appends r (IsRawFrame (type_name_of kind) raw) c.args.out.now.items c.append_frame-written.new.out.items (frame_bytes (type_name_of kind) raw) (search rules) (on_ok_raw_frame r kind raw c.requires.small)
