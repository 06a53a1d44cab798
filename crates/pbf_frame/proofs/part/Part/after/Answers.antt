use Rattle.std.proofs.Common.{◌<◌, rules, length, sym, subst}
use Rattle.pbf_frame.specs.declared.part.Part.{Part}
use Rattle.pbf_frame.specs.Parts.{end_of}
use Rattle.pbf_frame.proofs.FrontLaws.{IsOpenPart, part_stays_in, open_below}
use Rattle.pbf_frame.proofs.part.Part.after.Goals as goal

pub returns-in-Blob-clause-exact : goal.returns-in-Blob-clause-exact
returns-in-Blob-clause-exact c =
    let still : IsOpenPart c.args.self (length c.args.bytes.now) = subst (λ (p : Part). IsOpenPart p (length c.args.bytes.now)) (sym c.in-Blob.is) tt in
    sym (part_stays_in c.args.offset c.args.bytes.now c.args.self c.requires.begun still)

pub returns-in_default : goal.returns-in_default
returns-in_default c =
    let below : length c.args.bytes.now < end_of c.args.self = search rules in
    record {
      exact = sym (part_stays_in c.args.offset c.args.bytes.now c.args.self c.requires.begun (open_below c.args.self (length c.args.bytes.now) below));
      small = c.requires.begun.small;
    }
