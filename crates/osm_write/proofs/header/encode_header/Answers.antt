use Rattle.osm_write.proofs.HeaderRead.{header_joined, header_reads, header_says}
use Rattle.osm_write.proofs.header.encode_header.Goals as goal

pub returns-clause-exact : goal.returns-clause-exact
returns-clause-exact c =
    header_joined c.args.history c.new-out.result.items c.append_features.new.out.items c.append_bytes.new.out.items
    c.new-out.ensures.items c.in_ok-append_features.ensures c.in_ok-append_bytes.ensures

pub returns-clause-read_back : goal.returns-clause-read_back
returns-clause-read_back c = header_reads c.args.history c.append_bytes.new.out.items (returns-clause-exact c)

pub returns-clause-says : goal.returns-clause-says
returns-clause-says c = header_says c.args.history c.append_bytes.new.out.items (returns-clause-exact c)
