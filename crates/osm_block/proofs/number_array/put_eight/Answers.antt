use Rattle.std.proofs.Common.{◌++◌, take, sym, ap, ◌∙◌, get_or, arith}
use Rattle.osm_block.proofs.RowLemmas.{put_eight, eight}
use Rattle.osm_block.proofs.number_array.put_eight.Goals as goal

pub returns : goal.returns
returns c =
    let ns = c.args.numbers.now in
    put_eight c.args.run.now c.args.count (get_or ns 0 0) (get_or ns 1 0) (get_or ns 2 0) (get_or ns 3 0) (get_or ns 4 0) (get_or ns 5 0) (get_or ns 6 0) (get_or ns 7 0) (omega (arith, c.requires, c.told-run))
    ∙ ap (λ l. take c.args.count c.args.run.now ++ l) (sym (eight ns c.told-numbers))
