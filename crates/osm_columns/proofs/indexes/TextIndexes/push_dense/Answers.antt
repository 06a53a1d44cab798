use Rattle.std.proofs.Common.{rules, ◌≡◌, ◌∙◌, ◌++◌, ℤ, length, map, replicate, negsuc, ap}
use Rattle.osm_block.specs.DenseTags.{Pair}
use Rattle.osm_block.specs.NodeTags.{node_pairs}
use Rattle.osm_columns.specs.Lists.{joined}
use Rattle.osm_columns.specs.Indexes.{index_in}
use Rattle.osm_columns.proofs.DenseTextLemmas.{users-named, keys-named, values-named, roles-named}
use Rattle.osm_columns.proofs.indexes.TextIndexes.push_dense.Goals as goal

pub returns-clause-indexes : goal.returns-clause-indexes
returns-clause-indexes c = λ b ns es h t i.
    let count : c.len-nodes.result ≡ length c.args.arrays.now.ids.items = search rules in
    let key : Pair → ℤ = λ p. index_in c.args.table.now p.0 in
    let value : Pair → ℤ = λ p. index_in c.args.table.now p.1 in
    let users = c.deref.ensures.value in
    let pairs = ap (λ k. joined (node_pairs k c.deref-2.result.now)) count ∙ ap (λ l. joined (node_pairs (length c.args.arrays.now.ids.items) l)) c.deref-2.ensures.value in
    record {
      users_are = users-named b c.args.arrays.now ns es _ c.args.table.now c.args.self.now.users.items _ h t i.users_are
          (λ some. c.in_ok-push_dense_users.ensures.some (rw users some) ∙ ap (λ l. c.args.self.now.users.items ++ map (index_in c.args.table.now) l) users)
          (λ none. c.in_ok-push_dense_users.ensures.none (ap length users ∙ none) ∙ ap (λ k. c.args.self.now.users.items ++ replicate k (negsuc 0)) count);
      keys_are = keys-named b c.args.arrays.now ns es _ c.args.table.now c.args.self.now.keys.items _ h t i.keys_are (c.in_ok-push_nodes.ensures.keys ∙ ap (λ l. c.args.self.now.keys.items ++ map key l) pairs);
      values_are = values-named b c.args.arrays.now ns es _ c.args.table.now c.args.self.now.values.items _ h t i.values_are (c.in_ok-push_nodes.ensures.values ∙ ap (λ l. c.args.self.now.values.items ++ map value l) pairs);
      roles_are = roles-named es ns _ c.args.self.now.roles.items i.roles_are;
    }
