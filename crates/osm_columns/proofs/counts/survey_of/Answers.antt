use Rattle.std.proofs.Common.{rules, ◌≡◌, ◌∙◌, length, map, ap, sym}
use Rattle.std.proofs.lemmas.List.{length-map}
use Rattle.osm_columns.specs.Lists.{joined, all_tags, all_members}
use Rattle.osm_columns.specs.Indexes.{AreIndexes}
use Rattle.osm_columns.specs.Tally.{AreTallied}
use Rattle.osm_columns.proofs.TextLemmas.{length-named}
use Rattle.osm_columns.proofs.counts.survey_of.Goals as goal

pub returns : goal.returns
returns c = λ es h.
    let indexes : AreIndexes c.in_ok-indexes.indexes es = c.in_ok-indexes.ensures es h in
    let tally : AreTallied c.in-Some.tally es = c.in-Some.ensures es h in
    let tags : c.len.result ≡ length c.in_ok-indexes.indexes.keys.items = search rules in
    let members : c.len-2.result ≡ length c.in_ok-indexes.indexes.roles.items = search rules in
    let texts : c.len-3.result ≡ length c.in_ok-indexes.indexes.dictionary.texts.items = search rules in
    record {
      indexes_are = indexes;
      counts_are = record {
        elements_are = tally.elements_are;
        nodes_are = tally.nodes_are;
        ways_are = tally.ways_are;
        relations_are = tally.relations_are;
        tags_are = tags ∙ length-named _ _ _ indexes.keys_are ∙ length-map (all_tags es) _;
        refs_are = tally.refs_are;
        members_are = members ∙ length-named _ _ _ indexes.roles_are ∙ length-map (all_members es) _;
        texts_are = texts ∙ sym (length-map c.in_ok-indexes.indexes.dictionary.texts.items _);
        text_bytes_are = c.in-Some-text_bytes_of.ensures ∙ ap (λ l. length (joined (map (λ t. t.now) l))) c.deref.ensures.value;
      };
    }
