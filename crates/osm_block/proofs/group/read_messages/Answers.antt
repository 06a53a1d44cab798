use Rattle.std.proofs.Common.{rules, ◌∙◌, ◌∷◌, ◌++◌, [], map, ap, sym, refl}
use Rattle.std.specs.List.{flat_map}
use Rattle.osm_block.specs.Message.{Plain, Dense, Way, Relation}
use Rattle.osm_block.specs.Fields.{context_of}
use Rattle.osm_block.specs.GroupMessages.{messages_of}
use Rattle.osm_block.specs.Phases.{first, message_phases}
use Rattle.osm_block.proofs.ReadingLemmas.{Refused, still_refused, as_it_is}
use Rattle.osm_block.proofs.LoopLemmas.{stop_front, past_front, single, Appended-append, Appended-along, on_ok}
use Rattle.osm_block.proofs.group.read_messages.Goals as goal

pub returns-in_err-read_elements-clause-phase : goal.returns-in_err-read_elements-clause-phase
returns-in_err-read_elements-clause-phase c =
    let b = context_of c.args.scale.now in
    let p = map Plain (map (λ x. x.now) c.args.payloads.now.nodes.items) in
    let d = Dense (map (λ x. x.now) c.args.payloads.now.dense.items) in
    let w = map Way (map (λ x. x.now) c.args.payloads.now.ways.items) in
    let r = map Relation (map (λ x. x.now) c.args.payloads.now.relations.items) in
    let at_nodes = ap (λ l. first (flat_map (message_phases b) l)) (ap (λ l. map Plain (map (λ x. x.now) l)) c.deref.ensures.value) in
    let refused : Refused (first (flat_map (message_phases (context_of c.args.scale.now)) (messages_of c.args.payloads.now))) c.in_err-read_elements.field-0.0 =
    still_refused _ _ _ (λ f s. stop_front (message_phases b) p (d ∷ (w ++ r)) (first (flat_map (message_phases (context_of c.args.scale.now)) (messages_of c.args.payloads.now))) refl f (sym at_nodes ∙ s)) c.in_err-read_elements.ensures.phase in
    search rules

pub returns-in_err-read_dense-clause-phase : goal.returns-in_err-read_dense-clause-phase
returns-in_err-read_dense-clause-phase c =
    let b = context_of c.args.scale.now in
    let p = map Plain (map (λ x. x.now) c.args.payloads.now.nodes.items) in
    let d = Dense (map (λ x. x.now) c.args.payloads.now.dense.items) in
    let w = map Way (map (λ x. x.now) c.args.payloads.now.ways.items) in
    let r = map Relation (map (λ x. x.now) c.args.payloads.now.relations.items) in
    let at_nodes = ap (λ l. first (flat_map (message_phases b) l)) (ap (λ l. map Plain (map (λ x. x.now) l)) c.deref.ensures.value) in
    let past_nodes = past_front (message_phases b) p (d ∷ (w ++ r)) (first (flat_map (message_phases (context_of c.args.scale.now)) (messages_of c.args.payloads.now))) refl (sym at_nodes ∙ c.in_ok-read_elements.ensures.phase.0) in
    let at_dense = ap (λ m. first (message_phases b m)) (ap (λ l. Dense (map (λ x. x.now) l)) c.deref-2.ensures.value) in
    let refused : Refused (first (flat_map (message_phases (context_of c.args.scale.now)) (messages_of c.args.payloads.now))) c.in_err-read_dense.field-0.0 =
    still_refused _ _ _ (λ f s. stop_front (message_phases b) (d ∷ []) (w ++ r) (first (flat_map (message_phases (context_of c.args.scale.now)) (messages_of c.args.payloads.now))) past_nodes f (sym (single (message_phases b) d) ∙ sym at_dense ∙ s)) c.in_err-read_dense.ensures.phase in
    search rules

pub returns-in_err-read_elements-2-clause-phase : goal.returns-in_err-read_elements-2-clause-phase
returns-in_err-read_elements-2-clause-phase c =
    let b = context_of c.args.scale.now in
    let p = map Plain (map (λ x. x.now) c.args.payloads.now.nodes.items) in
    let d = Dense (map (λ x. x.now) c.args.payloads.now.dense.items) in
    let w = map Way (map (λ x. x.now) c.args.payloads.now.ways.items) in
    let r = map Relation (map (λ x. x.now) c.args.payloads.now.relations.items) in
    let at_nodes = ap (λ l. first (flat_map (message_phases b) l)) (ap (λ l. map Plain (map (λ x. x.now) l)) c.deref.ensures.value) in
    let past_nodes = past_front (message_phases b) p (d ∷ (w ++ r)) (first (flat_map (message_phases (context_of c.args.scale.now)) (messages_of c.args.payloads.now))) refl (sym at_nodes ∙ c.in_ok-read_elements.ensures.phase.0) in
    let at_dense = ap (λ m. first (message_phases b m)) (ap (λ l. Dense (map (λ x. x.now) l)) c.deref-2.ensures.value) in
    let past_dense = past_front (message_phases b) (d ∷ []) (w ++ r) (first (flat_map (message_phases (context_of c.args.scale.now)) (messages_of c.args.payloads.now))) past_nodes (sym (single (message_phases b) d) ∙ sym at_dense ∙ c.in_ok-read_dense.ensures.phase.0) in
    let at_ways = ap (λ l. first (flat_map (message_phases b) l)) (ap (λ l. map Way (map (λ x. x.now) l)) c.deref-3.ensures.value) in
    let refused : Refused (first (flat_map (message_phases (context_of c.args.scale.now)) (messages_of c.args.payloads.now))) c.in_err-read_elements-2.field-0.0 =
    still_refused _ _ _ (λ f s. stop_front (message_phases b) w r (first (flat_map (message_phases (context_of c.args.scale.now)) (messages_of c.args.payloads.now))) past_dense f (sym at_ways ∙ s)) c.in_err-read_elements-2.ensures.phase in
    search rules

pub returns-clause-phase : goal.returns-clause-phase
returns-clause-phase c =
    let b = context_of c.args.scale.now in
    let p = map Plain (map (λ x. x.now) c.args.payloads.now.nodes.items) in
    let d = Dense (map (λ x. x.now) c.args.payloads.now.dense.items) in
    let w = map Way (map (λ x. x.now) c.args.payloads.now.ways.items) in
    let r = map Relation (map (λ x. x.now) c.args.payloads.now.relations.items) in
    let at_nodes = ap (λ l. first (flat_map (message_phases b) l)) (ap (λ l. map Plain (map (λ x. x.now) l)) c.deref.ensures.value) in
    let past_nodes = past_front (message_phases b) p (d ∷ (w ++ r)) (first (flat_map (message_phases (context_of c.args.scale.now)) (messages_of c.args.payloads.now))) refl (sym at_nodes ∙ c.in_ok-read_elements.ensures.phase.0) in
    let at_dense = ap (λ m. first (message_phases b m)) (ap (λ l. Dense (map (λ x. x.now) l)) c.deref-2.ensures.value) in
    let past_dense = past_front (message_phases b) (d ∷ []) (w ++ r) (first (flat_map (message_phases (context_of c.args.scale.now)) (messages_of c.args.payloads.now))) past_nodes (sym (single (message_phases b) d) ∙ sym at_dense ∙ c.in_ok-read_dense.ensures.phase.0) in
    let at_ways = ap (λ l. first (flat_map (message_phases b) l)) (ap (λ l. map Way (map (λ x. x.now) l)) c.deref-3.ensures.value) in
    let past_ways = past_front (message_phases b) w r (first (flat_map (message_phases (context_of c.args.scale.now)) (messages_of c.args.payloads.now))) past_dense (sym at_ways ∙ c.in_ok-read_elements-2.ensures.phase.0) in
    let at_relations = ap (λ l. first (flat_map (message_phases b) l)) (ap (λ l. map Relation (map (λ x. x.now) l)) c.deref-4.ensures.value) in
    as_it_is _ _ _ (at_relations ∙ sym past_ways) c.read_elements-3.ensures.phase

pub returns-clause-read : goal.returns-clause-read
returns-clause-read c =
    let b = context_of c.args.scale.now in
    let start = c.args.out.now.items in
    let p = map Plain (map (λ x. x.now) c.args.payloads.now.nodes.items) in
    let d = Dense (map (λ x. x.now) c.args.payloads.now.dense.items) in
    let w = map Way (map (λ x. x.now) c.args.payloads.now.ways.items) in
    let r = map Relation (map (λ x. x.now) c.args.payloads.now.relations.items) in
    on_ok c.read_elements-3.result
    (λ last. Appended-append b start c.read_elements.new.out.items c.read_elements-3.new.out.items p (d ∷ (w ++ r))
    (Appended-along b start c.read_elements.new.out.items _ p (ap (λ l. map Plain (map (λ x. x.now) l)) c.deref.ensures.value) c.in_ok-read_elements.ensures.read)
    (Appended-append b c.read_elements.new.out.items c.read_dense.new.out.items c.read_elements-3.new.out.items (d ∷ []) (w ++ r)
    (Appended-along b c.read_elements.new.out.items c.read_dense.new.out.items _ (d ∷ []) (ap (λ l. Dense (map (λ x. x.now) l) ∷ []) c.deref-2.ensures.value) c.in_ok-read_dense.ensures.read)
    (Appended-append b c.read_dense.new.out.items c.read_elements-2.new.out.items c.read_elements-3.new.out.items w r
    (Appended-along b c.read_dense.new.out.items c.read_elements-2.new.out.items _ w (ap (λ l. map Way (map (λ x. x.now) l)) c.deref-3.ensures.value) c.in_ok-read_elements-2.ensures.read)
    (Appended-along b c.read_elements-2.new.out.items c.read_elements-3.new.out.items _ r (ap (λ l. map Relation (map (λ x. x.now) l)) c.deref-4.ensures.value) last))))
    c.read_elements-3.ensures.read
