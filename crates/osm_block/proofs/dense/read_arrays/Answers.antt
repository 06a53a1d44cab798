use Rattle.std.proofs.Common.{rules, refl, sym, map, List, ℕ, Err}
use Rattle.std.specs.Prelude.{⊤}
use Rattle.std.specs.List.{flat_map}
use Rattle.pbf_wire.specs.Readings.{fields}
use Rattle.osm_block.specs.declared.dense.arrays.DenseArrays.{DenseArrays}
use Rattle.osm_block.specs.Message.{Dense, DenseMessage, dense_message}
use Rattle.osm_block.specs.Dense.{AreReady, AreArraysOf, dense_message_of}
use Rattle.osm_block.specs.Fields.{context_of}
use Rattle.osm_block.specs.Phases.{Gives, first, dense_phases, message_phases}
use Rattle.osm_block.proofs.ReadingLemmas.{Gives-err, Gives-along}
use Rattle.osm_block.proofs.DenseLemmas.{stop_wires, past_wires}
use Rattle.osm_block.proofs.dense.read_arrays.Goals as goal

pub returns-in_err-read_fields : goal.returns-in_err-read_fields
returns-in_err-read_fields c =
    let b = context_of c.args.scale.now in
    let ps : List (List ℕ) = map (λ p. p.now) c.args.payloads.now in
    let refused : Gives {A = DenseArrays} (λ a. AreReady b a × AreArraysOf a (dense_message (flat_map fields ps))) (first (message_phases b (Dense ps))) (Err c.in_err-read_fields.field-0.0) =
    Gives-err {A = Unit {0}} (λ _. ⊤) (λ (a : DenseArrays). AreReady b a × AreArraysOf a (dense_message (flat_map fields ps))) _ _ _ (stop_wires b ps) c.in_err-read_fields.ensures.phase in
    search rules

pub returns : goal.returns
returns c =
    let b = context_of c.args.scale.now in
    let ps : List (List ℕ) = map (λ p. p.now) c.args.payloads.now in
    Gives-along (λ (a : DenseArrays) (m : DenseMessage). AreReady b a × AreArraysOf a m) (λ m. first (dense_phases b m)) (dense_message_of c.read_fields.new.dense) (dense_message (flat_map fields ps)) _ _
    c.in_ok-read_fields.ensures.read (sym (past_wires b ps (dense_message (flat_map fields ps)) refl c.in_ok-read_fields.ensures.phase.0)) c.ready_arrays.ensures
