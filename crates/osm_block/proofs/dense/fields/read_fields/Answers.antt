use Rattle.std.proofs.Common.{◌≡◌, ◌++◌, ◌∙◌, sym, ap, subst, map, List, ℕ}
use Rattle.std.specs.List.{flat_map}
use Rattle.std.specs.Option.{option_map, option_or}
use Rattle.pbf_wire.specs.Readings.{fields, each}
use Rattle.osm_block.specs.declared.fields.TheConstants.{DENSE_DENSEINFO}
use Rattle.osm_block.specs.declared.fault.BlockFault.TheVariants as faults
use Rattle.osm_block.specs.DenseFieldsRead.{DenseInfoRead}
use Rattle.osm_block.specs.Message.{Dense, wires}
use Rattle.osm_block.specs.Phases.{first, wire_phases}
use Rattle.osm_block.proofs.DenseFieldLemmas.{DenseRead, faults_are, message_is}
use Rattle.osm_block.proofs.dense.fields.read_fields.Goals.{After-or-2}
use Rattle.osm_block.proofs.dense.fields.read_fields.Goals as goal

-- what is known once the arrays were read, and their faults put together
module _ (c : After-or-2) where
  infos : map (λ p. p.now) c.each_of_all.new.out.items ≡ each (flat_map fields (map (λ p. p.now) c.args.payloads.now)) DENSE_DENSEINFO
  infos =
      c.in_ok-each_of_all.ensures
      ∙ ap (λ l. map (λ p. p.now) l ++ each (flat_map fields (map (λ p. p.now) c.args.payloads.now)) DENSE_DENSEINFO) c.new-infos.ensures.items

  read : DenseRead (record { ids = c.read_array.new.array; lats = c.read_array-2.new.array; lons = c.read_array-3.new.array; keys_vals = c.read_array-4.new.array; info = c.read_infos.new.info }) (flat_map fields (map (λ p. p.now) c.args.payloads.now))
  read =
      let P : List (List ℕ) → Type 0 = λ l. DenseInfoRead c.read_infos.new.info (flat_map fields l) in
      record {
        ids = c.in_ok-read_array.ensures;
        lats = c.in_ok-read_array-2.ensures;
        lons = c.in_ok-read_array-3.ensures;
        keys_vals = c.in_ok-read_array-4.ensures;
        info = subst P (ap (map (λ p. p.now)) c.deref.ensures.value ∙ infos) c.in_ok-read_infos.ensures;
      }

  phase : first (wire_phases (wires (Dense (map (λ p. p.now) c.args.payloads.now)))) ≡ option_map faults.BlockWire c.or-2.result
  phase =
      let found : option_or (option_or (option_or c.first_wire.result c.first_wire-2.result) c.fault.result) c.fault-2.result ≡ c.or-2.result =
      sym (c.or-2.ensures ∙ ap (λ x. option_or x c.fault-2.result) (c.or.ensures ∙ ap (λ x. option_or x c.fault.result) c.or-wires.ensures)) in
      faults_are _ (map (λ p. p.now) c.args.payloads.now) (map (λ p. p.now) c.deref-2.result.now) _ _ _ _ read (ap (map (λ p. p.now)) c.deref-2.ensures.value ∙ infos)
      c.first_wire.ensures c.first_wire-2.ensures c.fault.ensures c.fault-2.ensures
      ∙ ap (option_map faults.BlockWire) found

pub returns-in-Some-clause-phase : goal.returns-in-Some-clause-phase
returns-in-Some-clause-phase c = phase (goal.at.returns-in-Some-clause-phase c).After-or-2 ∙ ap (option_map faults.BlockWire) c.in-Some.is

pub returns-clause-phase : goal.returns-clause-phase
returns-clause-phase c = (phase (goal.at.returns-clause-phase c).After-or-2 ∙ ap (option_map faults.BlockWire) c.in-None.is, tt)

pub returns-clause-read : goal.returns-clause-read
returns-clause-read c = message_is _ _ (read (goal.at.returns-clause-read c).After-or-2)
