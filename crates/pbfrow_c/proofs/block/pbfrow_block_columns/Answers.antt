use Rattle.std.proofs.Common.{◌≡◌, ◌∙◌, sym, subst, refl, inl, inr, true, false}
use Rattle.osm_columns.specs.declared.columns.Columns.{Columns}
use Rattle.osm_columns.specs.Columns.{HoldsColumns}
use Rattle.osm_columns.specs.Indexes.{texts_in}
use Rattle.pbfrow_c.specs.Blocks.{IsReading}
use Rattle.pbfrow_c.proofs.block.pbfrow_block_columns.Goals as goal
use Rattle.pbfrow_c.proofs.block.pbfrow_block_columns.Goals.{then-room, else-room}

pub returns-then-room-2 : goal.returns-then-room-2
returns-then-room-2 c =
    let read : IsReading c.args.block.now c.in-Ok.reading = c.in-Ok.ensures.1 in
    let survey = read.survey_is read.elements read.groups_hold in
    let texts = texts_in c.in-Ok.reading.survey.indexes.dictionary in
    let P : Columns → Type 0 = λ x. HoldsColumns read.elements texts c.args.columns.now x in
    elim c.if-room.branch [
      | then-room w ↦ inl (refl, (read.elements, texts, read.elements_are, survey.counts_are, subst P (sym w.columns-is) (w.put_columns.ensures read.elements read.groups_hold)))
      | else-room w ↦ let no : true ≡ false = sym c.if-room-2.true ∙ w.if-room.false in absurd cc
    ]

pub returns-in-Ok : goal.returns-in-Ok
returns-in-Ok c =
    let read : IsReading c.args.block.now c.in-Ok.reading = c.in-Ok.ensures.1 in
    let survey = read.survey_is read.elements read.groups_hold in
    let texts = texts_in c.in-Ok.reading.survey.indexes.dictionary in
    elim c.if-room.branch [
      | then-room w ↦ let no : true ≡ false = sym w.if-room.true ∙ c.if-room-2.false in absurd cc
      | else-room w ↦ inr (inl (refl, w.columns-is, sym c.columns_fit-room.ensures ∙ c.if-room-2.false, (read.elements, texts, read.elements_are, survey.counts_are)))
    ]
