use Rattle.std.proofs.Common.{◌++◌, ◌∷◌, [], List, refl, inl, inr, ap, sym, ◌∙◌, append-nil}
use Rattle.osm_rows.specs.declared.keeper.Extent.{Extent}
use Rattle.osm_parts.specs.declared.runs.Part.{Part}
use Rattle.osm_parts.proofs.runs.add_to_runs.Goals as goal
use Rattle.osm_parts.proofs.runs.add_to_runs.Goals.{in-Some+else-last-piece+in_ok-push-3, in_default}

pub returns-then-last-piece : goal.returns-then-last-piece
returns-then-last-piece c =
    let last = c.in-Some.last in
    let part : Part = record { place = last.place; extents = c.push.new.self; history = last.history } in
    (c.pop.new.self.items, part, c.in_ok-push-2.ensures.items, inr (last, c.in-Some.ensures.items, c.if-last-piece.true, refl, refl, c.in_ok-push.ensures.items))

pub returns : goal.returns
returns c =
    let extents = c.in_ok-push-4.ensures.items ∙ ap (λ (es : List Extent). es ++ c.args.piece.now.extent ∷ []) c.new-extents.ensures.items in
    let part : Part = record { place = c.args.piece.now.place; extents = c.push-2.new.self; history = c.args.piece.now.history } in (
      c.match-pop.parts.items,
      part,
      c.in_ok-push-5.ensures.items,
      inl (
        elim c.match-pop.branch [
          | in-Some+else-last-piece+in_ok-push-3 w ↦ ap (λ v. v.items) w.parts-is ∙ w.in_ok-push-3.ensures.items ∙ sym w.in-Some.ensures.items
          | in_default w ↦ ap (λ v. v.items) w.parts-is ∙ sym (append-nil c.pop.new.self.items) ∙ sym w.in_default.ensures.items
        ],
        record { place = refl; places = tt; history = refl; extents = extents },
      ),
    )
