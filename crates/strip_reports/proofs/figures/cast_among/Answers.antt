use Rattle.std.proofs.Common.{Bool, ◌||◌, length, take, subst, sym, ap, ◌∙◌, arith}
use Rattle.strip_mask.specs.Set.{LiesBelow, has}
use Rattle.strip_mask.proofs.ByMembers.{has-empty, has-union}
use Rattle.strip_model.specs.Pay.{works}
use Rattle.strip_model.specs.FilmOf.{film_of}
use Rattle.strip_reports.specs.Days.{works_among}
use Rattle.strip_reports.proofs.Places.{any_more, empty_lies, union_lies}
use Rattle.strip_reports.proofs.figures.cast_among.Goals as goal

pub loop-scene-init : goal.loop-scene-init
loop-scene-init c = record { cast = λ actor. has-empty actor; lies = empty_lies (length c.args.inst.now.actors) }

pub loop-scene-preserved : goal.loop-scene-preserved
loop-scene-preserved c =
    let before = take c.loop-scene.scene-index c.args.scenes.now in
    record {
      cast = λ actor. rw c.union-cast.ensures (has-union c.loop-scene.cast.0 c.cast_of.result.0 actor
          ∙ ap (λ (b : Bool). b || has c.cast_of.result.0 actor) (c.loop-scene.invariant.cast actor)
          ∙ ap (λ (b : Bool). works_among (film_of c.args.inst.now) before actor || b) (c.cast_of.ensures.cast actor)
          ∙ sym (any_more (works (film_of c.args.inst.now) actor) c.args.scenes.now c.loop-scene.scene-index (omega arith)));
      lies = subst (LiesBelow (length c.args.inst.now.actors)) (sym c.union-cast.ensures)
          (union_lies (length c.args.inst.now.actors) c.loop-scene.cast.0 c.cast_of.result.0 c.loop-scene.invariant.lies c.cast_of.ensures.lies);
    }
