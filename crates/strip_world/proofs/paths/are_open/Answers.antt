use Rattle.std.proofs.Common.{◌≡◌, ℕ, true, false, sym, ap, ◌∙◌, take, get_or}
use Rattle.strip_mask.specs.Set.{has, without}
use Rattle.strip_film.specs.Film.{all_scenes}
use Rattle.strip_film.specs.Finish.{rest_after}
use Rattle.strip_rule.specs.Rule.{open_firsts}
use Rattle.strip_world.proofs.Walked.{first_more, lies_after, not_first, rest_more}
use Rattle.strip_world.proofs.paths.are_open.Goals as goal
use Rattle.strip_world.proofs.paths.are_open.Goals.{After-is_in}

pub open_firsts-requires : goal.open_firsts-requires
open_firsts-requires c = lies_after c.args.film.now c.loop-scene.rest.0 (take c.loop-scene.scene-index c.args.scenes.now) c.loop-scene.invariant.rest

-- whether the scene is an open first in its turn
tested : (c : After-is_in) → has (open_firsts c.args.film.now (rest_after (all_scenes c.args.film.now) (take c.loop-scene.scene-index c.args.scenes.now)))
    (get_or c.args.scenes.now c.loop-scene.scene-index 0) ≡ c.is_in.result
tested c =
    ap (λ (q : ℕ). has q (get_or c.args.scenes.now c.loop-scene.scene-index 0))
    (sym (c.open_firsts.ensures.open ∙ ap (open_firsts c.args.film.now) c.loop-scene.invariant.rest))
    ∙ sym c.is_in.ensures.member

pub returns-then-not-is_in : goal.returns-then-not-is_in
returns-then-not-is_in c = (
  λ never. absurd (let e : false ≡ true = never in cc),
  λ are. absurd (not_first (open_firsts c.args.film.now) (all_scenes c.args.film.now) c.args.scenes.now c.loop-scene.scene-index c.loop-scene-test.true
      (tested (goal.at.returns-then-not-is_in c).After-is_in ∙ c.if-not-is_in.true) are),
)

pub loop-scene-preserved : goal.loop-scene-preserved
loop-scene-preserved c = record {
  firsts = first_more (open_firsts c.args.film.now) (all_scenes c.args.film.now) c.args.scenes.now c.loop-scene.scene-index c.loop-scene-test.true
      c.loop-scene.invariant.firsts (tested (goal.at.loop-scene-preserved c).After-is_in ∙ c.if-not-is_in.false);
  rest = c.without-rest.ensures ∙ ap (λ (q : ℕ). without q (get_or c.args.scenes.now c.loop-scene.scene-index 0)) c.loop-scene.invariant.rest
      ∙ sym (rest_more (all_scenes c.args.film.now) c.args.scenes.now c.loop-scene.scene-index c.loop-scene-test.true);
}
