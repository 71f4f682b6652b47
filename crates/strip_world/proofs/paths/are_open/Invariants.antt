use Rattle.std.proofs.Common.{◌≡◌, take}
use Rattle.strip_film.specs.Film.{all_scenes}
use Rattle.strip_film.specs.Finish.{AreFirsts, rest_after}
use Rattle.strip_rule.specs.Rule.{open_firsts}
use Rattle.strip_world.proofs.paths.are_open.Given as goal

-- the scenes so far are open firsts, and this remains after them
abbrev pub invariant-loop-scene : goal.invariant-loop-scene
invariant-loop-scene l = record {
  firsts : AreFirsts (open_firsts l.film) (all_scenes l.film) (take l.scene-index l.scenes);
  rest : l.rest.0 ≡ rest_after (all_scenes l.film) (take l.scene-index l.scenes);
}
