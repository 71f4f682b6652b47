use Rattle.std.proofs.Common.{◌≡◌, ℕ, ◌+◌, List, sym, subst, ap, arith}
use Rattle.strip_mask.specs.Set.{size, without}
use Rattle.strip_model.specs.Film.{FilmData}
use Rattle.strip_film.specs.Film.{all_scenes}
use Rattle.strip_film.specs.Path.{PathData}
use Rattle.strip_film.specs.Shown.{running_data}
use Rattle.strip_film.proofs.Paths.{one_fewer}
use Rattle.strip_start.specs.Greedy.{IsGreedy, IsLeastStep}
use Rattle.strip_start.proofs.Leasts.{greedy_more}
use Rattle.strip_start.proofs.choose.greedy.Goals as goal

pub loop-scene-smaller : goal.loop-scene-smaller
loop-scene-smaller c =
    let film : FilmData = c.args.film.now in
    let path : PathData = (running_data c.loop-scene.state).path in
    let scene : ℕ = c.in-Some.scene in
    let fewer : size (without path.rest scene) + 1 ≡ size path.rest
    = one_fewer film path c.loop-scene.invariant.running.path c.keeps_limits.ensures scene c.in-Some.ensures.some.is_ready in
    let left : size (running_data c.take.new.self).path.rest ≡ size (without path.rest scene) = ap (λ (p : PathData). size p.rest) c.take.ensures.path in
    omega (arith, fewer, left)

pub loop-scene-preserved : goal.loop-scene-preserved
loop-scene-preserved c = record {
  running = c.take.ensures.running;
  greedy = subst (λ (xs : List ℕ). IsGreedy c.args.film.now xs) (sym (ap (λ (p : PathData). p.scenes) c.take.ensures.path))
      (greedy_more c.args.film.now (all_scenes c.args.film.now) c.in-Some.scene (running_data c.loop-scene.state).path.scenes c.loop-scene.invariant.greedy
      (subst (λ (q : ℕ). IsLeastStep c.args.film.now q c.in-Some.scene) c.loop-scene.invariant.running.path.left c.in-Some.ensures.some));
}
