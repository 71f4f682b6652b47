use Rattle.std.proofs.Common.{◌≡◌, ℕ, ◌<◌, length, slice_index}
use Rattle.strip_film.specs.Film.{all_scenes}
use Rattle.strip_film.specs.Running.{scenes_with}
use Rattle.strip_film.proofs.running.scenes_of_each.Given as goal

abbrev pub invariant-loop-actor : goal.invariant-loop-actor
invariant-loop-actor l = record {
  long : length l.counts ≡ 64;
  counts : (actor : ℕ) → actor < l.actor → slice_index l.counts actor ≡ scenes_with l.film (all_scenes l.film) actor;
}
