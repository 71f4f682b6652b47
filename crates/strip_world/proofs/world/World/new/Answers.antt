use Rattle.std.proofs.Common.{rules, ◌≡◌, ◌+◌, ◌/◌, ◌∙◌, ℕ, suc, map, length, replicate, ap, arith, sym, subst}
use Rattle.std.proofs.lemmas.List.{length-map}
use Rattle.strip_film.specs.Shown.{path_data}
use Rattle.strip_world.specs.Sound.{IsSound}
use Rattle.strip_world.specs.World.{no_part}
use Rattle.strip_world.proofs.world.World.new.Goals as goal

pub returns-clause-opened : goal.returns-clause-opened
returns-clause-opened c =
    let tasks = ap (map path_data) (c.in_ok-to_vec.ensures.items_if_clones_equal (search rules)) in
    let count : length c.args.tasks.now + 1 ≡ suc (length (map path_data c.args.tasks.now)) = omega (arith, length-map c.args.tasks.now path_data) in
    let parts = c.in_ok-free_parts.ensures ∙ ap (λ (n : ℕ). replicate n no_part) count in
    λ i. record {
      search = record {
        film = c.in_ok-copy.ensures i;
        kind = c.args.kind;
        nodes = c.args.limits.now.nodes;
        start = c.paid.ensures i;
        tasks = tasks i;
      };
      buckets = c.args.limits.now.entries / 64;
      least = c.paid-2.ensures i;
      lines = c.in_ok-with_capacity.ensures.items i;
      stripes = c.in_ok-empty_stripes.ensures i;
      next = 0;
      parts = parts i;
      workers = c.in_ok-idle_workers.ensures i;
    }

pub returns-clause-sound : goal.returns-clause-sound
returns-clause-sound c =
    subst IsSound (sym (returns-clause-opened c))
    (c.steps_keep_worlds_sound.ensures.opened c.args.film.now c.args.kind (path_data c.args.start.now) (map path_data c.args.tasks.now) c.args.limits.now
    c.keeps_limits.ensures c.requires.start c.requires.tasks c.requires.limits)
