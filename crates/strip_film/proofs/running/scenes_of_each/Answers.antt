use Rattle.std.proofs.Common.{ℕ, ◌<◌, length, ap, ◌∙◌, arith}
use Rattle.std.proofs.Math.ListN.{length-set}
use Rattle.strip_mask.proofs.Below.{LiesBelow-full}
use Rattle.strip_film.specs.Film.{all_scenes}
use Rattle.strip_film.specs.Running.{scenes_with}
use Rattle.strip_mask.proofs.Lists.{written}
use Rattle.strip_film.proofs.running.scenes_of_each.Goals as goal

pub scenes_with-requires-clause-lies : goal.scenes_with-requires-clause-lies
scenes_with-requires-clause-lies c = rw c.all.ensures (LiesBelow-full (length c.args.film.now.casts))

pub loop-actor-preserved : goal.loop-actor-preserved
loop-actor-preserved c =
    let within : c.loop-actor.actor < length c.loop-actor.counts
    = omega (arith, c.loop-actor-test.true, ap length c.rates-actor-end.ensures, c.keeps_limits.ensures.actor_count, c.loop-actor.invariant.long) in
    record {
      long = length-set {A = ℕ} c.loop-actor.counts c.loop-actor.actor c.scenes_with.result ∙ c.loop-actor.invariant.long;
      counts = written c.loop-actor.counts c.loop-actor.actor c.scenes_with.result (scenes_with c.args.film.now (all_scenes c.args.film.now)) within
          c.loop-actor.invariant.counts (c.scenes_with.ensures ∙ ap (λ (q : ℕ). scenes_with c.args.film.now q c.loop-actor.actor) c.all.ensures);
    }
