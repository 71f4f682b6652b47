use Rattle.std.proofs.Common.{◌≡◌, ◌∙◌, ◌+◌, ◌∷◌, [], ◌++◌, ap, arith, length, map, refl, subst, sym}
use Rattle.std.proofs.lemmas.List.{map-append}
use Rattle.crossbeam_deque.specs.Handles.{worker_view}
use Rattle.strip_steal.specs.declared.queues.Pool.{Pool}
use Rattle.strip_steal.specs.Taker.{AreDealt, pool_shares}
use Rattle.strip_steal.proofs.Deals.{AreFilled, filled-step, handed-dealt, new_pool, untaken-dealt}
use Rattle.strip_steal.proofs.deal.pool.Goals as goal

pub loop-place-preserved : goal.loop-place-preserved
loop-place-preserved c =
    let pushed : map worker_view c.push.new.self.items ≡ map worker_view c.loop-place.owners.items ++ worker_view c.in_ok-owner.owner ∷ []
    = ap (map worker_view) c.in_ok-push.ensures.items ∙ map-append worker_view c.loop-place.owners.items (c.in_ok-owner.owner ∷ []) in
    subst (AreFilled c.args.workers c.args.numbers.now (c.loop-place.place + 1)) (sym pushed)
    (filled-step c.args.workers c.args.numbers.now c.loop-place.place (map worker_view c.loop-place.owners.items) (worker_view c.in_ok-owner.owner)
    c.loop-place.invariant c.in_ok-owner.ensures)

pub returns-clause-pool : goal.returns-clause-pool
returns-clause-pool c =
    let made : Pool = record { owners = c.loop-place.owners; count = length c.args.numbers.now } in
    let all : c.loop-place.place ≡ c.args.workers = omega (arith, c.loop-place-test.false, c.loop-place.auto.place-end) in
    let are : AreDealt c.args.workers c.args.numbers.now (pool_shares made) = record { long = c.loop-place.invariant.0 ∙ all; filled = c.loop-place.invariant.1 } in
    new_pool made c.args.workers c.args.numbers.now (omega (arith, c.requires.workers.0)) c.requires.workers.1 c.requires.once refl are

pub returns-clause-handed : goal.returns-clause-handed
returns-clause-handed c =
    let made : Pool = record { owners = c.loop-place.owners; count = length c.args.numbers.now } in
    let all : c.loop-place.place ≡ c.args.workers = omega (arith, c.loop-place-test.false, c.loop-place.auto.place-end) in
    let are : AreDealt c.args.workers c.args.numbers.now (pool_shares made) = record { long = c.loop-place.invariant.0 ∙ all; filled = c.loop-place.invariant.1 } in
    handed-dealt c.args.workers c.args.numbers.now (pool_shares made) (omega (arith, c.requires.workers.0)) are

pub returns-clause-untaken : goal.returns-clause-untaken
returns-clause-untaken c =
    let made : Pool = record { owners = c.loop-place.owners; count = length c.args.numbers.now } in
    let all : c.loop-place.place ≡ c.args.workers = omega (arith, c.loop-place-test.false, c.loop-place.auto.place-end) in
    let are : AreDealt c.args.workers c.args.numbers.now (pool_shares made) = record { long = c.loop-place.invariant.0 ∙ all; filled = c.loop-place.invariant.1 } in
    untaken-dealt c.args.workers c.args.numbers.now (pool_shares made) are
