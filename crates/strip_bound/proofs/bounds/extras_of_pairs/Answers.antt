use Rattle.std.proofs.Common.{◌≡◌, ℕ, ◌+◌, ◌∷◌, sym, ap, ◌∙◌, arith}
use Rattle.strip_mask.specs.Set.{has, members, without}
use Rattle.strip_mask.proofs.ByMembers.{has_from_without}
use Rattle.strip_film.specs.Shoot.{on_location}
use Rattle.strip_film.proofs.Located.{location_lies}
use Rattle.strip_model.specs.declared.kind.Kind.TheVariants.{Pairs}
use Rattle.strip_bound.specs.Bounds.{pairs_extra}
use Rattle.strip_bound.proofs.Small.{bound_small}
use Rattle.strip_bound.proofs.Turns.{some_size, size_begins, pairs_few, pairs_sum}
use Rattle.strip_bound.proofs.bounds.extras_of_pairs.Goals as goal

pub loop-q-init : goal.loop-q-init
loop-q-init c = record {
  sum = omega (arith, ap (λ (set : ℕ). pairs_extra c.args.film.now c.args.q.0 (members set)) c.on-left.ensures);
  located = rw c.on-left.ensures (location_lies c.args.film.now c.args.q.0 c.keeps_limits.ensures);
}

pub least-a-requires : goal.least-a-requires
least-a-requires c = some_size c.loop-q.left.0 (omega (arith, c.size.ensures, c.loop-q-test.true))

pub least-b-requires : goal.least-b-requires
least-b-requires c =
    let first : members c.loop-q.left.0 ≡ c.least-a.result ∷ members c.without-rest.result.0
    = c.least-a.ensures.begins ∙ ap (λ (set : ℕ). c.least-a.result ∷ members set) (sym c.without-rest.ensures) in
    some_size c.without-rest.result.0
    (omega (arith, size_begins c.loop-q.left.0 c.least-a.result c.without-rest.result.0 first, c.size.ensures, c.loop-q-test.true))

pub pair_extra-sum-requires-clause-second : goal.pair_extra-sum-requires-clause-second
pair_extra-sum-requires-clause-second c = c.loop-q.invariant.located c.least-b.result
    (has_from_without c.loop-q.left.0 c.least-a.result c.least-b.result
    (sym (ap (λ (set : ℕ). has set c.least-b.result) c.without-rest.ensures) ∙ c.least-b.ensures.member)).1

-- what was added, with the two
added : (c : goal.After-pair_extra-sum) → c.loop-q.sum + c.pair_extra-sum.result
    + pairs_extra c.args.film.now c.args.q.0 (members (without c.without-rest.result.0 c.least-b.result))
    ≡ pairs_extra c.args.film.now c.args.q.0 (members (on_location c.args.film.now c.args.q.0))
added c = pairs_sum c.args.film.now c.args.q.0 c.loop-q.left.0 c.least-a.result c.least-b.result c.without-rest.result.0
    (without c.without-rest.result.0 c.least-b.result) c.loop-q.sum c.pair_extra-sum.result
    (pairs_extra c.args.film.now c.args.q.0 (members (on_location c.args.film.now c.args.q.0)))
    (c.least-a.ensures.begins ∙ ap (λ (set : ℕ). c.least-a.result ∷ members set) (sym c.without-rest.ensures))
    c.least-b.ensures.begins c.pair_extra-sum.ensures c.loop-q.invariant.sum

pub overflow_add-sum : goal.overflow_add-sum
overflow_add-sum c = omega (arith, added c, bound_small Pairs c.args.film.now c.args.q.0 c.keeps_limits.ensures c.requires.lies)

pub loop-q-smaller : goal.loop-q-smaller
loop-q-smaller c =
    let first : members c.loop-q.left.0 ≡ c.least-a.result ∷ members c.without-rest.result.0
    = c.least-a.ensures.begins ∙ ap (λ (set : ℕ). c.least-a.result ∷ members set) (sym c.without-rest.ensures) in
    let second : members c.without-rest.result.0 ≡ c.least-b.result ∷ members c.without-left.result.0
    = c.least-b.ensures.begins ∙ ap (λ (set : ℕ). c.least-b.result ∷ members set) (sym c.without-left.ensures) in
    omega (arith, size_begins c.loop-q.left.0 c.least-a.result c.without-rest.result.0 first, size_begins c.without-rest.result.0 c.least-b.result c.without-left.result.0 second)

pub loop-q-preserved : goal.loop-q-preserved
loop-q-preserved c = record {
  sum = rw c.without-left.ensures (added c.before);
  located = λ i there. c.loop-q.invariant.located i
      (has_from_without c.loop-q.left.0 c.least-a.result i
      (sym (ap (λ (set : ℕ). has set i) c.without-rest.ensures)
      ∙ (has_from_without c.without-rest.result.0 c.least-b.result i (sym (ap (λ (set : ℕ). has set i) c.without-left.ensures) ∙ there)).1)).1;
}

pub returns : goal.returns
returns c = omega (arith, c.loop-q.invariant.sum, pairs_few c.args.film.now c.args.q.0 c.loop-q.left.0 (omega (arith, c.size.ensures, c.loop-q-test.false)))
