-- Sources that are split and joined.
use Rattle.std.proofs.Common.{◌≡◌, ℕ, suc, ◌+◌, ◌≤◌, Bool, List, [], ◌++◌, refl, sym, ap, ◌∙◌, subst, arith, append-nil}
use Rattle.strip_least.specs.Rule.{once_below, times}
use Rattle.strip_steal.specs.declared.queues.Pool.{Pool}
use Rattle.strip_steal.specs.declared.taker.Taker.{Taker}
use Rattle.strip_steal.specs.Seat.{QueueId}
use Rattle.strip_steal.specs.Taker.{HasGathered, IsPool, IsTaker, StayAt, handed_in, pool_queues, pool_shares, puts, taken_in, taker_queues, taker_shares}
use Rattle.strip_steal.proofs.Handed.{handed-same}
use Rattle.strip_crew.specs.declared.source.Source.{Source}
use Rattle.strip_crew.specs.declared.source.Source.TheVariants.{Counter, Gathers, Takes}
use Rattle.strip_crew.specs.Source.{AreTasks, SourceHome, source_home, taken_by}
use Rattle.strip_crew.specs.Source.SourceHome.{NoHome, OfCounter, OfGatherer, OfQueues}
use Rattle.strip_crew.proofs.Done.{or_second}
use Rattle.strip_crew.proofs.Once.{at_most_once}
use Rattle.strip_crew.proofs.Parted.{is_counter}
use Rattle.strip_crew.specs.Sources.{JoinsSource, NoneLeft, Splits}

-- counters are split and joined at no cost
pub counter_splits : Splits Counter Counter Counter
counter_splits = record {
  given = λ parts claims given. tt;
  fresh = λ parts claims given. tt;
  same = λ number. refl;
  unused = λ number. refl;
  worker = tt;
  home = refl;
  from = refl;
  weight = λ weight bears. tt;
  light = tt;
  ended = λ told. refl;
}

module _ (pool after : Pool) (taker : Taker) (flag : Bool)
    (is_taker : IsTaker taker) (same : StayAt (pool_queues pool) (taker_queues taker) (pool_shares pool) (taker_shares taker))
    (unused : (number : ℕ) → times number (taken_in (taker_shares taker)) ≡ 0)
    (weight : (weight : ℕ) → IsPool (suc weight) pool → IsPool weight after)
    (stays : StayAt (pool_queues pool) (pool_queues after) (pool_shares pool) (pool_shares after))
    (taken : (number : ℕ) → times number (taken_in (pool_shares after)) ≡ times number (taken_in (pool_shares pool)))
    (some_weight : (rest : ℕ) × IsPool (suc (suc rest)) pool) where
  abbrev gatherer : Pool → Source
  gatherer one = Gathers (record { pool = one; has_ended = flag })

  handed_after : handed_in (pool_shares after) ≡ handed_in (pool_shares pool)
  handed_after = handed-same (pool_shares pool) (pool_shares after) stays.puts

  handed_taker : handed_in (taker_shares taker) ≡ handed_in (pool_shares pool)
  handed_taker = handed-same (pool_shares pool) (taker_shares taker) same.puts

  pub pool_splits : Splits (gatherer pool) (Takes taker) (gatherer after)
  pool_splits = record {
    given = λ parts claims given. record {
      weighs = (suc some_weight.0, omega arith, weight (suc some_weight.0) some_weight.1);
      tasks = subst (AreTasks parts) (sym handed_after) given.tasks;
      few = λ number. subst (λ (numbers : List ℕ). times number (taken_in (pool_shares after)) ≤ times number numbers) (sym handed_after)
          (omega (arith, given.few number, taken number));
      front = given.front;
    };
    fresh = λ parts claims given. record {
      is_taker = is_taker;
      tasks = subst (AreTasks parts) (sym handed_taker) given.tasks;
      few = λ number. omega (arith, unused number);
      unclaimed = refl;
    };
    same = taken;
    unused = unused;
    worker = tt;
    home = (λ i. OfQueues (stays.queues i) (stays.puts i));
    from = (λ i. OfQueues (same.queues i) (same.puts i));
    weight = λ so_much bears. weight so_much bears;
    light = refl;
    ended = λ told. refl;
  }

-- ---- joined

pub counter_joins : (other : Source) → source_home other ≡ OfCounter → JoinsSource Counter other Counter
counter_joins other same = record {
  given = λ parts claims more given theirs. tt;
  taken = λ number. omega (arith, none number);
  once = λ parts claims more given theirs once number. omega (arith, once number);
  home = refl;
  weight = λ weight bears. tt;
  left = λ told other_told left. or_second told other_told (subst (λ (s : Source). NoneLeft s other_told) is left);
}
  where
    is : other ≡ Counter
    is = is_counter other same

    none : (number : ℕ) → times number (taken_by other) ≡ 0
    none number = ap (λ (s : Source). times number (taken_by s)) is

module _ (pool after : Pool) (taker : Taker) (flag : Bool) (gathered : HasGathered pool taker after) where
  abbrev held : Pool → Source
  held one = Gathers (record { pool = one; has_ended = flag })

  handed_still : handed_in (pool_shares after) ≡ handed_in (pool_shares pool)
  handed_still = handed-same (pool_shares pool) (pool_shares after) gathered.stays.puts

  -- the front alone was claimed, and the others are those that were handed in
  pub pool_joins : JoinsSource (held pool) (Takes taker) (held after)
  pool_joins = record {
    given = λ parts claims more given theirs. record {
      weighs = (given.weighs.0 + 1, omega arith, gathered.weight given.weighs.0 given.weighs.2);
      tasks = subst (AreTasks parts) (sym handed_still) given.tasks;
      few = gathered.few;
      front = λ part. ap (times part) (ap (λ (xs : List ℕ). claims ++ xs) theirs.unclaimed ∙ append-nil claims) ∙ given.front part;
    };
    taken = gathered.took;
    once = λ parts claims more given theirs once part. (
        let all : times part (claims ++ more) ≡ times part claims = ap (times part) (ap (λ (xs : List ℕ). claims ++ xs) theirs.unclaimed ∙ append-nil claims) in
        let front : times part claims ≡ once_below part 1 = given.front part in
        let few : times part (taken_in (pool_shares after)) ≤ times part (handed_in (pool_shares after)) = gathered.few part in
        let same : times part (handed_in (pool_shares after)) ≡ times part (handed_in (pool_shares pool)) = ap (times part) handed_still in
        let tasks : times part (handed_in (pool_shares pool)) + once_below part 1 ≡ once_below part parts = given.tasks part in
        omega (arith, all, front, few, same, tasks, at_most_once part parts));
    home = (λ i. OfQueues (gathered.stays.queues i) (gathered.stays.puts i));
    weight = λ weight bears. gathered.weight weight bears;
    left = λ told other_told left full part. gathered.each full (gathered.ended left) part;
  }

-- what another worker has can't be gathered from any source but that of a taker of the pool's queues
pub gathers_from : (pool after : Pool) (flag : Bool) (other : Source) (taker : Taker) → other ≡ Takes taker → HasGathered pool taker after
    → JoinsSource (Gathers (record { pool = pool; has_ended = flag })) other (Gathers (record { pool = after; has_ended = flag }))
gathers_from pool after flag other taker is gathered =
    subst (λ (source : Source). JoinsSource (Gathers (record { pool = pool; has_ended = flag })) source (Gathers (record { pool = after; has_ended = flag }))) (sym is)
    (pool_joins pool after taker flag gathered)

abbrev queues_in : SourceHome → List QueueId
queues_in OfCounter = []
queues_in (OfGatherer pool) = []
queues_in (OfQueues queues put) = queues
queues_in NoHome = []

-- a taker of the same home has the pool's queues
pub same_queues : (pool : Pool) (other : Source) (taker : Taker) → other ≡ Takes taker → source_home other ≡ OfQueues (pool_queues pool) (puts (pool_shares pool))
    → taker_queues taker ≡ pool_queues pool
same_queues pool other taker is same = ap queues_in (sym (ap source_home is) ∙ same)
