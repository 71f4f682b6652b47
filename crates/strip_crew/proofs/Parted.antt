-- Sources of the workers of a crew that give parts.
use Rattle.std.proofs.Common.{◌≡◌, ℕ, Bool, true, refl, sym, ap, subst, arith}
use Rattle.strip_steal.specs.declared.queues.Pool.{Pool}
use Rattle.strip_steal.specs.Taker.{IsPool}
use Rattle.strip_crew.specs.declared.source.Source.{Source}
use Rattle.strip_crew.specs.declared.source.Source.TheVariants.{Counter, Gathers, Takes}
use Rattle.strip_crew.specs.Source.{SourceHome, has_ended, source_home}
use Rattle.strip_crew.specs.Source.SourceHome.{NoHome, OfCounter, OfGatherer, OfQueues}
use Rattle.strip_crew.specs.Sources.{Bears, IsWorkers, NoneLeft}

-- homes by their kind
abbrev kind_of : SourceHome → ℕ
kind_of OfCounter = 0
kind_of (OfGatherer pool) = 1
kind_of (OfQueues queues put) = 2
kind_of NoHome = 3

abbrev pool_in : Pool → SourceHome → Pool
pool_in other OfCounter = other
pool_in other (OfGatherer pool) = pool
pool_in other (OfQueues queues put) = other
pool_in other NoHome = other

-- a source of the same home is a worker's where the other is
pub workers_still : (before after : Source) → source_home after ≡ source_home before → IsWorkers before → IsWorkers after
workers_still before Counter same worker = tt
workers_still before (Takes taker) same worker = tt
workers_still Counter (Gathers gatherer) same worker = absurd (let kinds : 1 ≡ 0 = ap kind_of same in omega (arith, kinds))
workers_still (Takes taker) (Gathers gatherer) same worker = absurd (let kinds : 1 ≡ 2 = ap kind_of same in omega (arith, kinds))
workers_still (Gathers other) (Gathers gatherer) same worker = worker

-- and bears as much
pub bears_still : (weight : ℕ) (before after : Source) → source_home after ≡ source_home before → Bears weight before → Bears weight after
bears_still weight before Counter same bears = tt
bears_still weight (Takes other) (Takes taker) same bears = bears
bears_still weight Counter (Takes taker) same bears = absurd (let kinds : 2 ≡ 0 = ap kind_of same in omega (arith, kinds))
bears_still weight (Gathers gatherer) (Takes taker) same bears = absurd (let kinds : 2 ≡ 1 = ap kind_of same in omega (arith, kinds))
bears_still weight Counter (Gathers gatherer) same bears = absurd (let kinds : 1 ≡ 0 = ap kind_of same in omega (arith, kinds))
bears_still weight (Takes taker) (Gathers gatherer) same bears = absurd (let kinds : 1 ≡ 2 = ap kind_of same in omega (arith, kinds))
bears_still weight (Gathers other) (Gathers gatherer) same bears =
    subst (IsPool weight) (sym (ap (pool_in other.pool) same)) bears

-- a worker's source that has ended has no part left
pub none_left : (before after : Source) → source_home after ≡ source_home before → IsWorkers before → (told : Bool) → has_ended after told ≡ true → NoneLeft after told
none_left before Counter same worker told ended = ended
none_left before (Takes taker) same worker told ended = ended
none_left Counter (Gathers gatherer) same worker told ended = absurd (let kinds : 1 ≡ 0 = ap kind_of same in omega (arith, kinds))
none_left (Takes taker) (Gathers gatherer) same worker told ended = absurd (let kinds : 1 ≡ 2 = ap kind_of same in omega (arith, kinds))
none_left (Gathers other) (Gathers gatherer) same worker told ended = absurd worker

-- a home of the counter is the counter's
pub is_counter : (source : Source) → source_home source ≡ OfCounter → source ≡ Counter
is_counter Counter same = refl
is_counter (Gathers gatherer) same = absurd (let kinds : 1 ≡ 0 = ap kind_of same in omega (arith, kinds))
is_counter (Takes taker) same = absurd (let kinds : 2 ≡ 0 = ap kind_of same in omega (arith, kinds))
