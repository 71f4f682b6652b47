-- Plans of two searches, by bounds that were chosen.
use Rattle.std.proofs.Common.{◌≡◌, ℕ, Option, None, Some, Vec, Global, Result, Ok, Err, IfOk, IsSome, min, inl, inr, true≢false, sym, subst, arith}
use Rattle.strip_film.specs.declared.shared.Line.{Line}
use Rattle.strip_model.specs.declared.kind.Kind.{Kind}
use Rattle.strip_model.specs.declared.kind.Kind.TheVariants.{Pairs, Arrivals}
use Rattle.strip_model.specs.Film.{FilmData}
use Rattle.strip_film.specs.Path.{PathData}
use Rattle.strip_proof.specs.declared.plan.Plan.{Plan}
use Rattle.strip_proof.specs.Plan.{plan_data}
use Rattle.strip_solve.specs.declared.plan.Searched.{Searched}
use Rattle.strip_solve.specs.Searched.{IsSearchedFrom, IsStatusOf}
use Rattle.strip_solve.specs.Solved.{IsChosen, IsSolved}
use Rattle.strip_top.specs.Closed.{GoesOnFrom}

module _ {E : Type 0} (film : FilmData) (most few : ℕ) (kind : Kind) where
  -- the plan of a first search whose lines are trimmed
  pub first_chosen : (trimmed : Option (Vec Line Global)) (r : Result Plan E) → kind ≡ Pairs → few ≡ min most 50000 → IsSome trimmed
      → IfOk r (λ plan. IsSolved kind film few (plan_data plan)) → IfOk r (λ plan. IsStatusOf trimmed plan.status)
      → IfOk r (λ plan. IsChosen film most (plan_data plan))
  first_chosen (Some lines) (Ok plan) pairs same some solved status =
      inl (subst (λ (k : Kind). IsSolved k film (min most 50000) (plan_data plan)) pairs (subst (λ (n : ℕ). IsSolved kind film n (plan_data plan)) same solved), status)
  first_chosen None (Ok plan) pairs same some solved status = absurd (true≢false (sym some))
  first_chosen trimmed (Err e) pairs same some solved status = tt

  -- the plan of a second search
  pub second_chosen : (r : Result Plan E) → kind ≡ Arrivals → few ≡ most → IfOk r (λ plan. IsSolved kind film few (plan_data plan))
      → IfOk r (λ plan. IsChosen film most (plan_data plan))
  second_chosen (Ok plan) arrivals lines solved =
      inr (subst (λ (k : Kind). IsSolved k film most (plan_data plan)) arrivals (subst (λ (n : ℕ). IsSolved kind film n (plan_data plan)) lines solved))
  second_chosen (Err e) arrivals lines solved = tt

-- a search that goes on from another one's best order is one from that one's start
pub goes_on : (kind other : Kind) (film : FilmData) (start : PathData) (most few own : ℕ) (first next : Searched) → IsSearchedFrom other film start few own first
    → GoesOnFrom kind film first.ended.cost most own next → IsSearchedFrom kind film start most own next
goes_on kind other film start most few own first next is goes = record {
  is_varied = record {
    complete = goes.complete;
    no_dearer = omega (arith, goes.no_dearer, is.ended.no_dearer, is.is_varied.no_dearer);
  };
  ended = goes.ended;
  trimmed = goes.trimmed;
}
