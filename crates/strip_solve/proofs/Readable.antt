-- A plan that was found can be said by a text.
use Rattle.std.proofs.Common.{◌≡◌, ◌≢◌, ◌<◌, ◌≤◌, ◌^◌, ℕ, List, [], ◌∷◌, length, get_or, All, Bool, subst, arith}
use Rattle.std.proofs.lemmas.List.{length-map}
use Rattle.strip_mask.proofs.Below.{is_set_below}
use Rattle.strip_model.specs.declared.kind.Kind.{Kind}
use Rattle.strip_model.specs.Film.{FilmData}
use Rattle.strip_model.specs.Order.{IsOrder}
use Rattle.strip_film.specs.declared.shared.Line.{Line}
use Rattle.strip_film.specs.Film.{IsFilm, LiesIn}
use Rattle.strip_film.proofs.Small.{finish_small}
use Rattle.strip_film.specs.Rules.{BeginLeast, BoundsFinish}
use Rattle.strip_lines.specs.Lines.{AreJustified}
use Rattle.strip_lines.proofs.Justified.{lines_are_true}
use Rattle.strip_model.specs.Data.{InstanceData, IsInstance}
use Rattle.strip_model.specs.FilmOf.{film_of}
use Rattle.strip_model.proofs.Small.{pay_small_of}
use Rattle.strip_reduce.specs.Reduction.{reduced}
use Rattle.strip_proof.specs.Plan.{PlanData}
use Rattle.strip_proof.specs.Text.{IsReadableLine, IsReadablePlan}
use Rattle.strip_check.specs.Accepted.{class_rules}
use Rattle.strip_solve.specs.Solved.{IsSolved, IsSolvedBy}
use Rattle.strip_solve.proofs.Chosen.{SolvedSomehow, solved_somehow}

-- each of justified lines has a set and a bound that a text can say
lines_readable : (kind : Kind) (film : FilmData) (lines : List Line) → IsFilm (reduced film).film → BoundsFinish (class_rules kind film)
    → BeginLeast (class_rules kind film) → AreJustified (class_rules kind film) lines → All IsReadableLine lines
lines_readable kind film lines is bounds begin are = λ place none within.
    let line : Line = get_or lines place none in
    let lies : LiesIn (reduced film).film line.set = (are place none within).0 in
    record {
      set = is_set_below (length (reduced film).film.casts) line.set is.scene_count.1 lies;
      bound = finish_small (reduced film).film line.set line.bound is lies (lines_are_true (class_rules kind film) lines is bounds begin are place none within);
    }

pub no_order : (n : ℕ) (order : List ℕ) → 0 < n → IsOrder n order → order ≢ []
no_order n [] some is same = let none : 0 ≡ 1 = is.once 0 some in omega (arith, none)
no_order n (scene ∷ order) some is same = cc

pub solved_readable : (inst : InstanceData) (kind : Kind) (most : ℕ) (plan : PlanData) → IsInstance inst → IsFilm (reduced (film_of inst)).film
    → BoundsFinish (class_rules kind (film_of inst)) → BeginLeast (class_rules kind (film_of inst)) → most ≤ 16777216
    → IsSolved kind (film_of inst) most plan → IsReadablePlan inst plan
solved_readable inst kind most plan is film bounds begin few solved =
    let casts : length (film_of inst).casts ≡ length inst.scenes = length-map inst.scenes (λ s. s.cast) in
    let order : IsOrder (length inst.scenes) plan.order = subst (λ n. IsOrder n plan.order) casts solved.order.is_order in
    let cost : plan.cost < 2 ^ 63 = omega (arith, solved.cost, pay_small_of inst plan.order is order) in
    record {
      scenes = order.known;
      some = no_order (length inst.scenes) plan.order is.scene_count.0 order;
      cost = cost;
      bound = omega (arith, cost, solved.cost, solved.bound plan.order solved.order);
      held = omega (arith, solved.few_lines, few);
      few = omega (arith, solved.few_lines, few, solved.proof.few_rows);
      lines = lines_readable kind (film_of inst) plan.lines film bounds begin solved.proof.justified;
    }

-- the same of a plan whose bounds were chosen or told
pub chosen_readable : (inst : InstanceData) (auto : Bool) (kind : Kind) (most : ℕ) (plan : PlanData) → IsInstance inst → IsFilm (reduced (film_of inst)).film
    → ((kind : Kind) → BoundsFinish (class_rules kind (film_of inst))) → ((kind : Kind) → BeginLeast (class_rules kind (film_of inst))) → most ≤ 16777216
    → IsSolvedBy auto kind (film_of inst) most plan → IsReadablePlan inst plan
chosen_readable inst auto kind most plan is film bounds begin few solved = by (solved_somehow auto kind (film_of inst) most plan solved)
  where
    by : SolvedSomehow (film_of inst) most plan → IsReadablePlan inst plan
    by (some, lines, fewer, is_solved) =
        solved_readable inst some lines plan is film (bounds some) (begin some) (omega (arith, few, fewer)) is_solved
