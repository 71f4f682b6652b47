-- The checks of a plan, in the order in which the reasons of a refusal are told.
use Rattle.std.specs.Prelude.{ℕ, ◌+◌, ◌==◌, ◌&&◌, ◌||◌, not, nat_le, nat_lt, max, Bool, false, List, [], ◌∷◌, ◌++◌, length, count_by, slice_index_or, Option, None, Some}
use Rattle.std.specs.List.{list_all, list_any}
use Rattle.strip_mask.specs.Set.{members, numbers_below}
use Rattle.strip_model.specs.declared.pair.Pair.{Pair}
use Rattle.strip_model.specs.Film.{FilmData}
use Rattle.strip_model.specs.Pay.{pay_of}
use Rattle.strip_film.specs.declared.shared.Line.{Line}
use Rattle.strip_film.specs.Film.{all_scenes}
use Rattle.strip_film.specs.Rules.{Rules}
use Rattle.strip_rule.specs.Rule.{is_part}
use Rattle.strip_lines.specs.Lines.{known, least_step, line_at, rules_of}
use Rattle.strip_reduce.specs.Reduction.{reduced}
use Rattle.strip_reduce.specs.State.{State}
use Rattle.strip_text.specs.Checks.{Check, below, check, checks_of_one, first_fault}
use Rattle.strip_proof.specs.declared.plan.Status.{Status}
use Rattle.strip_proof.specs.declared.plan.Status.TheVariants.{Bounded, Optimal}
use Rattle.strip_proof.specs.Plan.{PlanData}
use Rattle.strip_check.specs.declared.verdict.Reason.{Reason}
use Rattle.strip_check.specs.declared.verdict.Reason.TheVariants.{BadSet, BrokenPair, NotAnOrder, RootBound, StatusWrong, Unjustified, WrongCost}
use Rattle.strip_check.specs.declared.verdict.Verdict.{Verdict}
use Rattle.strip_check.specs.declared.verdict.Verdict.TheVariants.{Accepted, Refused}

abbrev pub Checks : Type 0
Checks = List (Check Reason)

-- ---- the order

-- each number below n stands once in the list, and no other number
abbrev pub is_order : ℕ → List ℕ → Bool
is_order n order =
    list_all (λ scene. nat_lt scene n) order
    && list_all (λ scene. count_by (λ x. x == scene) order == 1) (numbers_below n)

-- the first number stands in the list, and the second somewhere behind it
abbrev pub stands_before : ℕ → ℕ → List ℕ → Bool
stands_before first second [] = false
stands_before first second (x ∷ xs) = (x == first && list_any (λ y. y == second) xs) || stands_before first second xs

-- the place of a list that has no pair
abbrev pub no_pair : Pair
no_pair = record { first = 0; then = 0 }

abbrev pub pair_at : List Pair → ℕ → Pair
pair_at pairs place = slice_index_or pairs place no_pair

-- the order keeps the pair at a place of the list
abbrev pub pair_check : List Pair → List ℕ → ℕ → Checks
pair_check pairs order place =
    checks_of_one (stands_before (pair_at pairs place).first (pair_at pairs place).then order) (BrokenPair (place + 1))

-- the order pays the cost
abbrev pub cost_check : FilmData → PlanData → Checks
cost_check film plan = checks_of_one (plan.cost == pay_of film plan.order) (WrongCost (pay_of film plan.order))

-- the order has each scene once, keeps each pair, and pays the cost
abbrev pub order_checks : FilmData → PlanData → Checks
order_checks film plan =
    check (is_order (length film.casts) plan.order) NotAnOrder
    ∷ below (length film.pairs) (pair_check film.pairs plan.order)
    ++ cost_check film plan

-- ---- the lines

-- the same rules, by what the lines make known of a set in place of its static bound
abbrev pub by_lines : Rules → List Line → Rules
by_lines rules lines = record rules { bound = known rules lines }

-- the greatest bound that the lines justify for a set: its static bound or, if that is greater, the least over the
-- open firsts of a set that isn't empty of a step and what the lines make known of the rest
abbrev pub justified : Rules → List Line → ℕ → ℕ
justified rules lines set =
    max (rules.bound set) (least_step (by_lines rules lines) set (rules.bound set) (members (rules.firsts set)))

-- the line at a place has a set of the film's scenes
abbrev pub set_check : FilmData → List Line → ℕ → Checks
set_check film lines place = checks_of_one (is_part (line_at lines place).set (all_scenes film)) (BadSet (place + 1))

-- the line at a place has a bound that the lines justify
abbrev pub line_check : Rules → List Line → ℕ → Checks
line_check rules lines place =
    checks_of_one (nat_le (line_at lines place).bound (justified rules lines (line_at lines place).set))
    (Unjustified (place + 1) (justified rules lines (line_at lines place).set))

-- what the lines make known of all classes with what is set apart
abbrev pub root_bound : Rules → ℕ → List Line → ℕ
root_bound rules apart lines = apart + known rules lines (all_scenes rules.film)

-- whether it is the right status: the bound is the cost where it says optimal, and isn't where it says bounded
abbrev pub is_right : Status → ℕ → ℕ → Bool
is_right Optimal bound cost = bound == cost
is_right Bounded bound cost = not (bound == cost)

-- what is known of all classes, with what is set apart, reaches the plan's bound, and then the status holds
abbrev pub end_checks : Rules → ℕ → PlanData → Checks
end_checks rules apart plan =
    check (nat_le plan.bound (root_bound rules apart plan.lines)) (RootBound (root_bound rules apart plan.lines))
    ∷ check (is_right plan.status plan.bound plan.cost) StatusWrong
    ∷ []

-- each bound is justified, and then the plan's
abbrev pub bound_checks : Rules → ℕ → PlanData → Checks
bound_checks rules apart plan = below (length plan.lines) (line_check rules plan.lines) ++ end_checks rules apart plan

-- each set lies in the film of the classes, and then the bounds
abbrev pub proof_checks : State → PlanData → Checks
proof_checks state plan =
    below (length plan.lines) (set_check state.film plan.lines)
    ++ bound_checks (rules_of plan.kind state.film) state.apart plan

-- ---- the plan

-- what is checked of a plan: its order and cost, and then its proof by the classes of the film
abbrev pub plan_checks : FilmData → PlanData → Checks
plan_checks film plan = order_checks film plan ++ proof_checks (reduced film) plan

-- accepted where no check fails, else refused for the first one that fails
abbrev pub verdict_by : Option Reason → Verdict
verdict_by None = Accepted
verdict_by (Some reason) = Refused reason

-- the verdict on a plan
abbrev pub verdict_of : FilmData → PlanData → Verdict
verdict_of film plan = verdict_by (first_fault (plan_checks film plan))
