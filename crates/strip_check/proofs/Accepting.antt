-- No check of a plan fails exactly where it is an accepted one.
use Rattle.std.proofs.Common.{◌≡◌, ◌≢◌, ◌↔◌, ℕ, ◌+◌, ◌≤◌, eqb, leb, Bool, true, false, not, List, [], ◌++◌, length, Option, None, Some, inl, inr, refl, ap, subst, ◌∙◌, arith}
use Rattle.std.proofs.lemmas.Bool.{cases_lt, eq-eqb, eqb-true, le-leb, leb-true, ne_eqb}
use Rattle.std.proofs.lemmas.List.{get_or_default}
use Rattle.std.proofs.lemmas.List.Elements.{All-contains}
use Rattle.strip_mask.specs.Set.{has, members, minus, without}
use Rattle.strip_mask.proofs.Below.{lies_by_minus}
use Rattle.strip_mask.proofs.ByMembers.{empty_from, has-empty}
use Rattle.strip_mask.proofs.Members.{All-members, Contains-members}
use Rattle.strip_model.specs.declared.kind.Kind.{Kind}
use Rattle.strip_model.specs.Film.{FilmData}
use Rattle.strip_model.specs.Order.{IsKeptOrder, KeepsPair}
use Rattle.strip_model.specs.Pay.{pay_of}
use Rattle.strip_film.specs.declared.shared.Line.{Line}
use Rattle.strip_film.specs.Film.{IsFilm, LiesIn, all_scenes}
use Rattle.strip_film.specs.Rules.{BeginLeast, Rules}
use Rattle.strip_film.specs.Shoot.{step_cost}
use Rattle.strip_rule.specs.Rule.{is_part, open_firsts}
use Rattle.strip_rule.proofs.Firsts.{first_there, firsts_set}
use Rattle.strip_lines.specs.Lines.{AreJustified, IsJustified, known, line_at, no_line, rules_of}
use Rattle.strip_reduce.specs.Reduction.{reduced}
use Rattle.strip_reduce.specs.State.{State}
use Rattle.strip_text.specs.Checks.{Check, below, checks_of_one, first_fault}
use Rattle.strip_text.proofs.Making.{first_fault-append, passes, first-none}
use Rattle.strip_proof.specs.declared.plan.Status.{Status}
use Rattle.strip_proof.specs.declared.plan.Status.TheVariants.{Bounded, Optimal}
use Rattle.strip_proof.specs.Plan.{PlanData}
use Rattle.strip_check.specs.declared.verdict.Reason.{Reason}
use Rattle.strip_check.specs.declared.verdict.Reason.TheVariants.{BadSet, BrokenPair, NotAnOrder, RootBound, StatusWrong, Unjustified, WrongCost}
use Rattle.strip_check.specs.declared.verdict.Verdict.TheVariants.{Accepted}
use Rattle.strip_check.specs.Accepted.{IsAccepted, class_rules}
use Rattle.strip_check.specs.Reasons.{bound_checks, end_checks, is_order, is_right, justified, line_check, no_pair, order_checks, pair_at, pair_check, plan_checks, proof_checks, root_bound, set_check, stands_before, verdict_by}
use Rattle.strip_check.proofs.Known.{justified_alone, justified_by_steps, steps_by_justified}
use Rattle.strip_check.proofs.Places.{all_hold, each_holds, none_in}
use Rattle.strip_check.proofs.Tests.{before_decides, order_decides}

-- ---- a line is justified up to the greatest bound

-- the empty set has no firsts
no_firsts : (film : FilmData) (set : ℕ) → set ≡ 0 → open_firsts film set ≡ 0
no_firsts film set none = empty_from (open_firsts film set) (λ i. absent i (has (open_firsts film set) i) refl)
  where
    absent : (i : ℕ) (test : Bool) → has (open_firsts film set) i ≡ test → test ≡ false
    absent i true member = absurd (let there : has 0 i ≡ true = subst (λ (q : ℕ). has q i ≡ true) none (first_there film set i member) in
        let out : has 0 i ≡ false = has-empty i in
        cc)
    absent i false member = refl

module _ (kind : Kind) (film : FilmData) (lines : List Line) (line : Line) (is : IsFilm film) (lies : LiesIn film line.set) where
  abbrev rules : Rules
  rules = rules_of kind film

  some_firsts : BeginLeast rules → line.set ≢ 0 → open_firsts film line.set ≢ 0
  some_firsts begin some none =
      let first = begin line.set lies some in
      let there : has 0 first.0 ≡ true = subst (λ (q : ℕ). has q first.0 ≡ true) none first.1 in
      let out : has 0 first.0 ≡ false = has-empty first.0 in
      (cc)

  pub reached : BeginLeast rules → IsJustified rules lines line → line.bound ≤ justified rules lines line.set
  reached begin (inl static) = omega (arith, static)
  reached begin (inr (some, steps)) =
      justified_by_steps rules lines line.set line.bound (firsts_set film line.set is lies) (some_firsts begin some)
      (All-members (λ scene. line.bound ≤ step_cost film line.set scene + known rules lines (without line.set scene)) (open_firsts film line.set) steps)

  pub is_justified : line.bound ≤ justified rules lines line.set → IsJustified rules lines line
  is_justified le = elim (cases_lt (rules.bound line.set) line.bound) [
    | inl short ↦ inr (
      λ none. (let same = justified_alone rules lines line.set line.bound (no_firsts film line.set none) in omega (arith, short, le, same)),
      λ scene first. All-contains (λ s. line.bound ≤ step_cost film line.set s + known rules lines (without line.set s)) (members (open_firsts film line.set)) scene
          (steps_by_justified rules lines line.set line.bound short le)
          (Contains-members (open_firsts film line.set) scene (firsts_set film line.set is lies) first),
    )
    | inr static ↦ inl static
  ]

-- ---- the status

pub status_holds : (status : Status) (bound cost : ℕ) → is_right status bound cost ≡ true → (status ≡ Optimal) ↔ (bound ≡ cost)
status_holds Optimal bound cost test = (λ _. eqb-true bound cost test, λ _. refl)
status_holds Bounded bound cost test = (
  λ same. (cc),
  λ same. absurd (let equal : eqb bound cost ≡ true = eq-eqb bound cost same in
      let other : not (eqb bound cost) ≡ true = test in
      let turned : not true ≡ true = subst (λ (b : Bool). not b ≡ true) equal other in
      cc),
)

pub status_test : (status : Status) (bound cost : ℕ) → (status ≡ Optimal) ↔ (bound ≡ cost) → is_right status bound cost ≡ true
status_test Optimal bound cost tells = eq-eqb bound cost (tells.0 refl)
status_test Bounded bound cost tells = ap not (ne_eqb bound cost (λ same. (let optimal : Bounded ≡ Optimal = tells.1 same in cc)))

-- ---- what the checks say

module _ (film : FilmData) (plan : PlanData) where
  abbrev test_pair : ℕ → Bool
  test_pair place = stands_before (pair_at film.pairs place).first (pair_at film.pairs place).then plan.order

  abbrev rest_of_order : List (Check Reason)
  rest_of_order = checks_of_one (eqb plan.cost (pay_of film plan.order)) (WrongCost (pay_of film plan.order))

  -- the order keeps the pairs and pays the cost
  pub order_accepted : first_fault (order_checks film plan) ≡ None → IsKeptOrder film plan.order × (plan.cost ≡ pay_of film plan.order)
  order_accepted none =
      let order = first-none (is_order (length film.casts) plan.order) NotAnOrder (first_fault (below (length film.pairs) (pair_check film.pairs plan.order) ++ rest_of_order)) none in
      let parts = none_in (below (length film.pairs) (pair_check film.pairs plan.order)) rest_of_order order.1 in
      let cost = first-none (eqb plan.cost (pay_of film plan.order)) (WrongCost (pay_of film plan.order)) None parts.1 in (
        record {
          is_order = (order_decides (length film.casts) plan.order).0 order.0;
          keeps = λ place default within. subst (KeepsPair plan.order) (get_or_default film.pairs place no_pair default within)
              ((before_decides (pair_at film.pairs place).first (pair_at film.pairs place).then plan.order).0
              (each_holds test_pair (λ k. BrokenPair (k + 1)) (length film.pairs) parts.0 place within));
        },
        eqb-true plan.cost (pay_of film plan.order) cost.0,
      )

  pub accepted_order : IsKeptOrder film plan.order → plan.cost ≡ pay_of film plan.order → first_fault (order_checks film plan) ≡ None
  accepted_order is pays =
      passes (is_order (length film.casts) plan.order) NotAnOrder (below (length film.pairs) (pair_check film.pairs plan.order) ++ rest_of_order) None
      ((order_decides (length film.casts) plan.order).1 is.is_order)
      (first_fault-append (below (length film.pairs) (pair_check film.pairs plan.order)) rest_of_order
      (all_hold test_pair (λ k. BrokenPair (k + 1)) (length film.pairs)
      (λ place within. (before_decides (pair_at film.pairs place).first (pair_at film.pairs place).then plan.order).1 (is.keeps place no_pair within)))
      ∙ passes (eqb plan.cost (pay_of film plan.order)) (WrongCost (pay_of film plan.order)) [] None (eq-eqb plan.cost (pay_of film plan.order) pays) refl)

-- the lines and what behind them is checked, where these are the classes and what is set apart
module _ (film : FilmData) (apart : ℕ) (plan : PlanData) (is : IsFilm film) where
  abbrev the_rules : Rules
  the_rules = rules_of plan.kind film

  abbrev test_set : ℕ → Bool
  test_set place = is_part (line_at plan.lines place).set (all_scenes film)

  abbrev test_line : ℕ → Bool
  test_line place = leb (line_at plan.lines place).bound (justified the_rules plan.lines (line_at plan.lines place).set)

  abbrev bad_line : ℕ → Reason
  bad_line place = Unjustified (place + 1) (justified the_rules plan.lines (line_at plan.lines place).set)

  lies_at : (place : ℕ) → test_set place ≡ true → LiesIn film (line_at plan.lines place).set
  lies_at place test = (lies_by_minus (length film.casts) (line_at plan.lines place).set).0 (eqb-true (minus (line_at plan.lines place).set (all_scenes film)) 0 test)

  pub record HoldBehind : Type 0 where
    pub justified : AreJustified the_rules plan.lines
    pub reaches : plan.bound ≤ root_bound the_rules apart plan.lines
    pub status : (plan.status ≡ Optimal) ↔ (plan.bound ≡ plan.cost)

  abbrev state_of : List (List ℕ) → State
  state_of members = record { film = film; members = members; apart = apart }

  pub behind_accepted : (members : List (List ℕ)) → first_fault (proof_checks (state_of members) plan) ≡ None → HoldBehind
  behind_accepted members none =
      let sets = none_in (below (length plan.lines) (set_check film plan.lines)) (bound_checks the_rules apart plan) none in
      let lines = none_in (below (length plan.lines) (line_check the_rules plan.lines)) (end_checks the_rules apart plan) sets.1 in
      let root = first-none (leb plan.bound (root_bound the_rules apart plan.lines)) (RootBound (root_bound the_rules apart plan.lines))
      (first_fault (checks_of_one (is_right plan.status plan.bound plan.cost) StatusWrong)) lines.1 in
      let status = first-none (is_right plan.status plan.bound plan.cost) StatusWrong None root.1 in
      record {
        justified = λ place default within.
            (let lies = lies_at place (each_holds test_set (λ k. BadSet (k + 1)) (length plan.lines) sets.0 place within) in
            subst (λ (line : Line). LiesIn film line.set × IsJustified the_rules plan.lines line) (get_or_default plan.lines place no_line default within) (
              lies,
              is_justified plan.kind film plan.lines (line_at plan.lines place) is lies
                  (leb-true (line_at plan.lines place).bound (justified the_rules plan.lines (line_at plan.lines place).set)
                  (each_holds test_line bad_line (length plan.lines) lines.0 place within)),
            ));
        reaches = leb-true plan.bound (root_bound the_rules apart plan.lines) root.0;
        status = status_holds plan.status plan.bound plan.cost status.0;
      }

  pub accepted_behind : (members : List (List ℕ)) → BeginLeast the_rules → HoldBehind → first_fault (proof_checks (state_of members) plan) ≡ None
  accepted_behind members begin holds =
      first_fault-append (below (length plan.lines) (set_check film plan.lines)) (bound_checks the_rules apart plan)
      (all_hold test_set (λ k. BadSet (k + 1)) (length plan.lines)
      (λ place within. eq-eqb (minus (line_at plan.lines place).set (all_scenes film)) 0
      ((lies_by_minus (length film.casts) (line_at plan.lines place).set).1 (holds.justified place no_line within).0)))
      ∙ first_fault-append (below (length plan.lines) (line_check the_rules plan.lines)) (end_checks the_rules apart plan)
      (all_hold test_line bad_line (length plan.lines)
      (λ place within. le-leb (line_at plan.lines place).bound (justified the_rules plan.lines (line_at plan.lines place).set)
      (reached plan.kind film plan.lines (line_at plan.lines place) is (holds.justified place no_line within).0 begin (holds.justified place no_line within).1)))
      ∙ passes (leb plan.bound (root_bound the_rules apart plan.lines)) (RootBound (root_bound the_rules apart plan.lines))
      (checks_of_one (is_right plan.status plan.bound plan.cost) StatusWrong) None (le-leb plan.bound (root_bound the_rules apart plan.lines) holds.reaches)
      (passes (is_right plan.status plan.bound plan.cost) StatusWrong [] None (status_test plan.status plan.bound plan.cost holds.status) refl)

-- ---- the plan

pub accepted_exactly : (film : FilmData) (plan : PlanData) → IsFilm (reduced film).film → BeginLeast (class_rules plan.kind film)
    → (first_fault (plan_checks film plan) ≡ None) ↔ IsAccepted film plan
accepted_exactly film plan is begin = (
  λ none. (let parts = none_in (order_checks film plan) (proof_checks (reduced film) plan) none in
      let order = order_accepted film plan parts.0 in
      let behind = behind_accepted (reduced film).film (reduced film).apart plan is (reduced film).members parts.1 in
      record {
        order = order.0;
        cost = order.1;
        justified = behind.justified;
        reaches = behind.reaches;
        status = behind.status;
      }),
  λ accepted. first_fault-append (order_checks film plan) (proof_checks (reduced film) plan) (accepted_order film plan accepted.order accepted.cost)
      ∙ accepted_behind (reduced film).film (reduced film).apart plan is (reduced film).members begin
      (record { justified = accepted.justified; reaches = accepted.reaches; status = accepted.status }),
)

-- a plan is accepted where there is no reason against it
pub accepts : (found : Option Reason) → (verdict_by found ≡ Accepted) ↔ (found ≡ None)
accepts None = (λ same. refl, λ same. refl)
accepts (Some reason) = (λ same. (cc), λ same. (cc))
