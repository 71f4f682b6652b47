-- Where nobody is still to come, the value is the extra of the group: what is charged as the group leaves in an order is what its actors
-- are paid in that order.
use Rattle.std.proofs.Common.{◌≡◌, ℕ, ◌+◌, ◌*◌, Bool, true, false, not, ◌&&◌, cond, List, [], ◌∷◌, filter, map, slice_index, refl, sym, ap, ◌∙◌, arith}
use Rattle.std.proofs.lemmas.Bool.{and_right, false_from_ne_true}
use Rattle.strip_mask.specs.Set.{IsSet, has, meet, minus, numbers_below, sum_over, union, with}
use Rattle.strip_mask.specs.Sums.{sum_below}
use Rattle.strip_mask.proofs.ByMembers.{below_64, empty_from, has-empty, has-minus, has-union, has-with_same, has-with_other, has_from_meet, has_from_minus, IsSet-minus, same_has, empty_has}
use Rattle.strip_mask.proofs.Sums.{sum_below-add, sum_below-ext, sum_below-none, sum_below-point, sum_below-scale, sum_below-swap}
use Rattle.strip_mask.proofs.Totals.{sum_over-empty, sum_over_is}
use Rattle.strip_group.specs.Group.{GroupData, group_extra, is_waited, leaving_pay, waited_days}
use Rattle.strip_group.proofs.Least.{extra_is_least}
use Rattle.strip_arrivals.specs.Arrivals.{actors_of, arrivals_value, can_have_come, charge, is_open, is_without, leaves, mates, paid_where, price, total}
use Rattle.strip_mask.proofs.Lists.{contains_none}
use Rattle.strip_mask.proofs.Members.{contains_number}
use Rattle.strip_mask.proofs.Least.{least_over_le}
use Rattle.strip_arrivals.proofs.Lists.{contains_filter, sum_passing}
use Rattle.strip_arrivals.proofs.Casts.{is_none, mates_has, without_one}
use Rattle.strip_arrivals.proofs.Orders.{Leave, after_leaving, leaves_order, order_leaves, order_of, run_of}
use Rattle.strip_arrivals.proofs.Runs as Runs
use Rattle.std.proofs.Math.Bool.{or-false}

cond_sum : (b : Bool) (n : ℕ) (f : ℕ → ℕ) → cond {A = ℕ} b (sum_below n f) 0 ≡ sum_below n (λ i. cond {A = ℕ} b (f i) 0)
cond_sum true n f = refl
cond_sum false n f = sym (sum_below-none n (λ _. 0) (λ i _. refl))

union-none : (a : ℕ) → union a 0 ≡ a
union-none a = same_has (union a 0) a (λ i. has-union a 0 i ∙ rw (has-empty i) (or-false (has a i)))

-- a term of the charge, by scene and by actor
same_term : (member closed stays works : Bool) (days hold : ℕ) → cond {A = ℕ} (member && closed) (days * cond {A = ℕ} (stays && not works) hold 0) 0
    ≡ cond {A = ℕ} stays (hold * cond {A = ℕ} (member && (closed && not works)) days 0) 0
same_term false closed true works days hold = omega arith
same_term false closed false works days hold = refl
same_term true false true works days hold = omega arith
same_term true false false works days hold = refl
same_term true true true true days hold = omega arith
same_term true true true false days hold = grind arith
same_term true true false works days hold = omega arith

-- a scene for which one waits once another has left: he waited for it before, or the other closed it
one_more : (member none first works : Bool) (days : ℕ) → cond {A = ℕ} (member && (not (none && not first) && not works)) days 0
    ≡ cond {A = ℕ} (member && (not none && not works)) days 0 + cond {A = ℕ} (member && ((none && first) && not works)) days 0
one_more false none first works days = omega arith
one_more true true true true days = omega arith
one_more true true true false days = omega arith
one_more true true false true days = omega arith
one_more true true false false days = omega arith
one_more true false first true days = omega arith
one_more true false first false days = omega arith

split_term : (b : Bool) (hold x y : ℕ) → cond {A = ℕ} b (hold * (x + y)) 0 ≡ cond {A = ℕ} b (hold * x) 0 + cond {A = ℕ} b (hold * y) 0
split_term true hold x y = grind arith
split_term false hold x y = omega arith

-- nobody waits for a scene in which he works
never : (member open_yet works : Bool) (days : ℕ) → cond {A = ℕ} (member && ((open_yet && works) && not works)) days 0 ≡ 0
never false open_yet works days = refl
never true false works days = refl
never true true true days = refl
never true true false days = refl

module _ (film : GroupData) (set group : ℕ) where
  -- those of the group who have still to leave
  abbrev stays : ℕ → ℕ → Bool
  stays left actor = has group actor && not (has left actor)

  -- the days of the open scenes in which one works and another doesn't
  abbrev closes : ℕ → ℕ → ℕ → Bool
  closes left one scene = is_open film (after_leaving left) scene && has (slice_index film.casts scene) one

  abbrev new_days : ℕ → ℕ → ℕ → ℕ
  new_days left one actor = sum_below 64 (λ scene. cond {A = ℕ} (has set scene && (closes left one scene && not (has (slice_index film.casts scene) actor)))
      (slice_index film.days scene) 0)

  -- with nobody else the price is that of those who have still to leave
  price_alone : (left scene : ℕ) → price film set group (after_leaving left) scene
      ≡ sum_over film.holds (minus (minus group left) (slice_index film.casts scene))
  price_alone left scene =
      let nobody_came : minus (actors_of []) (slice_index film.casts scene) ≡ 0
      = empty_from (minus 0 (slice_index film.casts scene)) (λ i. false_from_ne_true (has (minus 0 (slice_index film.casts scene)) i) (λ there.
      empty_has i (has_from_minus 0 (slice_index film.casts scene) i there).0)) in
      let nobody_later : meet left (mates film set (actors_of [])) ≡ 0
      = empty_from (meet left (mates film set (actors_of []))) (λ i. false_from_ne_true (has (meet left (mates film set (actors_of []))) i) (λ there.
      let found = (mates_has film set [] i (has_from_meet left (mates film set (actors_of [])) i there).1).3 in contains_none found.0 found.1)) in
      let none : paid_where film set (after_leaving left) scene 0 ≡ 0
      = ap (λ (s : ℕ). sum_over film.holds s + sum_over film.holds (meet left (mates film set (actors_of [])))) nobody_came
      ∙ ap (λ (s : ℕ). sum_over film.holds 0 + sum_over film.holds s) nobody_later
      ∙ ap (λ (n : ℕ). n + n) (sum_over-empty film.holds) in
      let possible : can_have_come film (after_leaving left) scene 0 ≡ true = is_none film 0 scene (λ i works there. empty_has i there) in
      let fewest = least_over_le (paid_where film set (after_leaving left) scene) (filter (can_have_come film (after_leaving left) scene) (numbers_below 1)) 0
      (contains_filter (can_have_come film (after_leaving left) scene) (numbers_below 1) 0 (contains_number 1 0 (omega arith)) possible) in
      omega (arith, none, fewest)

  -- what is charged when one leaves, as what the others have to wait more
  by_actors : (left one : ℕ) → charge film set group (after_leaving left) (leaves one)
      ≡ sum_below 64 (λ actor. cond {A = ℕ} (stays left actor) (slice_index film.holds actor * new_days left one actor) 0)
  by_actors left one =
      let cast : ℕ → ℕ = slice_index film.casts in
      let waits : ℕ → ℕ → Bool = λ scene actor. has (minus (minus group left) (cast scene)) actor in
      let row : (scene : ℕ) → cond {A = ℕ} (has set scene && closes left one scene) (slice_index film.days scene * price film set group (after_leaving left) scene) 0
      ≡ sum_below 64 (λ actor. cond {A = ℕ} (has set scene && closes left one scene) (slice_index film.days scene * cond {A = ℕ} (waits scene actor)
      (slice_index film.holds actor) 0) 0)
      = λ scene. ap (λ (n : ℕ). cond {A = ℕ} (has set scene && closes left one scene) (slice_index film.days scene * n) 0)
      (price_alone left scene ∙ sum_over_is film.holds (minus (minus group left) (cast scene)))
      ∙ ap (λ (n : ℕ). cond {A = ℕ} (has set scene && closes left one scene) n 0)
      (sym (sum_below-scale 64 (slice_index film.days scene) (λ actor. cond {A = ℕ} (waits scene actor) (slice_index film.holds actor) 0)))
      ∙ cond_sum (has set scene && closes left one scene) 64 (λ actor. slice_index film.days scene * cond {A = ℕ} (waits scene actor) (slice_index film.holds actor) 0) in
      let column : (actor : ℕ) → sum_below 64 (λ scene. cond {A = ℕ} (has set scene && closes left one scene) (slice_index film.days scene * cond {A = ℕ} (waits scene actor)
      (slice_index film.holds actor) 0) 0)
      ≡ cond {A = ℕ} (stays left actor) (slice_index film.holds actor * new_days left one actor) 0
      = λ actor. sum_below-ext 64 (λ scene. cond {A = ℕ} (has set scene && closes left one scene) (slice_index film.days scene * cond {A = ℕ} (waits scene actor)
      (slice_index film.holds actor) 0) 0)
      (λ scene. cond {A = ℕ} (stays left actor) (slice_index film.holds actor * cond {A = ℕ} (has set scene && (closes left one scene && not (has (cast scene) actor)))
      (slice_index film.days scene) 0) 0)
      (λ scene _. ap (λ b. cond {A = ℕ} (has set scene && closes left one scene) (slice_index film.days scene * cond {A = ℕ} b (slice_index film.holds actor) 0) 0)
      (has-minus (minus group left) (cast scene) actor ∙ ap (λ b. b && not (has (cast scene) actor)) (has-minus group left actor))
      ∙ same_term (has set scene) (closes left one scene) (stays left actor) (has (cast scene) actor) (slice_index film.days scene) (slice_index film.holds actor))
      ∙ sym (ap (λ (n : ℕ). cond {A = ℕ} (stays left actor) n 0) (sym (sum_below-scale 64 (slice_index film.holds actor) (λ scene. cond {A = ℕ} (has set scene && (closes left one
      scene && not (has (cast scene) actor))) (slice_index film.days scene) 0)))
      ∙ cond_sum (stays left actor) 64 (λ scene. slice_index film.holds actor * cond {A = ℕ} (has set scene && (closes left one scene && not (has (cast scene) actor)))
      (slice_index film.days scene) 0)) in
      sum_passing (λ scene. slice_index film.days scene * price film set group (after_leaving left) scene) (closes left one) set
      ∙ sum_below-ext 64 (λ scene. cond {A = ℕ} (has set scene && closes left one scene) (slice_index film.days scene * price film set group (after_leaving left) scene) 0)
      (λ scene. sum_below 64 (λ actor. cond {A = ℕ} (has set scene && closes left one scene) (slice_index film.days scene * cond {A = ℕ} (waits scene actor)
      (slice_index film.holds actor) 0) 0)) (λ scene _. row scene)
      ∙ sum_below-swap 64 64 (λ scene actor. cond {A = ℕ} (has set scene && closes left one scene) (slice_index film.days scene * cond {A = ℕ} (waits scene actor)
      (slice_index film.holds actor) 0) 0)
      ∙ sum_below-ext 64 (λ actor. sum_below 64 (λ scene. cond {A = ℕ} (has set scene && closes left one scene) (slice_index film.days scene * cond {A = ℕ} (waits scene actor)
      (slice_index film.holds actor) 0) 0)) (λ actor. cond {A = ℕ} (stays left actor) (slice_index film.holds actor * new_days left one actor) 0) (λ actor _. column actor)

  -- and the days that an actor waits, before and after one left
  days_more : (left one actor : ℕ) → waited_days film set (with left one) actor ≡ waited_days film set left actor + new_days left one actor
  days_more left one actor =
      let days : ℕ → ℕ = slice_index film.days in
      let cast : ℕ → ℕ = slice_index film.casts in
      let before : ℕ → ℕ = λ scene. cond {A = ℕ} (has set scene && is_waited film left actor scene) (days scene) 0 in
      let new : ℕ → ℕ = λ scene. cond {A = ℕ} (has set scene && (closes left one scene && not (has (cast scene) actor))) (days scene) 0 in
      let same : (scene : ℕ) → cond {A = ℕ} (has set scene && is_waited film (with left one) actor scene) (days scene) 0 ≡ before scene + new scene
      = λ scene. ap (λ b. cond {A = ℕ} (has set scene && (not b && not (has (cast scene) actor))) (days scene) 0) (without_one film left one scene)
      ∙ one_more (has set scene) (is_without film left scene) (has (cast scene) one) (has (cast scene) actor) (days scene)
      ∙ ap (λ (s : ℕ). before scene + cond {A = ℕ} (has set scene && ((is_without film s scene && has (cast scene) one) && not (has (cast scene) actor))) (days scene) 0)
      (sym (union-none left)) in
      sum_passing days (is_waited film (with left one) actor) set
      ∙ sum_below-ext 64 (λ scene. cond {A = ℕ} (has set scene && is_waited film (with left one) actor scene) (days scene) 0) (λ scene. before scene + new scene)
      (λ scene _. same scene)
      ∙ sum_below-add 64 before new
      ∙ ap (λ (n : ℕ). n + new_days left one actor) (sym (sum_passing days (is_waited film left actor) set))

  -- what those who have still to leave have waited for so far
  abbrev debt : ℕ → ℕ
  debt left = sum_below 64 (λ actor. cond {A = ℕ} (stays left actor) (slice_index film.holds actor * waited_days film set left actor) 0)

  debt_step : (left one : ℕ) → IsSet group → has (minus group left) one ≡ true
      → debt (with left one) + slice_index film.holds one * waited_days film set left one ≡ debt left + charge film set group (after_leaving left) (leaves one)
  debt_step left one small there =
      let first : ℕ → ℕ = λ actor. cond {A = ℕ} (stays left actor) (slice_index film.holds actor * waited_days film set left actor) 0 in
      let second : ℕ → ℕ = λ actor. cond {A = ℕ} (stays left actor) (slice_index film.holds actor * new_days left one actor) 0 in
      let after_one : ℕ → ℕ = λ actor. cond {A = ℕ} (stays (with left one) actor) (slice_index film.holds actor * waited_days film set (with left one) actor) 0 in
      let apart : sum_below 64 after_one + (first one + second one) ≡ sum_below 64 (λ actor. first actor + second actor) + after_one one
      = sum_below-point 64 one after_one (λ actor. first actor + second actor) (below_64 (minus group left) one (IsSet-minus group left small) there) (λ actor _ differs.
      ap (λ b. cond {A = ℕ} (has group actor && not b) (slice_index film.holds actor * waited_days film set (with left one) actor) 0) (has-with_other left one actor differs)
      ∙ ap (λ (n : ℕ). cond {A = ℕ} (stays left actor) (slice_index film.holds actor * n) 0) (days_more left one actor)
      ∙ split_term (stays left actor) (slice_index film.holds actor) (waited_days film set left actor) (new_days left one actor)) in
      let here : first one ≡ slice_index film.holds one * waited_days film set left one
      = ap (λ b. cond {A = ℕ} b (slice_index film.holds one * waited_days film set left one) 0) (sym (has-minus group left one) ∙ there) in
      let no_days : new_days left one one ≡ 0
      = sum_below-none 64 (λ scene. cond {A = ℕ} (has set scene && (closes left one scene && not (has (slice_index film.casts scene) one))) (slice_index film.days scene) 0)
      (λ scene _. never (has set scene) (is_open film (after_leaving left) scene) (has (slice_index film.casts scene) one) (slice_index film.days scene)) in
      let nothing_new : second one ≡ 0
      = ap (λ b. cond {A = ℕ} b (slice_index film.holds one * new_days left one one) 0) (sym (has-minus group left one) ∙ there)
      ∙ ap (λ (n : ℕ). slice_index film.holds one * n) no_days ∙ omega arith in
      let gone : after_one one ≡ 0
      = ap (λ b. cond {A = ℕ} b (slice_index film.holds one * waited_days film set (with left one) one) 0)
      (and_right (has group one) (not (has (with left one) one)) (ap not (has-with_same left one))) in
      omega (arith, apart, here, nothing_new, gone, by_actors left one, sum_below-add 64 first second)

  pay_is : (left : ℕ) (order : List ℕ) → IsSet group → Leave group left order
      → leaving_pay film set left order ≡ total film set group (after_leaving left) (map leaves order) + debt left
  pay_is left [] small none =
      let nothing : debt left ≡ 0
      = sum_below-none 64 (λ actor. cond {A = ℕ} (stays left actor) (slice_index film.holds actor * waited_days film set left actor) 0) (λ actor _.
      ap (λ b. cond {A = ℕ} b (slice_index film.holds actor * waited_days film set left actor) 0)
      (sym (has-minus group left actor) ∙ ap (λ (s : ℕ). has s actor) none ∙ has-empty actor)) in
      omega (arith, nothing)
  pay_is left (one ∷ later) small (there, rest) = omega (arith, pay_is (with left one) later small rest, debt_step left one small there)

  no_debt : debt 0 ≡ 0
  no_debt =
      let none_gone : (actor : ℕ) → waited_days film set 0 actor ≡ 0
      = λ actor. sum_passing (slice_index film.days) (is_waited film 0 actor) set
      ∙ sum_below-none 64 (λ scene. cond {A = ℕ} (has set scene && is_waited film 0 actor scene) (slice_index film.days scene) 0) (λ scene _.
      ap (λ b. cond {A = ℕ} (has set scene && (not b && not (has (slice_index film.casts scene) actor))) (slice_index film.days scene) 0)
      (is_none film 0 scene (λ i works there. empty_has i there))
      ∙ ap (λ b. cond {A = ℕ} b (slice_index film.days scene) 0) (and_right (has set scene) false refl)) in
      sum_below-none 64 (λ actor. cond {A = ℕ} (stays 0 actor) (slice_index film.holds actor * waited_days film set 0 actor) 0) (λ actor _.
      ap (λ (n : ℕ). cond {A = ℕ} (stays 0 actor) (slice_index film.holds actor * n) 0) (none_gone actor)
      ∙ no_rate (stays 0 actor) (slice_index film.holds actor))
    where
      no_rate : (b : Bool) (hold : ℕ) → cond {A = ℕ} b (hold * 0) 0 ≡ 0
      no_rate true hold = omega arith
      no_rate false hold = refl

  pub alone : IsSet group → arrivals_value film set group 0 ≡ group_extra film set group
  alone small =
      let run = Runs.value_is_least film set group small 0 (omega arith) in
      let order = extra_is_least film set group small in
      let leave = order_leaves group order.attained.0 order.attained.1 in
      let no_more = run.least (map leaves order.attained.0) (run_of film set group small 0 order.attained.0 leave) in
      let by_order = order_of film set group small 0 run.attained.0 run.attained.1 in
      let no_less = order.least by_order.0 (leaves_order group by_order.0 by_order.2) in
      omega (
        arith,
        no_debt,
        no_more,
        no_less,
        order.attained.2,
        run.attained.2,
        pay_is 0 order.attained.0 small leave,
        pay_is 0 by_order.0 small by_order.2,
        ap (total film set group (after_leaving 0)) by_order.1,
      )
