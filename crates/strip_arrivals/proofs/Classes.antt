-- What is charged when someone leaves or goes, class by class of scenes: those in which of the newcomers just the same work.
use Rattle.std.proofs.Common.{◌≡◌, ◌≢◌, ℕ, zero, suc, ◌+◌, ◌*◌, ◌-◌, ◌^◌, ◌<◌, ◌≤◌, ◌==◌, ◌⊎◌, Bool, true, false, not, ◌&&◌, cond, eqb, List, [], ◌∷◌, Contains, slice_index, refl, sym, ap, ◌∙◌, subst, inl, inr, arith}
use Rattle.std.proofs.Math.Pow.{pow_mono}
use Rattle.std.proofs.lemmas.Bool.{eq-eqb, eqb-true, false≢true, false_from_ne_true, and_from, cases_Bool}
use Rattle.strip_mask.specs.Set.{IsSet, has, meet, minus, size, sum_over, with, without}
use Rattle.strip_mask.specs.Sums.{sum_below}
use Rattle.strip_mask.proofs.ByMembers.{below_width, empty_from, has-empty, has-meet, has-minus, has-with_same, has_from_meet, has_from_minus, same_has, IsSet-minus, empty_has}
use Rattle.strip_mask.proofs.Members.{Contains-members}
use Rattle.strip_mask.proofs.Sums.{sum_below-ext, sum_below-none}
use Rattle.strip_mask.proofs.Totals.{sum_over_mono}
use Rattle.strip_sets.specs.Saving.{owes}
use Rattle.strip_group.specs.Group.{GroupData}
use Rattle.strip_group.specs.Places.{actor_at, pick}
use Rattle.strip_arrivals.specs.Arrivals.{StateData, actors_of, allowed, goes, is_allowed, is_open, is_without, leaves}
use Rattle.strip_arrivals.specs.Company.{AreCounted, ArePrices, IsCompany, IsStage, just, open_with, staying}
use Rattle.strip_arrivals.specs.Gross.{gross_charge}
use Rattle.strip_sets.proofs.Sets.{without_most}
use Rattle.strip_group.proofs.Places.{has_pick}
use Rattle.strip_arrivals.proofs.Lowered.{AreLeaving}
use Rattle.strip_arrivals.proofs.Casts.{is_none}
use Rattle.strip_arrivals.proofs.Along.{can_leave}
use Rattle.strip_arrivals.proofs.Runs.{all_fine, may}
use Rattle.strip_arrivals.proofs.Prices.{still_picked}
use Rattle.strip_arrivals.proofs.Chosen.{days_most, from_scenes, has_where, scenes_small, sum_four, sum_one, sum_two}
use Rattle.strip_arrivals.proofs.Among.{IsAmong, agrees, alike_in, alike_two, among_both, among_none, among_with, either_once, either_one, first_listed, first_of_two, for_two, lacks, one_of_two, second_listed}
use Rattle.strip_arrivals.proofs.Closing.{among_closed, charge_by, class_has, closed, closing, in_closed, left_at, of_here, open_class, open_fewer, parted}

-- ---- the sets of those who are here

-- each set of these newcomers, once
pub record AreKinds (here : List ℕ) (count : ℕ) (kinds : ℕ → ℕ) : Type 0 where
  pub few : count ≤ 4
  pub within : (kind actor : ℕ) → kind < count → has (kinds kind) actor ≡ true → has (actors_of here) actor ≡ true
  pub each : (these : ℕ) → ((actor : ℕ) → has these actor ≡ true → has (actors_of here) actor ≡ true)
      → sum_below count (λ kind. cond {A = ℕ} (kinds kind == these) 1 0) ≡ 1

-- the sets of none, one and two
pub kinds_none : AreKinds [] 1 (slice_index (0 ∷ []))
kinds_none = record {
  few = omega arith;
  within = λ kind actor below there. absurd (empty_has actor (first kind actor below there));
  each = λ these among. sum_one (λ kind. cond {A = ℕ} (eqb (slice_index (0 ∷ []) kind) these) 1 0)
      ∙ ap (λ b. cond {A = ℕ} b 1 0) (alike_in [] 0 these (among_none []) among);
}
  where
    first : (kind actor : ℕ) → kind < 1 → has (slice_index (0 ∷ []) kind) actor ≡ true → has 0 actor ≡ true
    first zero actor below there = there
    first (suc kind) actor below there = absurd (omega (arith, below))

pub kinds_one : (one : ℕ) → AreKinds (one ∷ []) 2 (slice_index (0 ∷ with 0 one ∷ []))
kinds_one one = record {
  few = omega arith;
  within = among_one;
  each = λ these among.
      sum_two (λ kind. cond {A = ℕ} (eqb (slice_index (0 ∷ with 0 one ∷ []) kind) these) 1 0)
      ∙ (λ i. cond {A = ℕ} (alike_in (one ∷ []) 0 these (among_none (one ∷ [])) among i) 1 0
      + cond {A = ℕ} (alike_in (one ∷ []) (with 0 one) these (λ actor. among_one 1 actor less) among i) 1 0)
      ∙ (λ i. cond {A = ℕ} (agrees (has-empty one i) (has these one) && true) 1 0 + cond {A = ℕ} (agrees (has-with_same 0 one i) (has these one) && true) 1 0)
      ∙ either (has these one);
}
  where
    less : 1 < 2
    less = omega arith

    among_one : (kind actor : ℕ) → kind < 2 → has (slice_index (0 ∷ with 0 one ∷ []) kind) actor ≡ true → has (actors_of (one ∷ [])) actor ≡ true
    among_one zero actor below there = absurd (empty_has actor there)
    among_one (suc zero) actor below there = there
    among_one (suc (suc kind)) actor below there = absurd (omega (arith, below))

    either : (b : Bool) → cond {A = ℕ} (not b && true) 1 0 + cond {A = ℕ} (b && true) 1 0 ≡ 1
    either true = refl
    either false = refl

pub kinds_two : (one other : ℕ) → one ≢ other → AreKinds (one ∷ other ∷ []) 4 (slice_index (0 ∷ with 0 one ∷ with 0 other ∷ with (with 0 one) other ∷ []))
kinds_two one other apart = record {
  few = omega arith;
  within = among_two;
  each = λ these among.
      let lists : ℕ → ℕ = slice_index (0 ∷ with 0 one ∷ with 0 other ∷ with (with 0 one) other ∷ []) in
      let here : List ℕ = one ∷ other ∷ [] in
      sum_four (λ kind. cond {A = ℕ} (eqb (lists kind) these) 1 0)
      ∙ (λ i. cond {A = ℕ} (alike_two one other 0 these (λ actor. among_two 0 actor (omega arith)) among false false (has-empty one) (has-empty other) i) 1 0
      + cond {A = ℕ} (alike_two one other (with 0 one) these (λ actor. among_two 1 actor (omega arith)) among true false (has-with_same 0 one) (lacks one other apart) i) 1 0
      + cond {A = ℕ} (alike_two one other (with 0 other) these (λ actor. among_two 2 actor (omega arith)) among false true (lacks other one (λ same. apart (sym same))) (has-with_same 0 other) i) 1 0
      + cond {A = ℕ} (alike_two one other (with (with 0 one) other) these (λ actor. among_two 3 actor (omega arith)) among true true (first_of_two one other apart) (has-with_same (with 0 one) other) i) 1 0)
      ∙ either (has these one) (has these other);
}
  where
    among_two : (kind actor : ℕ) → kind < 4 → has (slice_index (0 ∷ with 0 one ∷ with 0 other ∷ with (with 0 one) other ∷ []) kind) actor ≡ true
        → has (actors_of (one ∷ other ∷ [])) actor ≡ true
    among_two zero actor below there = absurd (empty_has actor there)
    among_two (suc zero) actor below there = among_with (one ∷ other ∷ []) 0 one (among_none (one ∷ other ∷ [])) (first_listed one other) actor there
    among_two (suc (suc zero)) actor below there = among_with (one ∷ other ∷ []) 0 other (among_none (one ∷ other ∷ [])) (second_listed one other) actor there
    among_two (suc (suc (suc zero))) actor below there = among_both one other actor there
    among_two (suc (suc (suc (suc kind)))) actor below there = absurd (omega (arith, below))

    either : (a b : Bool) → cond {A = ℕ} (not a && (not b && true)) 1 0 + cond {A = ℕ} (a && (not b && true)) 1 0 + cond {A = ℕ} (not a && (b && true)) 1 0
        + cond {A = ℕ} (a && (b && true)) 1 0 ≡ 1
    either true true = refl
    either true false = refl
    either false true = refl
    either false false = refl

-- numbers that are counted rise with the places
pub counted_rise : (film : GroupData) (group count : ℕ) (numbers : List ℕ) (scenes : ℕ) (sums : ℕ → ℕ) → AreCounted film group count numbers scenes sums
    → (places place : ℕ) → places < 2 ^ count → has places place ≡ true → sums (without places place) ≤ sums places
counted_rise film group count numbers scenes sums counted places place lt there =
    let below : without places place < 2 ^ count = omega (arith, without_most places place, lt) in
    let fewer : sum_over numbers (open_with film group (without places place) scenes) ≤ sum_over numbers (open_with film group places scenes)
    = sum_over_mono numbers (open_with film group (without places place) scenes) (open_with film group places scenes) (λ scene inside.
    open_fewer film group places place scenes scene inside) in
    omega (arith, counted (without places place) below, counted places lt, fewer)

-- and are no more than those of all scenes
pub counted_most : (film : GroupData) (group count : ℕ) (numbers : List ℕ) (scenes : ℕ) (sums : ℕ → ℕ) → AreCounted film group count numbers scenes sums
    → (places : ℕ) → places < 2 ^ count → sums places ≤ sum_over numbers scenes
counted_most film group count numbers scenes sums counted places lt =
    let fewer : sum_over numbers (open_with film group places scenes) ≤ sum_over numbers scenes
    = sum_over_mono numbers (open_with film group places scenes) scenes (λ scene there.
    (from_scenes (is_without film (minus group (pick group places))) scenes scene there).0) in
    omega (arith, counted places lt, fewer)

-- ---- classes

-- each set of newcomers is at most one of them
kinds_most : (here : List ℕ) (classes : ℕ) (kinds : ℕ → ℕ) → AreKinds here classes kinds → (these : ℕ) → sum_below classes (λ kind. cond {A = ℕ} (eqb (kinds kind) these) 1 0) ≤ 1
kinds_most here classes kinds are_kinds these = elim (cases_Bool (eqb (minus these (actors_of here)) 0)) [
  | inl inside ↦ (let one : sum_below classes (λ kind. cond {A = ℕ} (eqb (kinds kind) these) 1 0) ≡ 1
      = are_kinds.each these (λ actor there. among (has these actor) (has (actors_of here) actor) there
      (sym (has-minus these (actors_of here) actor) ∙ ap (λ (s : ℕ). has s actor) (eqb-true (minus these (actors_of here)) 0 inside) ∙ has-empty actor)) in
      omega (arith, one))
  | inr outside ↦ (let none : sum_below classes (λ kind. cond {A = ℕ} (eqb (kinds kind) these) 1 0) ≡ 0
      = sum_below-none classes (λ kind. cond {A = ℕ} (eqb (kinds kind) these) 1 0) (λ kind below. ap (λ b. cond {A = ℕ} b 1 0)
      (false_from_ne_true (eqb (kinds kind) these) (λ same. false≢true (sym outside ∙ eq-eqb (minus these (actors_of here)) 0
      (empty_from (minus these (actors_of here)) (λ actor. false_from_ne_true (has (minus these (actors_of here)) actor) (λ there.
      let parts = has_from_minus these (actors_of here) actor there in
      false≢true (sym parts.1 ∙ are_kinds.within kind actor below (ap (λ (s : ℕ). has s actor) (eqb-true (kinds kind) these same) ∙ parts.0))))))))) in
      omega (arith, none))
]
  where
    among : (t h : Bool) → t ≡ true → (t && not h) ≡ false → h ≡ true
    among t true is none = refl
    among true false is none = absurd (false≢true (sym none))
    among false false is none = absurd (false≢true is)

module _ (film : GroupData) (set group newcomers : ℕ) (known : IsCompany film set group newcomers) (count : ℕ) (fits : size group ≤ count) where
  -- the days of the scenes of a class
  abbrev pub AreDays : ℕ → (ℕ → ℕ) → Type 0
  AreDays these days = AreCounted film group count film.days (just film newcomers these set) days

  -- the classes of a stage have no more days than the set
  pub days_within : (here : List ℕ) (classes : ℕ) (kinds : ℕ → ℕ) (days : ℕ → ℕ → ℕ) → AreKinds here classes kinds
      → ((kind : ℕ) → kind < classes → AreDays (kinds kind) (days kind))
      → (places : ℕ) → places < 2 ^ count → sum_below classes (λ kind. days kind places) ≤ sum_over film.days set
  days_within here classes kinds days are_kinds are_days places lt =
      let chosen : ℕ = open_with film group places set in
      let free : ℕ → Bool = is_without film (minus group (pick group places)) in
      let parts : sum_below classes (λ kind. days kind places) ≡ sum_below classes (λ kind. sum_over film.days (meet chosen (just film newcomers (kinds kind) set)))
      = sum_below-ext classes (λ kind. days kind places) (λ kind. sum_over film.days (meet chosen (just film newcomers (kinds kind) set))) (λ kind below.
      are_days kind below places lt ∙ ap (sum_over film.days) (open_class film set group newcomers places (kinds kind) known.small_set)) in
      let most : sum_below classes (λ kind. sum_over film.days (meet chosen (just film newcomers (kinds kind) set))) ≤ sum_over film.days chosen
      = days_most film set newcomers chosen known.small_set (λ scene there. (from_scenes free set scene there).0) classes kinds (kinds_most here classes kinds are_kinds) in
      let within : sum_over film.days chosen ≤ sum_over film.days set
      = sum_over_mono film.days chosen set (λ scene there. (from_scenes free set scene there).0) in
      omega (arith, parts, most, within)

  module _ (coming : ℕ) (here : List ℕ) (gone : ℕ) (stage : IsStage newcomers coming here gone) where
    abbrev pub ArePriced : ℕ → (ℕ → ℕ) → Type 0
    ArePriced these prices = ArePrices film set group count coming here gone these prices

    module _ (classes : ℕ) (kinds : ℕ → ℕ) (are_kinds : AreKinds here classes kinds) (prices days : ℕ → ℕ → ℕ)
        (are_prices : (kind : ℕ) → kind < classes → ArePriced (kinds kind) (prices kind))
        (are_days : (kind : ℕ) → kind < classes → AreDays (kinds kind) (days kind)) where
      -- the one at a place leaves
      module _ (places place : ℕ) (lt : places < 2 ^ size group) (there : has places place ≡ true) where
        -- the place is one of the group
        within : place < size group
        within = below_width places (size group) place lt there

        -- one who is here can leave
        may_leave : is_allowed film set (staying group coming here gone places) (leaves (actor_at group place)) ≡ true
            → Contains (allowed film set group (staying group coming here gone places)) (leaves (actor_at group place))
        may_leave fine =
            let state : StateData = staying group coming here gone places in
            may film set group known.small state (leaves (actor_at group place)) (can_leave group state (actor_at group place)
            (Contains-members (minus group (left_at film group places)) (actor_at group place) (IsSet-minus group (left_at film group places) known.small)
            (ap (λ (s : ℕ). has s (actor_at group place)) (still_picked group places) ∙ has_pick group places place within there))) fine

        -- what it costs
        leaving_cost : ((scene : ℕ) → has set scene ≡ true → is_open film (staying group coming here gone places) scene ≡ true
            → has (slice_index film.casts scene) (actor_at group place) ≡ true → is_without film coming scene ≡ true)
            → owes classes prices days places (without places place) ≡ gross_charge film set group (staying group coming here gone places) (leaves (actor_at group place))
        leaving_cost free =
            let actor : ℕ = actor_at group place in
            let gone_of : ℕ → ℕ = λ kind. meet (closed film set group newcomers coming here gone stage known.small_set places actor) (just film newcomers (kinds kind) set) in
            sum_below-ext classes (λ kind. prices kind places * (days kind places - days kind (without places place))) (λ kind. prices kind places * sum_over film.days (gone_of kind))
            (λ kind below. ap (λ (n : ℕ). prices kind places * n) (fewer kind below))
            ∙ charge_by film set group newcomers coming here gone stage known.small_set places actor classes kinds (λ kind. prices kind places)
            (λ kind below. are_prices kind below places below_all)
            (λ scene inside. are_kinds.each (meet (slice_index film.casts scene) newcomers)
            (among_closed film set group newcomers coming here gone stage known.small_set places actor free scene inside))
          where
            below_all : places < 2 ^ count
            below_all = (let wider : 2 ^ size group ≤ 2 ^ count = pow_mono fits in omega (arith, lt, wider))

            fewer : (kind : ℕ) → kind < classes → days kind places - days kind (without places place)
                ≡ sum_over film.days (meet (closed film set group newcomers coming here gone stage known.small_set places (actor_at group place)) (just film newcomers (kinds kind) set))
            fewer kind below =
                let scenes : ℕ = just film newcomers (kinds kind) set in
                let small : IsSet scenes = scenes_small (λ s. eqb (meet (slice_index film.casts s) newcomers) (kinds kind)) set in
                let before : ℕ = open_with film group places scenes in
                let later : ℕ = open_with film group (without places place) scenes in
                let same : minus before later ≡ meet (closed film set group newcomers coming here gone stage known.small_set places (actor_at group place)) scenes
                = same_has (minus before later) (meet (closed film set group newcomers coming here gone stage known.small_set places (actor_at group place)) scenes) (λ scene.
                closing film group places place scenes within small scene
                ∙ sym (class_has film set group newcomers coming here gone stage known.small_set places (actor_at group place) (kinds kind) scene
                (λ who inside. are_kinds.within kind who below inside))) in
                let less : without places place < 2 ^ count = omega (arith, without_most places place, below_all) in
                omega (
                  arith,
                  are_days kind below places below_all,
                  are_days kind below (without places place) less,
                  parted film group places place scenes within small film.days,
                  ap (sum_over film.days) same,
                )

      -- where nobody is still to come, everyone may leave
      pub leaving_free : coming ≡ 0 → AreLeaving film set group coming here gone (owes classes prices days)
      leaving_free nobody_comes places place lt there = record {
        may = may_leave places place lt there
            (all_fine film set group known.small (staying group coming here gone places) (leaves (actor_at group place)) nobody_comes);
        charged = leaving_cost places place lt there (λ scene _ _ _. is_none film coming scene (λ i works expected.
            empty_has i (subst (λ (s : ℕ). has s i ≡ true) nobody_comes expected)));
      }

  -- one goes, class by class of the scenes in which he works
  goes_by : (coming : ℕ) (here : List ℕ) (gone : ℕ) (stage : IsStage newcomers coming here gone) (actor classes : ℕ) (kinds : ℕ → ℕ) (prices days : ℕ → ℕ → ℕ)
      → ((kind : ℕ) → kind < classes → IsAmong here (kinds kind)) → ((kind : ℕ) → kind < classes → has (kinds kind) actor ≡ true)
      → ((kind : ℕ) → kind < classes → ArePrices film set group count coming here gone (kinds kind) (prices kind))
      → ((kind : ℕ) → kind < classes → AreDays (kinds kind) (days kind))
      → (places : ℕ) → places < 2 ^ size group
      → ((scene : ℕ) → has (closed film set group newcomers coming here gone stage known.small_set places actor) scene ≡ true
      → sum_below classes (λ kind. cond {A = ℕ} (eqb (kinds kind) (meet (slice_index film.casts scene) newcomers)) 1 0) ≡ 1)
      → sum_below classes (λ kind. prices kind places * days kind places) ≡ gross_charge film set group (staying group coming here gone places) (goes actor)
  goes_by coming here gone stage actor classes kinds prices days among works are_prices are_days places lt once =
      let chosen : ℕ = closed film set group newcomers coming here gone stage known.small_set places actor in
      let wider : 2 ^ size group ≤ 2 ^ count = pow_mono fits in
      let below_all : places < 2 ^ count = omega (arith, lt, wider) in
      sum_below-ext classes (λ kind. prices kind places * days kind places) (λ kind. prices kind places * sum_over film.days (meet chosen (just film newcomers (kinds kind) set)))
      (λ kind below. ap (λ (n : ℕ). prices kind places * n) (are_days kind below places below_all
      ∙ ap (sum_over film.days) (same_has (open_with film group places (just film newcomers (kinds kind) set)) (meet chosen (just film newcomers (kinds kind) set)) (λ scene.
      let test : ℕ → Bool = λ s. eqb (meet (slice_index film.casts s) newcomers) (kinds kind) in
      has_where (is_without film (minus group (pick group places))) (just film newcomers (kinds kind) set) scene (scenes_small test set)
      ∙ at_work (has (just film newcomers (kinds kind) set) scene) (is_without film (minus group (pick group places)) scene) (has (slice_index film.casts scene) actor)
      (λ there. (has_from_meet (slice_index film.casts scene) newcomers actor
      (ap (λ (k : ℕ). has k actor) (eqb-true (meet (slice_index film.casts scene) newcomers) (kinds kind) (from_scenes test set scene there).1) ∙ works kind below)).0)
      ∙ sym (class_has film set group newcomers coming here gone stage known.small_set places actor (kinds kind) scene (among kind below))))))
      ∙ charge_by film set group newcomers coming here gone stage known.small_set places actor classes kinds (λ kind. prices kind places)
      (λ kind below. are_prices kind below places below_all) once
    where
      at_work : (j w c : Bool) → (j ≡ true → c ≡ true) → (j && w) ≡ (j && (w && c))
      at_work true true c of = sym (of refl)
      at_work true false c of = refl
      at_work false w c of = refl

  -- the one newcomer who is here goes, and nobody who is to come works in his scenes
  one_goes : (coming one gone : ℕ) (price days : ℕ → ℕ) → IsStage newcomers coming (one ∷ []) gone
      → ArePrices film set group count coming (one ∷ []) gone (with 0 one) price → AreDays (with 0 one) days
      → (places : ℕ) → places < 2 ^ size group
      → ((scene : ℕ) → has set scene ≡ true → is_open film (staying group coming (one ∷ []) gone places) scene ≡ true → has (slice_index film.casts scene) one ≡ true
      → is_without film coming scene ≡ true)
      → price places * days places ≡ gross_charge film set group (staying group coming (one ∷ []) gone places) (goes one)
  one_goes coming one gone price days stage priced are_days places lt free =
      sym (sum_one (λ _. price places * days places))
      ∙ goes_by coming (one ∷ []) gone stage one 1 (λ _. with 0 one) (λ _. price) (λ _. days) (λ _ _ who there. there) (λ _ _. has-with_same 0 one)
      (λ _ _. priced) (λ _ _. are_days) places lt (λ scene there.
      let these : ℕ = meet (slice_index film.casts scene) newcomers in
      let parts = in_closed film set group newcomers coming (one ∷ []) gone stage known.small_set places one scene there in
      let among : IsAmong (one ∷ []) these
      = among_closed film set group newcomers coming (one ∷ []) gone stage known.small_set places one free scene there in
      let works : has these one ≡ true
      = has-meet (slice_index film.casts scene) newcomers one
      ∙ and_from (has (slice_index film.casts scene) one) (has newcomers one) parts.2 (of_here newcomers coming (one ∷ []) gone stage one (has-with_same 0 one)) in
      sum_one (λ _. cond {A = ℕ} (eqb (with 0 one) these) 1 0)
      ∙ ap (λ b. cond {A = ℕ} b 1 0) (alike_in (one ∷ []) (with 0 one) these (λ who inside. inside) among
      ∙ (λ i. agrees (has-with_same 0 one i) (works i) && true)))

  -- the last newcomer goes
  pub alone_goes : (one gone : ℕ) (price days : ℕ → ℕ) → IsStage newcomers 0 (one ∷ []) gone
      → ArePrices film set group count 0 (one ∷ []) gone (with 0 one) price → AreDays (with 0 one) days
      → (places : ℕ) → places < 2 ^ size group
      → price places * days places ≡ gross_charge film set group (staying group 0 (one ∷ []) gone places) (goes one)
  alone_goes one gone price days stage priced are_days places lt =
      one_goes 0 one gone price days stage priced are_days places lt (λ scene _ _ _. is_none film 0 scene (λ i works expected. empty_has i expected))

  -- one of the two who are here goes
  pub either_goes : (one other actor : ℕ) (price days price_both days_both : ℕ → ℕ) → IsStage newcomers 0 (one ∷ other ∷ []) 0
      → has (with (with 0 one) other) actor ≡ true
      → ArePrices film set group count 0 (one ∷ other ∷ []) 0 (with 0 actor) price → AreDays (with 0 actor) days
      → ArePrices film set group count 0 (one ∷ other ∷ []) 0 (with (with 0 one) other) price_both → AreDays (with (with 0 one) other) days_both
      → (places : ℕ) → places < 2 ^ size group
      → price places * days places + price_both places * days_both places ≡ gross_charge film set group (staying group 0 (one ∷ other ∷ []) 0 places) (goes actor)
  either_goes one other actor price days price_both days_both stage there priced are_days priced_both are_both places lt =
      let here : List ℕ = one ∷ other ∷ [] in
      let both : ℕ = with (with 0 one) other in
      let apart : one ≢ other = stage.once one other refl in
      let which : (one ≡ actor) ⊎ (other ≡ actor) = one_of_two one other actor there in
      let is_here : has (actors_of here) actor ≡ true = among_both one other actor there in
      let kinds : ℕ → ℕ = either_one (with 0 actor) both in
      sym (sum_two (λ kind. either_one price price_both kind places * either_one days days_both kind places))
      ∙ goes_by 0 here 0 stage actor 2 kinds (either_one price price_both) (either_one days days_both)
      (for_two (λ kind. IsAmong here (kinds kind)) (among_with here 0 actor (among_none here) is_here) (among_both one other))
      (for_two (λ kind. has (kinds kind) actor ≡ true) (has-with_same 0 actor) there)
      (for_two (λ kind. ArePrices film set group count 0 here 0 (kinds kind) (either_one price price_both kind)) priced priced_both)
      (for_two (λ kind. AreDays (kinds kind) (either_one days days_both kind)) are_days are_both) places lt (λ scene inside.
      let these : ℕ = meet (slice_index film.casts scene) newcomers in
      let parts = in_closed film set group newcomers 0 here 0 stage known.small_set places actor scene inside in
      let among : IsAmong here these
      = among_closed film set group newcomers 0 here 0 stage known.small_set places actor (λ s _ _ _. is_none film 0 s (λ i works expected. empty_has i expected)) scene inside in
      let works : has these actor ≡ true
      = has-meet (slice_index film.casts scene) newcomers actor
      ∙ and_from (has (slice_index film.casts scene) actor) (has newcomers actor) parts.2 (of_here newcomers 0 here 0 stage actor is_here) in
      sum_two (λ kind. cond {A = ℕ} (eqb (kinds kind) these) 1 0) ∙ either_once one other actor these apart which among works)
