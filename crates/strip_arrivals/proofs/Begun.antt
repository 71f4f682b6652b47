-- The least by what happens next to newcomers, stage by stage.
use Rattle.std.proofs.Common.{◌≡◌, ◌≢◌, ℕ, ◌+◌, ◌^◌, ◌<◌, ◌≤◌, ◌⊎◌, Bool, true, false, not, ◌&&◌, cond, eqb, min, List, [], ◌∷◌, Contains, filter, refl, sym, ap, ◌∙◌, subst, inl, inr, arith}
use Rattle.std.proofs.lemmas.Bool.{cases_eq, eq-eqb, false≢true, false_from_ne_true, ne_eqb}
use Rattle.strip_mask.specs.Set.{IsSet, has, minus, size, with}
use Rattle.strip_mask.proofs.ByMembers.{below_width, empty_from, has-empty, has-minus, has-with_same, same_has, empty_has}
use Rattle.strip_group.specs.Group.{GroupData}
use Rattle.strip_group.specs.Places.{actor_at, pick}
use Rattle.strip_arrivals.specs.Arrivals.{Event, IsOver, StateData, after, allowed, comes, events, goes, is_allowed, leaves}
use Rattle.strip_arrivals.specs.Company.{IsCompany, staying}
use Rattle.strip_arrivals.proofs.Lowered.{IsBegun, OfNewcomers}
use Rattle.strip_arrivals.specs.Gross.{IsBest, IsGross, gross_charge}
use Rattle.strip_mask.proofs.Lists.{contains_here, contains_later, contains_cases, contains_none}
use Rattle.strip_arrivals.proofs.Lists.{contains_from_filter}
use Rattle.strip_group.proofs.Places.{actor_there, has_pick, pick-empty}
use Rattle.strip_arrivals.proofs.Along.{can_go}
use Rattle.strip_arrivals.proofs.Runs.{all_fine, by_kind, may}
use Rattle.strip_arrivals.proofs.Gross.{first_tried, none_more, none_tried, one_tried}

-- ---- sets and lists of one or two

-- who goes isn't in the list any more
gone_alone : (actor : ℕ) → filter (λ other. not (eqb other actor)) (actor ∷ []) ≡ []
gone_alone actor = ap (λ b. cond (not b) (actor ∷ []) []) (eq-eqb actor actor refl)

-- nor is the first of two
first_gone : (x y : ℕ) → x ≢ y → filter (λ other. not (eqb other x)) (x ∷ y ∷ []) ≡ y ∷ []
first_gone x y apart = λ i. cond (not (eq-eqb x x refl i)) (x ∷ cond (not (ne_eqb y x (λ same. apart (sym same)) i)) (y ∷ []) []) (cond (not (ne_eqb y x (λ same. apart (sym same)) i)) (y ∷ []) [])

-- nor the second of two
second_gone : (x y : ℕ) → x ≢ y → filter (λ other. not (eqb other x)) (y ∷ x ∷ []) ≡ y ∷ []
second_gone x y apart = λ i. cond (not (ne_eqb y x (λ same. apart (sym same)) i)) (y ∷ cond (not (eq-eqb x x refl i)) (x ∷ []) []) (cond (not (eq-eqb x x refl i)) (x ∷ []) [])

-- no list with somebody in it is empty
some_here : (actor : ℕ) (actors : List ℕ) → actor ∷ actors ≡ [] → ⊥
some_here actor actors same = contains_none actor (subst (λ xs. Contains xs actor) same (contains_here actor actors))

-- whether one of the group leaves
abbrev is_leaving : Event → Bool
is_leaving (comes actor) = false
is_leaving (leaves actor) = true
is_leaving (goes actor) = false

-- nobody leaves where it is a newcomer who comes or goes
none_leaves : (actor : ℕ) → OfNewcomers (leaves actor) → ⊥
none_leaves actor (newcomer, inl is) = false≢true (sym (ap is_leaving is))
none_leaves actor (newcomer, inr is) = false≢true (sym (ap is_leaving is))

-- no set with somebody in it is empty
to_come : (others actor : ℕ) → with others actor ≡ 0 → ⊥
to_come others actor same = empty_has actor (ap (λ (s : ℕ). has s actor) (sym same) ∙ has-with_same others actor)

module _ (film : GroupData) (set group : ℕ) where
  -- either of two events
  either : (never : ℕ) (state : StateData) (one other : Event) (later_one later_other first : ℕ) → (IsOver group state → ⊥)
      → Contains (allowed film set group state) one → IsGross film set group (after state one) later_one
      → Contains (allowed film set group state) other → IsGross film set group (after state other) later_other
      → min (gross_charge film set group state one + later_one) (gross_charge film set group state other + later_other) ≡ first
      → ((event : Event) → Contains (allowed film set group state) event → OfNewcomers event → (one ≡ event) ⊎ (other ≡ event))
      → IsBest film set group never state OfNewcomers first
  either never state one other later_one later_other first going_on may_one gross_one may_other gross_other is next =
      none_more film set group never (λ event. (one ≡ event) ⊎ (other ≡ event)) OfNewcomers state first
      (subst (λ (n : ℕ). IsBest film set group never state (λ event. (one ≡ event) ⊎ (other ≡ event)) n) is
      (one_tried film set group never (λ event. one ≡ event) (λ event. (one ≡ event) ⊎ (other ≡ event)) state (gross_charge film set group state one + later_one) later_other other
      (first_tried film set group never (λ event. one ≡ event) state later_one one going_on (λ event was. was) may_one gross_one)
      (λ event was. was) may_other gross_other))
      next

module _ (film : GroupData) (set group : ℕ) (small : IsSet group) where
  -- what can happen next to a newcomer
  next_ones : (state : StateData) (tried : Event → Type 0) → ((actor : ℕ) → has state.coming actor ≡ true → tried (comes actor))
      → ((actor : ℕ) → Contains state.here actor → tried (goes actor)) → (event : Event) → Contains (allowed film set group state) event → OfNewcomers event → tried event
  next_ones state tried by_coming by_going event allow = by_kind film set group small state event (λ e. OfNewcomers e → tried e)
      (contains_from_filter (is_allowed film set state) (events group state) event allow).0
      (λ actor expected _. by_coming actor expected)
      (λ actor _ newcomer. absurd (none_leaves actor newcomer))
      (λ actor is_here _. by_going actor is_here)

  -- and go, where nobody is still to come
  may_go : (state : StateData) (actor : ℕ) → state.coming ≡ 0 → Contains state.here actor → Contains (allowed film set group state) (goes actor)
  may_go state actor none is_here = may film set group small state (goes actor) (can_go group state actor is_here) (all_fine film set group small state (goes actor) none)

module _ (film : GroupData) (set group newcomers never : ℕ) (known : IsCompany film set group newcomers) where
  -- the least totals of a stage
  abbrev AreTotals : ℕ → List ℕ → ℕ → (ℕ → ℕ) → Type 0
  AreTotals coming here gone row = (places : ℕ) → places < 2 ^ size group → IsGross film set group (staying group coming here gone places) (row places)

  -- all newcomers are gone: where nobody of the group is here either, nothing is to be paid
  pub begun_over : (gone : ℕ) (first : ℕ → ℕ) → first 0 ≡ 0 → ((places : ℕ) → places < 2 ^ size group → places ≢ 0 → never ≤ first places)
      → IsBegun film set group never 0 [] gone first
  begun_over gone first none others places lt =
      let state : StateData = staying group 0 [] gone places in
      none_more film set group never (λ _. ⊥) OfNewcomers state (first places)
      (none_tried film set group never (λ _. ⊥) state (first places) (λ event was. was)
      (λ over. ap first (none_stay over) ∙ none)
      (elim (cases_eq places 0) [
        | inl empty ↦ inr (all_left empty, refl, refl)
        | inr some ↦ inl (others places lt some)
      ]))
      (next_ones film set group known.small state (λ _. ⊥) (λ actor expected. empty_has actor expected) (λ actor is_here. contains_none actor is_here))
    where
      none_stay : IsOver group (staying group 0 [] gone places) → places ≡ 0
      none_stay over = empty_from places (λ place. false_from_ne_true (has places place) (λ there.
          let within : place < size group = below_width places (size group) place lt there in
          let actor : ℕ = actor_at group place in
          empty_has actor (ap (λ (s : ℕ). has s actor) (sym over.0)
          ∙ has-minus group (minus group (pick group places)) actor
          ∙ ap (λ b. has group actor && not b) (has-minus group (pick group places) actor)
          ∙ stays (has group actor) (has (pick group places) actor) (actor_there group place within) (has_pick group places place within there))))
        where
          stays : (g p : Bool) → g ≡ true → p ≡ true → (g && not (g && not p)) ≡ true
          stays true true is picked = refl
          stays true false is picked = picked
          stays false p is picked = is

      all_left : places ≡ 0 → minus group (minus group (pick group places)) ≡ 0
      all_left empty = ap (λ (s : ℕ). minus group (minus group (pick group s))) empty ∙ ap (λ (s : ℕ). minus group (minus group s)) (pick-empty group)
          ∙ same_has (minus group (minus group 0)) 0 (λ i. has-minus group (minus group 0) i ∙ ap (λ b. has group i && not b) (has-minus group 0 i)
          ∙ ap (λ b. has group i && not (has group i && not b)) (has-empty i) ∙ off (has group i) ∙ sym (has-empty i))
        where
          off : (b : Bool) → (b && not (b && not false)) ≡ false
          off true = refl
          off false = refl

  -- the last newcomer is here: he goes
  pub begun_alone : (one gone : ℕ) (charge later first : ℕ → ℕ) → AreTotals 0 [] (with gone one) later
      → ((places : ℕ) → places < 2 ^ size group → charge places ≡ gross_charge film set group (staying group 0 (one ∷ []) gone places) (goes one))
      → ((places : ℕ) → places < 2 ^ size group → first places ≡ later places + charge places)
      → IsBegun film set group never 0 (one ∷ []) gone first
  begun_alone one gone charge later first totals charged is places lt =
      let state : StateData = staying group 0 (one ∷ []) gone places in
      let left : ℕ = minus group (pick group places) in
      let then : IsGross film set group (after state (goes one)) (later places)
      = subst (λ (here : List ℕ). IsGross film set group (record { left = left; coming = 0; here = here; gone = with gone one }) (later places)) (sym (gone_alone one)) (totals places lt) in
      let paid : gross_charge film set group state (goes one) + later places ≡ first places = omega (arith, charged places lt, is places lt) in
      let began : IsBest film set group never state (λ event. goes one ≡ event) (gross_charge film set group state (goes one) + later places)
      = first_tried film set group never (λ event. goes one ≡ event) state (later places) (goes one) (λ over. some_here one [] over.2) (λ other was. was)
      (may_go film set group known.small state one refl (contains_here one [])) then in
      none_more film set group never (λ event. goes one ≡ event) OfNewcomers state (first places)
      (subst (λ (n : ℕ). IsBest film set group never state (λ event. goes one ≡ event) n) paid began)
      (next_ones film set group known.small state (λ event. goes one ≡ event) (λ actor expected. absurd (empty_has actor expected))
      (λ actor is_here. elim (contains_cases one [] actor is_here) [
        | inl same ↦ ap goes same
        | inr none ↦ absurd (contains_none actor none)
      ]))

  -- two are here: either goes
  pub begun_both_here : (one other : ℕ) (by_one by_other later_one later_other first : ℕ → ℕ) → one ≢ other
      → AreTotals 0 (other ∷ []) (with 0 one) later_one → AreTotals 0 (one ∷ []) (with 0 other) later_other
      → ((places : ℕ) → places < 2 ^ size group → by_one places ≡ gross_charge film set group (staying group 0 (one ∷ other ∷ []) 0 places) (goes one))
      → ((places : ℕ) → places < 2 ^ size group → by_other places ≡ gross_charge film set group (staying group 0 (one ∷ other ∷ []) 0 places) (goes other))
      → ((places : ℕ) → places < 2 ^ size group → first places ≡ min (later_one places + by_one places) (later_other places + by_other places))
      → IsBegun film set group never 0 (one ∷ other ∷ []) 0 first
  begun_both_here one other by_one by_other later_one later_other first apart totals_one totals_other charged_one charged_other is places lt =
      let state : StateData = staying group 0 (one ∷ other ∷ []) 0 places in
      let left : ℕ = minus group (pick group places) in
      let one_goes : IsGross film set group (after state (goes one)) (later_one places)
      = subst (λ (here : List ℕ). IsGross film set group (record { left = left; coming = 0; here = here; gone = with 0 one }) (later_one places)) (sym (first_gone one other apart))
      (totals_one places lt) in
      let other_goes : IsGross film set group (after state (goes other)) (later_other places)
      = subst (λ (here : List ℕ). IsGross film set group (record { left = left; coming = 0; here = here; gone = with 0 other }) (later_other places))
      (sym (second_gone other one (λ same. apart (sym same)))) (totals_other places lt) in
      let paid : min (gross_charge film set group state (goes one) + later_one places) (gross_charge film set group state (goes other) + later_other places) ≡ first places
      = omega (arith, charged_one places lt, charged_other places lt, is places lt) in
      either film set group never state (goes one) (goes other) (later_one places) (later_other places) (first places) (λ over. some_here one (other ∷ []) over.2)
      (may_go film set group known.small state one refl (contains_here one (other ∷ []))) one_goes
      (may_go film set group known.small state other refl (contains_later one (other ∷ []) other (contains_here other []))) other_goes paid
      (next_ones film set group known.small state (λ event. (goes one ≡ event) ⊎ (goes other ≡ event)) (λ actor expected. absurd (empty_has actor expected))
      (λ actor is_here. elim (contains_cases one (other ∷ []) actor is_here) [
        | inl same ↦ inl (ap goes same)
        | inr later ↦ elim (contains_cases other [] actor later) [
          | inl same ↦ inr (ap goes same)
          | inr none ↦ absurd (contains_none actor none)
        ]
      ]))
