-- The value is at most what is paid for waiting along any list: what is left to pay from a state on the way is at most what is
-- still waited at open scenes and at those to come.
use Rattle.std.proofs.Common.{◌≡◌, ℕ, zero, suc, ◌+◌, ◌*◌, ◌≤◌, ◌⊎◌, Bool, true, false, not, ◌&&◌, cond, List, [], ◌∷◌, ◌++◌, Contains, filter, map, length, slice_index, refl, sym, ap, ◌∙◌, subst, inl, inr, arith}
use Rattle.std.specs.List.{list_all}
use Rattle.std.proofs.lemmas.Bool.{false≢true, and_parts, eq-eqb, ne_eqb, false_from_ne_true, not-true, not-false, and_from}
use Rattle.std.proofs.lemmas.List.Elements.{All-contains_itself, All-weaker, Contains-append_left, Contains-append_right}
use Rattle.std.proofs.lemmas.List.Sums.{list_all-from_AllPass}
use Rattle.strip_mask.specs.Set.{IsSet, has, members, minus, sum_over, union, without}
use Rattle.strip_mask.proofs.ByMembers.{IsSet-minus, IsSet-without, has-empty, has-minus, has_from_minus, empty_has}
use Rattle.strip_mask.proofs.Members.{Contains-members, has_from_members}
use Rattle.strip_mask.proofs.Sums.{sum_below-none}
use Rattle.strip_mask.specs.Least.{least_over}
use Rattle.strip_group.specs.Group.{GroupData}
use Rattle.strip_arrivals.specs.Arrivals.{Event, StateData, after, allowed, arrivals_value, at_first, cast_of, charge, comes, events, events_left, goes, is_allowed, is_open, is_without, least_total, leaves, open_scenes, price}
use Rattle.strip_arrivals.specs.Along.{HasEach, waiting_at, waiting_from, waiting}
use Rattle.strip_mask.proofs.Least.{least_over_le}
use Rattle.strip_arrivals.proofs.Lists.{contains_filter, contains_from_filter, contains_map, none_there, some_or_none}
use Rattle.strip_arrivals.proofs.Casts.{each_cast, is_none, listed_has}
use Rattle.strip_arrivals.proofs.Price.{price_le}
use Rattle.strip_arrivals.proofs.Open.{charge_le, is_unpaid, open_after_going, open_after_leaving, pay_at, shoot_le, unpaid}
use Rattle.strip_arrivals.proofs.Prefix.{IsOnTheWay, coming, going, leaving, shooting, waiters_with}

-- what can happen

pub can_come : (group : ℕ) (state : StateData) (actor : ℕ) → IsSet state.coming → has state.coming actor ≡ true → Contains (events group state) (comes actor)
can_come group state actor small expected =
    Contains-append_left (map comes (members state.coming) ++ map leaves (members (minus group state.left))) (map goes state.here) (comes actor)
    (Contains-append_left (map comes (members state.coming)) (map leaves (members (minus group state.left))) (comes actor)
    (contains_map comes (members state.coming) actor (Contains-members state.coming actor small expected)))

pub can_leave : (group : ℕ) (state : StateData) (actor : ℕ) → Contains (members (minus group state.left)) actor → Contains (events group state) (leaves actor)
can_leave group state actor there =
    Contains-append_left (map comes (members state.coming) ++ map leaves (members (minus group state.left))) (map goes state.here) (leaves actor)
    (Contains-append_right (map comes (members state.coming)) (map leaves (members (minus group state.left))) (leaves actor)
    (contains_map leaves (members (minus group state.left)) actor there))

pub can_go : (group : ℕ) (state : StateData) (actor : ℕ) → Contains state.here actor → Contains (events group state) (goes actor)
can_go group state actor there =
    Contains-append_right (map comes (members state.coming) ++ map leaves (members (minus group state.left))) (map goes state.here) (goes actor)
    (contains_map goes state.here actor there)

-- nothing, where nobody is to come, none of the group is here, and no newcomer
pub no_events : (group : ℕ) (state : StateData) → members state.coming ≡ [] → members (minus group state.left) ≡ [] → state.here ≡ [] → events group state ≡ []
no_events group state none_comes none_stays none_here =
    ap (λ (xs : List ℕ). map comes xs ++ map leaves (members (minus group state.left)) ++ map goes state.here) none_comes
    ∙ ap (λ (xs : List ℕ). map comes [] ++ map leaves xs ++ map goes state.here) none_stays
    ∙ ap (λ (xs : List ℕ). map comes [] ++ map leaves [] ++ map goes xs) none_here

module _ (film : GroupData) (set group : ℕ) where
  -- the least total is no more than by any event that is allowed
  pub by_event : (n : ℕ) (state : StateData) (event : Event) → Contains (events group state) event → is_allowed film set state event ≡ true
      → least_total film set group (suc n) state ≤ charge film set group state event + least_total film set group n (after state event)
  by_event n state event there fine =
      let paid : Event → ℕ = λ e. charge film set group state e + least_total film set group n (after state e) in
      least_over_le (λ x. x) (map paid (allowed film set group state)) (paid event)
      (contains_map paid (allowed film set group state) event (contains_filter (is_allowed film set state) (events group state) event there fine))

  -- and nothing where nothing can happen
  pub when_over : (n : ℕ) (state : StateData) → events group state ≡ [] → least_total film set group n state ≡ 0
  when_over zero state none = refl
  when_over (suc n) state none =
      ap (λ (es : List Event). least_over (λ x. x) (map (λ e. charge film set group state e + least_total film set group n (after state e)) (filter (is_allowed film set state) es))) none

  module _ (newcomers : ℕ) (small_set : IsSet set) (small : IsSet group) (apart : (actor : ℕ) → has newcomers actor ≡ true → has group actor ≡ false) where
    abbrev IsPaid : (ℕ → ℕ) → ℕ → ℕ → List ℕ → StateData → ℕ → Type 0
    IsPaid waiters came rest scenes state n =
        least_total film set group n state ≤ unpaid film set group waiters rest state + waiting_from film group newcomers came scenes

    module _ (waiters : ℕ → ℕ) (came rest : ℕ) (scenes : List ℕ) (state : StateData) (way : IsOnTheWay film set group newcomers waiters came rest scenes state) where
      -- the open scenes of one who is finished were shot, and priced at what is waited there
      closed_at : (actor scene : ℕ) → has (cast_of film scenes) actor ≡ false → has set scene ≡ true → is_open film state scene ≡ true
          → has (slice_index film.casts scene) actor ≡ true → (has rest scene ≡ false) × (price film set group state scene ≤ sum_over film.holds (waiters scene))
      closed_at actor scene finished there unpaid_yet works =
          let shot : has rest scene ≡ false
          = false_from_ne_true (has rest scene) (λ remains. false≢true (sym finished ∙ each_cast film rest scenes scene actor way.each remains works)) in
          (shot, price_le film set group state scene (waiters scene) (way.priced scene (there, shot)) unpaid_yet way.left_group (λ i here. apart i (way.are_here i here)))

      -- nobody who is to come works in one of them
      is_fine : (actor : ℕ) → has (cast_of film scenes) actor ≡ false → list_all (is_without film state.coming) (open_scenes film set state actor) ≡ true
      is_fine actor finished =
          list_all-from_AllPass (is_without film state.coming) (open_scenes film set state actor)
          (All-weaker (Contains (open_scenes film set state actor)) (λ scene. is_without film state.coming scene ≡ true) (λ scene there.
          let found = contains_from_filter (λ s. is_open film state s && has (slice_index film.casts s) actor) (members set) scene there in
          let both = and_parts (is_open film state scene) (has (slice_index film.casts scene) actor) found.1 in
          let member = has_from_members set scene found.0 in
          let shot = (closed_at actor scene finished member both.0 both.1).0 in
          is_none film state.coming scene (λ i works expected. false≢true (sym (way.are_coming i expected).1 ∙ way.worked scene i (member, shot) works)))
          (open_scenes film set state actor) (All-contains_itself (open_scenes film set state actor)))

      leave_step : (actor n : ℕ) → Contains (members (minus group state.left)) actor → has (cast_of film scenes) actor ≡ false
          → IsPaid waiters came rest scenes (after state (leaves actor)) n → IsPaid waiters came rest scenes state (suc n)
      leave_step actor n there finished later =
          omega (
            arith,
            later,
            by_event n state (leaves actor) (can_leave group state actor there) (is_fine actor finished),
            charge_le film set group waiters rest actor state (after state (leaves actor)) (open_after_leaving film state actor) (λ scene. closed_at actor scene finished),
          )

      go_step : (actor n : ℕ) → Contains state.here actor → has (cast_of film scenes) actor ≡ false
          → IsPaid waiters came rest scenes (after state (goes actor)) n → IsPaid waiters came rest scenes state (suc n)
      go_step actor n there finished later =
          omega (
            arith,
            later,
            by_event n state (goes actor) (can_go group state actor there) (is_fine actor finished),
            charge_le film set group waiters rest actor state (after state (goes actor)) (open_after_going film state actor) (λ scene. closed_at actor scene finished),
          )

      come_step : (actor n : ℕ) → IsSet state.coming → has state.coming actor ≡ true
          → IsPaid waiters came rest scenes (after state (comes actor)) n → IsPaid waiters came rest scenes state (suc n)
      come_step actor n fits expected later = omega (arith, later, by_event n state (comes actor) (can_come group state actor fits expected) refl)

      -- all who are finished have left or are gone
      record AllNeeded : Type 0 where
        all_stay : (actor : ℕ) → Contains (members (minus group state.left)) actor → has (cast_of film scenes) actor ≡ true
        all_due : (actor : ℕ) → Contains state.here actor → has (cast_of film scenes) actor ≡ true

      -- someone who is finished leaves or goes, or all are needed
      someone_or_all : (n : ℕ) → ((after_one : StateData) → IsOnTheWay film set group newcomers waiters came rest scenes after_one → after_one.coming ≡ state.coming
          → IsPaid waiters came rest scenes after_one n) → IsPaid waiters came rest scenes state (suc n) ⊎ AllNeeded
      someone_or_all n goes_on = elim (some_or_none (λ i. not (has (cast_of film scenes) i)) (members (minus group state.left))) [
        | inl found ↦ inl (leave_step found.0 n found.1 (not-true (has (cast_of film scenes) found.0) found.2) (goes_on (after state (leaves found.0))
            (leaving film set group newcomers waiters came rest scenes state way found.0 (has_from_minus group state.left found.0 (has_from_members (minus group state.left) found.0
            found.1)).0) refl))
        | inr none_left ↦ elim (some_or_none (λ i. not (has (cast_of film scenes) i)) state.here) [
          | inl found ↦ inl (go_step found.0 n found.1 (not-true (has (cast_of film scenes) found.0) found.2) (goes_on (after state (goes found.0))
              (going film set group newcomers waiters came rest scenes state way found.0 small_set) refl))
          | inr none_gone ↦ inr (record {
            all_stay = λ i there. not-false (has (cast_of film scenes) i) (none_left i there);
            all_due = λ i there. not-false (has (cast_of film scenes) i) (none_gone i there);
          })
        ]
      ]

    -- at the end of the list
    at_end : (waiters : ℕ → ℕ) (came rest : ℕ) (state : StateData) (n : ℕ) → IsSet state.coming → IsOnTheWay film set group newcomers waiters came rest [] state
        → ((after_one : StateData) → IsOnTheWay film set group newcomers waiters came rest [] after_one → IsSet after_one.coming → IsPaid waiters came rest [] after_one n)
        → IsPaid waiters came rest [] state (suc n)
    at_end waiters came rest state n fits way goes_on = elim (someone_or_all waiters came rest [] state way n (λ one on_way same. goes_on one on_way
        (subst IsSet (sym same) fits))) [
          | inl paid ↦ paid
          | inr needed ↦ elim (some_or_none (λ _. true) (members state.coming)) [
            | inl found ↦ (let expected = has_from_members state.coming found.0 found.1 in
                come_step waiters came rest [] state way found.0 n fits expected (goes_on (after state (comes found.0))
                (coming film set group newcomers waiters came rest [] state way found.0 small_set expected (λ due. absurd (empty_has found.0 due)))
                (IsSet-without state.coming found.0 fits)))
            | inr none ↦ (let over : least_total film set group (suc n) state ≡ 0 = when_over (suc n) state (no_events group state
                (none_there (members state.coming) (λ i there. false≢true (sym (none i there))))
                (none_there (members (minus group state.left)) (λ i there. empty_has i (needed.all_stay i there)))
                (none_there state.here (λ i there. empty_has i (needed.all_due i there)))) in
                omega (arith, over))
          ]
        ]

    -- before a scene
    at_scene : (waiters : ℕ → ℕ) (came rest scene : ℕ) (later : List ℕ) (state : StateData) (n : ℕ) → IsSet rest → IsSet state.coming
        → IsOnTheWay film set group newcomers waiters came rest (scene ∷ later) state
        → ((after_one : StateData) → IsOnTheWay film set group newcomers waiters came rest (scene ∷ later) after_one → IsSet after_one.coming
        → IsPaid waiters came rest (scene ∷ later) after_one n)
        → ((new : ℕ → ℕ) (seen : ℕ) → IsOnTheWay film set group newcomers new seen (without rest scene) later state
        → IsPaid new seen (without rest scene) later state (suc n))
        → IsPaid waiters came rest (scene ∷ later) state (suc n)
    at_scene waiters came rest scene later state n fits_rest fits way goes_on shoots = elim (someone_or_all waiters came rest (scene ∷ later) state way n (λ one on_way same.
        goes_on one on_way (subst IsSet (sym same) fits))) [
          | inl paid ↦ paid
          | inr needed ↦ elim (some_or_none (has (slice_index film.casts scene)) (members state.coming)) [
            | inl found ↦ (let expected = has_from_members state.coming found.0 found.1 in
                come_step waiters came rest (scene ∷ later) state way found.0 n fits expected (goes_on (after state (comes found.0))
                (coming film set group newcomers waiters came rest (scene ∷ later) state way found.0 small_set expected (λ due. found.2))
                (IsSet-without state.coming found.0 fits)))
            | inr none ↦ (
                let new : ℕ → ℕ = waiters_with film set group newcomers waiters came scene later in
                let paid = shoots new (union came (slice_index film.casts scene)) (shooting film set group newcomers waiters came rest scene later state way
                (λ i member stays. needed.all_stay i (Contains-members (minus group state.left) i (IsSet-minus group state.left small)
                (has-minus group state.left i ∙ and_from (has group i) (not (has state.left i)) member (ap not stays))))
                (λ i here. needed.all_due i (listed_has state.here i here))
                (λ i expected. none i (Contains-members state.coming i fits expected))) in
                let here : pay_at film set group new scene ≡ slice_index film.days scene * sum_over film.holds (waiting_at film group newcomers came scene later)
                = ap (λ b. slice_index film.days scene * sum_over film.holds (cond {A = ℕ} b (waiting_at film group newcomers came scene later) (waiters scene))) (eq-eqb scene scene refl) in
                let more = shoot_le film set group waiters new rest scene state fits_rest way.each.0 (λ other differs.
                ap (λ b. cond {A = ℕ} b (waiting_at film group newcomers came scene later) (waiters other)) (ne_eqb scene other differs)) in
                omega (arith, paid, here, more))
          ]
        ]

    on_the_way : (m n : ℕ) (waiters : ℕ → ℕ) (came rest : ℕ) (scenes : List ℕ) (state : StateData) → n + length scenes ≤ m → IsSet rest → IsSet state.coming
        → IsOnTheWay film set group newcomers waiters came rest scenes state → IsPaid waiters came rest scenes state n
    on_the_way m zero waiters came rest scenes state enough fits_rest fits way = omega arith
    on_the_way zero (suc n) waiters came rest scenes state enough fits_rest fits way = absurd (omega (arith, enough))
    on_the_way (suc m) (suc n) waiters came rest [] state enough fits_rest fits way = at_end waiters came rest state n fits way (λ one on_way fit.
        on_the_way m n waiters came rest [] one (omega (arith, enough)) fits_rest fit on_way)
    on_the_way (suc m) (suc n) waiters came rest (scene ∷ later) state enough fits_rest fits way = at_scene waiters came rest scene later state n fits_rest fits way
        (λ one on_way fit. on_the_way m n waiters came rest (scene ∷ later) one (omega (arith, enough)) fits_rest fit on_way)
        (λ new seen on_way. on_the_way m (suc n) new seen (without rest scene) later state (omega (arith, enough)) (IsSet-without rest scene fits_rest) fits on_way)

    pub value_le : (scenes : List ℕ) → IsSet newcomers → HasEach set scenes → arrivals_value film set group newcomers ≤ waiting film group newcomers scenes
    value_le scenes fits each =
        let n : ℕ = events_left group (at_first newcomers) in
        let nothing : unpaid film set group (λ _. 0) set (at_first newcomers) ≡ 0
        = sum_below-none 64 (λ scene. cond {A = ℕ} (is_unpaid film set group set (at_first newcomers) scene) (pay_at film set group (λ _. 0) scene) 0)
        (λ scene _. none_yet (has set scene) (is_open film (at_first newcomers) scene) (pay_at film set group (λ _. 0) scene)) in
        let paid = on_the_way (n + length scenes) n (λ _. 0) 0 set scenes (at_first newcomers) (omega arith) small_set fits (record {
          each = each;
          left_group = λ i there. absurd (empty_has i there);
          are_coming = λ i there. (there, has-empty i);
          are_here = λ i there. absurd (empty_has i there);
          have_come = λ i there. absurd (empty_has i there);
          worked = λ scene i shot. absurd (false≢true (sym shot.1 ∙ shot.0));
          wait = λ scene i shot. absurd (false≢true (sym shot.1 ∙ shot.0));
          priced = λ scene shot. absurd (false≢true (sym shot.1 ∙ shot.0));
        }) in
        omega (arith, paid, nothing)
      where
        none_yet : (there unpaid_yet : Bool) (pay : ℕ) → cond {A = ℕ} ((there && not there) && unpaid_yet) pay 0 ≡ 0
        none_yet true unpaid_yet pay = refl
        none_yet false unpaid_yet pay = refl
