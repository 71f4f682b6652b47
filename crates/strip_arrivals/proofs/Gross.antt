-- Totals with what those who work in a scene of the group get for its days beside.
use Rattle.std.proofs.Common.{◌≡◌, ℕ, ◌+◌, ◌*◌, ◌<◌, ◌≤◌, ◌⊎◌, Bool, true, false, not, ◌&&◌, cond, min, List, [], ◌∷◌, Contains, slice_index, refl, sym, ap, ◌∙◌, subst, inl, inr, arith}
use Rattle.std.proofs.Math.Nat.{min-le_left, min-le_right, min-eq_left, min-eq_right}
use Rattle.std.proofs.lemmas.Bool.{cases_lt, false≢true, or_left}
use Rattle.strip_mask.specs.Set.{has, meet, minus, sum_over}
use Rattle.strip_mask.specs.Sums.{sum_below}
use Rattle.strip_mask.proofs.ByMembers.{has-empty, has-meet, has-minus, has-union, same_has}
use Rattle.strip_mask.proofs.Sums.{sum_below-add, sum_below-ext, sum_below-none, sum_below-scale}
use Rattle.strip_mask.proofs.Totals.{sum_over-minus, sum_over_is, sum_over-empty}
use Rattle.strip_group.specs.Group.{GroupData}
use Rattle.strip_arrivals.specs.Arrivals.{Event, IsOver, IsRun, StateData, after, allowed, charge, comes, events, goes, is_allowed, is_open, leaves, price, total}
use Rattle.strip_arrivals.specs.Gross.{IsBest, IsGross, gross_charge, gross_price, own_pay, weighted}
use Rattle.strip_arrivals.proofs.Lists.{contains_from_filter, sum_passing}
use Rattle.strip_arrivals.proofs.Casts.{none_works}
use Rattle.strip_arrivals.proofs.Open.{open_after_going, open_after_leaving}

-- ---- days at rates

-- scenes that all have one rate
pub weighted_alike : (film : GroupData) (chosen rate : ℕ) (f : ℕ → ℕ) → ((i : ℕ) → has chosen i ≡ true → f i ≡ rate)
    → weighted film (has chosen) f ≡ rate * sum_over film.days chosen
weighted_alike film chosen rate f alike =
    sum_below-ext 64 (λ i. cond {A = ℕ} (has chosen i) (slice_index film.days i * f i) 0) (λ i. rate * cond {A = ℕ} (has chosen i) (slice_index film.days i) 0)
    (λ i _. by_test (has chosen i) (slice_index film.days i) (f i) (alike i))
    ∙ sum_below-scale 64 rate (λ i. cond {A = ℕ} (has chosen i) (slice_index film.days i) 0)
    ∙ ap (λ (n : ℕ). rate * n) (sym (sum_over_is film.days chosen))
  where
    by_test : (b : Bool) (days at : ℕ) → (b ≡ true → at ≡ rate) → cond {A = ℕ} b (days * at) 0 ≡ rate * cond {A = ℕ} b days 0
    by_test true days at is = ap (λ (n : ℕ). days * n) (is refl) ∙ omega arith
    by_test false days at is = omega arith

-- what is charged, class by class
pub by_class : (film : GroupData) (set chosen : ℕ) (scenes rate f : ℕ → ℕ)
    → (sum_below 4 (λ kind. weighted film (has (meet chosen (scenes kind))) f) ≡ weighted film (has (meet chosen set)) f)
    → ((kind i : ℕ) → kind < 4 → has (meet chosen (scenes kind)) i ≡ true → f i ≡ rate kind)
    → sum_below 4 (λ kind. rate kind * sum_over film.days (meet chosen (scenes kind))) ≡ weighted film (has (meet chosen set)) f
by_class film set chosen scenes rate f parts alike =
    sym (sum_below-ext 4 (λ kind. weighted film (has (meet chosen (scenes kind))) f) (λ kind. rate kind * sum_over film.days (meet chosen (scenes kind)))
    (λ kind lt. weighted_alike film (meet chosen (scenes kind)) (rate kind) f (λ i there. alike kind i lt there)))
    ∙ parts

-- ---- a charge, and what was added

balance : (there unpaid works : Bool) (paid gross own : ℕ) → (unpaid ≡ true → gross ≡ paid + own)
    → cond {A = ℕ} (there && (unpaid && works)) paid 0 + cond {A = ℕ} (there && unpaid) own 0
    ≡ cond {A = ℕ} (there && (unpaid && works)) gross 0 + cond {A = ℕ} (there && (unpaid && not works)) own 0
balance false unpaid works paid gross own is = omega arith
balance true false works paid gross own is = omega arith
balance true true true paid gross own is = omega (arith, is refl)
balance true true false paid gross own is = omega arith

module _ (film : GroupData) (set group : ℕ) where
  -- the price of an open scene, and what those of the group who work in it get
  pub gross_is : (state : StateData) (scene : ℕ) → is_open film state scene ≡ true
      → gross_price film set group state (slice_index film.casts scene) ≡ price film set group state scene + sum_over film.holds (meet (slice_index film.casts scene) group)
  gross_is state scene unpaid =
      let cast : ℕ = slice_index film.casts scene in
      let here : meet (minus group state.left) cast ≡ meet cast group
      = same_has (meet (minus group state.left) cast) (meet cast group) (λ i.
      has-meet (minus group state.left) cast i ∙ ap (λ b. b && has cast i) (has-minus group state.left i)
      ∙ none_left (has group i) (has state.left i) (has cast i) (λ works left. none_works film _ scene i unpaid works (has-union state.left state.gone i ∙ or_left (has state.left i) (has state.gone i) left))
      ∙ sym (has-meet cast group i)) in
      omega (arith, sum_over-minus film.holds (minus group state.left) cast, ap (sum_over film.holds) here)
    where
      none_left : (g l c : Bool) → (c ≡ true → l ≡ true → ⊥) → ((g && not l) && c) ≡ (c && g)
      none_left true true true none = absurd (none refl refl)
      none_left true true false none = refl
      none_left true false true none = refl
      none_left true false false none = refl
      none_left false l true none = refl
      none_left false l false none = refl

  abbrev paid_at : StateData → ℕ → ℕ
  paid_at state scene = slice_index film.days scene * price film set group state scene

  abbrev gross_at : StateData → ℕ → ℕ
  gross_at state scene = slice_index film.days scene * gross_price film set group state (slice_index film.casts scene)

  abbrev own_at : ℕ → ℕ
  own_at scene = slice_index film.days scene * sum_over film.holds (meet (slice_index film.casts scene) group)

  at_rates : (state : StateData) (scene : ℕ) → is_open film state scene ≡ true → gross_at state scene ≡ paid_at state scene + own_at scene
  at_rates state scene unpaid =
      ap (λ (n : ℕ). slice_index film.days scene * n) (gross_is state scene unpaid)
      ∙ spread (slice_index film.days scene) (price film set group state scene) (sum_over film.holds (meet (slice_index film.casts scene) group))
    where
      spread : (d a b : ℕ) → d * (a + b) ≡ d * a + d * b
      spread d a b = omega arith

  -- one who works in these scenes is off
  off : (state later : StateData) (actor : ℕ) → ((scene : ℕ) → is_open film later scene ≡ (is_open film state scene && not (has (slice_index film.casts scene) actor)))
      → sum_below 64 (λ scene. cond {A = ℕ} (has set scene && (is_open film state scene && has (slice_index film.casts scene) actor)) (paid_at state scene) 0) + own_pay film set group state
      ≡ sum_below 64 (λ scene. cond {A = ℕ} (has set scene && (is_open film state scene && has (slice_index film.casts scene) actor)) (gross_at state scene) 0) + own_pay film set group later
  off state later actor stays =
      let closed : ℕ → Bool = λ scene. has set scene && (is_open film state scene && has (slice_index film.casts scene) actor) in
      let paid : ℕ → ℕ = λ scene. cond {A = ℕ} (closed scene) (paid_at state scene) 0 in
      let gross : ℕ → ℕ = λ scene. cond {A = ℕ} (closed scene) (gross_at state scene) 0 in
      let own : ℕ → ℕ = λ scene. cond {A = ℕ} (has set scene && is_open film state scene) (own_at scene) 0 in
      let kept : ℕ → ℕ = λ scene. cond {A = ℕ} (has set scene && is_open film later scene) (own_at scene) 0 in
      sym (sum_below-add 64 paid own)
      ∙ sum_below-ext 64 (λ scene. paid scene + own scene) (λ scene. gross scene + kept scene) (λ scene _.
      balance (has set scene) (is_open film state scene) (has (slice_index film.casts scene) actor) (paid_at state scene) (gross_at state scene) (own_at scene) (at_rates state scene)
      ∙ ap (λ b. gross scene + cond {A = ℕ} (has set scene && b) (own_at scene) 0) (sym (stays scene)))
      ∙ sum_below-add 64 gross kept

  -- a coming costs nothing
  pub comes_free : (state : StateData) (actor : ℕ) → gross_charge film set group state (comes actor) ≡ 0
  comes_free state actor = sum_below-none 64 (λ scene. cond {A = ℕ} (has 0 scene) (gross_at state scene) 0) (λ scene _. ap (λ b. cond {A = ℕ} b (gross_at state scene) 0) (has-empty scene))

  pub charged : (state : StateData) (event : Event)
      → charge film set group state event + own_pay film set group state ≡ gross_charge film set group state event + own_pay film set group (after state event)
  charged state (comes actor) =
      let nothing : gross_charge film set group state (comes actor) ≡ 0
      = sum_below-none 64 (λ scene. cond {A = ℕ} (has 0 scene) (gross_at state scene) 0) (λ scene _. ap (λ b. cond {A = ℕ} b (gross_at state scene) 0) (has-empty scene)) in
      omega (arith, nothing)
  charged state (leaves actor) =
      ap (λ (n : ℕ). n + own_pay film set group state) (sum_passing (paid_at state) (λ scene. is_open film state scene && has (slice_index film.casts scene) actor) set)
      ∙ off state (after state (leaves actor)) actor (open_after_leaving film state actor)
  charged state (goes actor) =
      ap (λ (n : ℕ). n + own_pay film set group state) (sum_passing (paid_at state) (λ scene. is_open film state scene && has (slice_index film.casts scene) actor) set)
      ∙ off state (after state (goes actor)) actor (open_after_going film state actor)

  -- where all is over, nothing was added
  pub none_added : (state : StateData) → IsOver group state → own_pay film set group state ≡ 0
  none_added state over = sum_below-none 64 (λ scene. cond {A = ℕ} (has set scene && is_open film state scene) (own_at scene) 0) (λ scene _.
      by_test (has set scene) (is_open film state scene) (own_at scene) (λ unpaid.
      let none : meet (slice_index film.casts scene) group ≡ 0
      = same_has (meet (slice_index film.casts scene) group) 0 (λ i. has-meet (slice_index film.casts scene) group i
      ∙ all_left (has group i) (has state.left i) (has (slice_index film.casts scene) i) (sym (has-minus group state.left i) ∙ ap (λ (s : ℕ). has s i) over.0 ∙ has-empty i)
      (λ works left. none_works film _ scene i unpaid works (has-union state.left state.gone i ∙ or_left (has state.left i) (has state.gone i) left))
      ∙ sym (has-empty i)) in
      ap (λ (s : ℕ). slice_index film.days scene * sum_over film.holds s) none ∙ omega (arith, ap (λ (n : ℕ). slice_index film.days scene * n) (sum_over-empty film.holds))))
    where
      by_test : (there unpaid : Bool) (own : ℕ) → (unpaid ≡ true → own ≡ 0) → cond {A = ℕ} (there && unpaid) own 0 ≡ 0
      by_test true true own none = none refl
      by_test true false own none = refl
      by_test false unpaid own none = refl

      all_left : (g l c : Bool) → (g && not l) ≡ false → (c ≡ true → l ≡ true → ⊥) → (c && g) ≡ false
      all_left g l false kept none = refl
      all_left false l true kept none = refl
      all_left true true true kept none = absurd (none refl refl)
      all_left true false true kept none = absurd (false≢true (sym kept))

  -- ---- the least by what can happen first

  -- nothing yet
  pub none_tried : (never : ℕ) (tried : Event → Type 0) (state : StateData) (least : ℕ) → ((event : Event) → tried event → ⊥) → (IsOver group state → least ≡ 0)
      → (never ≤ least) ⊎ IsOver group state → IsBest film set group never state tried least
  none_tried never tried state least none at_end begun = record {
    over = at_end;
    no_more = λ event may was. absurd (none event was);
    attained = elim begun [ inl top ↦ inl top | inr over ↦ inr (inl over) ];
  }

  -- one event, where all isn't over
  pub first_tried : (never : ℕ) (tried : Event → Type 0) (state : StateData) (later : ℕ) (event : Event) → (IsOver group state → ⊥)
      → ((other : Event) → tried other → event ≡ other) → Contains (allowed film set group state) event → IsGross film set group (after state event) later
      → IsBest film set group never state tried (gross_charge film set group state event + later)
  first_tried never tried state later event going_on only may gross = record {
    over = λ over. absurd (going_on over);
    no_more = λ other allow was. (
      later,
      subst (λ e. IsGross film set group (after state e) later) (only other was) gross,
      subst (λ e. gross_charge film set group state event + later ≤ gross_charge film set group state e + later) (only other was) (omega arith),
    );
    attained = inr (inr (event, may, (later, gross, refl)));
  }

  -- nothing more that is allowed
  pub none_more : (never : ℕ) (tried more : Event → Type 0) (state : StateData) (least : ℕ) → IsBest film set group never state tried least
      → ((event : Event) → Contains (allowed film set group state) event → more event → tried event) → IsBest film set group never state more least
  none_more never tried more state least best within = record {
    over = best.over;
    no_more = λ event may was. best.no_more event may (within event may was);
    attained = best.attained;
  }

  -- one more that is
  pub one_tried : (never : ℕ) (tried more : Event → Type 0) (state : StateData) (least later : ℕ) (event : Event) → IsBest film set group never state tried least
      → ((other : Event) → more other → tried other ⊎ (event ≡ other)) → Contains (allowed film set group state) event
      → IsGross film set group (after state event) later
      → IsBest film set group never state more (min least (gross_charge film set group state event + later))
  one_tried never tried more state least later event best within may gross =
      let paid : ℕ = gross_charge film set group state event + later in
      let first : min least paid ≤ least = min-le_left least paid in
      let second : min least paid ≤ paid = min-le_right least paid in
      record {
        over = λ over. (let none = best.over over in omega (arith, none, first));
        no_more = λ other allow was. elim (within other was) [
          | inl before ↦ (let found = best.no_more other allow before in (found.0, found.1, omega (arith, found.2, first)))
          | inr is ↦ (
            later,
            subst (λ e. IsGross film set group (after state e) later) is gross,
            subst (λ e. min least paid ≤ gross_charge film set group state e + later) is second,
          )
        ];
        attained = elim (cases_lt least paid) [
          | inl less ↦ (let is : min least paid ≡ least = min-eq_left (omega (arith, less)) in elim best.attained [
            | inl top ↦ inl (omega (arith, is, top))
            | inr rest ↦ elim rest [
              | inl over ↦ inr (inl over)
              | inr by ↦ inr (inr (by.0, by.1, (by.2.0, by.2.1, is ∙ by.2.2)))
            ]
          ])
          | inr more_paid ↦ inr (inr (event, may, (later, gross, min-eq_right more_paid)))
        ];
      }

  -- when all was tried, and less than the number that stands for nothing was found
  pub all_tried : (never : ℕ) (tried : Event → Type 0) (state : StateData) (least : ℕ) → IsBest film set group never state tried least
      → ((event : Event) → Contains (events group state) event → tried event) → least < never → IsGross film set group state least
  all_tried never tried state least best whole low = elim best.attained [
    | inl top ↦ absurd (omega (arith, top, low))
    | inr rest ↦ elim rest [
      | inl over ↦ (
          let none = best.over over in
          record {
            net = 0;
            is_least = record { attained = ([], over, refl); least = λ run is_run. omega arith };
            added = omega (arith, none, none_added state over);
          })
      | inr by ↦ (
          let later = by.2.1 in
          let gone = charged state by.0 in
          let paid : ℕ = charge film set group state by.0 + later.net in
          record {
            net = paid;
            is_least = record {
              attained = (by.0 ∷ later.is_least.attained.0, (by.1, later.is_least.attained.1), ap (λ (n : ℕ). charge film set group state by.0 + n) later.is_least.attained.2);
              least = no_less paid (omega (arith, by.2.2, later.added, gone));
            };
            added = omega (arith, by.2.2, later.added, gone);
          })
    ]
  ]
    where
      known : (event : Event) → Contains (allowed film set group state) event → Contains (events group state) event
      known event may = (contains_from_filter (is_allowed film set state) (events group state) event may).0

      no_less : (paid : ℕ) → (least ≡ paid + own_pay film set group state) → (run : List Event) → IsRun film set group state run → paid ≤ total film set group state run
      no_less paid is [] over = (let none = best.over over in omega (arith, none, is))
      no_less paid is (event ∷ run) (may, rest) =
          let found = best.no_more event may (whole event (known event may)) in
          let later = found.1 in
          let fewest = later.is_least.least run rest in
          let gone = charged state event in
          omega (arith, is, found.2, later.added, fewest, gone)
