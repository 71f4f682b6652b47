-- What lines make known and justify, by numbers.
use Rattle.std.proofs.Common.{◌≡◌, ◌≢◌, ◌↔◌, ◌⊎◌, ℕ, ◌+◌, ◌<◌, ◌≤◌, leb, max, min, Bool, true, false, List, [], ◌∷◌, All, Contains, ◌++◌, inl, inr, refl, sym, ap, ◌∙◌, subst, arith}
use Rattle.std.proofs.lemmas.Bool.{cases_lt, le-leb, leb-true, lt-leb}
use Rattle.std.proofs.lemmas.List.Elements.{All-contains, All-push, Contains-append_left, Contains-append_right, Contains-push}
use Rattle.strip_mask.specs.Set.{IsSet, members, without}
use Rattle.strip_mask.proofs.ByMembers.{some_member}
use Rattle.strip_mask.proofs.Members.{Contains-members, members-empty}
use Rattle.strip_model.proofs.Blocks.{All-from_contains}
use Rattle.strip_model.proofs.Lists.{contains_here, contains_later, contains_none, same_test}
use Rattle.strip_film.specs.declared.shared.Line.{Line}
use Rattle.strip_film.specs.Rules.{Rules}
use Rattle.strip_film.specs.Shoot.{step_cost}
use Rattle.strip_lines.specs.Lines.{known, least_of, least_step}
use Rattle.strip_lines.proofs.Ahead.{least_step_le}
use Rattle.strip_check.specs.Reasons.{by_lines, justified}

-- a static bound that reaches so far decides
pub by_static : (need reach bound best known : ℕ) → known ≡ max bound best → reach ≤ bound → need ≤ reach → (leb need reach ≡ true) ↔ (need ≤ known)
by_static need reach bound best known is most reaches = (λ yes. omega (arith, is, most, reaches), λ le. le-leb need reach reaches)

-- else the best line does
pub by_line : (need reach bound best known : ℕ) → known ≡ max bound best → (need ≤ reach) ⊎ (reach ≡ bound) → reach < need → (leb need best ≡ true) ↔ (need ≤ known)
by_line need reach bound best known is (inl reaches) short = absurd (omega (arith, reaches, short))
by_line need reach bound best known is (inr whole) short =
    (λ yes. (let le = leb-true need best yes in omega (arith, is, le)), λ le. le-leb need best (omega (arith, is, whole, short, le)))

-- ---- the turns of a loop over a list

-- what holds of each number of a list holds of the one of a turn
pub at_turn : (P : ℕ → Type 0) (all done rest left : List ℕ) (x : ℕ) → done ++ rest ≡ all → rest ≡ x ∷ left → All P all → P x
at_turn P all done rest left x whole here each =
    All-contains P all x each
    (subst (λ (xs : List ℕ). Contains xs x) (ap (λ (xs : List ℕ). done ++ xs) (sym here) ∙ whole) (Contains-append_right done (x ∷ left) x (contains_here x left)))

-- ---- the least step

-- what each number of a list reaches, the least does
least_reaches : (f : ℕ → ℕ) (b x : ℕ) (xs : List ℕ) → ((y : ℕ) → Contains (x ∷ xs) y → b ≤ f y) → b ≤ least_of f x xs
least_reaches f b x [] each = each x (contains_here x [])
least_reaches f b x (y ∷ ys) each =
    omega (arith, each x (contains_here x (y ∷ ys)), least_reaches f b y ys (λ z there. each z (contains_later x (y ∷ ys) z there)))

pub least_step_reaches : (rules : Rules) (set none b : ℕ) (scenes : List ℕ) → scenes ≢ []
    → ((scene : ℕ) → Contains scenes scene → b ≤ step_cost rules.film set scene + rules.bound (without set scene))
    → b ≤ least_step rules set none scenes
least_step_reaches rules set none b [] some each = absurd (some refl)
least_step_reaches rules set none b (x ∷ xs) some each = least_reaches (λ s. step_cost rules.film set s + rules.bound (without set s)) b x xs each

-- a number is the least that those of a list reach; with none of them it is `top`
pub record IsLeastOf (f : ℕ → ℕ) (top least : ℕ) (xs : List ℕ) : Type 0 where
  pub lower : All (λ x. least ≤ f x) xs
  pub attained : ((xs ≡ []) × (least ≡ top)) ⊎ ((x : ℕ) × Contains xs x × (f x ≡ least))

pub least_more : (f : ℕ → ℕ) (top least : ℕ) (xs : List ℕ) (x : ℕ) → IsLeastOf f top least xs → f x ≤ top → IsLeastOf f top (min least (f x)) (xs ++ x ∷ [])
least_more f top least xs x is fits = record {
  lower = All-push (λ y. min least (f x) ≤ f y) xs x (λ place default within. (let old = is.lower place default within in omega (arith, old))) (omega arith);
  attained = inr (found is.attained);
}
  where
    this : f x ≤ least → (y : ℕ) × Contains (xs ++ x ∷ []) y × (f y ≡ min least (f x))
    this less = (x, Contains-push xs x, omega (arith, less))

    found : ((xs ≡ []) × (least ≡ top)) ⊎ ((y : ℕ) × Contains xs y × (f y ≡ least)) → (y : ℕ) × Contains (xs ++ x ∷ []) y × (f y ≡ min least (f x))
    found (inl (none, is_top)) = this (omega (arith, is_top, fits))
    found (inr (y, there, same)) = elim (cases_lt (f x) least) [
      | inl less ↦ this (omega (arith, less))
      | inr more ↦ (y, Contains-append_left xs (x ∷ []) y there, omega (arith, same, more))
    ]

-- of a list that isn't empty it is the least step
pub least_is : (rules : Rules) (set none top least : ℕ) (xs : List ℕ) → xs ≢ []
    → IsLeastOf (λ s. step_cost rules.film set s + rules.bound (without set s)) top least xs → least ≡ least_step rules set none xs
least_is rules set none top least xs some is =
    let reaches : least ≤ least_step rules set none xs = least_step_reaches rules set none least xs some
    (λ x there. All-contains (λ s. least ≤ step_cost rules.film set s + rules.bound (without set s)) xs x is.lower there) in
    elim is.attained [
      | inl (empty, is_top) ↦ absurd (some empty)
      | inr (x, there, same) ↦ (let most : least_step rules set none xs ≤ step_cost rules.film set x + rules.bound (without set x)
          = least_step_le rules set none xs x there in
          omega (arith, reaches, most, same))
    ]

-- the members of a set that isn't empty
pub some_members : (set : ℕ) → IsSet set → set ≢ 0 → members set ≢ []
some_members set is some none =
    let found = some_member set is some in
    contains_none found.0 (subst (λ (xs : List ℕ). Contains xs found.0) none (Contains-members set found.0 is found.2))

-- ---- what is justified

module _ (rules : Rules) (lines : List Line) (set bound : ℕ) where
  -- each first step and what is known of the rest reach the bound
  abbrev pub Reach : Type 0
  Reach = All (λ scene. bound ≤ step_cost rules.film set scene + known rules lines (without set scene)) (members (rules.firsts set))

  -- above the static bound, a bound of a set with firsts is justified exactly where they reach it
  pub justified_by_steps : IsSet (rules.firsts set) → rules.firsts set ≢ 0 → Reach → bound ≤ justified rules lines set
  justified_by_steps is some each =
      let least : bound ≤ least_step (by_lines rules lines) set (rules.bound set) (members (rules.firsts set))
      = least_step_reaches (by_lines rules lines) set (rules.bound set) bound (members (rules.firsts set)) (some_members (rules.firsts set) is some)
      (λ scene there. All-contains (λ s. bound ≤ step_cost rules.film set s + known rules lines (without set s)) (members (rules.firsts set)) scene each there) in
      omega (arith, least)

  pub steps_by_justified : rules.bound set < bound → bound ≤ justified rules lines set → Reach
  steps_by_justified short le =
      All-from_contains (λ s. bound ≤ step_cost rules.film set s + known rules lines (without set s)) (members (rules.firsts set))
      (λ scene there. (let least : least_step (by_lines rules lines) set (rules.bound set) (members (rules.firsts set)) ≤ step_cost rules.film set scene + known rules lines (without set scene)
      = least_step_le (by_lines rules lines) set (rules.bound set) (members (rules.firsts set)) scene there in
      omega (arith, short, le, least)))

  -- without firsts the static bound is all
  pub justified_alone : rules.firsts set ≡ 0 → justified rules lines set ≡ rules.bound set
  justified_alone none =
      let same : least_step (by_lines rules lines) set (rules.bound set) (members (rules.firsts set)) ≡ rules.bound set
      = ap (least_step (by_lines rules lines) set (rules.bound set)) (ap members none ∙ members-empty) in
      omega (arith, same)

  -- the two ways in which a bound above the static one is decided
  pub no_firsts_decide : (reach : ℕ) → (bound ≤ reach) ⊎ (reach ≡ rules.bound set) → reach < bound → rules.firsts set ≡ 0
      → false ≡ leb bound (justified rules lines set)
  no_firsts_decide reach (inl reaches) short none = absurd (omega (arith, reaches, short))
  no_firsts_decide reach (inr whole) short none = sym (lt-leb bound (justified rules lines set) (omega (arith, whole, short, justified_alone none)))

  pub steps_decide : (reach : ℕ) (test : Bool) → (bound ≤ reach) ⊎ (reach ≡ rules.bound set) → reach < bound → IsSet (rules.firsts set)
      → rules.firsts set ≢ 0 → (test ≡ true) ↔ Reach → test ≡ leb bound (justified rules lines set)
  steps_decide reach test (inl reaches) short is some decides = absurd (omega (arith, reaches, short))
  steps_decide reach test (inr whole) short is some decides =
      same_test test (leb bound (justified rules lines set))
      (λ yes. le-leb bound (justified rules lines set) (justified_by_steps is some (decides.0 yes)))
      (λ yes. decides.1 (steps_by_justified (omega (arith, whole, short)) (leb-true bound (justified rules lines set) yes)))
