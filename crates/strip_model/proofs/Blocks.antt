-- Each scene of an order replaced by scenes in which the same actors work.
use Rattle.std.proofs.Common.{◌≡◌, ◌≢◌, ℕ, ◌<◌, Bool, true, false, cond, ◌||◌, ◌⊎◌, List, [], ◌∷◌, ◌++◌, length, sum_by, All, Contains, inl, inr, refl, sym, ap, ◌∙◌, subst, arith}
use Rattle.std.specs.List.{list_any, flat_map}
use Rattle.std.proofs.lemmas.Bool.{cases_Bool, or_left, or_from}
use Rattle.std.proofs.lemmas.List.Concat.{flat_map-cons}
use Rattle.std.proofs.lemmas.List.{append-nil}
use Rattle.std.proofs.lemmas.List.Elements.{All-nil, All-cons, All-head, All-tail}
use Rattle.std.proofs.lemmas.List.Folds.{list_any-append, list_any_none}
use Rattle.std.proofs.lemmas.List.Sums.{sum_by-cons, sum_by-append}
use Rattle.strip_mask.specs.Sums.{sum_below}
use Rattle.strip_mask.proofs.Sums.{sum_below-ext}
use Rattle.strip_model.specs.Film.{FilmData}
use Rattle.strip_model.specs.Pay.{works, from_first, to_last, day_pay, pay_of}
use Rattle.strip_mask.proofs.Lists.{contains_here, contains_later}
use Rattle.std.proofs.Math.Bool.{or-true}
use Rattle.strip_model.proofs.Spans.{to_last-none, to_last-cons, All-from_first}
use Rattle.strip_model.proofs.Seams.{from_first-append_some, from_first-append_none, to_last-append_some, to_last-append_none, to_last-front, paid}

-- what holds of each element that the list contains
pub All-from_contains : {X : Type 0} (P : X → Type 0) (xs : List X) → ((x : X) → Contains xs x → P x) → All P xs
All-from_contains P [] each = All-nil P
All-from_contains P (x ∷ xs) each =
    All-cons P x xs (each x (contains_here x xs)) (All-from_contains P xs (λ y there. each y (contains_later x xs y there)))

-- ---- scenes that all pass, or all fail

module _ (p : ℕ → Bool) where
  all_pass : (x : ℕ) (xs : List ℕ) → All (λ y. p y ≡ true) (x ∷ xs) → list_any p (x ∷ xs) ≡ true
  all_pass x xs all = rw (All-head (λ y. p y ≡ true) x xs all) refl

  to_last-all : (xs : List ℕ) → All (λ y. p y ≡ true) xs → to_last p xs ≡ xs
  to_last-all [] all = refl
  to_last-all (x ∷ xs) all =
      let passes : list_any p (x ∷ xs) ≡ true = all_pass x xs all in
      to_last-front p x xs passes ∙ ap (λ (ys : List ℕ). x ∷ ys) (to_last-all xs (All-tail (λ y. p y ≡ true) x xs all))

  from_first-all : (xs : List ℕ) → All (λ y. p y ≡ true) xs → from_first p xs ≡ xs
  from_first-all [] all = refl
  from_first-all (x ∷ xs) all = rw (All-head (λ y. p y ≡ true) x xs all) refl

  any-block : (b : Bool) (xs : List ℕ) → xs ≢ [] → All (λ y. p y ≡ b) xs → list_any p xs ≡ b
  any-block b [] some all = absurd (some refl)
  any-block true (x ∷ xs) some all = all_pass x xs all
  any-block false (x ∷ xs) some all = list_any_none p (x ∷ xs) all

-- ---- an order of such scenes

-- the scenes that stand for one all pass as it does
abbrev pub StandFor : (ℕ → Bool) → Bool → List ℕ → Type 0
StandFor p b xs = (xs ≢ []) × All (λ y. p y ≡ b) xs

module _ (p q : ℕ → Bool) (e : ℕ → List ℕ) where
  each-head : (x : ℕ) (xs : List ℕ) → All (λ y. StandFor p (q y) (e y)) (x ∷ xs) → StandFor p (q x) (e x)
  each-head x xs each = All-head (λ y. StandFor p (q y) (e y)) x xs each

  each-tail : (x : ℕ) (xs : List ℕ) → All (λ y. StandFor p (q y) (e y)) (x ∷ xs) → All (λ y. StandFor p (q y) (e y)) xs
  each-tail x xs each = All-tail (λ y. StandFor p (q y) (e y)) x xs each

  any-blocks : (order : List ℕ) → All (λ x. StandFor p (q x) (e x)) order → list_any p (flat_map e order) ≡ list_any q order
  any-blocks [] each = refl
  any-blocks (x ∷ xs) each =
      let here : StandFor p (q x) (e x) = each-head x xs each in
      ap (list_any p) (flat_map-cons e x xs) ∙ list_any-append p (e x) (flat_map e xs)
      ∙ ap (λ (b : Bool). b || list_any p (flat_map e xs)) (any-block p (q x) (e x) here.0 here.1) ∙ ap (λ (b : Bool). q x || b) (any-blocks xs (each-tail x xs each))

  pub blocks-from_first : (order : List ℕ) → All (λ x. StandFor p (q x) (e x)) order → from_first p (flat_map e order) ≡ flat_map e (from_first q order)
  blocks-from_first [] each = refl
  blocks-from_first (x ∷ xs) each = elim (cases_Bool (q x)) [
    | inl passes ↦ (let any : list_any p (e x) ≡ true = any_is ∙ passes in
        let whole : from_first p (e x) ≡ e x = from_first-all p (e x) (subst (λ (b : Bool). All (λ y. p y ≡ b) (e x)) passes here.1) in
        rw passes (ap (from_first p) (flat_map-cons e x xs) ∙ from_first-append_some p (e x) (flat_map e xs) any
        ∙ ap (λ (ys : List ℕ). ys ++ flat_map e xs) whole ∙ sym (flat_map-cons e x xs)))
    | inr fails ↦ rw fails (ap (from_first p) (flat_map-cons e x xs) ∙ from_first-append_none p (e x) (flat_map e xs) (any_is ∙ fails)
        ∙ blocks-from_first xs (each-tail x xs each))
  ]
    where
      here : StandFor p (q x) (e x)
      here = each-head x xs each

      any_is : list_any p (e x) ≡ q x
      any_is = any-block p (q x) (e x) here.0 here.1

  pub blocks-to_last : (order : List ℕ) → All (λ x. StandFor p (q x) (e x)) order → to_last p (flat_map e order) ≡ flat_map e (to_last q order)
  blocks-to_last [] each = refl
  blocks-to_last (x ∷ xs) each = ap (to_last p) (flat_map-cons e x xs) ∙ elim (cases_Bool (list_any q xs)) [
    | inl some ↦ to_last-append_some p (e x) (flat_map e xs) (any_later ∙ some) ∙ ap (λ (ys : List ℕ). e x ++ ys) (blocks-to_last xs later)
        ∙ sym (flat_map-cons e x (to_last q xs)) ∙ ap (flat_map e) (sym (to_last-front q x xs (ap (λ (b : Bool). q x || b) some ∙ or-true (q x))))
    | inr none ↦ to_last-append_none p (e x) (flat_map e xs) (any_later ∙ none) ∙ last_block none (cases_Bool (q x))
  ]
    where
      here : StandFor p (q x) (e x)
      here = each-head x xs each

      later : All (λ y. StandFor p (q y) (e y)) xs
      later = each-tail x xs each

      any_later : list_any p (flat_map e xs) ≡ list_any q xs
      any_later = any-blocks xs later

      last_block : list_any q xs ≡ false → (q x ≡ true) ⊎ (q x ≡ false) → to_last p (e x) ≡ flat_map e (to_last q (x ∷ xs))
      last_block none (inl passes) =
          to_last-all p (e x) (subst (λ (b : Bool). All (λ y. p y ≡ b) (e x)) passes here.1) ∙ sym (append-nil (e x)) ∙ sym (flat_map-cons e x [])
          ∙ ap (λ (ys : List ℕ). flat_map e (x ∷ ys)) (sym (to_last-none q xs none)) ∙ ap (flat_map e) (sym (to_last-front q x xs (or_left (q x) (list_any q xs) passes)))
      last_block none (inr fails) =
          to_last-none p (e x) (any-block p (q x) (e x) here.0 here.1 ∙ fails) ∙ ap (flat_map e) (sym (to_last-none q (x ∷ xs) (or_from (q x) (list_any q xs) fails none)))

-- ---- and what it pays

pub All-to_last : (p : ℕ → Bool) (P : ℕ → Type 0) (xs : List ℕ) → All P xs → All P (to_last p xs)
All-to_last p P [] all = All-nil P
All-to_last p P (x ∷ xs) all = subst (All P) (sym (to_last-cons p x xs)) (by_test (p x || list_any p xs) (All-to_last p P xs (All-tail P x xs all)))
  where
    by_test : (b : Bool) → All P (to_last p xs) → All P (cond b (x ∷ to_last p xs) [])
    by_test true rest = All-cons P x (to_last p xs) (All-head P x xs all) rest
    by_test false rest = All-nil P

sum-blocks : (f g : ℕ → ℕ) (e : ℕ → List ℕ) (order : List ℕ) → All (λ x. sum_by f (e x) ≡ g x) order → sum_by f (flat_map e order) ≡ sum_by g order
sum-blocks f g e [] each = refl
sum-blocks f g e (x ∷ xs) each =
    ap (sum_by f) (flat_map-cons e x xs) ∙ sum_by-append f (e x) (flat_map e xs)
    ∙ omega (arith, All-head (λ y. sum_by f (e y) ≡ g y) x xs each, sum-blocks f g e xs (All-tail (λ y. sum_by f (e y) ≡ g y) x xs each), sum_by-cons g x xs)

-- an order whose scenes stand each for one of another order's, with what each actor is paid there, pays the same
pub blocks-pay : (first after : FilmData) (e : ℕ → List ℕ) (order : List ℕ) → length first.rates ≡ length after.rates
    → ((actor x : ℕ) → actor < length after.rates → Contains order x
    → (e x ≢ []) × All (λ y. works first actor y ≡ works after actor x) (e x) × (sum_by (day_pay first actor) (e x) ≡ day_pay after actor x))
    → pay_of first (flat_map e order) ≡ pay_of after order
blocks-pay first after e order same each =
    ap (λ (n : ℕ). sum_below n (λ actor. paid (works first actor) (day_pay first actor) (flat_map e order))) same
    ∙ sum_below-ext (length after.rates) (λ actor. paid (works first actor) (day_pay first actor) (flat_map e order))
    (λ actor. paid (works after actor) (day_pay after actor) order) (λ actor lt. actor_pay (works first actor) (works after actor) (day_pay first actor) (day_pay after actor)
    (All-from_contains (λ x. StandFor (works first actor) (works after actor x) (e x)) order (λ x there. (let h = each actor x lt there in (h.0, h.1))))
    (All-from_contains (λ x. sum_by (day_pay first actor) (e x) ≡ day_pay after actor x) order (λ x there. (each actor x lt there).2)))
  where
    actor_pay : (p q : ℕ → Bool) (f g : ℕ → ℕ) → All (λ x. StandFor p (q x) (e x)) order → All (λ x. sum_by f (e x) ≡ g x) order
        → paid p f (flat_map e order) ≡ paid q g order
    actor_pay p q f g blocks sums =
        ap (λ (xs : List ℕ). sum_by f (to_last p xs)) (blocks-from_first p q e order blocks)
        ∙ ap (sum_by f) (blocks-to_last p q e (from_first q order) (All-from_first q (λ x. StandFor p (q x) (e x)) order blocks))
        ∙ sum-blocks f g e (to_last q (from_first q order)) (All-to_last q (λ x. sum_by f (e x) ≡ g x) (from_first q order)
        (All-from_first q (λ x. sum_by f (e x) ≡ g x) order sums))
