-- Trying the ready scenes one by one as the next of a path.
use Rattle.std.proofs.Common.{◌≡◌, ℕ, ◌<◌, ◌≤◌, true, false, List, [], ◌∷◌, ◌++◌, Contains, refl, sym, ap, ◌∙◌, subst, inl, inr, arith, append_assoc, Option, None, Some, MatchOption, MatchBool, nat_lt, Result, Ok, Err, IfOk}
use Rattle.std.proofs.lemmas.List.Elements.{Contains-append_left, Contains-push, Contains-push_cases}
use Rattle.std.proofs.lemmas.Bool.{cases_lt, lt-ltb, le-ltb}
use Rattle.std.proofs.lemmas.Bool.Decides.{when_true, when_false}
use Rattle.strip_mask.specs.Set.{has, members}
use Rattle.strip_mask.proofs.ByMembers.{has-empty}
use Rattle.strip_mask.proofs.Members.{has_from_members}
use Rattle.strip_model.specs.Film.{FilmData}
use Rattle.strip_model.specs.Order.{IsKeptOrder, IsBefore}
use Rattle.strip_model.specs.Pay.{pay_of, IsLeast, IsOptimum}
use Rattle.strip_model.proofs.Lists.{contains_none}
use Rattle.strip_film.specs.Film.{IsFilm}
use Rattle.strip_film.specs.Path.{IsPath, PathData}
use Rattle.strip_film.specs.Shoot.{ready}
use Rattle.strip_film.proofs.Lists.{ready_there}
use Rattle.test_search.specs.declared.cheapest.Cheapest.{Cheapest}
use Rattle.test_search.specs.Cheapest.{IsFirstCheapest}
use Rattle.test_search.specs.Beginning.{BeginsWith, IsFirstCheapestFrom}
use Rattle.test_search.proofs.Next.{among_ready, goes_on, nothing_remains, only_order, paid_is_pay}

-- the first of the cheapest among the orders that keep the pairs and go on, after these scenes, with one that was tried
pub record IsFirstCheapestAmong (film : FilmData) (begun tried order : List ℕ) : Type 0 where
  pub is_kept : IsKeptOrder film order
  pub begins : (scene : ℕ) × Contains tried scene × BeginsWith (begun ++ scene ∷ []) order
  pub least : (scene : ℕ) (other : List ℕ) → Contains tried scene → IsKeptOrder film other
      → BeginsWith (begun ++ scene ∷ []) other → pay_of film order ≤ pay_of film other
  pub first : (scene : ℕ) (other : List ℕ) → Contains tried scene → IsKeptOrder film other
      → BeginsWith (begun ++ scene ∷ []) other → pay_of film other ≡ pay_of film order → IsBefore other order → ⊥

-- what is known when these scenes were tried: the best order, or that there were none
abbrev pub IsBestAmong : FilmData → List ℕ → List ℕ → Option Cheapest → Type 0
IsBestAmong film begun tried None = tried ≡ []
IsBestAmong film begun tried (Some best) =
    IsFirstCheapestAmong film begun tried best.order.items × (best.pay ≡ pay_of film best.order.items)

-- of two lists that begin alike, one that goes on with a greater number isn't before the other
later_next : (begun xs ys : List ℕ) (s t : ℕ) → t < s → IsBefore ((begun ++ s ∷ []) ++ xs) ((begun ++ t ∷ []) ++ ys) → ⊥
later_next [] xs ys s t lt before = elim before [ inl less ↦ omega arith | inr (same, rest) ↦ omega arith ]
later_next (x ∷ begun) xs ys s t lt before = elim before [ inl less ↦ omega arith | inr (same, rest) ↦ later_next begun xs ys s t lt rest ]

-- ---- a turn

module _ (film : FilmData) (begun tried : List ℕ) (next : ℕ) where
  abbrev more : List ℕ
  more = tried ++ next ∷ []

  here_is : (scene : ℕ) (other : List ℕ) → next ≡ scene → BeginsWith (begun ++ scene ∷ []) other → BeginsWith (begun ++ next ∷ []) other
  here_is scene other same begins = subst (λ (i : ℕ). BeginsWith (begun ++ i ∷ []) other) (sym same) begins

  -- what an order that goes on with this scene or an earlier one is compared with
  module _ (found : Cheapest) (is : IsFirstCheapestFrom film (begun ++ next ∷ []) found.order.items)
      (pay : found.pay ≡ pay_of film found.order.items) where
    first_tried : tried ≡ [] → IsFirstCheapestAmong film begun more found.order.items
    first_tried none = record {
      is_kept = is.is_kept;
      begins = (next, Contains-push tried next, is.begins);
      least = λ scene other among kept begins. is.least other kept (here_is scene other (only scene among) begins);
      first = λ scene other among kept begins equal. is.first other kept (here_is scene other (only scene among) begins) equal;
    }
      where
        only : (scene : ℕ) → Contains more scene → next ≡ scene
        only scene among = elim (Contains-push_cases tried next scene among) [
          | inl earlier ↦ absurd (contains_none scene (subst (λ (xs : List ℕ). Contains xs scene) none earlier))
          | inr same ↦ same
        ]

    found_wins : (best : Cheapest) → IsBestAmong film begun tried (Some best) → found.pay < best.pay → IsFirstCheapestAmong film begun more found.order.items
    found_wins best (known, best_pay) less = record {
      is_kept = is.is_kept;
      begins = (next, Contains-push tried next, is.begins);
      least = λ scene other among kept begins. elim (Contains-push_cases tried next scene among) [
        | inl earlier ↦ (let dearer : pay_of film best.order.items ≤ pay_of film other = known.least scene other earlier kept begins in omega arith)
        | inr same ↦ is.least other kept (here_is scene other same begins)
      ];
      first = λ scene other among kept begins equal. elim (Contains-push_cases tried next scene among) [
        | inl earlier ↦ (let dearer : pay_of film best.order.items ≤ pay_of film other = known.least scene other earlier kept begins in absurd (omega arith))
        | inr same ↦ is.first other kept (here_is scene other same begins) equal
      ];
    }

    best_stays : ((x : ℕ) → Contains tried x → x < next) → (best : Cheapest) → IsBestAmong film begun tried (Some best) → best.pay ≤ found.pay
        → IsFirstCheapestAmong film begun more best.order.items
    best_stays lesser best (known, best_pay) less = record {
      is_kept = known.is_kept;
      begins = (known.begins.0, Contains-append_left tried (next ∷ []) known.begins.0 known.begins.1, known.begins.2);
      least = λ scene other among kept begins. elim (Contains-push_cases tried next scene among) [
        | inl earlier ↦ known.least scene other earlier kept begins
        | inr same ↦ (let dearer : pay_of film found.order.items ≤ pay_of film other = is.least other kept (here_is scene other same begins) in omega arith)
      ];
      first = λ scene other among kept begins equal. elim (Contains-push_cases tried next scene among) [
        | inl earlier ↦ known.first scene other earlier kept begins equal
        | inr same ↦ later (here_is scene other same begins) known.begins.2
      ];
    }
      where
        later : {other : List ℕ} → BeginsWith (begun ++ next ∷ []) other → BeginsWith (begun ++ known.begins.0 ∷ []) best.order.items → IsBefore other best.order.items → ⊥
        later {other} (xs, e) (ys, f) before =
            later_next begun xs ys next known.begins.0 (lesser known.begins.0 known.begins.1) (rw (e, f) at before)

  -- a scene is tried, greater than those before it
  pub best_tries : ((x : ℕ) → Contains tried x → x < next) → (best : Option Cheapest) (found result : Cheapest)
      → IsFirstCheapestFrom film (begun ++ next ∷ []) found.order.items → found.pay ≡ pay_of film found.order.items
      → MatchOption best (result ≡ found) (λ b. MatchBool (nat_lt found.pay b.pay) (result ≡ found) (result ≡ b))
      → IsBestAmong film begun tried best → IsBestAmong film begun more (Some result)
  best_tries lesser None found result is pay chosen known =
      subst (λ (b : Cheapest). IsBestAmong film begun more (Some b)) (sym chosen) (first_tried found is pay known, pay)
  best_tries lesser (Some best) found result is pay chosen known =
      elim (cases_lt found.pay best.pay) [
        | inl less ↦ (let takes : result ≡ found = when_true (result ≡ found) (result ≡ best) (lt-ltb found.pay best.pay less) chosen in
            subst (λ (b : Cheapest). IsBestAmong film begun more (Some b)) (sym takes) (found_wins found is pay best known less, pay))
        | inr not_less ↦ (let keeps : result ≡ best = when_false (result ≡ found) (result ≡ best) (le-ltb found.pay best.pay not_less) chosen in
            subst (λ (b : Cheapest). IsBestAmong film begun more (Some b)) (sym keeps) (best_stays found is pay lesser best known not_less, known.1))
      ]

-- ---- at the end

pub best_pay : (film : FilmData) (begun tried : List ℕ) (best : Option Cheapest) (b : Cheapest) → best ≡ Some b → IsBestAmong film begun tried best
    → b.pay ≡ pay_of film b.order.items
best_pay film begun tried best b some known = (subst (IsBestAmong film begun tried) some known).1

module _ (film : FilmData) (limits : IsFilm film) (path : PathData) (is : IsPath film path) (tried : List ℕ) (all : tried ≡ members (ready film path.rest)) where
  pub none_left : (best : Option Cheapest) → best ≡ None → IsBestAmong film path.scenes tried best → path.rest ≡ 0
  none_left best none known = nothing_remains film limits path is (sym all ∙ subst (IsBestAmong film path.scenes tried) none known)

  pub best_all : (best : Option Cheapest) (b : Cheapest) → best ≡ Some b → IsBestAmong film path.scenes tried best
      → IsFirstCheapestFrom film path.scenes b.order.items
  best_all best b some known = by (subst (IsBestAmong film path.scenes tried) some known).0
    where
      by : IsFirstCheapestAmong film path.scenes tried b.order.items → IsFirstCheapestFrom film path.scenes b.order.items
      by among = record {
        is_kept = among.is_kept;
        begins = shorter among.begins.2;
        least = λ other kept begins. elim (goes_on film limits path is other kept begins) [
          | inl same ↦ absurd (remains same.1)
          | inr (scene, there, later) ↦ among.least scene other (is_tried scene there) kept later
        ];
        first = λ other kept begins. elim (goes_on film limits path is other kept begins) [
          | inl same ↦ absurd (remains same.1)
          | inr (scene, there, later) ↦ among.first scene other (is_tried scene there) kept later
        ];
      }
        where
          is_tried : (scene : ℕ) → has (ready film path.rest) scene ≡ true → Contains tried scene
          is_tried scene there = subst (λ (xs : List ℕ). Contains xs scene) (sym all) (among_ready film limits path is scene there)

          shorter : BeginsWith (path.scenes ++ among.begins.0 ∷ []) b.order.items → BeginsWith path.scenes b.order.items
          shorter (rest, e) = (among.begins.0 ∷ rest, e ∙ append_assoc path.scenes (among.begins.0 ∷ []) rest)

          remains : path.rest ≡ 0 → ⊥
          remains none =
              let member : Contains (members (ready film path.rest)) among.begins.0 = subst (λ (xs : List ℕ). Contains xs among.begins.0) all among.begins.1 in
              let e : has path.rest among.begins.0 ≡ true = ready_there film path.rest among.begins.0 (has_from_members (ready film path.rest) among.begins.0 member) in
              let f : has path.rest among.begins.0 ≡ false = subst (λ (q : ℕ). has q among.begins.0 ≡ false) (sym none) (has-empty among.begins.0) in cc

-- where nothing remains, the path's scenes and what was paid
module _ (film : FilmData) (limits : IsFilm film) (path : PathData) (is : IsPath film path) (none : path.rest ≡ 0) where
  pub first_at_end : {E : Type 0} (result : Result Cheapest E) → IfOk result (λ b. b.order.items ≡ path.scenes)
      → IfOk result (λ b. IsFirstCheapestFrom film path.scenes b.order.items)
  first_at_end (Ok b) same = subst (IsFirstCheapestFrom film path.scenes) (sym same) (only_order film limits path is none)
  first_at_end (Err e) same = tt

  pub pay_at_end : {E : Type 0} (result : Result Cheapest E) → IfOk result (λ b. b.order.items ≡ path.scenes) → IfOk result (λ b. b.pay ≡ path.paid)
      → IfOk result (λ b. b.pay ≡ pay_of film b.order.items)
  pay_at_end (Ok b) same paid = paid ∙ paid_is_pay film limits path is none ∙ ap (pay_of film) (sym same)
  pay_at_end (Err e) same paid = tt

-- ---- from the start

-- every list begins with no scene
IsFirstCheapest-from_none : (film : FilmData) (order : List ℕ) → IsFirstCheapestFrom film [] order → IsFirstCheapest film order
IsFirstCheapest-from_none film order is = record {
  is_kept = is.is_kept;
  least = λ other other_is. is.least other other_is (other, refl);
  first = λ other other_is. is.first other other_is (other, refl);
}

module _ {E : Type 0} (film : FilmData) (begun : List ℕ) (none : begun ≡ []) where
  pub first_of_all : (result : Result Cheapest E) → IfOk result (λ b. IsFirstCheapestFrom film begun b.order.items)
      → IfOk result (λ b. IsFirstCheapest film b.order.items)
  first_of_all (Ok b) is = IsFirstCheapest-from_none film b.order.items (subst (λ (xs : List ℕ). IsFirstCheapestFrom film xs b.order.items) none is)
  first_of_all (Err e) is = tt

  pub optimum_of_all : (result : Result Cheapest E) → IfOk result (λ b. IsFirstCheapestFrom film begun b.order.items)
      → IfOk result (λ b. b.pay ≡ pay_of film b.order.items) → IfOk result (λ b. IsOptimum film b.pay)
  optimum_of_all (Ok b) is pay =
      let first : IsFirstCheapest film b.order.items = first_of_all (Ok b) is in
      record { attained = (b.order.items, first.is_kept, sym pay); least = subst (IsLeast film) (sym pay) first.least }
  optimum_of_all (Err e) is pay = tt
