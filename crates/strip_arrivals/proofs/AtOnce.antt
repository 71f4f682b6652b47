-- What is paid at least from the first state on, by the states in which all newcomers have come and nobody has left yet.
use Rattle.std.proofs.Common.{◌≡◌, ℕ, ◌+◌, true, List, [], ◌∷◌, min, sym, ap, ◌∙◌, subst, inl, inr, arith}
use Rattle.std.proofs.lemmas.Bool.{false≢true, false_from_ne_true}
use Rattle.strip_mask.specs.Set.{IsSet, full, has, minus, size, with, without}
use Rattle.strip_mask.proofs.Lists.{contains_cases, contains_none}
use Rattle.strip_mask.proofs.ByMembers.{IsSet-without, empty_from, has-empty, has-with_same, has-without_other, has_from_minus, has_from_without, without-with}
use Rattle.strip_group.specs.Group.{GroupData}
use Rattle.strip_group.specs.Places.{pick}
use Rattle.strip_group.proofs.Places.{pick-full}
use Rattle.strip_arrivals.specs.Arrivals.{StateData, after, at_first, comes}
use Rattle.strip_arrivals.specs.Company.{ArePair, IsCompany, staying}
use Rattle.strip_arrivals.specs.Gross.{IsGross}
use Rattle.strip_arrivals.proofs.Fewer.{AreAwaited}
use Rattle.strip_arrivals.proofs.First.{comes_at_once, one_comes_at_once}
use Rattle.strip_arrivals.proofs.Masks.{one_of, pair_turned}
use Rattle.strip_arrivals.proofs.Own.{open_first}
use Rattle.strip_arrivals.proofs.Pending.{awaited_coming}

-- where all places are still here, nobody has left
none_left : (group : ℕ) → IsSet group → minus group (pick group (full (size group))) ≡ 0
none_left group small =
    ap (minus group) (pick-full group small)
    ∙ empty_from (minus group group) (λ i. false_from_ne_true (has (minus group group) i) (λ there.
    let parts = has_from_minus group group i there in
    false≢true (sym parts.1 ∙ parts.0)))

lesser : (m n net other own : ℕ) → m ≡ net + own → n ≡ other + own → min m n ≡ min net other + own
lesser m n net other own is is_too = omega (arith, is, is_too)

module _ (film : GroupData) (set group newcomers : ℕ) (company : IsCompany film set group newcomers) where
  abbrev all : ℕ
  all = full (size group)

  -- all of the group are still here
  whole : (coming : ℕ) (here : List ℕ) (gross : ℕ) → IsGross film set group (staying group coming here 0 all) gross
      → IsGross film set group (record { left = 0; coming = coming; here = here; gone = 0 }) gross
  whole coming here gross is = subst (λ (left : ℕ). IsGross film set group (record { left = left; coming = coming; here = here; gone = 0 }) gross)
      (none_left group company.small) is

  awaited_first : AreAwaited film set (at_first newcomers)
  awaited_first = λ scene i of_set works there. open_first film set group newcomers scene

  -- nobody is to come
  pub none_comes : (gross : ℕ) → newcomers ≡ 0 → IsGross film set group (staying group 0 [] newcomers all) gross → IsGross film set group (at_first newcomers) gross
  none_comes gross none is =
      subst (λ (coming : ℕ). IsGross film set group (at_first coming) gross) (sym none)
      (whole 0 [] gross (subst (λ (gone : ℕ). IsGross film set group (staying group 0 [] gone all) gross) none is))

  -- one comes at once
  pub one_comes : (actor gross : ℕ) → newcomers ≡ with 0 actor → IsGross film set group (staying group 0 (actor ∷ []) 0 all) gross
      → IsGross film set group (at_first newcomers) gross
  one_comes actor gross only is =
      let there : has newcomers actor ≡ true = ap (λ (s : ℕ). has s actor) only ∙ has-with_same 0 actor in
      let rest : without newcomers actor ≡ 0 = ap (λ (s : ℕ). without s actor) only ∙ without-with 0 actor (has-empty actor) in
      let here : IsGross film set group (after (at_first newcomers) (comes actor)) gross
      = subst (λ (coming : ℕ). IsGross film set group (record { left = 0; coming = coming; here = actor ∷ []; gone = 0 }) gross) (sym rest)
      (whole 0 (actor ∷ []) gross is) in
      record {
        net = here.net;
        is_least = comes_at_once film set group company.small (at_first newcomers) awaited_first company.small_newcomers (λ i expected listed. contains_none i listed)
            actor here.net there (λ other expected. one_of actor other (ap (λ (s : ℕ). has s other) (sym only) ∙ expected)) here.is_least;
        added = here.added;
      }

  -- the one comes first, and then the other at once
  other_follows : (one other gross : ℕ) → ArePair newcomers one other → IsGross film set group (staying group 0 (one ∷ other ∷ []) 0 all) gross
      → IsGross film set group (after (at_first newcomers) (comes one)) gross
  other_follows one other gross pair is =
      let there : has (without newcomers one) other ≡ true = has-without_other newcomers one other pair.apart ∙ pair.other_comes in
      let only : (i : ℕ) → has (without newcomers one) i ≡ true → i ≡ other
      = λ i expected. (let parts = has_from_without newcomers one i expected in elim (pair.only i parts.1) [
        | inl is_one ↦ absurd (parts.0 (sym is_one))
        | inr is_other ↦ is_other
      ]) in
      let rest : without (without newcomers one) other ≡ 0
      = empty_from (without (without newcomers one) other) (λ i. false_from_ne_true (has (without (without newcomers one) other) i) (λ expected.
      let parts = has_from_without (without newcomers one) other i expected in parts.0 (sym (only i parts.1)))) in
      let state : StateData = after (at_first newcomers) (comes one) in
      let here : IsGross film set group (after state (comes other)) gross
      = subst (λ (coming : ℕ). IsGross film set group (record { left = 0; coming = coming; here = one ∷ other ∷ []; gone = 0 }) gross) (sym rest)
      (whole 0 (one ∷ other ∷ []) gross is) in
      record {
        net = here.net;
        is_least = comes_at_once film set group company.small state (awaited_coming film set (at_first newcomers) one awaited_first)
            (IsSet-without newcomers one company.small_newcomers)
            (λ i expected listed. elim (contains_cases one [] i listed) [
              | inl is_one ↦ (has_from_without newcomers one i expected).0 is_one
              | inr none ↦ contains_none i none
            ])
            other here.net there only here.is_least;
        added = here.added;
      }

  -- two come at once, in either order
  pub either_comes : (one other m n : ℕ) → ArePair newcomers one other → IsGross film set group (staying group 0 (one ∷ other ∷ []) 0 all) m
      → IsGross film set group (staying group 0 (other ∷ one ∷ []) 0 all) n → IsGross film set group (at_first newcomers) (min m n)
  either_comes one other m n pair is is_too =
      let first = other_follows one other m pair is in
      let second = other_follows other one n (pair_turned newcomers one other pair) is_too in
      record {
        net = min first.net second.net;
        is_least = one_comes_at_once film set group company.small (at_first newcomers) awaited_first company.small_newcomers (λ i expected listed. contains_none i listed)
            one other first.net second.net pair.one_comes pair.other_comes pair.only first.is_least second.is_least;
        added = lesser m n first.net second.net _ first.added second.added;
      }
