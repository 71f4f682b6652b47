-- The extra is what the cheapest order of leaving is paid, by who leaves last.
use Rattle.std.proofs.Common.{◌≡◌, ◌≢◌, ℕ, zero, suc, ◌+◌, ◌*◌, ◌≤◌, ◌<◌, Bool, true, false, get_or}
use Rattle.std.proofs.Common.{List, [], ◌∷◌, ◌++◌, All, slice_index, refl, sym, ap, ◌∙◌, subst, inl, inr, arith}
use Rattle.std.proofs.lemmas.Bool.{false≢true}
use Rattle.std.proofs.lemmas.Bool.Decides.{eqb_tells}
use Rattle.std.proofs.lemmas.List.Elements.{All-head, All-tail, All-nil, All-push, All-weaker}
use Rattle.strip_mask.specs.Set.{IsSet, has, with, without, members, size}
use Rattle.strip_mask.proofs.ByMembers.{IsSet-without, has-with_same, has-with_other, has-without_other, has_from_without, has-empty, same_has, some_member}
use Rattle.strip_mask.proofs.Members.{Contains-members, has_from_members}
use Rattle.strip_mask.proofs.Sizes.{size-without, size-empty, empty_from_size}
use Rattle.strip_mask.specs.Least.{least_over}
use Rattle.strip_group.specs.Group.{GroupData, waited_days, leaving_pay, IsLeaving, IsExtra, extra_by_last, group_extra}
use Rattle.strip_mask.proofs.Lists.{count, count_other, count_none, none_counted}
use Rattle.strip_mask.proofs.Least.{least_over_attained, least_over_le}
use Rattle.strip_group.proofs.Lists.{All-begin, All-last, count_last, count_before, last_of}

-- ---- who is gone

-- those gone, and those of a list
abbrev gone_after : ℕ → List ℕ → ℕ
gone_after gone [] = gone
gone_after gone (actor ∷ later) = gone_after (with gone actor) later

-- who was gone is gone
still_gone : (gone i : ℕ) (xs : List ℕ) → has gone i ≡ true → has (gone_after gone xs) i ≡ true
still_gone gone i [] there = there
still_gone gone i (x ∷ xs) there = still_gone (with gone x) i xs (elim (eqb_tells x i) [
  | inl is ↦ subst (λ (y : ℕ). has (with gone x) y ≡ true) is.1 (has-with_same gone x)
  | inr is_not ↦ has-with_other gone x i is_not.1 ∙ there
])

-- who stands in the list is gone
listed_gone : (gone i : ℕ) (xs : List ℕ) → count i xs ≡ 1 → has (gone_after gone xs) i ≡ true
listed_gone gone i [] one = absurd (omega (arith, one))
listed_gone gone i (x ∷ xs) one = elim (eqb_tells x i) [
  | inl is ↦ still_gone (with gone x) i xs (subst (λ (y : ℕ). has (with gone x) y ≡ true) is.1 (has-with_same gone x))
  | inr is_not ↦ listed_gone (with gone x) i xs (sym (count_other i x xs is_not.1) ∙ one)
]

-- and nobody else
not_listed : (gone i : ℕ) (xs : List ℕ) → All (λ y. y ≢ i) xs → has (gone_after gone xs) i ≡ has gone i
not_listed gone i [] none = refl
not_listed gone i (x ∷ xs) none = not_listed (with gone x) i xs (All-tail (λ y. y ≢ i) x xs none) ∙ has-with_other gone x i (All-head (λ y. y ≢ i) x xs none)

-- after an order of a group, the group is
gone_group : (group : ℕ) (xs : List ℕ) → IsLeaving group xs → gone_after 0 xs ≡ group
gone_group group xs leaving = same_has (gone_after 0 xs) group same
  where
    same : (i : ℕ) → has (gone_after 0 xs) i ≡ has group i
    same i = by_test (has group i) refl
      where
        by_test : (b : Bool) → has group i ≡ b → has (gone_after 0 xs) i ≡ has group i
        by_test true there = listed_gone 0 i xs (leaving.once i there) ∙ sym there
        by_test false missing = not_listed 0 i xs (All-weaker (λ y. has group y ≡ true) (λ y. y ≢ i) (λ y known is. false≢true (sym missing ∙ ap (has group) (sym is)
            ∙ known)) xs leaving.known)
            ∙ has-empty i ∙ sym missing

-- ---- the one who leaves last

pay-append : (film : GroupData) (set gone last : ℕ) (xs : List ℕ)
    → leaving_pay film set gone (xs ++ last ∷ []) ≡ leaving_pay film set gone xs + slice_index film.holds last * waited_days film set (gone_after gone xs) last
pay-append film set gone last [] = omega arith
pay-append film set gone last (x ∷ xs) = let later = pay-append film set (with gone x) last xs in omega (arith, later)

-- what an order is paid, by who leaves last
pay_by_last : (film : GroupData) (set group last : ℕ) (begin : List ℕ) → IsLeaving (without group last) begin
    → leaving_pay film set 0 (begin ++ last ∷ []) ≡ leaving_pay film set 0 begin + slice_index film.holds last * waited_days film set (without group last) last
pay_by_last film set group last begin leaving = pay-append film set 0 last begin
    ∙ ap (λ (gone : ℕ). leaving_pay film set 0 begin + slice_index film.holds last * waited_days film set gone last) (gone_group (without group last) begin leaving)

-- who leaves last of a group, after an order of the others
leaves_last : (group last : ℕ) (begin : List ℕ) → has group last ≡ true → IsLeaving (without group last) begin → IsLeaving group (begin ++ last ∷ [])
leaves_last group last begin there leaving = record {
  known = All-push (λ y. has group y ≡ true) begin last (All-weaker (λ y. has (without group last) y ≡ true) (λ y. has group y ≡ true) (λ y known.
      (has_from_without group last y known).1) begin leaving.known) there;
  once = λ i known. elim (eqb_tells last i) [
    | inl is ↦ subst (λ (y : ℕ). count y (begin ++ last ∷ []) ≡ 1) is.1 (count_last last begin ∙ ap (λ (n : ℕ). n + 1) none)
    | inr is_not ↦ count_before i last begin is_not.1 ∙ leaving.once i (has-without_other group last i is_not.1 ∙ known)
  ];
}
  where
    none : count last begin ≡ 0
    none = count_none last begin (All-weaker (λ y. has (without group last) y ≡ true) (λ y. y ≢ last) (λ y known is. (has_from_without group last y known).0
        (sym is)) begin leaving.known)

-- the others are an order of the group without the last
others_leave : (group last : ℕ) (begin : List ℕ) → IsLeaving group (begin ++ last ∷ []) → (has group last ≡ true) × IsLeaving (without group last) begin
others_leave group last begin leaving = (
  there,
  record {
    known = λ k d lt. has-without_other group last (get_or begin k d) (λ same. differs k d lt (sym same)) ∙ All-begin (λ y. has group y ≡ true) begin
        (last ∷ []) leaving.known k d lt;
    once = λ i known. (let parts : (last ≢ i) × (has group i ≡ true) = has_from_without group last i known in
        sym (count_before i last begin parts.0) ∙ leaving.once i parts.1);
  },
)
  where
    there : has group last ≡ true
    there = All-last (λ y. has group y ≡ true) begin last leaving.known

    differs : All (λ y. y ≢ last) begin
    differs = none_counted last begin (let one : count last begin + 1 ≡ 1 = sym (count_last last begin) ∙ leaving.once last there in omega (arith, one))

-- ---- the least over who leaves last

module _ (film : GroupData) (set : ℕ) where
  -- what a group is paid where this actor leaves last and the others by the cheapest order
  abbrev by_last : ℕ → ℕ → ℕ → ℕ
  by_last n group last = extra_by_last film set n (without group last) + slice_index film.holds last * waited_days film set (without group last) last

  nobody_first : (group : ℕ) → IsSet group → size group ≡ 0 → IsLeaving group []
  nobody_first group small none = record {
    known = All-nil (λ y. has group y ≡ true);
    once = λ i there. absurd (false≢true (sym (has-empty i) ∙ ap (λ (g : ℕ). has g i) (sym (empty_from_size group small none)) ∙ there));
  }

  someone : (group n : ℕ) → IsSet group → size group ≡ suc n → (i : ℕ) × (i < 64) × (has group i ≡ true)
  someone group n small more = some_member group small (λ none. omega (arith, more, ap size none ∙ size-empty))

  attained : (n group : ℕ) → IsSet group → size group ≡ n → (order : List ℕ) × IsLeaving group order × (leaving_pay film set 0 order ≡ extra_by_last film set n group)
  attained zero group small none = ([], nobody_first group small none, refl)
  attained (suc n) group small more =
      let some = someone group n small more in
      let best = least_over_attained (by_last n group) (members group) some.0 (Contains-members group some.0 small some.2) in
      let there : has group best.0 ≡ true = has_from_members group best.0 best.1 in
      let fewer : size (without group best.0) ≡ n = omega (arith, size-without group best.0 small there, more) in
      let rest = attained n (without group best.0) (IsSet-without group best.0 small) fewer in (
        rest.0 ++ best.0 ∷ [],
        leaves_last group best.0 rest.0 there rest.1,
        (let pay = pay_by_last film set group best.0 rest.0 rest.1 in omega (arith, pay, rest.2, best.2)),
      )

  least : (n group : ℕ) → IsSet group → size group ≡ n → (order : List ℕ) → IsLeaving group order → extra_by_last film set n group ≤ leaving_pay film set 0 order
  least zero group small none order leaving = omega arith
  least (suc n) group small more order leaving = elim (last_of order) [
    | inl none ↦ (let some = someone group n small more in
        absurd (omega (arith, ap (count some.0) (sym none), leaving.once some.0 some.2)))
    | inr split ↦ by_split split.0 split.1 (subst (IsLeaving group) split.2 leaving) split.2 (least n)
  ]
    where
      by_split : (begin : List ℕ) (last : ℕ) → IsLeaving group (begin ++ last ∷ []) → order ≡ begin ++ last ∷ []
          → ((g : ℕ) → IsSet g → size g ≡ n → (xs : List ℕ) → IsLeaving g xs → extra_by_last film set n g ≤ leaving_pay film set 0 xs)
          → least_over (by_last n group) (members group) ≤ leaving_pay film set 0 order
      by_split begin last leaves is rest =
          let parts : (has group last ≡ true) × IsLeaving (without group last) begin = others_leave group last begin leaves in
          let fewer : size (without group last) ≡ n = omega (arith, size-without group last small parts.0, more) in
          let others : extra_by_last film set n (without group last) ≤ leaving_pay film set 0 begin = rest (without group last)
          (IsSet-without group last small) fewer begin parts.1 in
          let one : least_over (by_last n group) (members group) ≤ by_last n group last = least_over_le (by_last n group) (members group) last
          (Contains-members group last small parts.0) in
          let pay : leaving_pay film set 0 order ≡ leaving_pay film set 0 begin + slice_index film.holds last * waited_days film set (without group last) last
          = ap (leaving_pay film set 0) is ∙ pay_by_last film set group last begin parts.1 in
          omega (arith, others, one, pay)

pub extra_is_least : (film : GroupData) (set group : ℕ) → IsSet group → IsExtra film set group (group_extra film set group)
extra_is_least film set group small = record {
  attained = attained film set (size group) group small refl;
  least = least film set (size group) group small refl;
}
