use Rattle.std.proofs.Common.{◌≡◌, ◌≢◌, ℕ, ◌+◌, ◌*◌, ◌^◌, ◌≤◌, true, sym, ap, ◌∙◌, inl, inr, arith}
use Rattle.std.proofs.Math.Nat.{mul-le-mul}
use Rattle.std.proofs.lemmas.Bool.{cases_eq, false≢true}
use Rattle.strip_mask.specs.Set.{IsSet, full, has, size, with, without}
use Rattle.strip_mask.proofs.ByMembers.{IsSet-without, below_64, has-without_other, has-without_same, with-without}
use Rattle.strip_mask.proofs.Sizes.{first_is, first_none, size-without}
use Rattle.strip_arrivals.proofs.table.ArrivalsTable.gross.Goals as goal

-- a set of one has no two members
only_one : (set i j : ℕ) → IsSet set → size set ≤ 1 → has set i ≡ true → has set j ≡ true → i ≡ j
only_one set i j small few there there_too = elim (cases_eq i j) [
  | inl same ↦ same
  | inr apart ↦ (let without_one = size-without set i small there in
      let without_both = size-without (without set i) j (IsSet-without set i small) (has-without_other set i j apart ∙ there_too) in
      absurd (omega (arith, without_one, without_both, few)))
]

pub without-requires : goal.without-requires
without-requires g c =
    let newcomers : ℕ = c.args.party.now.newcomers.0 in
    let small : IsSet newcomers = c.requires.party.company.small_newcomers in
    below_64 newcomers c.in-Some.one small (first_is newcomers c.in-Some.one small (sym c.first.ensures ∙ c.in-Some.is)).0

pub gross_with_one-requires-clause-only : goal.gross_with_one-requires-clause-only
gross_with_one-requires-clause-only g c =
    let newcomers : ℕ = c.args.party.now.newcomers.0 in
    let one : ℕ = c.in-Some.one in
    let small : IsSet newcomers = c.requires.party.company.small_newcomers in
    let there : has newcomers one ≡ true = (first_is newcomers one small (sym c.first.ensures ∙ c.in-Some.is)).0 in
    let none : without newcomers one ≡ 0
    = first_none (without newcomers one) (IsSet-without newcomers one small) (sym (c.first-in-Some.ensures ∙ ap Rattle.strip_mask.specs.Set.first c.without.ensures) ∙ c.in-None-first.is) in
    sym (with-without newcomers one there) ∙ ap (λ (set : ℕ). with set one) none

pub gross_with_two-requires-clause-pair : goal.gross_with_two-requires-clause-pair
gross_with_two-requires-clause-pair g c =
    let newcomers : ℕ = c.args.party.now.newcomers.0 in
    let one : ℕ = c.in-Some.one in
    let other : ℕ = c.in-Some-first.other in
    let known = c.requires.party.company in
    let small : IsSet (without newcomers one) = IsSet-without newcomers one known.small_newcomers in
    let there : has newcomers one ≡ true = (first_is newcomers one known.small_newcomers (sym c.first.ensures ∙ c.in-Some.is)).0 in
    let there_too : has (without newcomers one) other ≡ true
    = (first_is (without newcomers one) other small (sym (c.first-in-Some.ensures ∙ ap Rattle.strip_mask.specs.Set.first c.without.ensures) ∙ c.in-Some-first.is)).0 in
    let apart : one ≢ other = λ same. false≢true (sym (has-without_same newcomers one) ∙ ap (has (without newcomers one)) same ∙ there_too) in
    let few : size (without newcomers one) ≤ 1 = omega (arith, size-without newcomers one known.small_newcomers there, known.few_newcomers) in
    record {
      one_comes = there;
      other_comes = sym (has-without_other newcomers one other apart) ∙ there_too;
      apart = apart;
      only = λ actor comes. elim (cases_eq one actor) [
        | inl is ↦ inl (sym is)
        | inr different ↦ inr (only_one (without newcomers one) actor other small few (has-without_other newcomers one actor different ∙ comes) there_too)
      ];
    }

pub gross_alone-requires-clause-nobody : goal.gross_alone-requires-clause-nobody
gross_alone-requires-clause-nobody g c =
    first_none c.args.party.now.newcomers.0 c.requires.party.company.small_newcomers (sym c.first.ensures ∙ c.in-None.is)

-- room for two or more tables is room for as many as there are newcomers
room_for : (number more tables room size : ℕ) → more ≤ number → (1 + 6 * number) * size ≤ room → tables ≤ 1 + 6 * more → tables * size ≤ room
room_for number more tables room size enough fits few =
    let same : size ≤ size = omega arith in
    let most : tables ≤ 1 + 6 * number = omega (arith, enough, few) in
    let all : tables * size ≤ (1 + 6 * number) * size = mul-le-mul most same in
    omega (arith, all, fits)

pub gross_with_one-requires-clause-room : goal.gross_with_one-requires-clause-room
gross_with_one-requires-clause-room g c =
    let newcomers : ℕ = c.args.party.now.newcomers.0 in
    let small : IsSet newcomers = c.requires.party.company.small_newcomers in
    let there : has newcomers c.in-Some.one ≡ true = (first_is newcomers c.in-Some.one small (sym c.first.ensures ∙ c.in-Some.is)).0 in
    let some : 1 ≤ size newcomers = (let less = size-without newcomers c.in-Some.one small there in omega (arith, less)) in
    room_for (size newcomers) 1 5 _ (2 ^ c.args.party.now.higher) some c.requires.room (omega arith)

pub gross_with_two-requires-clause-room : goal.gross_with_two-requires-clause-room
gross_with_two-requires-clause-room g c =
    let newcomers : ℕ = c.args.party.now.newcomers.0 in
    let known = c.requires.party.company in
    let one : ℕ = c.in-Some.one in
    let other : ℕ = c.in-Some-first.other in
    let small : IsSet (without newcomers one) = IsSet-without newcomers one known.small_newcomers in
    let there : has newcomers one ≡ true = (first_is newcomers one known.small_newcomers (sym c.first.ensures ∙ c.in-Some.is)).0 in
    let there_too : has (without newcomers one) other ≡ true
    = (first_is (without newcomers one) other small (sym (c.first-in-Some.ensures ∙ ap Rattle.strip_mask.specs.Set.first c.without.ensures) ∙ c.in-Some-first.is)).0 in
    let some : 2 ≤ size newcomers = omega (arith, size-without newcomers one known.small_newcomers there, size-without (without newcomers one) other small there_too) in
    room_for (size newcomers) 2 13 _ (2 ^ c.args.party.now.higher) some c.requires.room (omega arith)
