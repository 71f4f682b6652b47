use Rattle.std.proofs.Common.{length, ◌≡◌, ◌≢◌, ℕ, ◌+◌, ◌*◌, ◌-◌, ◌^◌, ◌<◌, ◌≤◌, ◌==◌, Bool, true, false, cond, List, [], ◌∷◌, inl, inr, refl, slice_index, ap, ◌∙◌, arith, pow_pos}
use Rattle.std.proofs.lemmas.Bool.{cases_eq}
use Rattle.std.proofs.lemmas.Bool.Decides.{nat_tests}
use Rattle.std.proofs.Math.Nat.{pow-le-pow_right}
use Rattle.strip_mask.specs.Set.{has, size, sum_over}
use Rattle.strip_mask.proofs.Totals.{sum_over-empty}
use Rattle.strip_group.specs.Group.{GroupData}
use Rattle.strip_sets.specs.Numbers.{number, by_class}
use Rattle.strip_sets.specs.Saving.{Saves, owes}
use Rattle.strip_arrivals.proofs.Chosen.{sum_none}
use Rattle.strip_arrivals.proofs.Begun.{begun_over}
use Rattle.strip_arrivals.proofs.Classes.{kinds_none}
use Rattle.strip_arrivals.proofs.Fits.{paid_low}
use Rattle.strip_arrivals.proofs.Saved.{all_save, lowered, within}
use Rattle.strip_arrivals.proofs.Staged.{alone_costs, alone_days, alone_days_of, alone_prices, alone_weights, free_days_few, free_rise, free_row, rates_all_low}
use Rattle.strip_arrivals.proofs.Stages.{stage_over}
use Rattle.strip_arrivals.proofs.Tables.{known_set}
use Rattle.strip_arrivals.proofs.table.ArrivalsTable.over.Goals as goal

two_some : 0 < 2
two_some = omega arith

-- nothing is paid if nobody is here; otherwise nothing is saved at first
marked : (places never row : ℕ) → row ≡ cond {A = ℕ} (places == 0) never 0 → (row ≤ never) × (places ≢ 0 → row ≡ 0) × (places ≡ 0 → row ≡ never)
marked places never row is = elim (cases_eq places 0) [
  | inl none ↦ (
      let test : (places == 0) ≡ true = grind (arith, nat_tests) in
      let all : row ≡ never = is ∙ ap (λ (b : Bool). cond {A = ℕ} b never 0) test in
      (omega (arith, all), (λ some. absurd (some none)), (λ _. all)))
  | inr some ↦ (
      let test : (places == 0) ≡ false = grind (arith, nat_tests) in
      let nothing : row ≡ 0 = is ∙ ap (λ (b : Bool). cond {A = ℕ} b never 0) test in
      (omega (arith, nothing), (λ _. nothing), (λ none. absurd (some none))))
]

pub pass-requires-clause-room : goal.pass-requires-clause-room
pass-requires-clause-room g c =
    let value = number g.B.BySet.value g.B.BySet.places in
    let count : ℕ = c.args.party.now.higher + g.B.BySet.places in
    let most : ℕ = g.B.BySet.most in
    let film : GroupData = c.args.self.now in
    let never : ℕ = c.args.party.now.never in
    let first : ℕ → ℕ = value c.start.new.table in
    let few = rates_all_low value count most film c.args.party.now c.requires.party in
    let short = free_days_few value count most film c.args.party.now c.requires.party in
    record {
      rise = free_rise value count most film c.args.party.now c.requires.party;
      rise_owed = λ class places place none lt there. absurd (omega (arith, none));
      base = never;
      begun = λ places lt. (let low = (marked places never (first places) (c.start.ensures.each places (known_set (length c.args.row.now) c.args.party.now.higher g.B.BySet.places places c.requires.sized lt))).0 in omega (arith, low));
      fits = λ places lt. (let low = paid_low value count most film c.args.party.now c.requires.party (sum_over c.args.party.now.crew.now.holds places)
          (value c.args.party.now.days.now places) (few places lt) (short places lt) in omega (arith, low, c.requires.party.room));
      floor = 0;
      covered = λ places lt. (let nothing = sum_none (λ class. by_class (λ s. value s.now) c.same-none.result class places * by_class (λ s. value s.now) c.same-none.result class places) in omega (arith, nothing));
      low = λ places lt. omega arith;
    }

pub returns-clause-saved : goal.returns-clause-saved
returns-clause-saved g c =
    let value = number g.B.BySet.value g.B.BySet.places in
    let count : ℕ = c.args.party.now.higher + g.B.BySet.places in
    let most : ℕ = g.B.BySet.most in
    let known = c.requires.party in
    let film : GroupData = c.args.self.now in
    let set : ℕ = c.args.party.now.crew.now.set.0 in
    let group : ℕ = c.args.party.now.crew.now.group.0 in
    let newcomers : ℕ = c.args.party.now.newcomers.0 in
    let never : ℕ = c.args.party.now.never in
    let holds : List ℕ = c.args.party.now.crew.now.holds in
    let days : ℕ → ℕ = value c.args.party.now.days.now in
    let first : ℕ → ℕ = value c.start.new.table in
    let saved : ℕ → ℕ = value c.pass.new.table in
    let none = by_class (λ s. value s.now) c.same-none.result in
    let owed : ℕ → ℕ → ℕ = owes 0 none none in
    let saves : Saves count (slice_index holds) days owed first saved = c.pass.ensures.saves in
    let free : (places before : ℕ) → owed places before ≡ 0 = λ places before. sum_none (λ class. none class places * (none class places - none class before)) in
    let marks : (places : ℕ) → places < 2 ^ count → (first places ≤ never) × (places ≢ 0 → first places ≡ 0) × (places ≡ 0 → first places ≡ never)
    = λ places lt. marked places never (first places) (c.start.ensures.each places (known_set (length c.args.row.now) c.args.party.now.higher g.B.BySet.places places c.requires.sized lt)) in
    let rise = free_rise value count most film c.args.party.now known in
    let level : (places place : ℕ) → places < 2 ^ count → has places place ≡ true → 0 ≤ 0 = λ places place lt there. omega arith in
    let begun : (places : ℕ) → places < 2 ^ count → first places ≤ never + sum_over holds places * days places + 0
    = λ places lt. (let low = (marks places lt).0 in omega (arith, low)) in
    let width : 2 ^ size group ≤ 2 ^ count = pow-le-pow_right two_some known.crew.fits in
    record {
      least = free_row value count most film c.args.party.now known 0 [] newcomers (stage_over newcomers) 1 (slice_index (0 ∷ [])) kinds_none
          (alone_weights value count most film c.args.party.now known) (alone_days_of value count most film c.args.party.now known)
          (alone_prices value count most film c.args.party.now known newcomers) (alone_days value count most film c.args.party.now known)
          (λ places. never + sum_over holds places * days places + 0 - first places) (λ places. never + sum_over holds places * days places + 0 - saved places)
          (begun_over film set group newcomers never known.company newcomers (λ places. never + sum_over holds places * days places + 0 - first places)
          (let begins = (marks 0 (pow_pos count)).2 refl in omega (arith, begins, ap (λ (rate : ℕ). rate * days 0) (sum_over-empty holds)))
          (λ places lt some. let wide : places < 2 ^ count = omega (arith, lt, width) in
          let is = (marks places wide).1 some in omega (arith, is)))
          refl
          (lowered count known.few holds never days (λ _. 0) rise level owed first saved saves begun _
          (alone_costs value count most film c.args.party.now known owed free));
      low = all_save count known.few holds never days (λ _. 0) rise level owed first saved saves begun never
          (let begins = (marks 0 (pow_pos count)).2 refl in omega (arith, begins)) free;
      high = within count known.few holds never days (λ _. 0) rise level owed first saved saves begun;
    }
