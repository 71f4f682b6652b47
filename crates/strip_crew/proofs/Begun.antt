-- The front is claimed, and gone down.
use Rattle.std.proofs.Common.{◌≡◌, ◌≢◌, ℕ, zero, suc, ◌+◌, ◌<◌, ◌≤◌, true, false, Option, Some, None, List, [], ◌∷◌, length, inl, inr, refl, sym, ap, ◌∙◌, subst, arith}
use Rattle.std.specs.Prelude.{IsSome}
use Rattle.std.proofs.lemmas.Bool.{cases_eq, cases_lt}
use Rattle.std.specs.Option.{option_map, unwrap_or}
use Rattle.strip_lines.specs.Lines.{GrowTo}
use Rattle.strip_hand.specs.Calls.{Claims}
use Rattle.strip_hand.specs.Hand.{HandData, RecordData, no_path_yet}
use Rattle.strip_least.specs.declared.view.View.{View as LeastView}
use Rattle.strip_least.specs.Pass.{Claims as ClaimsNext}
use Rattle.strip_least.specs.Rule.{full_weight}
use Rattle.strip_mask.proofs.Lists.{count_here}
use Rattle.strip_least.specs.Rule.{once_below, times}
use Rattle.strip_book.specs.View.{EntryData, ViewData, parts_of, record_at}
use Rattle.strip_worker.specs.Team.{HasFront, OwnsFront}
use Rattle.strip_crew.specs.declared.source.Source.{Source}
use Rattle.strip_crew.specs.declared.source.Source.TheVariants.{Counter}
use Rattle.strip_crew.specs.Source.{taken_by}
use Rattle.strip_crew.specs.Hub.{GoTogether}
use Rattle.strip_crew.proofs.Once.{once_here, once_none}
use Rattle.strip_crew.proofs.Settled.{some_at}

-- the first claim of the only passes that there are is the front
pub claimed_front : (told after : LeastView) (answer : Option ℕ) (hand claimed : HandData) → ClaimsNext told answer after → told.ended ≡ false
    → told.weight ≡ full_weight → told.claims ≡ [] → 0 < told.parts → Claims hand answer claimed → ((part : ℕ) → hand.records part ≡ None) → HasFront claimed
claimed_front told after None hand claimed next unended full none some claims free =
    absurd (omega (arith, next.all unended full, some, ap (λ (xs : List ℕ). length xs) none))
claimed_front told after (Some part) hand claimed next unended full none some claims free =
    let front : part ≡ 0 = omega (arith, next.next full, ap (λ (xs : List ℕ). length xs) none) in
    record {
      front = subst (λ (p : ℕ). claimed.records p ≡ Some no_path_yet) front claims.3;
      others = λ other apart. claims.4 other (λ same. apart (same ∙ front)) ∙ free other;
    }

-- a hand that knew no more, with the same records, owns its front as a later one does
pub owns_before : (hand later : HandData) → GrowTo hand.lines later.lines → ((part : ℕ) → later.records part ≡ hand.records part) → OwnsFront later → OwnsFront hand
owns_before hand later grow same owns =
    let count : unwrap_or (option_map (λ (e : RecordData). e.number) (later.records 0)) 0 ≡ unwrap_or (option_map (λ (e : RecordData). e.number) (hand.records 0)) 0
    = ap (λ (entry : Option RecordData). unwrap_or (option_map (λ (e : RecordData). e.number) entry) 0) (same 0) in
    omega (arith, grow.count, owns, count)

-- a claim leaves the search
pub claim_stays : (answer : Option ℕ) (hand claimed : HandData) → Claims hand answer claimed → claimed.search ≡ hand.search
claim_stays None hand claimed claims = ap (λ (h : HandData). h.search) claims
claim_stays (Some part) hand claimed claims = ap (λ (h : HandData). h.search) claims.0

-- a list in which no number stands is empty
none_is_empty : (numbers : List ℕ) → ((number : ℕ) → times number numbers ≡ 0) → numbers ≡ []
none_is_empty [] none = refl
none_is_empty (number ∷ numbers) none =
    absurd (
    let here : times number (number ∷ numbers) ≡ 1 + times number numbers = count_here number numbers in
    omega (arith, none number, here))

-- passes that began no part have claimed none
pub nothing_claimed : (source : Source) (told : LeastView) (lines : ViewData) → GoTogether source told lines → lines.entries ≡ [] → told.claims ≡ []
nothing_claimed source told lines together none =
    none_is_empty told.claims (λ part. (
    let begun : times part (parts_of lines.entries) ≡ times part told.claims + times part (taken_by source) = together.begun part in
    let empty : times part (parts_of lines.entries) ≡ 0 = ap (λ (entries : List EntryData). times part (parts_of entries)) none in
    omega (arith, begun, empty)))

-- passes whose parts all come from the counter, and which have a record of the front and of no other part, have claimed the front alone
pub front_alone : ((entries : List EntryData) (part : ℕ) → times part (parts_of entries) ≡ 0 → record_at part entries ≡ None)
    → (source : Source) (told : LeastView) (lines : ViewData) → GoTogether source told lines → source ≡ Counter
    → {kept : RecordData} → record_at 0 lines.entries ≡ Some kept → ((part : ℕ) → part ≢ 0 → record_at part lines.entries ≡ None)
    → (part : ℕ) → times part told.claims ≡ once_below part 1
front_alone absent source told lines together counter {kept = kept} front others part =
    let begun : times part (parts_of lines.entries) ≡ times part told.claims + times part (taken_by source) = together.begun part in
    let untaken : times part (taken_by source) ≡ 0 = ap (λ (s : Source). times part (taken_by s)) counter in
    elim (cases_eq part 0) [
      | inl here ↦ (
          let one : once_below part 1 ≡ 1 = once_here part 1 (omega (arith, here)) in
          elim (cases_lt 0 (times part (parts_of lines.entries))) [
            | inl some_ ↦ omega (arith, begun, untaken, one, some_, together.once part)
            | inr none ↦ absurd (
                let never : None ≡ Some kept
                = sym (absent lines.entries 0 (subst (λ (p : ℕ). times p (parts_of lines.entries) ≡ 0) here (omega (arith, none)))) ∙ front in cc)
          ])
      | inr apart ↦ (
          let nothing : once_below part 1 ≡ 0 = once_none part 1 (not_zero part apart) in
          elim (cases_lt 0 (times part (parts_of lines.entries))) [
            | inl some_ ↦ absurd (let never : false ≡ true = subst IsSome (others part apart) (some_at part lines.entries some_) in cc)
            | inr none ↦ omega (arith, begun, untaken, nothing, none)
          ])
    ]
  where
    not_zero : (number : ℕ) → number ≢ 0 → 1 ≤ number
    not_zero zero apart = absurd (apart refl)
    not_zero (suc number) apart = omega arith
