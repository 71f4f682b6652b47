-- A trimmed list has no more lines of any kind than the list.
use Rattle.std.proofs.Common.{◌≡◌, ℕ, suc, ◌+◌, ◌<◌, ◌≤◌, Bool, true, cond, List, [], ◌∷◌, length, map, All, get_or, inl, inr, refl, ap, sym, ◌∙◌, subst, arith}
use Rattle.std.specs.List.{AllPairs, count_by}
use Rattle.std.proofs.lemmas.Bool.{cases_eq}
use Rattle.std.proofs.lemmas.List.Elements.{Contains-get_or}
use Rattle.std.proofs.lemmas.List.Kept.{AllPairs-from_increasing}
use Rattle.std.proofs.lemmas.List.Sums.{sum_by-cons}
use Rattle.strip_film.specs.declared.shared.Line.{Line}
use Rattle.strip_film.specs.Rules.{Rules}
use Rattle.strip_lines.specs.Lines.{line_at}
use Rattle.strip_trim.specs.Trimmed.{AreTrimmed}

-- the places rise from k on, and are below the end
abbrev Between : ℕ → ℕ → List ℕ → Type 0
Between k end [] = Unit {0}
Between k end (place ∷ places) = (k ≤ place) × (place < end) × Between (place + 1) end places

between : (k end : ℕ) (places : List ℕ) → AllPairs (λ x y. x < y) places → All (λ x. k ≤ x) places → All (λ x. x < end) places → Between k end places
between k end [] rising above below = tt
between k end (place ∷ places) rising above below = (
  above 0 place (omega arith),
  below 0 place (omega arith),
  between (place + 1) end places
      (λ i j d lt within. rising (suc i) (suc j) d (omega (arith, lt)) (omega (arith, within)))
      (λ i d within. (let e = rising 0 (suc i) d (omega arith) (omega (arith, within)) in omega (arith, e)))
      (λ i d within. below (suc i) d (omega (arith, within))),
)

module _ (test : Line → Bool) (at : ℕ → Line) where
  counted : (k end : ℕ) (lines : List Line) (places : List ℕ) → k + length lines ≡ end → ((i : ℕ) → i < length lines → at (k + i) ≡ line_at lines i)
      → Between k end places → count_by test (map at places) ≤ count_by test lines
  counted k end [] [] long read all = omega arith
  counted k end [] (place ∷ places) long read all = absurd (omega (arith, long, all.0, all.1))
  counted k end (line ∷ lines) [] long read all = omega arith
  counted k end (line ∷ lines) (place ∷ places) long read all = elim (cases_eq place k) [
    | inl here ↦ (
        let first : at place ≡ line = ap at (let e : place ≡ k + 0 = omega (arith, here) in e) ∙ read 0 (omega arith) in
        let same : cond {A = ℕ} (test (at place)) 1 0 ≡ cond {A = ℕ} (test line) 1 0 = ap (λ (l : Line). cond {A = ℕ} (test l) 1 0) first in
        let rest : Between (k + 1) end places = subst (λ (i : ℕ). Between (i + 1) end places) here all.2 in
        let later = counted (k + 1) end lines places (omega (arith, long)) next rest in
        omega (
          arith,
          same,
          later,
          sum_by-cons (λ (l : Line). cond {A = ℕ} (test l) 1 0) (at place) (map at places),
          sum_by-cons (λ (l : Line). cond {A = ℕ} (test l) 1 0) line lines,
        ))
    | inr apart ↦ (
        let later = counted (k + 1) end lines (place ∷ places) (omega (arith, long)) next (omega (arith, all.0, apart), all.1, all.2) in
        omega (arith, later, sum_by-cons (λ (l : Line). cond {A = ℕ} (test l) 1 0) line lines))
  ]
    where
      next : (i : ℕ) → i < length lines → at (k + 1 + i) ≡ line_at lines i
      next i lt = ap at (let e : k + 1 + i ≡ k + suc i = omega arith in e) ∙ read (suc i) (omega (arith, lt))

all_counted : (lines : List Line) → count_by (λ _. true) lines ≡ length lines
all_counted [] = refl
all_counted (line ∷ lines) = omega (arith, sum_by-cons (λ (l : Line). 1) line lines, all_counted lines)

module _ (rules : Rules) (lines trimmed : List Line) (are : AreTrimmed rules lines trimmed) where
  pub no_more_of : (test : Line → Bool) → count_by test trimmed ≤ count_by test lines
  no_more_of test =
      let below : All (λ x. x < length lines) are.places
      = λ i d within. ((are.exact (get_or are.places i d)).0 (Contains-get_or are.places i d within)).best.within in
      let all = between 0 (length lines) are.places (AllPairs-from_increasing are.places are.rising) (λ i d within. omega arith) below in
      let read : (i : ℕ) → i < length lines → line_at lines (0 + i) ≡ line_at lines i = λ i _. ap (line_at lines) (let e : 0 + i ≡ i = omega arith in e) in
      let most = counted test (line_at lines) 0 (length lines) lines are.places (omega arith) read all in
      subst (λ (xs : List Line). count_by test xs ≤ count_by test lines) (sym are.are) most

  pub no_longer : length trimmed ≤ length lines
  no_longer = omega (arith, no_more_of (λ _. true), all_counted trimmed, all_counted lines)
