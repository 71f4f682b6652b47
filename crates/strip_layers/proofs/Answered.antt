-- Asks that are answered one after the other.
use Rattle.std.proofs.Common.{◌≡◌, ◌≢◌, ℕ, ◌+◌, ◌<◌, ◌≤◌, ◌⊎◌, min, true, List, length, map, get_or, set, inl, inr, refl, sym, ap, ◌∙◌, subst, arith}
use Rattle.std.proofs.lemmas.Bool.{cases_Bool, cases_eq}
use Rattle.std.proofs.lemmas.List.{ext_get_or, get_or-map, get_or-set_other, get_or-set_same, get_or_default, length-map, length-set}
use Rattle.strip_model.specs.declared.kind.Kind.{Kind}
use Rattle.strip_model.specs.Film.{FilmData}
use Rattle.strip_bound.specs.Bounds.{bound}
use Rattle.strip_layers.specs.declared.ask.Ask.{Ask}
use Rattle.strip_layers.specs.Asks.{AreAnswered, IsAnswer, Suffices, taken}

-- those before a place are answered, and the others are as they were
pub record AreAnsweredSo (kind : Kind) (film : FilmData) (number : ℕ) (before now : List Ask) : Type 0 where
  pub count : length now ≡ length before
  pub done : (place : ℕ) (d : Ask) → place < number → place < length before → IsAnswer kind film (get_or before place d) (get_or now place d)
  pub same : (place : ℕ) (d : Ask) → number ≤ place → get_or now place d ≡ get_or before place d

pub answered_none : (kind : Kind) (film : FilmData) (asks : List Ask) → AreAnsweredSo kind film 0 asks asks
answered_none kind film asks = record {
  count = refl;
  done = λ place d less. absurd (omega (arith, less));
  same = λ place d more. refl;
}

pub answered_more : (kind : Kind) (film : FilmData) (number : ℕ) (before now then : List Ask) (old answer : Ask) → AreAnsweredSo kind film number before now
    → number < length before → old ≡ get_or now number old → IsAnswer kind film old answer → then ≡ set now number answer
    → AreAnsweredSo kind film (number + 1) before then
answered_more kind film number before now then old answer so within old_is is then_is = record {
  count = ap length then_is ∙ length-set now number answer ∙ so.count;
  done = λ place d less there. elim (cases_eq place number) [
    | inl here ↦ subst (λ (k : ℕ). IsAnswer kind film (get_or before k d) (get_or then k d)) (sym here)
        (subst (λ (a : Ask). IsAnswer kind film a (get_or then number d)) (was d) (subst (IsAnswer kind film old) (sym (now_is d)) is))
    | inr other ↦ subst (IsAnswer kind film (get_or before place d)) (sym (at_other place d other)) (so.done place d (omega (arith, less, other)) there)
  ];
  same = λ place d more. at_other place d (λ same. omega (arith, more, same)) ∙ so.same place d (omega (arith, more));
}
  where
    in_now : number < length now
    in_now = omega (arith, within, so.count)

    was : (d : Ask) → old ≡ get_or before number d
    was d = old_is ∙ get_or_default now number old d in_now ∙ so.same number d (omega arith)

    now_is : (d : Ask) → get_or then number d ≡ answer
    now_is d = ap (λ (xs : List Ask). get_or xs number d) then_is ∙ get_or-set_same now number answer d in_now

    at_other : (place : ℕ) (d : Ask) → place ≢ number → get_or then place d ≡ get_or now place d
    at_other place d other = ap (λ (xs : List Ask). get_or xs place d) then_is ∙ get_or-set_other now number place answer d other

pub answered_all : (kind : Kind) (film : FilmData) (number : ℕ) (before now : List Ask) → AreAnsweredSo kind film number before now → length before ≤ number
    → AreAnswered kind film before now
answered_all kind film number before now so all = record {
  count = so.count;
  each = λ place d within. so.done place d (omega (arith, within, all)) within;
}

-- ---- the same whoever answers

least_same : (need most one other : ℕ) → one ≤ most → other ≤ most → (need ≤ one) ⊎ (one ≡ most) → (need ≤ other) ⊎ (other ≡ most)
    → min need one ≡ min need other
least_same need most one other below below_other (inl enough) (inl enough_other) = omega (arith, enough, enough_other)
least_same need most one other below below_other (inl enough) (inr whole) = omega (arith, enough, whole, below)
least_same need most one other below below_other (inr whole) (inl enough) = omega (arith, whole, enough, below_other)
least_same need most one other below below_other (inr whole) (inr whole_other) = omega (arith, whole, whole_other)

taken_same : (kind : Kind) (film : FilmData) (ask one other : Ask) → IsAnswer kind film ask one → IsAnswer kind film ask other → taken one ≡ taken other
taken_same kind film ask one other first second = elim (cases_Bool ask.is_known) [
  | inl known ↦ (λ i. min ((first.need ∙ sym second.need) i) ((first.known known ∙ sym (second.known known)) i))
  | inr asked ↦ (let a : Suffices kind film ask.set ask.need one.value = first.asked asked in
      let b : Suffices kind film ask.set ask.need other.value = second.asked asked in
      ap (λ (n : ℕ). min n one.value) first.need
      ∙ least_same ask.need (bound kind film ask.set) one.value other.value a.most b.most a.reaches b.reaches
      ∙ ap (λ (n : ℕ). min n other.value) (sym second.need))
]

pub answers_same : (kind : Kind) (film : FilmData) (asks one other : List Ask) → AreAnswered kind film asks one → AreAnswered kind film asks other
    → map taken one ≡ map taken other
answers_same kind film asks one other first second =
    ext_get_or 0 (map taken one) (map taken other) (count_one ∙ first.count ∙ sym second.count ∙ sym count_other) (λ place within.
    let here : place < length asks = omega (arith, within, count_one, first.count) in
    get_or-map taken one place no_ask 0 (omega (arith, here, first.count))
    ∙ taken_same kind film (get_or asks place no_ask) (get_or one place no_ask) (get_or other place no_ask) (first.each place no_ask here)
    (second.each place no_ask here)
    ∙ sym (get_or-map taken other place no_ask 0 (omega (arith, here, second.count))))
  where
    count_one : length (map taken one) ≡ length one
    count_one = length-map one taken

    count_other : length (map taken other) ≡ length other
    count_other = length-map other taken

    no_ask : Ask
    no_ask = record { set = 0; need = 0; is_known = true; value = 0 }
