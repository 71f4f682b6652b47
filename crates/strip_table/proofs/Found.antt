-- What is found in a bucket.
use Rattle.std.proofs.Common.{◌≡◌, ◌≢◌, ℕ, suc, ◌<◌, ◌==◌, List, [], ◌∷◌, length, slice_index_or, Option, Some, None, All, ap, sym, refl, inl, inr, ◌∙◌, ◌⊎◌, arith}
use Rattle.std.specs.List.{AllPairs, slice_get}
use Rattle.std.proofs.lemmas.Bool.{cases_Bool, cases_lt, cond-false, cond-true, eqb-false, eqb-true, ne_eqb}
use Rattle.std.proofs.lemmas.List.Elements.{All-cons, All-head, All-nil, All-tail}
use Rattle.std.proofs.lemmas.Option.{get_or_from_slice_get, same_Some, slice_get_within}
use Rattle.strip_film.specs.declared.shared.Known.{Known}
use Rattle.strip_table.specs.Bucket.{find_in}

-- no set stands twice
abbrev pub Once : List Known → Type 0
Once bucket = AllPairs (λ one other. one.set ≢ other.set) bucket

-- no entry of the set
abbrev pub Lacks : List Known → ℕ → Type 0
Lacks bucket set = All (λ entry. entry.set ≢ set) bucket

pub lacks_from_none : (bucket : List Known) (set : ℕ) → find_in bucket set ≡ None → Lacks bucket set
lacks_from_none [] set none = All-nil (λ (entry : Known). entry.set ≢ set)
lacks_from_none (first ∷ bucket) set none = elim (cases_Bool (first.set == set)) [
  | inl is ↦ (let here : find_in (first ∷ bucket) set ≡ Some first = cond-true (first.set == set) (Some first) (find_in bucket set) is in absurd (cc))
  | inr isnt ↦ All-cons (λ (entry : Known). entry.set ≢ set) first bucket (eqb-false first.set set isnt)
      (lacks_from_none bucket set (sym (cond-false (first.set == set) (Some first) (find_in bucket set) isnt) ∙ none))
]

pub none_from_lacks : (bucket : List Known) (set : ℕ) → Lacks bucket set → find_in bucket set ≡ None
none_from_lacks [] set lacks = refl
none_from_lacks (first ∷ bucket) set lacks =
    cond-false (first.set == set) (Some first) (find_in bucket set) (ne_eqb first.set set (All-head (λ (entry : Known). entry.set ≢ set) first bucket lacks))
    ∙ none_from_lacks bucket set (All-tail (λ (entry : Known). entry.set ≢ set) first bucket lacks)

-- what is found is an entry of the set
pub found_is : (bucket : List Known) (set : ℕ) (entry : Known) → find_in bucket set ≡ Some entry
    → (entry.set ≡ set) × ((place : ℕ) × (slice_get bucket place ≡ Some entry))
found_is [] set entry found = absurd (cc)
found_is (first ∷ bucket) set entry found = elim (cases_Bool (first.set == set)) [
  | inl is ↦ (
      let same : first ≡ entry = same_Some first entry (sym (cond-true (first.set == set) (Some first) (find_in bucket set) is) ∙ found) in
      (ap (λ (known : Known). known.set) (sym same) ∙ eqb-true first.set set is, (0, ap (λ (known : Known). Some known) same)))
  | inr isnt ↦ (
      let later = found_is bucket set entry (sym (cond-false (first.set == set) (Some first) (find_in bucket set) isnt) ∙ found) in
      (later.0, (suc later.1.0, later.1.1)))
]

-- two places of one set are one
pub one_place : (bucket : List Known) (i j : ℕ) (one other : Known) → Once bucket → slice_get bucket i ≡ Some one → slice_get bucket j ≡ Some other → one.set ≡ other.set → i ≡ j
one_place bucket i j one other once here there same =
    let within_i : i < length bucket = slice_get_within bucket i one here in
    let within_j : j < length bucket = slice_get_within bucket j other there in
    let at_i : slice_index_or bucket i one ≡ one = get_or_from_slice_get bucket i one one here in
    let at_j : slice_index_or bucket j one ≡ other = get_or_from_slice_get bucket j other one there in
    elim (cases_lt i j) [
      | inl lt ↦ absurd (once i j one lt within_j (ap (λ (k : Known). k.set) at_i ∙ same ∙ ap (λ (k : Known). k.set) (sym at_j)))
      | inr le ↦ elim (cases_lt j i) [
        | inl lt ↦ absurd (once j i one lt within_i (ap (λ (k : Known). k.set) at_j ∙ sym same ∙ ap (λ (k : Known). k.set) (sym at_i)))
        | inr more ↦ omega arith
      ]
    ]

-- an entry that stands is the one that is found of its set
pub found_from_place : (bucket : List Known) (place : ℕ) (entry : Known) → Once bucket → slice_get bucket place ≡ Some entry → find_in bucket entry.set ≡ Some entry
found_from_place bucket place entry once here = elim (some_or_none (find_in bucket entry.set)) [
  | inl none ↦ (
      let lacks = lacks_from_none bucket entry.set none in
      absurd (lacks place entry (slice_get_within bucket place entry here) (ap (λ (k : Known). k.set) (get_or_from_slice_get bucket place entry entry here))))
  | inr (other, found) ↦ (
      let is = found_is bucket entry.set other found in
      let same : is.1.0 ≡ place = one_place bucket is.1.0 place other entry once is.1.1 here is.0 in
      found ∙ sym is.1.1 ∙ ap (slice_get bucket) same ∙ here)
]
  where
    some_or_none : (o : Option Known) → (o ≡ None) ⊎ ((entry : Known) × (o ≡ Some entry))
    some_or_none None = inl refl
    some_or_none (Some entry) = inr (entry, refl)
