-- What fields without a fault keep: the limits.
use Rattle.std.proofs.Common.{◌≡◌, ◌≢◌, ◌<◌, ◌≤◌, ℕ, zero, suc, true, not, List, [], ◌∷◌, length, get_or, ap, sym, ◌∙◌, inl, inr, arith}
use Rattle.std.proofs.lemmas.Bool.{cases_lt, leb-true, false≢true, or_left, or_right}
use Rattle.std.proofs.lemmas.List.{get_or_past}
use Rattle.std.proofs.lemmas.Slice.Eq.{bytes_eq-Decides}
use Rattle.strip_mask.specs.Set.{has}
use Rattle.strip_model.specs.Data.{IsName}
use Rattle.strip_text.specs.Field.{Field}
use Rattle.strip_text.specs.Number.{is_number, number_of}
use Rattle.strip_instance.specs.Field.{is_name, is_scene_name, is_work_mark}
use Rattle.strip_instance.specs.Faults.{contains}
use Rattle.strip_instance.specs.Text.{cast_of_marks}
use Rattle.strip_text.proofs.Digits.{and-left, and-right}
use Rattle.strip_instance.proofs.Casts.{has-cast_of_marks}

-- a name keeps the limits of names
pub name-limits : (field : Field) → is_name field ≡ true → IsName field
name-limits field is =
    let lengths = and-left _ _ is in
    (leb-true 1 (length field) (and-left _ _ lengths), leb-true (length field) _ (and-right _ _ lengths))

pub scene_name-limits : (field : Field) → is_scene_name field ≡ true → IsName field
scene_name-limits field is = name-limits field (and-left _ _ is)

-- a number lies within its ends
pub number-limits : (least most : ℕ) (field : Field) → is_number least most field ≡ true → (least ≤ number_of field) × (number_of field ≤ most)
number-limits least most field is =
    (leb-true least (number_of field) (and-right _ _ (and-left _ _ is)), leb-true (number_of field) most (and-right _ _ is))

-- marks spell no other actor
pub cast-limits : (marks : List Field) (actor : ℕ) → has (cast_of_marks marks) actor ≡ true → actor < length marks
cast-limits marks actor there = elim (cases_lt actor (length marks)) [
  | inl within ↦ within
  | inr past ↦ absurd (false≢true (sym (has-cast_of_marks marks actor ∙ ap is_work_mark (get_or_past marks actor [] past)) ∙ there))
]

-- a name that stands among others is found there
found : (names : List Field) (name : Field) (place : ℕ) → place < length names → get_or names place [] ≡ name → contains names name ≡ true
found [] name place within is = absurd (omega arith)
found (other ∷ names) name zero within is = or_left _ _ ((bytes_eq-Decides name other).1 (sym is))
found (other ∷ names) name (suc place) within is = or_right _ _ (found names name place (omega arith) is)

-- a name that isn't among others differs from each
pub not_found : (names : List Field) (name : Field) (place : ℕ) → not (contains names name) ≡ true → place < length names → get_or names place [] ≢ name
not_found names name place absent within same = absurd (cc (rw (found names name place within same) at absent))
