-- The marks of a cast, as they are written.
use Rattle.std.proofs.Common.{◌≡◌, ℕ, ◌≤◌, true, false, cond, [], length, map, refl, sym, ap, ◌∙◌, inl, inr, arith, codes}
use Rattle.std.proofs.lemmas.Bool.{cases_lt}
use Rattle.std.specs.List.{range_with_len}
use Rattle.std.proofs.lemmas.List.FromFn.{get_or-map-range_with_len, length-map-range_with_len}
use Rattle.std.proofs.lemmas.List.{get_or_past}
use Rattle.strip_mask.specs.Set.{has, LiesBelow}
use Rattle.strip_mask.proofs.ByMembers.{same_has}
use Rattle.strip_text.specs.Field.{trimmed}
use Rattle.strip_instance.specs.Field.{is_work_mark, is_mark}
use Rattle.strip_instance.specs.Text.{cast_of_marks}
use Rattle.strip_instance.proofs.Casts.{has-cast_of_marks}
use Rattle.strip_instance.specs.Canonical.{mark_of}

-- the mark of an actor who works is one of work, and no other
is_work_mark-mark_of : (cast actor : ℕ) → is_work_mark (mark_of cast actor) ≡ has cast actor
is_work_mark-mark_of cast actor = elim (has cast actor) as (λ b. is_work_mark (cond b (codes "x") (codes ".")) ≡ b) [ true ↦ refl | false ↦ refl ]

-- each mark that is written is a mark
pub is_mark-mark_of : (cast actor : ℕ) → is_mark (mark_of cast actor) ≡ true
is_mark-mark_of cast actor = elim (has cast actor) as (λ b. is_mark (cond b (codes "x") (codes ".")) ≡ true) [ true ↦ refl | false ↦ refl ]

-- trimming changes no mark
pub trimmed-mark_of : (cast actor : ℕ) → trimmed (mark_of cast actor) ≡ mark_of cast actor
trimmed-mark_of cast actor = elim (has cast actor) as (λ b. trimmed (cond b (codes "x") (codes ".")) ≡ cond b (codes "x") (codes ".")) [ true ↦ refl | false ↦ refl ]

-- a cast of these actors alone is the set of its marks
pub cast_of_marks-mark_of : (actors cast : ℕ) → LiesBelow actors cast
    → cast_of_marks (map (mark_of cast) (range_with_len 0 actors)) ≡ cast
cast_of_marks-mark_of actors cast known =
    let marks = map (mark_of cast) (range_with_len 0 actors) in
    same_has (cast_of_marks marks) cast (λ actor. has-cast_of_marks marks actor ∙ elim (cases_lt actor actors) [
      | inl within ↦ ap is_work_mark (get_or-map-range_with_len (mark_of cast) 0 actors actor actor [] within (omega arith)) ∙ is_work_mark-mark_of cast actor
      | inr past ↦ (let long : length marks ≤ actor = omega (arith, length-map-range_with_len (mark_of cast) 0 actors) in
          ap is_work_mark (get_or_past marks actor [] long) ∙ sym (none actor past))
    ])
  where
    none : (actor : ℕ) → actors ≤ actor → has cast actor ≡ false
    none actor past = elim (has cast actor) as (λ b. has cast actor ≡ b → b ≡ false) [
      | true ↦ λ there. absurd (omega (arith, known actor there))
      | false ↦ λ _. refl
    ] refl
