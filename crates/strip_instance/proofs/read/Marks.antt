-- The set that marks spell, mark by mark.
use Rattle.std.proofs.Common.{◌≡◌, ◌<◌, ◌+◌, ℕ, true, false, ◌||◌, eqb, List, [], length, get_or, take, ap, sym, ◌∙◌, arith, inl, inr}
use Rattle.std.proofs.lemmas.Bool.{cases_lt}
use Rattle.std.proofs.lemmas.Bool.Decides.{eqb_tells}
use Rattle.std.proofs.lemmas.List.{get_or-take, get_or_past, length-take-le}
use Rattle.strip_mask.specs.Set.{has, with}
use Rattle.strip_mask.proofs.ByMembers.{has-with, same_has}
use Rattle.strip_text.specs.Field.{Field}
use Rattle.strip_instance.specs.Field.{is_work_mark}
use Rattle.strip_instance.specs.Text.{cast_of_marks}
use Rattle.strip_instance.proofs.Casts.{has-cast_of_marks}

-- the first k marks spell the actors below k
has-first : (marks : List Field) (k actor : ℕ) → actor < k → has (cast_of_marks (take k marks)) actor ≡ is_work_mark (get_or marks actor [])
has-first marks k actor before = has-cast_of_marks (take k marks) actor ∙ ap is_work_mark (get_or-take k marks actor [] before)

has-none : (marks : List Field) (k actor : ℕ) → k < actor + 1 → k < length marks + 1 → has (cast_of_marks (take k marks)) actor ≡ false
has-none marks k actor past within =
    let long : length (take k marks) < actor + 1 = omega (arith, length-take-le k marks (omega arith)) in
    has-cast_of_marks (take k marks) actor ∙ ap is_work_mark (get_or_past (take k marks) actor [] (omega arith))

-- an actor who works joins the set of those before him
pub cast-joined : (marks : List Field) (cast k : ℕ) → k < length marks → is_work_mark (get_or marks k []) ≡ true → cast ≡ cast_of_marks (take k marks)
    → with cast k ≡ cast_of_marks (take (k + 1) marks)
cast-joined marks cast k within working so_far =
    same_has (with cast k) (cast_of_marks (take (k + 1) marks)) (λ actor. has-with cast k actor ∙ ap (λ set. eqb k actor || has set actor) so_far ∙ joined actor)
  where
    joined : (actor : ℕ) → (eqb k actor || has (cast_of_marks (take k marks)) actor) ≡ has (cast_of_marks (take (k + 1) marks)) actor
    joined actor = elim (eqb_tells k actor) [
      | inl is ↦ rw is.0 (sym (has-first marks (k + 1) actor (omega (arith, is.1)) ∙ ap (λ i. is_work_mark (get_or marks i [])) (sym is.1) ∙ working))
      | inr is_not ↦ rw is_not.0 (elim (cases_lt actor k) [
        | inl before ↦ has-first marks k actor before ∙ sym (has-first marks (k + 1) actor (omega arith))
        | inr past ↦ has-none marks k actor (omega arith) (omega arith) ∙ sym (has-none marks (k + 1) actor (omega (arith, is_not.1)) (omega arith))
      ])
    ]

-- one who rests leaves it
pub cast-kept : (marks : List Field) (cast k : ℕ) → k < length marks → is_work_mark (get_or marks k []) ≡ false → cast ≡ cast_of_marks (take k marks)
    → cast ≡ cast_of_marks (take (k + 1) marks)
cast-kept marks cast k within resting so_far = so_far ∙ same_has (cast_of_marks (take k marks)) (cast_of_marks (take (k + 1) marks)) kept
  where
    kept : (actor : ℕ) → has (cast_of_marks (take k marks)) actor ≡ has (cast_of_marks (take (k + 1) marks)) actor
    kept actor = elim (cases_lt actor k) [
      | inl before ↦ has-first marks k actor before ∙ sym (has-first marks (k + 1) actor (omega arith))
      | inr past ↦ has-none marks k actor (omega arith) (omega arith) ∙ sym (elim (eqb_tells k actor) [
        | inl is ↦ has-first marks (k + 1) actor (omega (arith, is.1)) ∙ ap (λ i. is_work_mark (get_or marks i [])) (sym is.1) ∙ resting
        | inr is_not ↦ has-none marks (k + 1) actor (omega (arith, is_not.1)) (omega arith)
      ])
    ]
