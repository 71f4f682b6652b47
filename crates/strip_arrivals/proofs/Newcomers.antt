-- A list of actors with one more, and without one.
use Rattle.std.proofs.Common.{◌≡◌, ℕ, Bool, true, false, not, ◌&&◌, ◌||◌, cond, eqb, List, [], ◌∷◌, ◌++◌, filter, refl, sym, ap, ◌∙◌, inl, inr}
use Rattle.std.proofs.lemmas.Bool.{eqb-true}
use Rattle.std.proofs.lemmas.Bool.Decides.{eqb_tells}
use Rattle.strip_mask.specs.Set.{has}
use Rattle.strip_mask.proofs.ByMembers.{has-empty, has-with}
use Rattle.strip_arrivals.specs.Arrivals.{actors_of}
use Rattle.strip_mask.proofs.Agree.{or_turned}

pub actors_more : (actors : List ℕ) (actor i : ℕ) → has (actors_of (actors ++ actor ∷ [])) i ≡ (eqb actor i || has (actors_of actors) i)
actors_more [] actor i = has-with 0 actor i
actors_more (a ∷ actors) actor i =
    has-with (actors_of (actors ++ actor ∷ [])) a i ∙ ap (λ b. eqb a i || b) (actors_more actors actor i)
    ∙ or_turned (eqb a i) (eqb actor i) (has (actors_of actors) i) ∙ ap (λ b. eqb actor i || b) (sym (has-with (actors_of actors) a i))

pub actors_fewer : (actors : List ℕ) (actor i : ℕ) → has (actors_of (filter (λ other. not (eqb other actor)) actors)) i ≡ (not (eqb actor i) && has (actors_of actors) i)
actors_fewer [] actor i = has-empty i ∙ sym (ap (λ b. not (eqb actor i) && b) (has-empty i) ∙ none (eqb actor i))
  where
    none : (b : Bool) → (not b && false) ≡ false
    none true = refl
    none false = refl
actors_fewer (a ∷ actors) actor i = elim (eqb_tells a actor) [
  | inl is ↦ ap (λ (b : Bool). has (actors_of (cond (not b) (a ∷ filter (λ other. not (eqb other actor)) actors) (filter (λ other. not (eqb other actor)) actors))) i) is.0
      ∙ actors_fewer actors actor i ∙ drop_it (eqb actor i) (has (actors_of actors) i)
      ∙ ap (λ b. not (eqb actor i) && b) (ap (λ (x : ℕ). eqb x i || has (actors_of actors) i) (sym is.1) ∙ sym (has-with (actors_of actors) a i))
  | inr other ↦ ap (λ (b : Bool). has (actors_of (cond (not b) (a ∷ filter (λ other. not (eqb other actor)) actors) (filter (λ other. not (eqb other actor)) actors))) i) other.0
      ∙ has-with (actors_of (filter (λ other. not (eqb other actor)) actors)) a i ∙ ap (λ b. eqb a i || b) (actors_fewer actors actor i)
      ∙ keep (eqb a i) (eqb actor i) (has (actors_of actors) i) (λ first second. other.1 (eqb-true a i first ∙ sym (eqb-true actor i second)))
      ∙ ap (λ b. not (eqb actor i) && b) (sym (has-with (actors_of actors) a i))
]
  where
    drop_it : (x h : Bool) → (not x && h) ≡ (not x && (x || h))
    drop_it true h = refl
    drop_it false h = refl

    keep : (a x h : Bool) → (a ≡ true → x ≡ true → ⊥) → (a || (not x && h)) ≡ (not x && (a || h))
    keep true true h both = absurd (both refl refl)
    keep true false h both = refl
    keep false x h both = refl
