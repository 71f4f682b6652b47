-- What sets of scenes have after a scene, or all scenes of another set, were put in.
use Rattle.std.proofs.Common.{◌≡◌, ◌≢◌, ℕ, zero, suc, ◌/◌, ◌%◌, ◌<◌, ◌≤◌, Bool, false, ◌||◌, eqb, List, [], ◌∷◌, length, get_or, set, refl, sym, ap, ◌∙◌, arith, inl, inr}
use Rattle.std.proofs.lemmas.Bool.{cases_eq}
use Rattle.std.proofs.lemmas.Bool.Decides.{nat_tests, eqb_tells}
use Rattle.std.proofs.lemmas.List.{get_or-set_same, get_or-set_other}
use Rattle.strip_mask.specs.declared.mask.Mask.{Mask}
use Rattle.strip_mask.specs.Set.{has, with, union}
use Rattle.strip_mask.proofs.ByMembers.{has-with, has-union, has-empty}
use Rattle.strip_model.specs.declared.scene_set.SceneSet.{SceneSet}
use Rattle.strip_model.specs.Befores.{has_scene}

-- the mask at this place
abbrev pub mask_at : List Mask → ℕ → ℕ
mask_at masks place = (get_or masks place (record { 0 = 0 })).0

mask_at-set_same : (masks : List Mask) (place : ℕ) (made : Mask) → place < length masks → mask_at (set masks place made) place ≡ made.0
mask_at-set_same masks place made lt = ap (λ (mask : Mask). mask.0) (get_or-set_same masks place made (record { 0 = 0 }) lt)

mask_at-set_other : (masks : List Mask) (place i : ℕ) (made : Mask) → i ≢ place → mask_at (set masks place made) i ≡ mask_at masks i
mask_at-set_other masks place i made other = ap (λ (mask : Mask). mask.0) (get_or-set_other masks place i made (record { 0 = 0 }) other)

pub has_scene-is : (set : SceneSet) (scene : ℕ) → has_scene set scene ≡ has (mask_at set.masks (scene / 64)) (scene % 64)
unfolding has_scene
has_scene-is set scene = refl

pub has_scene-empty : (scene : ℕ) → has_scene (record { masks = record { 0 = 0 } ∷ record { 0 = 0 } ∷ record { 0 = 0 } ∷ record { 0 = 0 } ∷ [] }) scene ≡ false
has_scene-empty scene = has_scene-is (record { masks = record { 0 = 0 } ∷ record { 0 = 0 } ∷ record { 0 = 0 } ∷ record { 0 = 0 } ∷ [] }) scene
    ∙ ap (λ (mask : ℕ). has mask (scene % 64)) (none (scene / 64)) ∙ has-empty (scene % 64)
  where
    none : (place : ℕ) → mask_at (record { 0 = 0 } ∷ record { 0 = 0 } ∷ record { 0 = 0 } ∷ record { 0 = 0 } ∷ []) place ≡ 0
    none zero = refl
    none (suc zero) = refl
    none (suc (suc zero)) = refl
    none (suc (suc (suc zero))) = refl
    none (suc (suc (suc (suc place)))) = refl

-- two scenes of one mask are the same where their places in it are
same_place : (a b : ℕ) → a / 64 ≡ b / 64 → eqb (a % 64) (b % 64) ≡ eqb a b
same_place a b same = elim (eqb_tells (a % 64) (b % 64)) [
  | inl equal ↦ (let whole : a ≡ b = omega (arith, equal.1, same) in rw whole (grind (arith, nat_tests)))
  | inr other ↦ (let apart : a ≢ b = λ whole. other.1 (ap (λ (n : ℕ). n % 64) whole) in grind (arith, nat_tests))
]

pub has_scene-added : (masks : List Mask) (scene other : ℕ) (made : Mask) → scene < 256 → length masks ≡ 4
    → made.0 ≡ with (mask_at masks (scene / 64)) (scene % 64)
    → has_scene (record { masks = set masks (scene / 64) made }) other ≡ (eqb scene other || has_scene (record { masks = masks }) other)
has_scene-added masks scene other made small size is =
    has_scene-is (record { masks = set masks (scene / 64) made }) other ∙ rw (has_scene-is (record { masks = masks }) other) (elim (cases_eq (other / 64) (scene / 64)) [
      | inl same ↦ rw same (rw (mask_at-set_same masks (scene / 64) made (omega arith)) (ap (λ (mask : ℕ). has mask (other % 64)) is
          ∙ has-with (mask_at masks (scene / 64)) (scene % 64) (other % 64) ∙ ap (λ (b : Bool). b || has (mask_at masks (scene / 64)) (other % 64)) (same_place scene other (sym same))))
      | inr apart ↦ (let none : eqb scene other ≡ false = grind (arith, nat_tests) in
          rw (none, mask_at-set_other masks (scene / 64) (other / 64) made apart) refl)
    ])

-- up to this place the masks have the others' scenes too
pub record AreUnited (place : ℕ) (others before now : List Mask) : Type 0 where
  pub done : (i : ℕ) → i < place → mask_at now i ≡ union (mask_at before i) (mask_at others i)
  pub to_do : (i : ℕ) → place ≤ i → mask_at now i ≡ mask_at before i
  pub size : length now ≡ 4

pub united-all : (others before now : SceneSet) (other : ℕ) → other < 256 → AreUnited 4 others.masks before.masks now.masks
    → has_scene now other ≡ (has_scene before other || has_scene others other)
united-all others before now other small are =
    has_scene-is now other ∙ ap (λ (mask : ℕ). has mask (other % 64)) (are.done (other / 64) (omega arith))
    ∙ has-union (mask_at before.masks (other / 64)) (mask_at others.masks (other / 64)) (other % 64)
    ∙ rw (has_scene-is before other, has_scene-is others other) refl
