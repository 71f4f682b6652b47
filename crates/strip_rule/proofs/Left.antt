-- What a test leaves of a set: the numbers that don't pass it.
use Rattle.std.proofs.Common.{◌≡◌, ◌↔◌, ℕ, Bool, true, false, cond, not, ◌&&◌, ◌||◌, eqb, List, [], ◌∷◌, ◌++◌, fold, refl, sym, ap, ◌∙◌, subst}
use Rattle.std.specs.List.{list_any}
use Rattle.std.proofs.Math.Bool.{or_assoc, or_comm, or-false, or-true}
use Rattle.std.proofs.lemmas.List.Sums.{fold-append}
use Rattle.std.proofs.lemmas.List.Folds.{list_any-append}
use Rattle.std.proofs.lemmas.Bool.{and_parts, eqb-true, eq-eqb, not-true, not-false, and_from}
use Rattle.strip_mask.specs.Set.{IsSet, has, with, members}
use Rattle.strip_mask.proofs.ByMembers.{has-with, has-empty}
use Rattle.strip_mask.proofs.Members.{Contains-members, has_from_members}
use Rattle.strip_model.proofs.Lists.{any_from, any_is}

abbrev leave : (ℕ → Bool) → ℕ → ℕ → ℕ
leave test found scene = cond (test scene) found (with found scene)

-- the numbers of the list that don't pass, as a set
abbrev pub left_by : (ℕ → Bool) → List ℕ → ℕ
left_by test scenes = fold (λ found scene. cond (test scene) found (with found scene)) 0 scenes

abbrev is_one : (ℕ → Bool) → ℕ → ℕ → Bool
is_one test x scene = not (test scene) && eqb scene x

has-leave : (test : ℕ → Bool) (found scene x : ℕ) → has (leave test found scene) x ≡ (has found x || is_one test x scene)
has-leave test found scene x = elim (test scene) as (λ b. has (cond b found (with found scene)) x ≡ (has found x || (not b && eqb scene x))) [
  | true ↦ sym (or-false (has found x))
  | false ↦ has-with found scene x ∙ or_comm (eqb scene x) (has found x)
]

has-fold : (test : ℕ → Bool) (found x : ℕ) (scenes : List ℕ) → has (fold (leave test) found scenes) x ≡ (has found x || list_any (is_one test x) scenes)
has-fold test found x [] = sym (or-false (has found x))
has-fold test found x (scene ∷ scenes) =
    has-fold test (leave test found scene) x scenes
    ∙ ap (λ (b : Bool). b || list_any (is_one test x) scenes) (has-leave test found scene x)
    ∙ or_assoc (has found x) (is_one test x scene) (list_any (is_one test x) scenes)

has-left_by : (test : ℕ → Bool) (x : ℕ) (scenes : List ℕ) → has (left_by test scenes) x ≡ list_any (is_one test x) scenes
has-left_by test x scenes = has-fold test 0 x scenes ∙ ap (λ (b : Bool). b || list_any (is_one test x) scenes) (has-empty x)

-- a number that is left is in the set and doesn't pass, and the other way round
pub left_is : (test : ℕ → Bool) (set x : ℕ) → has (left_by test (members set)) x ≡ true → (has set x ≡ true) × (test x ≡ false)
left_is test set x member =
    let found = any_is (is_one test x) (members set) (sym (has-left_by test x (members set)) ∙ member) in
    let parts = and_parts (not (test found.0)) (eqb found.0 x) found.2 in
    let same : found.0 ≡ x = eqb-true found.0 x parts.1 in (
      subst (λ (i : ℕ). has set i ≡ true) same (has_from_members set found.0 found.1),
      subst (λ (i : ℕ). test i ≡ false) same (not-true (test found.0) parts.0),
    )

pub is_left : (test : ℕ → Bool) (set x : ℕ) → IsSet set → has set x ≡ true → test x ≡ false → has (left_by test (members set)) x ≡ true
is_left test set x is member out =
    has-left_by test x (members set) ∙ any_from (is_one test x) (members set) x (Contains-members set x is member)
    (and_from (not (test x)) (eqb x x) (ap not out) (eq-eqb x x refl))

-- ---- in a loop over a set

-- some number passes where that of a turn does
pub any_at_turn : (test : ℕ → Bool) (set x : ℕ) (done rest later : List ℕ) → done ++ rest ≡ members set → rest ≡ x ∷ later → test x ≡ true
    → list_any test (members set) ≡ true
any_at_turn test set x done rest later all here passes =
    ap (list_any test) (sym all ∙ ap (λ (xs : List ℕ). done ++ xs) here)
    ∙ list_any-append test done (x ∷ later)
    ∙ rw passes (or-true (list_any test done))

-- one number more
pub left_by-keeps : (test : ℕ → Bool) (done : List ℕ) (x : ℕ) → test x ≡ false → left_by test (done ++ x ∷ []) ≡ with (left_by test done) x
left_by-keeps test done x out = fold-append (leave test) 0 done (x ∷ []) ∙ ap (λ (b : Bool). cond b (left_by test done) (with (left_by test done) x)) out

pub left_by-drops : (test : ℕ → Bool) (done : List ℕ) (x : ℕ) → test x ≡ true → left_by test (done ++ x ∷ []) ≡ left_by test done
left_by-drops test done x passes = fold-append (leave test) 0 done (x ∷ []) ∙ ap (λ (b : Bool). cond b (left_by test done) (with (left_by test done) x)) passes

-- what is left by the contrary of a test is what passes it
pub picked : (test : ℕ → Bool) (set found : ℕ) → IsSet set → found ≡ left_by (λ i. not (test i)) (members set)
    → (i : ℕ) → (has found i ≡ true) ↔ ((has set i ≡ true) × (test i ≡ true))
picked test set found is by i = (
  λ member. (let parts = left_is (λ i. not (test i)) set i (subst (λ (q : ℕ). has q i ≡ true) by member) in (parts.0, not-false (test i) parts.1)),
  λ both. subst (λ (q : ℕ). has q i ≡ true) (sym by) (is_left (λ i. not (test i)) set i is both.0 (ap not both.1)),
)
