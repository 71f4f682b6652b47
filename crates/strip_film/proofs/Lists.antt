-- Lists along which each scene is a choice of what remained.
use Rattle.std.proofs.Common.{◌≡◌, ℕ, ◌+◌, true, false, List, [], ◌∷◌, ◌++◌, length, Contains, inl, inr, refl, sym, ◌∙◌, subst, arith}
use Rattle.std.proofs.lemmas.Bool.Decides.{eqb_tells}
use Rattle.strip_mask.specs.Set.{IsSet, LiesBelow, has, without, size}
use Rattle.strip_mask.proofs.ByMembers.{has-empty, has_from_minus, has_from_without, has-without_other, IsSet-without}
use Rattle.strip_mask.proofs.Below.{LiesBelow-without}
use Rattle.strip_mask.proofs.Sizes.{size-without}
use Rattle.strip_model.specs.Film.{FilmData}
use Rattle.strip_mask.proofs.Lists.{contains_here, contains_later, contains_cases, contains_none}
use Rattle.strip_film.specs.Film.{LiesIn}
use Rattle.strip_film.specs.Shoot.{behind, ready, step_cost}
use Rattle.strip_film.specs.Finish.{AreFirsts, Remained, rest_after, EachOnce, steps_cost}
use Rattle.strip_film.specs.Rules.{Rules, FirstsAreReady}

-- each scene of the list was one of those that remained, ready or not
abbrev pub AllRemained : ℕ → List ℕ → Type 0
AllRemained set scenes = AreFirsts (λ (q : ℕ). q) set scenes

-- the list has each scene of the set once, in any order
abbrev pub AllOnce : ℕ → List ℕ → Type 0
AllOnce set scenes = AllRemained set scenes × (rest_after set scenes ≡ 0)

-- a list by one choice is a list by a wider choice
pub AreFirsts-wider : (n : ℕ) (firsts wider : ℕ → ℕ)
    → ((set scene : ℕ) → LiesBelow n set → has (firsts set) scene ≡ true → has (wider set) scene ≡ true)
    → (set : ℕ) (scenes : List ℕ) → LiesBelow n set → AreFirsts firsts set scenes → AreFirsts wider set scenes
AreFirsts-wider n firsts wider more set [] lies are = tt
AreFirsts-wider n firsts wider more set (s ∷ scenes) lies are =
    (more set s lies are.0, AreFirsts-wider n firsts wider more (without set s) scenes (LiesBelow-without n set s lies) are.1)

-- where the firsts are ready, a list of firsts is one of ready scenes
pub Remained-from_firsts : (rules : Rules) → FirstsAreReady rules → (set : ℕ) (scenes : List ℕ) → LiesIn rules.film set
    → AreFirsts rules.firsts set scenes → Remained rules.film set scenes
Remained-from_firsts rules ready_firsts set scenes lies are =
    AreFirsts-wider (length rules.film.casts) rules.firsts (ready rules.film) ready_firsts set scenes lies are

-- a ready scene of a set is in it
pub ready_there : (film : FilmData) (set scene : ℕ) → has (ready film set) scene ≡ true → has set scene ≡ true
ready_there film set scene member = (has_from_minus set (behind film.pairs set) scene member).0

pub AllRemained-from_ready : (film : FilmData) (set : ℕ) (scenes : List ℕ) → Remained film set scenes → AllRemained set scenes
AllRemained-from_ready film set [] remained = tt
AllRemained-from_ready film set (s ∷ scenes) remained =
    (ready_there film set s remained.0, AllRemained-from_ready film (without set s) scenes remained.1)

pub AllOnce-from_ready : (film : FilmData) (set : ℕ) (scenes : List ℕ) → EachOnce film set scenes → AllOnce set scenes
AllOnce-from_ready film set scenes each = (AllRemained-from_ready film set scenes each.0, each.1)

-- a list that has each scene of a set once has the scenes of the set
pub has_from_list : (set : ℕ) (scenes : List ℕ) (x : ℕ) → AllRemained set scenes → Contains scenes x → has set x ≡ true
has_from_list set [] x remained there = absurd (contains_none x there)
has_from_list set (s ∷ scenes) x (member, later) there = elim (contains_cases s scenes x there) [
  | inl same ↦ subst (λ (i : ℕ). has set i ≡ true) same member
  | inr found ↦ (has_from_without set s x (has_from_list (without set s) scenes x later found)).1
]

pub list_has : (set : ℕ) (scenes : List ℕ) (x : ℕ) → AllOnce set scenes → has set x ≡ true → Contains scenes x
list_has set [] x (remained, none) member =
    let e : has 0 x ≡ true = subst (λ (q : ℕ). has q x ≡ true) none member in
    absurd (let f : false ≡ true = sym (has-empty x) ∙ e in cc)
list_has set (s ∷ scenes) x ((there, later), none) member = elim (eqb_tells s x) [
  | inl same ↦ subst (Contains (s ∷ scenes)) same.1 (contains_here s scenes)
  | inr other ↦ contains_later s scenes x (list_has (without set s) scenes x (later, none) (has-without_other set s x other.1 ∙ member))
]

-- ---- one scene more

pub AreFirsts-append : (firsts : ℕ → ℕ) (set s : ℕ) (scenes : List ℕ)
    → AreFirsts firsts set scenes → has (firsts (rest_after set scenes)) s ≡ true → AreFirsts firsts set (scenes ++ s ∷ [])
AreFirsts-append firsts set s [] are there = (there, tt)
AreFirsts-append firsts set s (x ∷ scenes) are there = (are.0, AreFirsts-append firsts (without set x) s scenes are.1 there)

pub rest_after-parts : (set : ℕ) (xs ys : List ℕ) → rest_after set (xs ++ ys) ≡ rest_after (rest_after set xs) ys
rest_after-parts set [] ys = refl
rest_after-parts set (x ∷ xs) ys = rest_after-parts (without set x) xs ys

pub rest_after-append : (set s : ℕ) (scenes : List ℕ) → rest_after set (scenes ++ s ∷ []) ≡ without (rest_after set scenes) s
rest_after-append set s [] = refl
rest_after-append set s (x ∷ scenes) = rest_after-append (without set x) s scenes

pub steps_cost-append : (film : FilmData) (set s : ℕ) (scenes : List ℕ)
    → steps_cost film set (scenes ++ s ∷ []) ≡ steps_cost film set scenes + step_cost film (rest_after set scenes) s
steps_cost-append film set s [] = omega arith
steps_cost-append film set s (x ∷ scenes) =
    let rest : steps_cost film (without set x) (scenes ++ s ∷ []) ≡ steps_cost film (without set x) scenes + step_cost film (rest_after (without set x) scenes) s
    = steps_cost-append film (without set x) s scenes in
    omega (arith, rest)

-- ---- what remains

pub LiesBelow-rest_after : (n set : ℕ) (scenes : List ℕ) → LiesBelow n set → LiesBelow n (rest_after set scenes)
LiesBelow-rest_after n set [] lies = lies
LiesBelow-rest_after n set (x ∷ scenes) lies = LiesBelow-rest_after n (without set x) scenes (LiesBelow-without n set x lies)

-- each scene shot leaves one fewer
pub size-rest_after : (set : ℕ) (scenes : List ℕ) → IsSet set → AllRemained set scenes → length scenes + size (rest_after set scenes) ≡ size set
size-rest_after set [] is remained = omega arith
size-rest_after set (x ∷ scenes) is remained =
    let rest : length scenes + size (rest_after (without set x) scenes) ≡ size (without set x)
    = size-rest_after (without set x) scenes (IsSet-without set x is) remained.1 in
    let fewer : size (without set x) + 1 ≡ size set = size-without set x is remained.0 in
    omega (arith, rest, fewer)
