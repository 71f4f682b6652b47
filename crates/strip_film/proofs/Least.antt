-- A least tail exists.
use Rattle.std.proofs.Common.{◌≡◌, ◌≢◌, ℕ, zero, suc, ◌+◌, ◌≤◌, true, List, [], ◌∷◌, Contains, inl, inr, refl, sym, ap, ◌∙◌, subst, arith}
use Rattle.std.proofs.lemmas.Bool.{cases_lt}
use Rattle.strip_mask.specs.Set.{IsSet, has, without, members, size}
use Rattle.strip_mask.proofs.ByMembers.{IsSet-minus, IsSet-without}
use Rattle.strip_mask.proofs.Members.{Contains-members, has_from_members}
use Rattle.strip_mask.proofs.Sizes.{size-without, size-empty, empty_from_size}
use Rattle.strip_model.specs.Film.{FilmData}
use Rattle.strip_mask.proofs.Lists.{contains_here, contains_later, contains_cases, contains_none}
use Rattle.strip_film.specs.Film.{IsFilm}
use Rattle.strip_film.specs.Shoot.{behind, ready, step_cost}
use Rattle.strip_film.specs.Finish.{EachOnce, steps_cost, IsAtMostFinish, IsFinish, BeginsLeast}
use Rattle.strip_film.proofs.Lists.{ready_there}
use Rattle.strip_film.proofs.ByPairs.{some_ready}

module _ (film : FilmData) (set : ℕ) where
  -- a first scene, and the cost of finishing the rest
  abbrev FirstStep : Type 0
  FirstStep = (scene : ℕ) × (has (ready film set) scene ≡ true) × ((cost : ℕ) × IsFinish film (without set scene) cost)

  abbrev value : FirstStep → ℕ
  value first = step_cost film set first.0 + first.2.0

  -- no list that begins with one of these scenes costs less
  abbrev IsLeastOf : FirstStep → List ℕ → Type 0
  IsLeastOf first scenes = (x : ℕ) → Contains scenes x → (later : List ℕ) → EachOnce film (without set x) later
      → value first ≤ step_cost film set x + steps_cost film (without set x) later

  -- of one first scene
  alone : (first : FirstStep) → IsLeastOf first (first.0 ∷ [])
  alone (scene, member, finish) x there later each = elim (contains_cases scene [] x there) [
    | inl same ↦ subst (λ (i : ℕ). EachOnce film (without set i) later → step_cost film set scene + finish.0 ≤ step_cost film set i + steps_cost film (without set i) later) same
        (λ once. let least : finish.0 ≤ steps_cost film (without set scene) later = finish.1.least later once in omega arith) each
    | inr none ↦ absurd (contains_none x none)
  ]

  -- of one first scene and a list
  lesser : (a b : FirstStep) (scenes : List ℕ) → IsLeastOf b scenes → (first : FirstStep) × IsLeastOf first (a.0 ∷ scenes)
  lesser a b scenes least = elim (cases_lt (value a) (value b)) [
    | inl less ↦ (
      a,
      λ x there later each. elim (contains_cases a.0 scenes x there) [
        | inl same ↦ alone a x (subst (Contains (a.0 ∷ [])) same (contains_here a.0 [])) later each
        | inr among ↦ (let bound : value b ≤ step_cost film set x + steps_cost film (without set x) later = least x among later each in omega (arith, less))
      ],
    )
    | inr more ↦ (
      b,
      λ x there later each. elim (contains_cases a.0 scenes x there) [
        | inl same ↦ (let bound : value a ≤ step_cost film set x + steps_cost film (without set x) later
            = alone a x (subst (Contains (a.0 ∷ [])) same (contains_here a.0 [])) later each in omega (arith, more))
        | inr among ↦ least x among later each
      ],
    )
  ]

  -- the least over a list of first scenes
  least_among : ((scene : ℕ) → has (ready film set) scene ≡ true → (cost : ℕ) × IsFinish film (without set scene) cost)
      → (scene : ℕ) (scenes : List ℕ) → ((x : ℕ) → Contains (scene ∷ scenes) x → has (ready film set) x ≡ true) → (first : FirstStep) × IsLeastOf first (scene ∷ scenes)
  least_among finishes scene [] there =
      let member : has (ready film set) scene ≡ true = there scene (contains_here scene []) in
      ((scene, member, finishes scene member), alone (scene, member, finishes scene member))
  least_among finishes scene (next ∷ scenes) there =
      let rest : (first : FirstStep) × IsLeastOf first (next ∷ scenes)
      = least_among finishes next scenes (λ x later. there x (contains_later scene (next ∷ scenes) x later)) in
      let member : has (ready film set) scene ≡ true = there scene (contains_here scene (next ∷ scenes)) in
      lesser (scene, member, finishes scene member) rest.0 (next ∷ scenes) rest.1

  -- the least first step of the whole set ends in the cost of finishing it
  finish_by : set ≢ 0 → (first : FirstStep) (scenes : List ℕ) → ((x : ℕ) → has (ready film set) x ≡ true → Contains scenes x) → IsLeastOf first scenes
      → IsFinish film set (value first)
  finish_by some first scenes all least = record {
    attained = (
      first.0 ∷ first.2.1.attained.0,
      ((first.1, first.2.1.attained.1.0), first.2.1.attained.1.1),
      ap (λ (n : ℕ). step_cost film set first.0 + n) first.2.1.attained.2,
    );
    least = ends;
  }
    where
      ends : IsAtMostFinish film set (value first)
      ends [] each = absurd (some each.1)
      ends (x ∷ later) each = least x (all x each.0.0) later (each.0.1, each.1)

nothing_to_finish : (film : FilmData) (set : ℕ) → set ≡ 0 → IsFinish film set 0
nothing_to_finish film set none = record { attained = ([], (tt, none), refl); least = λ scenes each. omega arith }

module _ (film : FilmData) (is : IsFilm film) where
  finish_of_size : (n set : ℕ) → IsSet set → size set ≡ n → (cost : ℕ) × IsFinish film set cost
  finish_of_size zero set set_is count = (0, nothing_to_finish film set (empty_from_size set set_is count))
  finish_of_size (suc n) set set_is count =
      let some : set ≢ 0 = λ none. let e : size set ≡ 0 = ap size none ∙ size-empty in omega (arith, e) in
      let one : (scene : ℕ) × (has (ready film set) scene ≡ true) = some_ready film set is set_is some in
      let ready_set : IsSet (ready film set) = IsSet-minus set (behind film.pairs set) set_is in
      let least : (first : FirstStep film set) × IsLeastOf film set first (one.0 ∷ members (ready film set))
      = least_among film set (λ scene there. finish_of_size n (without set scene) (IsSet-without set scene set_is)
      (omega (arith, size-without set scene set_is (ready_there film set scene there))))
      one.0 (members (ready film set)) (λ x among. elim (contains_cases one.0 (members (ready film set)) x among) [
        | inl same ↦ subst (λ (i : ℕ). has (ready film set) i ≡ true) same one.1
        | inr in_members ↦ has_from_members (ready film set) x in_members
      ]) in (
        value film set least.0,
        finish_by film set some least.0 (one.0 ∷ members (ready film set))
            (λ x there. contains_later one.0 (members (ready film set)) x (Contains-members (ready film set) x ready_set there))
            least.1,
      )

  -- every set of scenes has a cost of finishing
  pub finish_exists : (set : ℕ) → IsSet set → (cost : ℕ) × IsFinish film set cost
  finish_exists set set_is = finish_of_size (size set) set set_is refl

  -- one of the ready scenes of a set that isn't empty begins a least tail
  pub some_begins_least : (set : ℕ) → IsSet set → set ≢ 0 → (scene : ℕ) × (has (ready film set) scene ≡ true) × BeginsLeast film set scene
  some_begins_least set set_is some =
      let finish = finish_exists set set_is in
      begins finish.0 finish.1.attained.0 finish.1.attained.1 finish.1.attained.2 finish.1.least
    where
      begins : (cost : ℕ) (scenes : List ℕ) → EachOnce film set scenes → steps_cost film set scenes ≡ cost → IsAtMostFinish film set cost
          → (scene : ℕ) × (has (ready film set) scene ≡ true) × BeginsLeast film set scene
      begins cost [] each tail least = absurd (some each.1)
      begins cost (s ∷ later) each tail least =
          (s, each.0.0, (later, each, subst (IsAtMostFinish film set) (sym tail) least))
