-- Which scenes of a set are ready, by the pairs.
use Rattle.std.proofs.Common.{◌≡◌, ◌≢◌, ◌↔◌, ℕ, ◌<◌, Bool, true, false, cond, not, ◌&&◌, ◌||◌, eqb, List, [], ◌∷◌, IsTrue, Contains, fold, inl, inr, refl, sym, ap, ◌∙◌, subst}
use Rattle.std.specs.List.{list_any}
use Rattle.std.proofs.Math.Bool.{and-true, or_assoc, or_comm, or-false}
use Rattle.std.proofs.lemmas.Bool.{cases_Bool, and_left, and_right, and_parts, eqb-true, eq-eqb, and_from}
use Rattle.strip_mask.specs.Set.{IsSet, has, with, meet, minus}
use Rattle.strip_mask.proofs.ByMembers.{has-with, has-meet, has-minus, has-empty, has_from_minus, empty_from, same_has, some_member, below_64}
use Rattle.strip_model.specs.declared.pair.Pair.{Pair}
use Rattle.strip_model.specs.Film.{FilmData}
use Rattle.strip_model.specs.Pairs.{Precedes}
use Rattle.strip_model.proofs.Chains.{some_first}
use Rattle.strip_model.proofs.Lists.{any_from, any_is}
use Rattle.strip_film.specs.Film.{IsFilm}
use Rattle.strip_film.specs.Shoot.{behind, ready}
use Rattle.strip_film.specs.Located.{IsReady}

-- the pair puts this scene behind one of the set
abbrev puts_behind : ℕ → ℕ → Pair → Bool
puts_behind set scene pair = has set pair.first && eqb pair.then scene

one_pair : (set scene found : ℕ) (pair : Pair)
    → has (cond (has set pair.first) (with found pair.then) found) scene ≡ (has found scene || puts_behind set scene pair)
one_pair set scene found pair =
    elim (has set pair.first) as (λ b. has (cond b (with found pair.then) found) scene ≡ (has found scene || (b && eqb pair.then scene))) [
      | true ↦ has-with found pair.then scene ∙ or_comm (eqb pair.then scene) (has found scene)
      | false ↦ sym (or-false (has found scene))
    ]

has-found : (set scene found : ℕ) (pairs : List Pair)
    → has (fold (λ found pair. cond (has set pair.first) (with found pair.then) found) found pairs) scene
    ≡ (has found scene || list_any (puts_behind set scene) pairs)
has-found set scene found [] = sym (or-false (has found scene))
has-found set scene found (pair ∷ pairs) =
    has-found set scene (cond (has set pair.first) (with found pair.then) found) pairs
    ∙ ap (λ (b : Bool). b || list_any (puts_behind set scene) pairs) (one_pair set scene found pair)
    ∙ or_assoc (has found scene) (puts_behind set scene pair) (list_any (puts_behind set scene) pairs)

has-behind : (pairs : List Pair) (set scene : ℕ) → has (behind pairs set) scene ≡ list_any (puts_behind set scene) pairs
has-behind pairs set scene = has-found set scene 0 pairs ∙ ap (λ (b : Bool). b || list_any (puts_behind set scene) pairs) (has-empty scene)

-- a scene is behind a set where a pair puts it behind a scene of the set
pub behind_is : (pairs : List Pair) (set scene : ℕ) → has (behind pairs set) scene ≡ true → (first : ℕ) × (has set first ≡ true) × Precedes pairs first scene
behind_is pairs set scene member =
    let found : (pair : Pair) × Contains pairs pair × (puts_behind set scene pair ≡ true) = any_is (puts_behind set scene) pairs (sym (has-behind pairs set scene) ∙ member) in
    let tests = and_parts (has set found.0.first) (eqb found.0.then scene) found.2 in (
      found.0.first,
      tests.0,
      subst (λ (then : ℕ). Contains pairs (record { first = found.0.first; then = then })) (eqb-true found.0.then scene tests.1) found.1,
    )

pub is_behind : (pairs : List Pair) (set scene first : ℕ) → has set first ≡ true → Precedes pairs first scene → has (behind pairs set) scene ≡ true
is_behind pairs set scene first there precedes =
    let pair : Pair = record { first = first; then = scene } in
    has-behind pairs set scene
    ∙ any_from (puts_behind set scene) pairs pair precedes (and_from (has set first) (eqb scene scene) there (eq-eqb scene scene refl))

-- a ready scene is in the set, and no scene of the set has to come before it
pub ready_is : (film : FilmData) (set scene : ℕ) → has (ready film set) scene ≡ true → IsReady film set scene
ready_is film set scene member = record {
  member = (has_from_minus set (behind film.pairs set) scene member).0;
  first = λ earlier precedes. elim (cases_Bool (has set earlier)) [
    | inl inside ↦ absurd (let e : has (behind film.pairs set) scene ≡ true = is_behind film.pairs set scene earlier inside precedes in
        let f : has (behind film.pairs set) scene ≡ false = (has_from_minus set (behind film.pairs set) scene member).1 in cc)
    | inr outside ↦ outside
  ];
}

pub is_ready : (film : FilmData) (set scene : ℕ) → IsReady film set scene → has (ready film set) scene ≡ true
is_ready film set scene is =
    has-minus set (behind film.pairs set) scene
    ∙ and_from (has set scene) (not (has (behind film.pairs set) scene)) is.member (ap not not_behind)
  where
    not_behind : has (behind film.pairs set) scene ≡ false
    not_behind = elim (cases_Bool (has (behind film.pairs set) scene)) [
      | inl member ↦ absurd (let found = behind_is film.pairs set scene member in
          let e : has set found.0 ≡ true = found.1 in
          let f : has set found.0 ≡ false = is.first found.0 found.2 in cc)
      | inr none ↦ none
    ]

-- without pairs all scenes of a set are ready
pub ready-no_pairs : (film : FilmData) (set : ℕ) → film.pairs ≡ [] → ready film set ≡ set
ready-no_pairs film set none =
    ap (λ (pairs : List Pair). minus set (behind pairs set)) none
    ∙ same_has (minus set 0) set (λ i. has-minus set 0 i ∙ rw (has-empty i) (and-true (has set i)))

-- a scene of a set is ready where the set has none of those that come directly before it
ready_by_row : (film : FilmData) (set scene row : ℕ) → ((first : ℕ) → (has row first ≡ true) ↔ Precedes film.pairs first scene) → has set scene ≡ true
    → meet row set ≡ 0 → has (ready film set) scene ≡ true
ready_by_row film set scene row tells there none = is_ready film set scene (record {
  member = there;
  first = λ earlier precedes. elim (cases_Bool (has set earlier)) [
    | inl inside ↦ absurd (let e : has (meet row set) earlier ≡ true = has-meet row set earlier ∙ and_from (has row earlier) (has set earlier) ((tells earlier).1 precedes) inside in
        let f : has (meet row set) earlier ≡ false = subst (λ (q : ℕ). has q earlier ≡ false) (sym none) (has-empty earlier) in cc)
    | inr outside ↦ outside
  ];
})

row_by_ready : (film : FilmData) (set scene row : ℕ) → ((first : ℕ) → (has row first ≡ true) ↔ Precedes film.pairs first scene)
    → has (ready film set) scene ≡ true → meet row set ≡ 0
row_by_ready film set scene row tells member = empty_from (meet row set) (λ i. has-meet row set i ∙ elim (cases_Bool (has row i)) [
  | inl before ↦ and_right (has row i) (has set i) ((ready_is film set scene member).first i ((tells i).0 before))
  | inr other ↦ and_left (has row i) (has set i) other
])

-- so a test of that decides it
pub ready_decides : (film : FilmData) (set scene row met : ℕ) (empty : Bool) → ((first : ℕ) → (has row first ≡ true) ↔ Precedes film.pairs first scene)
    → has set scene ≡ true → met ≡ meet row set → (IsTrue empty ↔ (met ≡ 0)) → has (ready film set) scene ≡ empty
ready_decides film set scene row met true tells there is decides = ready_by_row film set scene row tells there (sym is ∙ decides.0 refl)
ready_decides film set scene row met false tells there is decides = elim (cases_Bool (has (ready film set) scene)) [
  | inl member ↦ absurd (let e : false ≡ true = decides.1 (is ∙ row_by_ready film set scene row tells member) in cc)
  | inr none ↦ none
]

-- a set of a film's scenes that isn't empty has a ready scene
pub some_ready : (film : FilmData) (set : ℕ) → IsFilm film → IsSet set → set ≢ 0 → (scene : ℕ) × (has (ready film set) scene ≡ true)
some_ready film set is set_is some =
    let member : (i : ℕ) × (i < 64) × (has set i ≡ true) = some_member set set_is some in
    let first = some_first film.pairs 64 (has set) (λ x there. below_64 set x set_is there) is.pairs.no_cycle member.0 member.2 in
    (first.0, is_ready film set first.0 (record { member = first.1; first = first.2 }))
