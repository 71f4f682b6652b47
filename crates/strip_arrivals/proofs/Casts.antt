-- Who works in some scenes, and with whom.
use Rattle.std.proofs.Common.{◌≡◌, ℕ, Bool, true, false, not, ◌&&◌, eqb, List, [], ◌∷◌, Contains, filter, slice_index, sym, ap, ◌∙◌, subst, inl, inr}
use Rattle.std.proofs.lemmas.Bool.{false≢true, and_parts, eqb-true, eq-eqb, or_left, or_right, false_from_ne_true, not-true, and_from}
use Rattle.std.proofs.lemmas.Bool.Decides.{eqb_tells}
use Rattle.strip_mask.specs.Set.{IsSet, has, with, without, meet, members}
use Rattle.strip_mask.proofs.ByMembers.{has-union, has-meet, has-with_same, has-with, has-without_other, has_from_meet, has_from_union, has_from_with, empty_from, empty_has}
use Rattle.strip_mask.proofs.Members.{Contains-members, has_from_members}
use Rattle.strip_group.specs.Group.{GroupData}
use Rattle.strip_arrivals.specs.Arrivals.{cast_of, actors_of, is_without, mates}
use Rattle.strip_arrivals.specs.Along.{HasEach}
use Rattle.strip_mask.proofs.Lists.{contains_here, contains_later, contains_cases, contains_none}
use Rattle.strip_arrivals.proofs.Lists.{contains_filter, contains_from_filter, some_or_none}
use Rattle.strip_mask.proofs.Agree.{same_test}

-- who works in a scene works in one of its list
pub has_cast : (film : GroupData) (scenes : List ℕ) (scene actor : ℕ) → Contains scenes scene → has (slice_index film.casts scene) actor ≡ true
    → has (cast_of film scenes) actor ≡ true
has_cast film [] scene actor there works = absurd (contains_none scene there)
has_cast film (s ∷ scenes) scene actor there works =
    has-union (slice_index film.casts s) (cast_of film scenes) actor ∙ elim (contains_cases s scenes scene there) [
      | inl same ↦ or_left (has (slice_index film.casts s) actor) (has (cast_of film scenes) actor) (subst (λ k. has (slice_index film.casts k) actor ≡ true) (sym same) works)
      | inr later ↦ or_right (has (slice_index film.casts s) actor) (has (cast_of film scenes) actor) (has_cast film scenes scene actor later works)
    ]

-- and the other way
pub cast_has : (film : GroupData) (scenes : List ℕ) (actor : ℕ) → has (cast_of film scenes) actor ≡ true
    → (scene : ℕ) × Contains scenes scene × (has (slice_index film.casts scene) actor ≡ true)
cast_has film [] actor there = absurd (empty_has actor there)
cast_has film (s ∷ scenes) actor there = elim (has_from_union (slice_index film.casts s) (cast_of film scenes) actor there) [
  | inl works ↦ (s, contains_here s scenes, works)
  | inr later ↦ (let found = cast_has film scenes actor later in (found.0, contains_later s scenes found.0 found.1, found.2))
]

-- who works in a scene of a set works in one of a list that has each
pub each_cast : (film : GroupData) (set : ℕ) (scenes : List ℕ) (scene actor : ℕ) → HasEach set scenes → has set scene ≡ true
    → has (slice_index film.casts scene) actor ≡ true → has (cast_of film scenes) actor ≡ true
each_cast film set [] scene actor each there works = absurd (empty_has scene (subst (λ k. has k scene ≡ true) each there))
each_cast film set (s ∷ scenes) scene actor (first, later) there works =
    has-union (slice_index film.casts s) (cast_of film scenes) actor ∙ elim (eqb_tells s scene) [
      | inl same ↦ or_left (has (slice_index film.casts s) actor) (has (cast_of film scenes) actor) (subst (λ k. has (slice_index film.casts k) actor ≡ true) (sym same.1) works)
      | inr other ↦ or_right (has (slice_index film.casts s) actor) (has (cast_of film scenes) actor)
          (each_cast film (without set s) scenes scene actor later (has-without_other set s scene other.1 ∙ there) works)
    ]

-- the actors of a list, and of those of it that pass
pub has_listed : (actors : List ℕ) (actor : ℕ) → Contains actors actor → has (actors_of actors) actor ≡ true
has_listed [] actor there = absurd (contains_none actor there)
has_listed (a ∷ actors) actor there = elim (contains_cases a actors actor there) [
  | inl same ↦ subst (λ k. has (with (actors_of actors) a) k ≡ true) same (has-with_same (actors_of actors) a)
  | inr later ↦ has-with (actors_of actors) a actor ∙ or_right (eqb a actor) (has (actors_of actors) actor) (has_listed actors actor later)
]

pub listed_has : (actors : List ℕ) (actor : ℕ) → has (actors_of actors) actor ≡ true → Contains actors actor
listed_has [] actor there = absurd (empty_has actor there)
listed_has (a ∷ actors) actor there = elim (has_from_with (actors_of actors) a actor there) [
  | inl same ↦ subst (λ k. Contains (a ∷ actors) k) same (contains_here a actors)
  | inr later ↦ contains_later a actors actor (listed_has actors actor later)
]

pub listed_filter : (p : ℕ → Bool) (actors : List ℕ) (actor : ℕ) → has (actors_of (filter p actors)) actor ≡ true → has (actors_of actors) actor ≡ true
listed_filter p actors actor there = has_listed actors actor (contains_from_filter p actors actor (listed_has (filter p actors) actor there)).0

-- ---- nobody of a set works in a scene

pub is_none : (film : GroupData) (actors scene : ℕ) → ((i : ℕ) → has (slice_index film.casts scene) i ≡ true → has actors i ≡ true → ⊥)
    → is_without film actors scene ≡ true
is_none film actors scene none = eq-eqb (meet (slice_index film.casts scene) actors) 0 (empty_from (meet (slice_index film.casts scene) actors) (λ i.
    false_from_ne_true (has (meet (slice_index film.casts scene) actors) i) (λ there.
    let both = has_from_meet (slice_index film.casts scene) actors i there in none i both.0 both.1)))

pub none_works : (film : GroupData) (actors scene i : ℕ) → is_without film actors scene ≡ true → has (slice_index film.casts scene) i ≡ true → has actors i ≡ true → ⊥
none_works film actors scene i none works there =
    empty_has i (ap (λ k. has k i) (sym (eqb-true (meet (slice_index film.casts scene) actors) 0 none))
    ∙ has-meet (slice_index film.casts scene) actors i ∙ and_from (has (slice_index film.casts scene) i) (has actors i) works there)

-- nobody of a set and one more works in a scene
pub without_one : (film : GroupData) (left one scene : ℕ) → is_without film (with left one) scene
    ≡ (is_without film left scene && not (has (slice_index film.casts scene) one))
without_one film left one scene = same_test (is_without film (with left one) scene) (is_without film left scene && not (has (slice_index film.casts scene) one))
    (λ none. and_from (is_without film left scene) (not (has (slice_index film.casts scene) one))
    (is_none film left scene (λ i works there. none_works film (with left one) scene i none works (has-with left one i ∙ or_right (eqb one i) (has left i) there)))
    (ap not (false_from_ne_true (has (slice_index film.casts scene) one) (λ works. none_works film (with left one) scene one none works (has-with_same left one)))))
    (λ both. let parts = and_parts (is_without film left scene) (not (has (slice_index film.casts scene) one)) both in
    is_none film (with left one) scene (λ i works there. elim (has_from_with left one i there) [
      | inl same ↦ false≢true (sym (not-true (has (slice_index film.casts scene) one) parts.1) ∙ subst (λ k. has (slice_index film.casts scene) k ≡ true) (sym same) works)
      | inr before ↦ none_works film left scene i parts.0 works before
    ]))

-- or someone of a list does
pub some_works : (film : GroupData) (actors : List ℕ) (scene : ℕ) → is_without film (actors_of actors) scene ≡ false
    → (i : ℕ) × Contains actors i × (has (slice_index film.casts scene) i ≡ true)
some_works film actors scene some = elim (some_or_none (has (slice_index film.casts scene)) actors) [
  | inl found ↦ found
  | inr none ↦ absurd (false≢true (sym some ∙ is_none film (actors_of actors) scene (λ i works there.
      false≢true (sym (none i (listed_has actors i there)) ∙ works))))
]

-- who shares a scene of the set with one of a list
pub has_mates : (film : GroupData) (set : ℕ) (actors : List ℕ) (scene one actor : ℕ) → IsSet set → has set scene ≡ true → Contains actors one
    → has (slice_index film.casts scene) one ≡ true → has (slice_index film.casts scene) actor ≡ true → has (mates film set (actors_of actors)) actor ≡ true
has_mates film set actors scene one actor small there listed works also =
    let some : is_without film (actors_of actors) scene ≡ false
    = false_from_ne_true (is_without film (actors_of actors) scene) (λ none. none_works film (actors_of actors) scene one none works (has_listed actors one listed)) in
    has_cast film (filter (λ s. not (is_without film (actors_of actors) s)) (members set)) scene actor
    (contains_filter (λ s. not (is_without film (actors_of actors) s)) (members set) scene (Contains-members set scene small there) (ap not some)) also

pub mates_has : (film : GroupData) (set : ℕ) (actors : List ℕ) (actor : ℕ) → has (mates film set (actors_of actors)) actor ≡ true
    → (scene : ℕ) × (has set scene ≡ true) × (has (slice_index film.casts scene) actor ≡ true) × ((one : ℕ) × Contains actors one × (has (slice_index film.casts scene) one ≡ true))
mates_has film set actors actor there =
    let found = cast_has film (filter (λ s. not (is_without film (actors_of actors) s)) (members set)) actor there in
    let parts = contains_from_filter (λ s. not (is_without film (actors_of actors) s)) (members set) found.0 found.1 in
    (found.0, has_from_members set found.0 parts.0, found.2, some_works film actors found.0 (not-true (is_without film (actors_of actors) found.0) parts.1))
