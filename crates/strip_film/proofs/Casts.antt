-- Who works in the scenes of a set.
use Rattle.std.proofs.Common.{◌≡◌, ℕ, Bool, true, false, not, ◌||◌, List, [], ◌∷◌, length, Contains, fold, slice_index, inl, inr, sym, ap, ◌∙◌, subst}
use Rattle.std.specs.List.{list_any}
use Rattle.std.proofs.Math.Bool.{or_assoc, or-false}
use Rattle.std.proofs.lemmas.Bool.{cases_lt, ltb-true, and_from}
use Rattle.std.proofs.lemmas.List.{get_or_past}
use Rattle.strip_mask.specs.Set.{IsSet, LiesBelow, has, union, minus, members}
use Rattle.strip_mask.proofs.ByMembers.{has-union, has-minus, has-empty, has_from_minus, IsSet-minus}
use Rattle.strip_mask.proofs.Below.{has-full, has_full, IsSet-full}
use Rattle.strip_mask.proofs.Members.{has_from_members, Contains-members}
use Rattle.strip_model.specs.Film.{FilmData}
use Rattle.strip_model.specs.Pay.{works}
use Rattle.strip_model.proofs.Lists.{any_from, any_is}
use Rattle.strip_film.specs.Film.{IsFilm, all_scenes}
use Rattle.strip_film.specs.Shoot.{cast_of}
use Rattle.strip_film.specs.Located.{WorksInside, WorksOutside}

-- the casts of a list of scenes, added to a set
has-fold : (casts : List ℕ) (acc actor : ℕ) (scenes : List ℕ)
    → has (fold (λ cast scene. union cast (slice_index casts scene)) acc scenes) actor
    ≡ (has acc actor || list_any (λ scene. has (slice_index casts scene) actor) scenes)
has-fold casts acc actor [] = sym (or-false (has acc actor))
has-fold casts acc actor (s ∷ scenes) =
    has-fold casts (union acc (slice_index casts s)) actor scenes
    ∙ ap (λ (b : Bool). b || list_any (λ scene. has (slice_index casts scene) actor) scenes) (has-union acc (slice_index casts s) actor)
    ∙ or_assoc (has acc actor) (has (slice_index casts s) actor) (list_any (λ scene. has (slice_index casts scene) actor) scenes)

pub has-cast_of : (film : FilmData) (set actor : ℕ) → has (cast_of film set) actor ≡ list_any (works film actor) (members set)
has-cast_of film set actor =
    has-fold film.casts 0 actor (members set) ∙ ap (λ (b : Bool). b || list_any (works film actor) (members set)) (has-empty actor)

-- an actor of a set's cast works in a scene of it, and the other way round
pub cast_has : (film : FilmData) (set actor : ℕ) → has (cast_of film set) actor ≡ true → WorksInside film set actor
cast_has film set actor some =
    let found : (scene : ℕ) × Contains (members set) scene × (works film actor scene ≡ true) = any_is (works film actor) (members set) (sym (has-cast_of film set actor) ∙ some) in
    (found.0, has_from_members set found.0 found.1, found.2)

pub has_cast : (film : FilmData) (set actor : ℕ) → IsSet set → WorksInside film set actor → has (cast_of film set) actor ≡ true
has_cast film set actor is (scene, there, working) =
    has-cast_of film set actor ∙ any_from (works film actor) (members set) scene (Contains-members set scene is there) working

-- an actor was called before where he works in a scene that was shot, and the other way round
pub called_is : (film : FilmData) (set actor : ℕ) → has (cast_of film (minus (all_scenes film) set)) actor ≡ true → WorksOutside film set actor
called_is film set actor some =
    let found = cast_has film (minus (all_scenes film) set) actor some in
    let shot = has_from_minus (all_scenes film) set found.0 found.1 in
    (found.0, ltb-true found.0 (length film.casts) (sym (has-full (length film.casts) found.0) ∙ shot.0), shot.1, found.2)

pub is_called : (film : FilmData) (set actor : ℕ) → IsFilm film → WorksOutside film set actor → has (cast_of film (minus (all_scenes film) set)) actor ≡ true
is_called film set actor is (scene, known, gone, working) =
    has_cast film (minus (all_scenes film) set) actor (IsSet-minus (all_scenes film) set (IsSet-full (length film.casts) is.scene_count.1)) (
      scene,
      has-minus (all_scenes film) set scene ∙ and_from (has (all_scenes film) scene) (not (has set scene)) (has_full (length film.casts) scene known) (ap not gone),
      working,
    )

-- a scene's cast is a set of actors of the film, also past the last scene
pub cast_lies : (film : FilmData) (scene : ℕ) → IsFilm film → LiesBelow (length film.rates) (slice_index film.casts scene)
cast_lies film scene is = elim (cases_lt scene (length film.casts)) [
  | inl known ↦ is.casts scene 0 known
  | inr past ↦ (let none : slice_index film.casts scene ≡ 0 = get_or_past film.casts scene 0 past in
      subst (LiesBelow (length film.rates)) (sym none) (λ i member. absurd (let e : false ≡ true = sym (has-empty i) ∙ member in cc)))
]
