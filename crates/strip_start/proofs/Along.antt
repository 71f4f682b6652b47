-- Who works along a list, and who is on location between two parts of an order.
use Rattle.std.proofs.Common.{◌≡◌, ℕ, ◌+◌, ◌<◌, Bool, true, ◌||◌, List, [], ◌∷◌, ◌++◌, length, take, slice_index, sym, ap, ◌∙◌}
use Rattle.std.specs.List.{list_any}
use Rattle.std.proofs.Math.Bool.{or_assoc, or-false}
use Rattle.std.proofs.lemmas.List.{take_more}
use Rattle.strip_mask.specs.Set.{LiesBelow, has, union, meet}
use Rattle.strip_mask.proofs.ByMembers.{has-union, has-meet, has-empty, has_from_meet, same_has}
use Rattle.std.proofs.lemmas.Bool.{and_from}
use Rattle.strip_mask.proofs.Below.{has_full, LiesBelow-full}
use Rattle.strip_model.specs.Film.{FilmData}
use Rattle.strip_model.specs.Pay.{works}
use Rattle.strip_mask.proofs.Agree.{same_test}
use Rattle.strip_model.proofs.Lists.{any_from, any_is}
use Rattle.strip_film.specs.Film.{IsFilm, all_scenes}
use Rattle.strip_film.specs.Finish.{rest_after}
use Rattle.strip_film.specs.Shoot.{on_location}
use Rattle.strip_film.specs.Located.{WorksInside, WorksOutside}
use Rattle.strip_film.proofs.Lists.{AllOnce, AllRemained, LiesBelow-rest_after, has_from_list, list_has}
use Rattle.strip_film.proofs.Located.{location_by_scenes}
use Rattle.strip_film.proofs.Casts.{cast_lies}
use Rattle.strip_start.specs.Sides.{cast_along}
use Rattle.strip_start.proofs.Parts.{AreFirsts-parts, AllOnce-behind, shot_out, out_shot}

-- whoever works along a list works in a scene of it
pub has-cast_along : (film : FilmData) (scenes : List ℕ) (actor : ℕ) → has (cast_along film scenes) actor ≡ list_any (works film actor) scenes
has-cast_along film [] actor = has-empty actor
has-cast_along film (s ∷ scenes) actor =
    has-union (slice_index film.casts s) (cast_along film scenes) actor
    ∙ ap (λ (b : Bool). works film actor s || b) (has-cast_along film scenes actor)

pub cast_along-append : (film : FilmData) (scenes : List ℕ) (s : ℕ)
    → cast_along film (scenes ++ s ∷ []) ≡ union (cast_along film scenes) (slice_index film.casts s)
cast_along-append film scenes s = same_has (cast_along film (scenes ++ s ∷ [])) (union (cast_along film scenes) (slice_index film.casts s)) (λ actor.
    more actor scenes ∙ sym (has-union (cast_along film scenes) (slice_index film.casts s) actor))
  where
    more : (actor : ℕ) (xs : List ℕ) → has (cast_along film (xs ++ s ∷ [])) actor ≡ (has (cast_along film xs) actor || works film actor s)
    more actor [] =
        has-union (slice_index film.casts s) 0 actor
        ∙ ap (λ (b : Bool). works film actor s || b) (has-empty actor)
        ∙ or-false (works film actor s)
        ∙ sym (ap (λ (b : Bool). b || works film actor s) (has-empty actor))
    more actor (x ∷ xs) =
        has-union (slice_index film.casts x) (cast_along film (xs ++ s ∷ [])) actor
        ∙ ap (λ (b : Bool). works film actor x || b) (more actor xs)
        ∙ sym (or_assoc (works film actor x) (has (cast_along film xs) actor) (works film actor s))
        ∙ ap (λ (b : Bool). b || works film actor s) (sym (has-union (slice_index film.casts x) (cast_along film xs) actor))

-- actors of a list's casts are actors of the film
pub along_lies : (film : FilmData) (scenes : List ℕ) → IsFilm film → LiesBelow (length film.rates) (cast_along film scenes)
along_lies film scenes is actor member =
    let found = any_is (works film actor) scenes (sym (has-cast_along film scenes actor) ∙ member) in
    cast_lies film found.0 is actor found.2

-- between two parts of an order, who works in both of them is on location
pub located_between : (film : FilmData) (before behind : List ℕ) → IsFilm film → AllOnce (all_scenes film) (before ++ behind)
    → on_location film (rest_after (all_scenes film) before) ≡ meet (cast_along film behind) (cast_along film before)
located_between film before behind is each =
    same_has (on_location film rest) (meet (cast_along film behind) (cast_along film before)) (λ actor.
    same_test (has (on_location film rest) actor) (has (meet (cast_along film behind) (cast_along film before)) actor) (located actor) (along actor))
  where
    rest : ℕ
    rest = rest_after (all_scenes film) before

    lies : LiesBelow (length film.casts) rest
    lies = LiesBelow-rest_after (length film.casts) (all_scenes film) before (LiesBelow-full (length film.casts))

    once : AllOnce rest behind
    once = AllOnce-behind (all_scenes film) before behind each

    remained : AllRemained (all_scenes film) before
    remained = (AreFirsts-parts (λ (q : ℕ). q) (all_scenes film) before behind each.0).0

    located : (actor : ℕ) → has (on_location film rest) actor ≡ true → has (meet (cast_along film behind) (cast_along film before)) actor ≡ true
    located actor member =
        let both : WorksInside film rest actor × WorksOutside film rest actor = (location_by_scenes film rest actor is lies).0 member in
        has-meet (cast_along film behind) (cast_along film before) actor
        ∙ and_from (has (cast_along film behind) actor) (has (cast_along film before) actor)
        (has-cast_along film behind actor ∙ any_from (works film actor) behind both.0.0 (list_has rest behind both.0.0 once both.0.1) both.0.2)
        (has-cast_along film before actor ∙ any_from (works film actor) before both.1.0
        (out_shot (all_scenes film) before both.1.0 (has_full (length film.casts) both.1.0 both.1.1) both.1.2) both.1.3)

    along : (actor : ℕ) → has (meet (cast_along film behind) (cast_along film before)) actor ≡ true → has (on_location film rest) actor ≡ true
    along actor member =
        let parts = has_from_meet (cast_along film behind) (cast_along film before) actor member in
        let later = any_is (works film actor) behind (sym (has-cast_along film behind actor) ∙ parts.0) in
        let earlier = any_is (works film actor) before (sym (has-cast_along film before actor) ∙ parts.1) in
        (location_by_scenes film rest actor is lies).1 (
          (later.0, has_from_list rest behind later.0 once.0 later.1, later.2),
          (
            earlier.0,
            LiesBelow-full (length film.casts) earlier.0 (has_from_list (all_scenes film) before earlier.0 remained earlier.1),
            shot_out (all_scenes film) before earlier.0 earlier.1,
            earlier.2,
          ),
        )

-- along one scene more of a list
pub cast_along-more : (film : FilmData) (scenes : List ℕ) (i : ℕ) → i < length scenes
    → cast_along film (take (i + 1) scenes) ≡ union (cast_along film (take i scenes)) (slice_index film.casts (slice_index scenes i))
cast_along-more film scenes i within = ap (cast_along film) (take_more scenes i 0 within) ∙ cast_along-append film (take i scenes) (slice_index scenes i)
