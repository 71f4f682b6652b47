-- How many scenes of a set an actor works in, and who is on location by these numbers.
use Rattle.std.proofs.Common.{◌≡◌, ℕ, ◌+◌, ◌≤◌, Bool, true, false, cond, not, eqb, ◌&&◌, ◌||◌, List, [], ◌∷◌, length, slice_index, refl, sym, ap, ◌∙◌, arith, count_by, inl, inr}
use Rattle.std.specs.List.{list_any}
use Rattle.std.proofs.lemmas.Bool.{and_right, and_from}
use Rattle.std.proofs.lemmas.Bool.Decides.{nat_tests, eqb_tells}
use Rattle.std.proofs.lemmas.List.Sums.{sum_by-cons, count_by-le-length}
use Rattle.strip_mask.specs.Set.{IsSet, has, union, meet, minus, without, members}
use Rattle.strip_mask.specs.Sums.{sum_below}
use Rattle.strip_mask.proofs.ByMembers.{has-union, has-meet, has-minus, has-without_same, has-without_other, same_has, meet_swap, IsSet-minus}
use Rattle.strip_mask.proofs.Below.{has_full, IsSet-full, is_set_below}
use Rattle.strip_mask.proofs.Sizes.{length-members, size-le, mark}
use Rattle.strip_model.specs.Film.{FilmData}
use Rattle.strip_model.specs.Pay.{works}
use Rattle.strip_film.specs.Film.{IsFilm, LiesIn, all_scenes}
use Rattle.strip_film.specs.Shoot.{cast_of, on_location}
use Rattle.strip_film.specs.Running.{scenes_with}
use Rattle.strip_film.proofs.Casts.{has-cast_of}
use Rattle.strip_mask.proofs.Totals.{sum_members, sum_members-without}

pub count_members : (p : ℕ → Bool) (a : ℕ) → count_by p (members a) ≡ sum_below 64 (λ i. cond {A = ℕ} (has a i) (mark (p i)) 0)
count_members p a = sum_members (λ i. mark (p i)) a

-- without a member its mark is gone
count-without : (p : ℕ → Bool) (a i : ℕ) → IsSet a → has a i ≡ true → count_by p (members (without a i)) + mark (p i) ≡ count_by p (members a)
count-without p a i small member = omega (arith, sum_members-without (λ j. mark (p j)) a i small member)

pub count-le : (p : ℕ → Bool) (a : ℕ) → count_by p (members a) ≤ 64
count-le p a = omega (arith, count_by-le-length p (members a), length-members a, size-le a)

-- some element passes where their count isn't 0
any_counted : (p : ℕ → Bool) (xs : List ℕ) → list_any p xs ≡ not (eqb (count_by p xs) 0)
any_counted p [] = refl
any_counted p (x ∷ xs) = one (p x) (list_any p xs) (count_by p xs) (any_counted p xs) ∙ sym (ap (λ (n : ℕ). not (eqb n 0)) (sum_by-cons (λ i. mark (p i)) x xs))
  where
    one : (b c : Bool) (n : ℕ) → c ≡ not (eqb n 0) → (b || c) ≡ not (eqb (mark b + n) 0)
    one true c n is = grind (arith, nat_tests)
    one false c n is = rw is (ap (λ (k : ℕ). not (eqb k 0)) (omega (arith)))

called : (film : FilmData) (set actor : ℕ) → has (cast_of film set) actor ≡ not (eqb (scenes_with film set actor) 0)
called film set actor = has-cast_of film set actor ∙ any_counted (works film actor) (members set)

both : (a b : ℕ) (film : FilmData) (actor : ℕ)
    → has (meet (cast_of film a) (cast_of film b)) actor ≡ (not (eqb (scenes_with film a actor) 0) && not (eqb (scenes_with film b actor) 0))
both a b film actor =
    has-meet (cast_of film a) (cast_of film b) actor
    ∙ ap (λ (x : Bool). x && has (cast_of film b) actor) (called film a actor)
    ∙ ap (λ (x : Bool). not (eqb (scenes_with film a actor) 0) && x) (called film b actor)

-- who is on location, by how many scenes are left and how many are done
pub located_by_counts : (film : FilmData) (set actor : ℕ) → has (on_location film set) actor
    ≡ (not (eqb (scenes_with film set actor) 0) && not (eqb (scenes_with film (minus (all_scenes film) set) actor) 0))
located_by_counts film set actor = both set (minus (all_scenes film) set) film actor

located_turned : (film : FilmData) (set actor : ℕ) → has (on_location film set) actor
    ≡ (not (eqb (scenes_with film (minus (all_scenes film) set) actor) 0) && not (eqb (scenes_with film set actor) 0))
located_turned film set actor =
    ap (λ (q : ℕ). has q actor) (meet_swap (cast_of film set) (cast_of film (minus (all_scenes film) set)))
    ∙ both (minus (all_scenes film) set) set film actor

-- one scene moves from a count to the other: who has it, is there unless the first count is 0 then
switched : (w : Bool) (from to fewer more seen : ℕ) → fewer + mark w ≡ from → to + mark w ≡ more → (w ≡ true → seen ≡ fewer)
    → (((not (eqb from 0) && not (eqb to 0)) || w) && not (w && eqb seen 0)) ≡ (not (eqb fewer 0) && not (eqb more 0))
switched true from to fewer more seen down up is =
    let e : seen ≡ fewer = is refl in
    grind (arith, nat_tests)
switched false from to fewer more seen down up is =
    let e : fewer ≡ from = omega (arith, down) in
    let f : more ≡ to = omega (arith, up) in
    rw (e, f) (kept (not (eqb from 0) && not (eqb to 0)))
  where
    kept : (b : Bool) → ((b || false) && true) ≡ b
    kept true = refl
    kept false = refl

-- ---- a scene of a set moves to those that are shot

module _ (film : FilmData) (set s : ℕ) (is : IsFilm film) (lies : LiesIn film set) (there : has set s ≡ true) where
  small : IsSet set
  small = is_set_below (length film.casts) set is.scene_count.1 lies

  shot_then : has (minus (all_scenes film) (without set s)) s ≡ true
  shot_then = has-minus (all_scenes film) (without set s) s
      ∙ and_from (has (all_scenes film) s) (not (has (without set s) s)) (has_full (length film.casts) s (lies s there)) (ap not (has-without_same set s))

  shot_before : without (minus (all_scenes film) (without set s)) s ≡ minus (all_scenes film) set
  shot_before = same_has (without (minus (all_scenes film) (without set s)) s) (minus (all_scenes film) set) (λ j. elim (eqb_tells s j) [
    | inl same ↦ rw (← same.1) (has-without_same (minus (all_scenes film) (without set s)) s
        ∙ sym (has-minus (all_scenes film) set s ∙ and_right (has (all_scenes film) s) (not (has set s)) (ap not there)))
    | inr other ↦ has-without_other (minus (all_scenes film) (without set s)) s j other.1
        ∙ has-minus (all_scenes film) (without set s) j
        ∙ ap (λ (b : Bool). has (all_scenes film) j && not b) (has-without_other set s j other.1)
        ∙ sym (has-minus (all_scenes film) set j)
  ])

  pub left_moves : (actor : ℕ) → scenes_with film (without set s) actor + mark (works film actor s) ≡ scenes_with film set actor
  left_moves actor = count-without (works film actor) set s small there

  pub done_moves : (actor : ℕ) → scenes_with film (minus (all_scenes film) set) actor + mark (works film actor s)
      ≡ scenes_with film (minus (all_scenes film) (without set s)) actor
  done_moves actor =
      ap (λ (q : ℕ). scenes_with film q actor + mark (works film actor s)) (sym shot_before)
      ∙ count-without (works film actor) (minus (all_scenes film) (without set s)) s
      (IsSet-minus (all_scenes film) (without set s) (IsSet-full (length film.casts) is.scene_count.1)) shot_then

  -- on location is then who was, and the cast, but for those of it who have no scene left
  pub located_taken : (left : List ℕ) (found : ℕ)
      → ((actor : ℕ) → works film actor s ≡ true → slice_index left actor ≡ scenes_with film (without set s) actor)
      → ((actor : ℕ) → has found actor ≡ (works film actor s && eqb (slice_index left actor) 0))
      → minus (union (on_location film set) (slice_index film.casts s)) found ≡ on_location film (without set s)
  located_taken left found are finds =
      same_has (minus (union (on_location film set) (slice_index film.casts s)) found) (on_location film (without set s)) (λ j.
      has-minus (union (on_location film set) (slice_index film.casts s)) found j
      ∙ rw (has-union (on_location film set) (slice_index film.casts s) j, finds j, located_by_counts film set j, located_by_counts film (without set s) j)
      (switched (works film j s) (scenes_with film set j) (scenes_with film (minus (all_scenes film) set) j) (scenes_with film (without set s) j)
      (scenes_with film (minus (all_scenes film) (without set s)) j) (slice_index left j) (left_moves j) (done_moves j) (are j)))

  -- and before, who was then, and the cast, but for those of it who had no scene done
  pub located_back : (done : List ℕ) (found : ℕ)
      → ((actor : ℕ) → works film actor s ≡ true → slice_index done actor ≡ scenes_with film (minus (all_scenes film) set) actor)
      → ((actor : ℕ) → has found actor ≡ (works film actor s && eqb (slice_index done actor) 0))
      → minus (union (on_location film (without set s)) (slice_index film.casts s)) found ≡ on_location film set
  located_back done found are finds =
      same_has (minus (union (on_location film (without set s)) (slice_index film.casts s)) found) (on_location film set) (λ j.
      has-minus (union (on_location film (without set s)) (slice_index film.casts s)) found j
      ∙ rw (has-union (on_location film (without set s)) (slice_index film.casts s) j, finds j, located_turned film (without set s) j, located_turned film set j)
      (switched (works film j s) (scenes_with film (minus (all_scenes film) (without set s)) j) (scenes_with film (without set s) j)
      (scenes_with film (minus (all_scenes film) set) j) (scenes_with film set j) (slice_index done j) (done_moves j) (left_moves j) (are j)))
