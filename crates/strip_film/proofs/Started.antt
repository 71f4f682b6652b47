-- A running state at the start, and along a path.
use Rattle.std.proofs.Common.{◌≡◌, ◌↔◌, ℕ, ◌+◌, ◌<◌, Bool, true, false, not, eqb, ◌&&◌, List, [], ◌∷◌, ◌++◌, length, take, drop, replicate, slice_index, count_by, inl, inr, refl, sym, ap, ◌∙◌, subst, arith}
use Rattle.std.proofs.lemmas.Bool.{and_parts, and_right, ne_eqb, and_from}
use Rattle.std.proofs.lemmas.Bool.Decides.{eqb_tells}
use Rattle.std.proofs.lemmas.List.{take_more, take-append-drop}
use Rattle.strip_mask.specs.Set.{has, minus, without}
use Rattle.strip_mask.proofs.ByMembers.{has-minus, empty_from}
use Rattle.strip_mask.proofs.Members.{members-empty}
use Rattle.strip_model.specs.Film.{FilmData}
use Rattle.strip_model.specs.Pay.{works}
use Rattle.strip_film.specs.Film.{all_scenes}
use Rattle.strip_film.specs.Shoot.{ready, on_location}
use Rattle.strip_film.specs.Finish.{AreFirsts, Remained, rest_after, steps_cost}
use Rattle.strip_film.specs.Path.{PathData, IsPath}
use Rattle.strip_film.specs.Running.{RunningData, IsRunning, scenes_with}
use Rattle.strip_film.proofs.Counts.{located_by_counts}
use Rattle.strip_film.proofs.Moves.{AreFirsts-split}
use Rattle.strip_mask.proofs.Lists.{zeros}

none_shot : (film : FilmData) → minus (all_scenes film) (all_scenes film) ≡ 0
none_shot film = empty_from (minus (all_scenes film) (all_scenes film)) (λ j. has-minus (all_scenes film) (all_scenes film) j ∙ apart (has (all_scenes film) j))
  where
    apart : (b : Bool) → (b && not b) ≡ false
    apart true = refl
    apart false = refl

none_with : (film : FilmData) (actor : ℕ) → scenes_with film (minus (all_scenes film) (all_scenes film)) actor ≡ 0
none_with film actor = ap (λ (q : ℕ). scenes_with film q actor) (none_shot film) ∙ ap (count_by (works film actor)) members-empty

none_located : (film : FilmData) → on_location film (all_scenes film) ≡ 0
none_located film = empty_from (on_location film (all_scenes film)) (λ j. located_by_counts film (all_scenes film) j
    ∙ and_right (not (eqb (scenes_with film (all_scenes film) j) 0)) (not (eqb (scenes_with film (minus (all_scenes film) (all_scenes film)) j) 0))
    (ap (λ (n : ℕ). not (eqb n 0)) (none_with film j)))

pub IsRunning-start : (film : FilmData) (path : PathData) (left : List ℕ) → IsPath film path
    → path ≡ record { scenes = []; rest = all_scenes film; paid = 0 }
    → ((actor : ℕ) → actor < length film.rates → slice_index left actor ≡ scenes_with film (all_scenes film) actor)
    → IsRunning film (record { path = path; done = replicate 64 0; left = left; on = 0; before = replicate 64 0 })
IsRunning-start film path left is start are =
    let rest : path.rest ≡ all_scenes film = ap (λ (p : PathData). p.rest) start in
    let none : path.scenes ≡ [] = ap (λ (p : PathData). p.scenes) start in
    record {
      path = is;
      done = λ actor _. zeros 64 actor ∙ sym (none_with film actor) ∙ ap (λ (q : ℕ). scenes_with film (minus (all_scenes film) q) actor) (sym rest);
      left = λ actor of_film. are actor of_film ∙ ap (λ (q : ℕ). scenes_with film q actor) (sym rest);
      on = sym (none_located film) ∙ ap (on_location film) (sym rest);
      before = λ place within. absurd (omega (arith, within, ap length none));
    }

-- ---- along a path

AreFirsts-begin : (firsts : ℕ → ℕ) (set : ℕ) (scenes later : List ℕ) → AreFirsts firsts set (scenes ++ later) → AreFirsts firsts set scenes
AreFirsts-begin firsts set [] later are = tt
AreFirsts-begin firsts set (x ∷ scenes) later are = (are.0, AreFirsts-begin firsts (without set x) scenes later are.1)

AreFirsts-take : (firsts : ℕ → ℕ) (set n : ℕ) (scenes : List ℕ) → AreFirsts firsts set scenes → AreFirsts firsts set (take n scenes)
AreFirsts-take firsts set n scenes are =
    AreFirsts-begin firsts set (take n scenes) (drop n scenes) (subst (λ (xs : List ℕ). AreFirsts firsts set xs) (sym (take-append-drop n scenes)) are)

-- the next scene of a path is ready after those before it
pub next_ready : (film : FilmData) (path so_far : PathData) (i : ℕ) → IsPath film path → IsPath film so_far → so_far.scenes ≡ take i path.scenes
    → i < length path.scenes → has (ready film so_far.rest) (slice_index path.scenes i) ≡ true
next_ready film path so_far i is began same within =
    let more : Remained film (all_scenes film) (take i path.scenes ++ slice_index path.scenes i ∷ [])
    = subst (λ (xs : List ℕ). Remained film (all_scenes film) xs) (take_more path.scenes i 0 within) (AreFirsts-take (ready film) (all_scenes film) (i + 1) path.scenes is.remained) in
    subst (λ (q : ℕ). has (ready film q) (slice_index path.scenes i) ≡ true) (ap (rest_after (all_scenes film)) (sym same) ∙ sym began.left)
    (AreFirsts-split (ready film) (all_scenes film) (slice_index path.scenes i) (take i path.scenes) more).1

pub more_so_far : (scenes so_far : List ℕ) (i : ℕ) → so_far ≡ take i scenes → i < length scenes → so_far ++ slice_index scenes i ∷ [] ≡ take (i + 1) scenes
more_so_far scenes so_far i same within = ap (λ (xs : List ℕ). xs ++ slice_index scenes i ∷ []) same ∙ sym (take_more scenes i 0 within)

-- paths of a film with the same scenes are the same
pub same_path : (film : FilmData) (p q : PathData) → IsPath film p → IsPath film q → p.scenes ≡ q.scenes → p ≡ q
same_path film p q is other same =
    let rest : p.rest ≡ q.rest = is.left ∙ ap (rest_after (all_scenes film)) same ∙ sym other.left in
    let paid : p.paid ≡ q.paid = is.steps ∙ ap (steps_cost film (all_scenes film)) same ∙ sym other.steps in
    λ i. record { scenes = same i; rest = rest i; paid = paid i }

-- ---- who is on location, by the counts

above : (n : ℕ) → not (eqb n 0) ≡ true → 0 < n
above n is = elim (eqb_tells n 0) [
  | inl same ↦ absurd (let e : false ≡ true = sym (ap not same.0) ∙ is in cc)
  | inr other ↦ omega (arith, other.1)
]

above_is : (n : ℕ) → 0 < n → not (eqb n 0) ≡ true
above_is n some = ap not (ne_eqb n 0 (λ none. omega (arith, some, none)))

pub counts_tell : (film : FilmData) (state : RunningData) (actor : ℕ) → IsRunning film state → actor < length film.rates
    → (has state.on actor ≡ true) ↔ ((0 < slice_index state.done actor) × (0 < slice_index state.left actor))
counts_tell film state actor running of_film =
    let located : has state.on actor ≡ (not (eqb (slice_index state.left actor) 0) && not (eqb (slice_index state.done actor) 0))
    = ap (λ (on : ℕ). has on actor) running.on
    ∙ rw (running.left actor of_film, running.done actor of_film) (located_by_counts film state.path.rest actor) in (
      λ member. (let parts = and_parts (not (eqb (slice_index state.left actor) 0)) (not (eqb (slice_index state.done actor) 0)) (sym located ∙ member) in
          (above (slice_index state.done actor) parts.1, above (slice_index state.left actor) parts.0)),
      λ some. located ∙ and_from (not (eqb (slice_index state.left actor) 0)) (not (eqb (slice_index state.done actor) 0))
          (above_is (slice_index state.left actor) some.1) (above_is (slice_index state.done actor) some.0),
    )
