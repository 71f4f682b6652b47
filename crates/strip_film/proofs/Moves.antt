-- A running state with one scene more, and with one fewer.
use Rattle.std.proofs.Common.{◌≡◌, ℕ, ◌+◌, ◌-◌, ◌<◌, ◌≤◌, true, eqb, ◌&&◌, List, [], ◌∷◌, ◌++◌, length, take, set, slice_index, All, inl, inr, sym, ap, ◌∙◌, subst, arith}
use Rattle.std.proofs.lemmas.Bool.{cases_lt}
use Rattle.std.proofs.lemmas.List.{get_or-set_same, get_or-set_other, take-append-le, length-append}
use Rattle.std.proofs.Math.Seq.{take-append_seam}
use Rattle.std.proofs.lemmas.List.Elements.{All-cons}
use Rattle.strip_mask.specs.Set.{LiesBelow, has, with, without, union, minus}
use Rattle.strip_mask.proofs.ByMembers.{with-without}
use Rattle.strip_mask.proofs.Below.{LiesBelow-full, LiesBelow-without}
use Rattle.strip_model.specs.Film.{FilmData}
use Rattle.strip_model.specs.Pay.{works}
use Rattle.strip_film.specs.Film.{IsFilm, LiesIn, all_scenes}
use Rattle.strip_film.specs.Shoot.{ready, on_location}
use Rattle.strip_film.specs.Finish.{AreFirsts, Remained, rest_after, steps_cost}
use Rattle.strip_film.specs.Path.{PathData, IsPath, extended}
use Rattle.strip_film.specs.Running.{RunningData, IsRunning, scenes_with}
use Rattle.strip_film.proofs.Lists.{AllRemained, AllRemained-from_ready, ready_there, rest_after-append}
use Rattle.strip_film.proofs.Casts.{cast_lies}
use Rattle.strip_film.proofs.Paths.{rest_lies, IsPath-extended}
use Rattle.strip_mask.proofs.Sizes.{mark}
use Rattle.strip_film.proofs.Counts.{count-le, left_moves, done_moves, located_taken, located_back}

-- the list but for its last scene, and that scene
pub AreFirsts-split : (firsts : ℕ → ℕ) (set s : ℕ) (scenes : List ℕ) → AreFirsts firsts set (scenes ++ s ∷ [])
    → AreFirsts firsts set scenes × (has (firsts (rest_after set scenes)) s ≡ true)
AreFirsts-split firsts set s [] are = (tt, are.0)
AreFirsts-split firsts set s (x ∷ scenes) are =
    let rest = AreFirsts-split firsts (without set x) s scenes are.1 in
    ((are.0, rest.0), rest.1)

scenes_below : (n set : ℕ) (scenes : List ℕ) → LiesBelow n set → AllRemained set scenes → All (λ (s : ℕ). s < n) scenes
scenes_below n set [] lies are = λ i d within. absurd (omega (arith, within))
scenes_below n set (x ∷ scenes) lies are =
    All-cons (λ (s : ℕ). s < n) x scenes (lies x are.0) (scenes_below n (without set x) scenes (LiesBelow-without n set x lies) are.1)

-- the scenes of a path are those of its film
pub scenes_known : (film : FilmData) (path : PathData) → IsPath film path → All (λ (s : ℕ). s < length film.casts) path.scenes
scenes_known film path is =
    scenes_below (length film.casts) (all_scenes film) path.scenes (LiesBelow-full (length film.casts)) (AllRemained-from_ready film (all_scenes film) path.scenes is.remained)

-- the values before the scenes, with one scene more
before_more : (f : List ℕ → ℕ) (before scenes : List ℕ) (s paid : ℕ) → length scenes < length before → paid ≡ f scenes
    → ((place : ℕ) → place < length scenes → slice_index before place ≡ f (take place scenes))
    → (place : ℕ) → place < length (scenes ++ s ∷ []) → slice_index (set before (length scenes) paid) place ≡ f (take place (scenes ++ s ∷ []))
before_more f before scenes s paid room is are place within = elim (cases_lt place (length scenes)) [
  | inl lt ↦ get_or-set_other before (length scenes) place paid 0 (omega (arith, lt)) ∙ are place lt ∙ ap f (sym (take-append-le place scenes (s ∷ []) (omega (arith, lt))))
  | inr ge ↦ (let last : length scenes ≡ place = omega (arith, ge, within, length-append scenes (s ∷ [])) in
      subst (λ (i : ℕ). slice_index (set before (length scenes) paid) i ≡ f (take i (scenes ++ s ∷ []))) last
      (get_or-set_same before (length scenes) paid 0 room ∙ is ∙ ap f (sym (take-append_seam scenes (s ∷ [])))))
]

-- what was paid before the last scene, by the place of that
last_paid : (before scenes shorter : List ℕ) (s paid : ℕ) → scenes ≡ shorter ++ s ∷ [] → paid ≡ slice_index before (length scenes - 1)
    → paid ≡ slice_index before (length shorter)
last_paid before scenes shorter s paid same is =
    let place : length scenes - 1 ≡ length shorter = omega (arith, ap length same, length-append shorter (s ∷ [])) in
    is ∙ ap (slice_index before) place

module _ (film : FilmData) (is : IsFilm film) (state : RunningData) (running : IsRunning film state) where
  -- ---- taking a scene
  module _ (s : ℕ) (is_ready : has (ready film state.path.rest) s ≡ true) where
    lies : LiesIn film state.path.rest
    lies = rest_lies film state.path running.path

    member : has state.path.rest s ≡ true
    member = ready_there film state.path.rest s is_ready

    known : (actor : ℕ) → works film actor s ≡ true → actor < length film.rates
    known actor working = cast_lies film s is actor working

    pub some_left : (actor : ℕ) → works film actor s ≡ true → 0 < slice_index state.left actor
    some_left actor working =
        let one : mark (works film actor s) ≡ 1 = ap mark working in
        omega (arith, running.left actor (known actor working), left_moves film state.path.rest s is lies member actor, one)

    pub few_done : (actor : ℕ) → works film actor s ≡ true → slice_index state.done actor ≤ 64
    few_done actor working =
        omega (arith, running.done actor (known actor working), count-le (works film actor) (minus (all_scenes film) state.path.rest))

    pub IsRunning-taken : (done left : List ℕ) (found : ℕ) → length state.path.scenes < length state.before
        → ((actor : ℕ) → slice_index left actor + mark (works film actor s) ≡ slice_index state.left actor)
        → ((actor : ℕ) → slice_index done actor ≡ slice_index state.done actor + mark (works film actor s))
        → ((actor : ℕ) → has found actor ≡ (works film actor s && eqb (slice_index left actor) 0))
        → IsRunning film (record {
          path = extended film state.path s;
          done = done;
          left = left;
          on = minus (union state.on (slice_index film.casts s)) found;
          before = set state.before (length state.path.scenes) state.path.paid;
        })
    IsRunning-taken done left found room down up finds =
        let left_is : (actor : ℕ) → actor < length film.rates → slice_index left actor ≡ scenes_with film (without state.path.rest s) actor
        = λ actor of_film. omega (arith, down actor, running.left actor of_film, left_moves film state.path.rest s is lies member actor) in
        record {
          path = IsPath-extended film state.path running.path s is_ready;
          done = λ actor of_film. omega (arith, up actor, running.done actor of_film, done_moves film state.path.rest s is lies member actor);
          left = left_is;
          on = ap (λ (on : ℕ). minus (union on (slice_index film.casts s)) found) running.on
              ∙ located_taken film state.path.rest s is lies member left found (λ actor working. left_is actor (known actor working)) finds;
          before = before_more (steps_cost film (all_scenes film)) state.before state.path.scenes s state.path.paid room running.path.steps running.before;
        }

  -- ---- taking the last scene back
  module _ (path : PathData) (s : ℕ) (same : state.path.scenes ≡ path.scenes ++ s ∷ []) (rest : path.rest ≡ with state.path.rest s)
      (paid : path.paid ≡ slice_index state.before (length state.path.scenes - 1)) where
    parts : Remained film (all_scenes film) path.scenes × (has (ready film (rest_after (all_scenes film) path.scenes)) s ≡ true)
    parts = AreFirsts-split (ready film) (all_scenes film) s path.scenes
        (subst (λ (scenes : List ℕ). Remained film (all_scenes film) scenes) same running.path.remained)

    fewer : state.path.rest ≡ without (rest_after (all_scenes film) path.scenes) s
    fewer = running.path.left ∙ ap (rest_after (all_scenes film)) same ∙ rest_after-append (all_scenes film) s path.scenes

    back : path.rest ≡ rest_after (all_scenes film) path.scenes
    back = rest ∙ ap (λ (q : ℕ). with q s) fewer
        ∙ with-without (rest_after (all_scenes film) path.scenes) s (ready_there film (rest_after (all_scenes film) path.scenes) s parts.1)

    left_now : state.path.rest ≡ without path.rest s
    left_now = fewer ∙ ap (λ (q : ℕ). without q s) (sym back)

    long : length path.scenes < length state.path.scenes
    long = omega (arith, ap length same, length-append path.scenes (s ∷ []))

    steps : path.paid ≡ steps_cost film (all_scenes film) path.scenes
    steps = last_paid state.before state.path.scenes path.scenes s path.paid same paid
        ∙ running.before (length path.scenes) long
        ∙ ap (λ (scenes : List ℕ). steps_cost film (all_scenes film) (take (length path.scenes) scenes)) same
        ∙ ap (steps_cost film (all_scenes film)) (take-append_seam path.scenes (s ∷ []))

    IsPath-back : IsPath film path
    IsPath-back = record { remained = parts.0; left = back; steps = steps }

    lies_back : LiesIn film path.rest
    lies_back = rest_lies film path IsPath-back

    member_back : has path.rest s ≡ true
    member_back = subst (λ (q : ℕ). has q s ≡ true) (sym back) (ready_there film (rest_after (all_scenes film) path.scenes) s parts.1)

    pub last_known : s < length film.casts
    last_known = lies_back s member_back

    known_back : (actor : ℕ) → works film actor s ≡ true → actor < length film.rates
    known_back actor working = cast_lies film s is actor working

    done_now : (actor : ℕ) → actor < length film.rates → slice_index state.done actor ≡ scenes_with film (minus (all_scenes film) (without path.rest s)) actor
    done_now actor of_film = running.done actor of_film ∙ ap (λ (q : ℕ). scenes_with film (minus (all_scenes film) q) actor) left_now

    left_of : (actor : ℕ) → actor < length film.rates → slice_index state.left actor ≡ scenes_with film (without path.rest s) actor
    left_of actor of_film = running.left actor of_film ∙ ap (λ (q : ℕ). scenes_with film q actor) left_now

    pub some_done : (actor : ℕ) → works film actor s ≡ true → 0 < slice_index state.done actor
    some_done actor working =
        let one : mark (works film actor s) ≡ 1 = ap mark working in
        omega (arith, done_now actor (known_back actor working), done_moves film path.rest s is lies_back member_back actor, one)

    pub few_left : (actor : ℕ) → works film actor s ≡ true → slice_index state.left actor ≤ 64
    few_left actor working =
        omega (arith, running.left actor (known_back actor working), count-le (works film actor) state.path.rest)

    pub IsRunning-back : (done left : List ℕ) (found : ℕ)
        → ((actor : ℕ) → slice_index done actor + mark (works film actor s) ≡ slice_index state.done actor)
        → ((actor : ℕ) → slice_index left actor ≡ slice_index state.left actor + mark (works film actor s))
        → ((actor : ℕ) → has found actor ≡ (works film actor s && eqb (slice_index done actor) 0))
        → IsRunning film (record {
          path = path;
          done = done;
          left = left;
          on = minus (union state.on (slice_index film.casts s)) found;
          before = state.before;
        })
    IsRunning-back done left found down up finds =
        let done_is : (actor : ℕ) → actor < length film.rates → slice_index done actor ≡ scenes_with film (minus (all_scenes film) path.rest) actor
        = λ actor of_film. omega (arith, down actor, done_now actor of_film, done_moves film path.rest s is lies_back member_back actor) in
        record {
          path = IsPath-back;
          done = done_is;
          left = λ actor of_film. omega (arith, up actor, left_of actor of_film, left_moves film path.rest s is lies_back member_back actor);
          on = ap (λ (on : ℕ). minus (union on (slice_index film.casts s)) found) (running.on ∙ ap (on_location film) left_now)
              ∙ located_back film path.rest s is lies_back member_back done found (λ actor working. done_is actor (known_back actor working)) finds;
          before = λ place within.
              running.before place (omega (arith, within, long))
              ∙ ap (λ (scenes : List ℕ). steps_cost film (all_scenes film) (take place scenes)) same
              ∙ ap (steps_cost film (all_scenes film)) (take-append-le place path.scenes (s ∷ []) (omega (arith, within)));
        }
