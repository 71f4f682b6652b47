-- A path with one scene more.
use Rattle.std.proofs.Common.{◌≡◌, ℕ, ◌+◌, ◌*◌, ◌<◌, ◌≤◌, true, [], ◌∷◌, ◌++◌, length, sym, ap, ◌∙◌, subst, arith}
use Rattle.strip_mask.specs.Set.{IsSet, has, without, size}
use Rattle.strip_mask.proofs.Below.{IsSet-full, LiesBelow-full, is_set_below}
use Rattle.strip_mask.proofs.Sizes.{size-without, size-le}
use Rattle.strip_model.specs.Film.{FilmData}
use Rattle.strip_film.specs.declared.limits.TheConstants.{MAX_DAY_SUM}
use Rattle.strip_film.specs.Film.{IsFilm, LiesIn, all_scenes}
use Rattle.strip_film.specs.Shoot.{ready, step_cost}
use Rattle.strip_film.specs.Finish.{Remained, steps_cost}
use Rattle.strip_film.specs.Path.{PathData, IsPath, extended}
use Rattle.strip_film.specs.Rules.{IsOpen, Rules}
use Rattle.strip_film.proofs.Lists.{AllRemained-from_ready, ready_there, AreFirsts-append, rest_after-append, steps_cost-append, LiesBelow-rest_after, size-rest_after}
use Rattle.strip_film.proofs.Costs.{most_a_day, steps_limit}

module _ (film : FilmData) (path : PathData) (is : IsPath film path) where
  pub rest_lies : LiesIn film path.rest
  rest_lies i there =
      LiesBelow-rest_after (length film.casts) (all_scenes film) path.scenes (LiesBelow-full (length film.casts)) i
      (subst (λ (q : ℕ). has q i ≡ true) is.left there)

  module _ (s : ℕ) (is_ready : has (ready film path.rest) s ≡ true) where
    longer : Remained film (all_scenes film) (path.scenes ++ s ∷ [])
    longer = AreFirsts-append (ready film) (all_scenes film) s path.scenes is.remained (subst (λ (q : ℕ). has (ready film q) s ≡ true) is.left is_ready)

    paid : path.paid + step_cost film path.rest s ≡ steps_cost film (all_scenes film) (path.scenes ++ s ∷ [])
    paid = ap (λ (n : ℕ). n + step_cost film path.rest s) is.steps
        ∙ ap (λ (q : ℕ). steps_cost film (all_scenes film) path.scenes + step_cost film q s) is.left
        ∙ sym (steps_cost-append film (all_scenes film) s path.scenes)

    pub IsPath-extended : IsPath film (extended film path s)
    IsPath-extended = record {
      remained = longer;
      left = ap (λ (q : ℕ). without q s) is.left ∙ sym (rest_after-append (all_scenes film) s path.scenes);
      steps = paid;
    }

  module _ (limits : IsFilm film) where
    all_set : IsSet (all_scenes film)
    all_set = IsSet-full (length film.casts) limits.scene_count.1

    -- what remains is a set
    pub rest_set : IsSet path.rest
    rest_set = is_set_below (length film.casts) path.rest limits.scene_count.1 rest_lies

    module _ (s : ℕ) (is_ready : has (ready film path.rest) s ≡ true) where
      pub there : has path.rest s ≡ true
      there = ready_there film path.rest s is_ready

      -- with one scene more one fewer remains
      pub one_fewer : size (without path.rest s) + 1 ≡ size path.rest
      one_fewer = size-without path.rest s rest_set there

      -- while a scene remains, fewer than 64 were shot
      pub few_scenes : length path.scenes < 64
      few_scenes =
          let count : length path.scenes + size path.rest ≡ size (all_scenes film)
          = ap (λ (q : ℕ). length path.scenes + size q) is.left ∙ size-rest_after (all_scenes film) path.scenes all_set (AllRemained-from_ready film (all_scenes film) path.scenes is.remained) in
          omega (arith, count, size-le (all_scenes film), one_fewer)

      pub paid_limit : path.paid + step_cost film path.rest s ≤ MAX_DAY_SUM * most_a_day
      paid_limit = omega (arith, (IsPath-extended s is_ready).steps, steps_limit film (all_scenes film) (path.scenes ++ s ∷ []) limits all_set (AllRemained-from_ready film (all_scenes film) (path.scenes ++ s ∷ []) (IsPath-extended s is_ready).remained))

-- an open path stays open with a ready scene that is one of the firsts
pub IsOpen-extended : (rules : Rules) (path : PathData) (s : ℕ) → IsOpen rules path → has (ready rules.film path.rest) s ≡ true
    → has (rules.firsts path.rest) s ≡ true → IsOpen rules (extended rules.film path s)
IsOpen-extended rules path s is is_ready first = (
  IsPath-extended rules.film path is.0 s is_ready,
  AreFirsts-append rules.firsts (all_scenes rules.film) s path.scenes is.1 (subst (λ (q : ℕ). has (rules.firsts q) s ≡ true) is.0.left first),
)

-- what a path paid is a tail
pub path_limit : (film : FilmData) (path : PathData) → IsPath film path → IsFilm film → path.paid ≤ MAX_DAY_SUM * most_a_day
path_limit film path is limits =
    omega (arith, is.steps, steps_limit film (all_scenes film) path.scenes limits (IsSet-full (length film.casts) limits.scene_count.1) (AllRemained-from_ready film (all_scenes film) path.scenes is.remained))
