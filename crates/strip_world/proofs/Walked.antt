-- A walk along the scenes of a list.
use Rattle.std.proofs.Common.{◌≡◌, ℕ, zero, suc, ◌+◌, ◌-◌, ◌<◌, true, false, nat_eq, List, [], ◌∷◌, length, map, take, get_or, sym, ap, ◌∙◌, subst, arith}
use Rattle.std.specs.List.{starts_with}
use Rattle.std.proofs.lemmas.List.{get_or-map, take_more}
use Rattle.strip_mask.specs.Set.{LiesBelow, has, without}
use Rattle.strip_mask.proofs.Below.{LiesBelow-full}
use Rattle.strip_model.specs.Film.{FilmData}
use Rattle.strip_film.specs.declared.path.Path.{Path}
use Rattle.strip_film.specs.Film.{LiesIn, all_scenes}
use Rattle.strip_film.specs.Finish.{AreFirsts, Remained, rest_after}
use Rattle.strip_film.specs.Path.{PathData}
use Rattle.strip_film.specs.Shown.{path_data}
use Rattle.strip_film.proofs.Lists.{AreFirsts-append, LiesBelow-rest_after, ready_there, rest_after-append}
use Rattle.strip_lines.specs.Parts.{lies_in}

-- what remains after scenes lies in the film
pub lies_after : (film : FilmData) (rest : ℕ) (scenes : List ℕ) → rest ≡ rest_after (all_scenes film) scenes → LiesIn film rest
lies_after film rest scenes after =
    subst (LiesBelow (length film.casts)) (sym after)
    (LiesBelow-rest_after (length film.casts) (all_scenes film) scenes (LiesBelow-full (length film.casts)))

-- a list with a scene that is no first in its turn isn't one of firsts
pub not_first : (firsts : ℕ → ℕ) (set : ℕ) (scenes : List ℕ) (i : ℕ) → i < length scenes
    → has (firsts (rest_after set (take i scenes))) (get_or scenes i 0) ≡ false → ¬ AreFirsts firsts set scenes
not_first firsts set [] i within out are = absurd (omega (arith, within))
not_first firsts set (x ∷ scenes) zero within out are = absurd (let e : false ≡ true = sym out ∙ are.0 in cc)
not_first firsts set (x ∷ scenes) (suc i) within out are = not_first firsts (without set x) scenes i (omega (arith, within)) out are.1

-- the firsts so far, with one more
pub first_more : (firsts : ℕ → ℕ) (set : ℕ) (scenes : List ℕ) (i : ℕ) → i < length scenes → AreFirsts firsts set (take i scenes)
    → has (firsts (rest_after set (take i scenes))) (get_or scenes i 0) ≡ true → AreFirsts firsts set (take (i + 1) scenes)
first_more firsts set scenes i within are one =
    subst (AreFirsts firsts set) (sym (take_more scenes i 0 within)) (AreFirsts-append firsts set (get_or scenes i 0) (take i scenes) are one)

pub rest_more : (set : ℕ) (scenes : List ℕ) (i : ℕ) → i < length scenes
    → rest_after set (take (i + 1) scenes) ≡ without (rest_after set (take i scenes)) (get_or scenes i 0)
rest_more set scenes i within = ap (rest_after set) (take_more scenes i 0 within) ∙ rest_after-append set (get_or scenes i 0) (take i scenes)

-- a path lies in the part of a task where it begins with it
pub lies_in_task : (depth : ℕ) (tasks : List Path) (part : ℕ) (path : PathData) (task : Path) → 0 < part → part - 1 < length tasks
    → task ≡ get_or tasks (part - 1) task
    → lies_in depth (map path_data tasks) part path ≡ starts_with nat_eq path.scenes (path_data task).scenes
lies_in_task depth tasks zero path task some within read = absurd (omega (arith, some))
lies_in_task depth tasks (suc part) path task some within read =
    let place : suc part - 1 ≡ part = omega arith in
    let here : task ≡ get_or tasks part task = read ∙ ap (λ (i : ℕ). get_or tasks i task) place in
    ap (λ (p : PathData). starts_with nat_eq path.scenes p.scenes)
    (get_or-map path_data tasks part task _ (omega (arith, within)) ∙ ap path_data (sym here))

-- a list that remained, with its first scene: it was in the set, and the others remained without it
pub remained_first : (film : FilmData) (set : ℕ) (xs : List ℕ) (x : ℕ) (later : List ℕ) → xs ≡ x ∷ later → Remained film set xs
    → (has set x ≡ true) × Remained film (without set x) later
remained_first film set xs x later is remained =
    let both = subst (Remained film set) is remained in (ready_there film set x both.0, both.1)
