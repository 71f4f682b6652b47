use Rattle.std.proofs.Common.{◌≡◌, ◌≢◌, ◌∙◌, ◌+◌, ◌≤◌, ℕ, true, true≢false, None, Some, length, sym, subst, ap, inl, inr, arith}
use Rattle.std.proofs.lemmas.Bool.{cases_eq}
use Rattle.strip_mask.specs.Set.{IsSet, first, has, size, without}
use Rattle.strip_mask.proofs.Below.{is_set_below}
use Rattle.strip_mask.proofs.ByMembers.{has-empty}
use Rattle.strip_mask.proofs.Sizes.{first_is, first_none}
use Rattle.strip_model.specs.Film.{FilmData}
use Rattle.strip_film.specs.Film.{LiesIn}
use Rattle.strip_film.specs.Path.{PathData}
use Rattle.strip_film.specs.Shoot.{ready}
use Rattle.strip_film.specs.Shown.{path_data}
use Rattle.strip_film.proofs.Lists.{ready_there}
use Rattle.strip_film.proofs.Paths.{rest_lies, one_fewer, rest_set}
use Rattle.strip_start.proofs.listed.listed.Goals as goal

-- of a set of the film's scenes those that are ready are a set
ready_set : (film : FilmData) (rest q : ℕ) → length film.casts ≤ 64 → LiesIn film rest → q ≡ ready film rest → IsSet q
ready_set film rest q few lies same =
    subst IsSet (sym same) (is_set_below (length film.casts) (ready film rest) few (λ i there. lies i (ready_there film rest i there)))

-- the first of them is ready
first_ready : (film : FilmData) (rest q scene : ℕ) → length film.casts ≤ 64 → LiesIn film rest → q ≡ ready film rest → first q ≡ Some scene
    → has (ready film rest) scene ≡ true
first_ready film rest q scene few lies same is =
    subst (λ (r : ℕ). has r scene ≡ true) same (first_is q scene (ready_set film rest q few lies same) is).0

-- where none is ready nothing is left
none_left : (film : FilmData) (rest q : ℕ) → length film.casts ≤ 64 → LiesIn film rest → q ≡ ready film rest → first q ≡ None
    → (rest ≢ 0 → (scene : ℕ) × (has (ready film rest) scene ≡ true)) → rest ≡ 0
none_left film rest q few lies same none some = elim (cases_eq rest 0) [
  | inl empty ↦ empty
  | inr left ↦ (let there = some left in
      let no : ready film rest ≡ 0 = sym same ∙ first_none q (ready_set film rest q few lies same) none in
      absurd (true≢false (sym there.1 ∙ ap (λ (r : ℕ). has r there.0) no ∙ has-empty there.0)))
]

pub ready-requires : goal.ready-requires
ready-requires c =
    subst (LiesIn c.args.film.now) (sym c.rest.ensures) (rest_lies c.args.film.now (path_data c.loop-scene.path) c.loop-scene.invariant.path)

pub extend-path-requires-clause-ready : goal.extend-path-requires-clause-ready
extend-path-requires-clause-ready c =
    first_ready c.args.film.now c.loop-scene.path.rest.0 c.ready.result.0 c.in-Some.scene c.keeps_limits.ensures.scene_count.1
    (rest_lies c.args.film.now (path_data c.loop-scene.path) c.loop-scene.invariant.path) (c.ready.ensures ∙ ap (ready c.args.film.now) c.rest.ensures)
    (sym c.first.ensures ∙ c.in-Some.is)

pub loop-scene-smaller : goal.loop-scene-smaller
loop-scene-smaller c =
    let film : FilmData = c.args.film.now in
    let path : PathData = path_data c.loop-scene.path in
    let scene : ℕ = c.in-Some.scene in
    let lies = rest_lies film path c.loop-scene.invariant.path in
    let there = first_ready film path.rest c.ready.result.0 scene c.keeps_limits.ensures.scene_count.1 lies (c.ready.ensures ∙ ap (ready film) c.rest.ensures)
    (sym c.first.ensures ∙ c.in-Some.is) in
    let fewer : size (without path.rest scene) + 1 ≡ size path.rest = one_fewer film path c.loop-scene.invariant.path c.keeps_limits.ensures scene there in
    let left : size (path_data c.extend-path.result).rest ≡ size (without path.rest scene) = ap (λ (p : PathData). size p.rest) c.extend-path.ensures.extended in
    omega (arith, fewer, left)

pub returns : goal.returns
returns c =
    let film : FilmData = c.args.film.now in
    let path : PathData = path_data c.loop-scene.path in
    let lies = rest_lies film path c.loop-scene.invariant.path in
    let set : IsSet path.rest = rest_set film path c.loop-scene.invariant.path c.keeps_limits.ensures in (
      c.loop-scene.invariant.path,
      none_left film path.rest c.ready.result.0 c.keeps_limits.ensures.scene_count.1 lies (c.ready.ensures ∙ ap (ready film) c.rest.ensures)
          (sym c.first.ensures ∙ c.in_default.is) (c.each_set_has_a_ready_scene.ensures film path.rest c.keeps_limits.ensures set),
    )
