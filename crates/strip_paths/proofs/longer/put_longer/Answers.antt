use Rattle.std.proofs.Common.{◌≡◌, ◌∙◌, ◌+◌, ◌*◌, ℕ, ap, arith, slice_index}
use Rattle.strip_mask.specs.Set.{minus, sum_over}
use Rattle.strip_mask.proofs.ByMembers.{below_64}
use Rattle.strip_model.specs.Film.{FilmData}
use Rattle.strip_film.specs.Path.{PathData, extended}
use Rattle.strip_film.specs.Shoot.{on_location, step_cost}
use Rattle.strip_film.specs.Shown.{path_data}
use Rattle.strip_film.proofs.Lists.{ready_there}
use Rattle.strip_film.proofs.Located.{location_lies}
use Rattle.strip_film.proofs.Paths.{IsPath-extended, path_limit, rest_lies, rest_set}
use Rattle.strip_paths.proofs.longer.put_longer.Goals as goal

pub step_with-step-requires-clause-known : goal.step_with-step-requires-clause-known
step_with-step-requires-clause-known c =
    let film : FilmData = c.args.film.now in
    let path : PathData = path_data c.args.path.now in
    rest_lies film path c.requires.path c.args.scene (ready_there film path.rest c.args.scene c.requires.ready)

pub step_with-step-requires-clause-actors : goal.step_with-step-requires-clause-actors
step_with-step-requires-clause-actors c = rw c.requires.on (location_lies c.args.film.now (path_data c.args.path.now).rest c.keeps_limits.ensures)

-- the step that is paid, by who is on location
step_is : (film : FilmData) (rest scene on found : ℕ)
    → found ≡ slice_index film.days scene * (sum_over film.rates (slice_index film.casts scene) + sum_over film.holds (minus on (slice_index film.casts scene)))
    → on ≡ on_location film rest → found ≡ step_cost film rest scene
step_is film rest scene on found is same =
    is ∙ ap (λ (on : ℕ). slice_index film.days scene * (sum_over film.rates (slice_index film.casts scene) + sum_over film.holds (minus on (slice_index film.casts scene)))) same

pub overflow_add-paid : goal.overflow_add-paid
overflow_add-paid c =
    let film : FilmData = c.args.film.now in
    let path : PathData = path_data c.args.path.now in
    omega (
      arith,
      step_is film path.rest c.args.scene c.args.on.0 c.step_with-step.result c.step_with-step.ensures c.requires.on,
      c.paid.ensures,
      path_limit film (extended film path c.args.scene) (IsPath-extended film path c.requires.path c.args.scene c.requires.ready) c.keeps_limits.ensures,
    )

pub extend_with-requires-clause-step : goal.extend_with-requires-clause-step
extend_with-requires-clause-step c =
    step_is c.args.film.now (path_data c.args.path.now).rest c.args.scene c.args.on.0 c.step_with-step.result c.step_with-step.ensures c.requires.on

pub without-requires : goal.without-requires
without-requires c =
    let film : FilmData = c.args.film.now in
    let path : PathData = path_data c.args.path.now in
    below_64 path.rest c.args.scene (rest_set film path c.requires.path c.keeps_limits.ensures)
    (ready_there film path.rest c.args.scene c.requires.ready)
