use Rattle.std.proofs.Common.{◌≡◌, ℕ, ◌<◌, List, ◌∷◌, [], ◌++◌, length, slice_index, ap, ◌∙◌, arith}
use Rattle.strip_film.specs.Path.{PathData}
use Rattle.strip_film.specs.Shown.{path_data}
use Rattle.strip_film.proofs.Started.{more_so_far, next_ready}
use Rattle.strip_start.specs.Moves.{moved}
use Rattle.strip_start.proofs.Past.{IsPath-along, path_along}
use Rattle.strip_start.proofs.Places.{length-moved}
use Rattle.strip_start.proofs.moves.moved.Goals as goal

pub extend-next-requires-clause-ready : goal.extend-next-requires-clause-ready
extend-next-requires-clause-ready c =
    let order : List ℕ = (path_data c.args.path.now).scenes in
    let other : List ℕ = moved order c.args.found.from c.args.found.to in
    let here : c.loop-place.place < length order = omega (arith, c.loop-place-test.true, ap length c.scenes-scenes.ensures) in
    let within : c.loop-place.place < length other = omega (arith, here, length-moved order c.args.found.from c.requires.better.taken c.args.found.to) in
    rw c.scenes-scenes.ensures
    (rw (c.place_before.ensures order c.requires.better.taken c.requires.better.put here).1
    (next_ready c.args.film.now (path_along c.args.film.now other) (path_data c.loop-place.next) c.loop-place.place
    (IsPath-along c.args.film.now other c.requires.better.once) c.loop-place.invariant.path c.loop-place.invariant.so_far within))

pub loop-place-preserved : goal.loop-place-preserved
loop-place-preserved c =
    let order : List ℕ = (path_data c.args.path.now).scenes in
    let other : List ℕ = moved order c.args.found.from c.args.found.to in
    let here : c.loop-place.place < length order = omega (arith, c.loop-place-test.true, ap length c.scenes-scenes.ensures) in
    let within : c.loop-place.place < length other = omega (arith, here, length-moved order c.args.found.from c.requires.better.taken c.args.found.to) in
    let scene : slice_index c.scenes-scenes.result.now c.place_before.result ≡ slice_index other c.loop-place.place
    = ap (λ (xs : List ℕ). slice_index xs c.place_before.result) c.scenes-scenes.ensures ∙ (c.place_before.ensures order c.requires.better.taken c.requires.better.put here).1 in
    record {
      path = c.extend-next.ensures.path;
      so_far = ap (λ (p : PathData). p.scenes) c.extend-next.ensures.extended
          ∙ ap (λ (s : ℕ). (path_data c.loop-place.next).scenes ++ s ∷ []) scene
          ∙ more_so_far other (path_data c.loop-place.next).scenes c.loop-place.place c.loop-place.invariant.so_far within;
    }
