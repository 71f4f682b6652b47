use Rattle.std.proofs.Common.{◌≡◌, arith, sym, ap, get_or, length, take, ◌∙◌}
use Rattle.strip_model.specs.FilmOf.{film_of}
use Rattle.std.proofs.lemmas.List.{take_all}
use Rattle.strip_model.proofs.Scenes.{cast_at, days_at}
use Rattle.strip_reports.proofs.Sized.{crews_next, few_days}
use Rattle.strip_reports.specs.Days.{crews_of}
use Rattle.strip_reports.proofs.days.crews.Goals as goal

pub loop-scene-preserved : goal.loop-scene-preserved
loop-scene-preserved c =
    let inst = c.args.inst.now in
    let order = c.args.order.now in
    let k = c.loop-scene.scene-index in
    let scene = get_or order k 0 in
    let scenes = c.scenes-scenes.result.now in
    let shot = c.index-scenes-scene.result in
    let known = c.requires.known k 0 (omega arith) in
    c.in_ok-push_days.ensures
    ∙ crews_next (film_of inst) order c.loop-scene.crews.items k shot.days shot.cast (omega arith) c.loop-scene.invariant
    (ap (λ scene. scene.days) c.index-scenes-scene.is ∙ sym (days_at scenes inst.scenes scene shot c.scenes-scenes.ensures.scenes known))
    (ap (λ scene. scene.cast) c.index-scenes-scene.is ∙ sym (cast_at scenes inst.scenes scene shot c.scenes-scenes.ensures.scenes known))

pub returns-clause-few : goal.returns-clause-few
returns-clause-few c =
    let inst = c.args.inst.now in
    let order = c.args.order.now in
    let all : take c.loop-scene.scene-index order ≡ order = take_all c.loop-scene.scene-index order (omega arith) in
    let crews : c.loop-scene.crews.items ≡ crews_of (film_of inst) order = c.loop-scene.invariant ∙ ap (crews_of (film_of inst)) all in
    omega (arith, ap length crews, few_days inst order c.scenes-scenes.ensures.limits c.requires)
