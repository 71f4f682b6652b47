use Rattle.std.proofs.Common.{sym, subst, ◌+◌, ◌*◌, ◌<◌, ◌≤◌, ◌^◌, length, arith}
use Rattle.strip_mask.proofs.Below.{IsSet-full}
use Rattle.strip_model.specs.Film.{FilmData}
use Rattle.strip_model.specs.Order.{IsOrder}
use Rattle.strip_film.specs.Film.{all_scenes}
use Rattle.strip_film.specs.Path.{PathData}
use Rattle.strip_film.specs.Shown.{path_data}
use Rattle.strip_lines.specs.Lines.{rules_of}
use Rattle.strip_lines.specs.Paths.{factorial, candidate_count, is_candidate}
use Rattle.strip_reduce.specs.Shown.{reduced_data}
use Rattle.strip_lines.specs.Ended.{EndedData, ended_data}
use Rattle.strip_solve.proofs.Back.{HasOptimum, least_cost, solved_by, status_of}
use Rattle.strip_solve.proofs.plan.plan_of.Goals as goal

pub returns-clause-solved : goal.returns-clause-solved
returns-clause-solved c = λ film same stands is_own.
    let classes : FilmData = c.args.reduced.now.film in
    let ended : EndedData = ended_data c.args.searched.ended in
    let start : PathData = path_data c.args.start.now in
    let varied : PathData = path_data c.args.searched.begun in
    let searched = c.requires.searched in
    let finish = c.a_least_tail_exists.ensures classes (all_scenes classes) c.keeps_limits.ensures (IsSet-full (length classes.casts) c.keeps_limits.ensures.scene_count.1) in
    let optimum : HasOptimum classes = (finish.0, (c.finishing_everything_is_the_optimum.ensures classes finish.0 c.keeps_limits.ensures).0 finish.1) in
    let most = c.paths_are_few.ensures.most classes (is_candidate (rules_of c.args.options.kind classes) varied.paid) c.keeps_limits.ensures in
    let orders : candidate_count (rules_of c.args.options.kind classes) varied.paid ≤ 2 * factorial (length classes.casts)
    = omega (arith, most, c.paths_are_few.ensures.orders (length classes.casts)) in
    let small : ended.cost < 2 ^ 64 =
    let is : IsOrder (length classes.days) ended.order = subst (λ n. IsOrder n ended.order) (sym c.keeps_limits.ensures.day_count) searched.ended.order.is_order in
    let less = c.pays_stay_small.ensures.small classes ended.order c.keeps_limits.ensures.hold_count is c.keeps_limits.ensures.day_sum c.keeps_limits.ensures.rate_sum
    c.keeps_limits.ensures.hold_sum in
    omega (arith, less, searched.ended.cost) in
    solved_by c.args.options.kind film c.args.options.nodes start varied ended c.args.own c.in_ok-order.order.items c.in_ok-order.cost c.args.searched.trimmed
    c.proof_of-status.result.0 c.proof_of-status.result.1.items (reduced_data c.args.reduced.now) same stands c.requires.start searched.is_varied searched.ended optimum
    orders is_own small searched.trimmed c.proof_of-status.ensures c.in_ok-order.ensures

pub returns-clause-status : goal.returns-clause-status
returns-clause-status c =
    status_of c.args.searched.trimmed c.args.searched.ended.lines.items c.proof_of-status.result.0 c.proof_of-status.result.1.items c.proof_of-status.ensures

pub returns-clause-cost : goal.returns-clause-cost
returns-clause-cost c =
    least_cost c.args.reduced.now.film (reduced_data c.args.reduced.now).members c.args.searched.ended.order.items c.args.own
    (c.args.searched.ended.cost + c.args.reduced.now.apart) c.in_ok-order.order.items c.in_ok-order.cost c.in_ok-order.ensures
