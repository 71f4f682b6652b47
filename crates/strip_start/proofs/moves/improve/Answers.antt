use Rattle.std.proofs.Common.{◌≡◌, ℕ, suc, ◌+◌, List, sym, subst, arith}
use Rattle.strip_film.specs.Shown.{path_data}
use Rattle.strip_start.specs.Moves.{Improves}
use Rattle.strip_start.proofs.Chains.{chain_more, paid_no_more}
use Rattle.strip_start.proofs.moves.improve.Goals as goal

pub returns-in-None-clause-no_dearer : goal.returns-in-None-clause-no_dearer
returns-in-None-clause-no_dearer c =
    paid_no_more c.args.film.now c.loop-turn._turn (path_data c.args.path.now) (path_data c.loop-turn.best) c.requires c.loop-turn.invariant.complete c.loop-turn.invariant.chain

pub loop-turn-preserved : goal.loop-turn-preserved
loop-turn-preserved c =
    let more : suc c.loop-turn._turn ≡ c.loop-turn._turn + 1 = omega arith in
    record {
      complete = c.moved-best.ensures.complete;
      chain = subst (λ (n : ℕ). Improves c.args.film.now n (path_data c.args.path.now).scenes (path_data c.moved-best.result).scenes) more
          (subst (λ (xs : List ℕ). Improves c.args.film.now (suc c.loop-turn._turn) (path_data c.args.path.now).scenes xs) (sym c.moved-best.ensures.scenes)
          (chain_more c.args.film.now c.loop-turn._turn (path_data c.args.path.now).scenes (path_data c.loop-turn.best).scenes c.in-Some.found.from c.in-Some.found.to
          c.loop-turn.invariant.chain c.in-Some.ensures.some));
    }

pub returns-clause-no_dearer : goal.returns-clause-no_dearer
returns-clause-no_dearer c =
    paid_no_more c.args.film.now c.loop-turn._turn (path_data c.args.path.now) (path_data c.loop-turn.best) c.requires c.loop-turn.invariant.complete c.loop-turn.invariant.chain
