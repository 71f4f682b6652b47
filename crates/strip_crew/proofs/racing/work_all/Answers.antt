use Rattle.std.proofs.Common.{ℕ, ◌-◌, refl, sym, subst, arith}
use Rattle.strip_front.specs.Shown.{front_data}
use Rattle.strip_hand.specs.Search.{GoesBy}
use Rattle.strip_least.specs.Rule.{full_weight}
use Rattle.strip_worker.proofs.Moved.{moved_same}
use Rattle.strip_crew.specs.Crew.{Weigh, shown}
use Rattle.strip_crew.proofs.Done.{goes_after}
use Rattle.strip_crew.proofs.racing.work_all.Goals as goal

pub work_beside-requires-clause-split : goal.work_beside-requires-clause-split
work_beside-requires-clause-split g c = λ κs outlives. record {
  weight = (
    4294967295 - c.args.race.now.limits.workers,
    subst (λ (w : ℕ). Weigh w c.in_ok-passes.passes) (omega (arith, c.requires.workers.1)) (c.in_ok-passes.ensures.full c.requires.full),
  );
  deals = c.in_ok-passes.ensures.deals;
  home_is = refl;
}

pub work_beside-requires-clause-worked : goal.work_beside-requires-clause-worked
work_beside-requires-clause-worked g c κs within =
    let ready = c.in_ok-passes.ensures in
    record {
      search = subst (GoesBy g.B.Bounds.kind g.B.Bounds.film) (sym ready.goes_on.search) c.requires.worked.search;
      worked = moved_same (shown c.args.passes) (shown c.in_ok-passes.passes) ready.goes_on (front_data c.args.front.now) c.args.walked.now.found.items c.args.walked.now.spent
          c.requires.worked.worked (λ _. ready.passes.book_pass.few) ready.records;
    }

pub returns-then-walked : goal.returns-then-walked
returns-then-walked g c = record { worked = c.work_alone.ensures.worked full_weight }

pub returns : goal.returns
returns g c =
    let ready = c.in_ok-passes.ensures in
    let done = c.in_ok-work_beside.ensures.worked full_weight in
    record {
      worked = record {
        passes = done.passes;
        goes_on = goes_after (shown c.args.passes) (shown c.in_ok-passes.passes) (shown c.work_beside.new.passes) ready.goes_on done.goes_on;
        weight = λ weigh. done.weight (ready.full weigh);
        worked = done.worked;
        left = done.left;
      };
    }
