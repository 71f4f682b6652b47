use Rattle.std.proofs.Common.{◌∙◌, subst, sym}
use Rattle.strip_hand.specs.Search.{GoesBy}
use Rattle.strip_crew.proofs.racing.walk_all.Goals as goal

pub work_all-requires-clause-worked : goal.work_all-requires-clause-worked
work_all-requires-clause-worked g c = λ κs outlives. record {
  search = subst (GoesBy g.B.Bounds.kind g.B.Bounds.film) (sym c.in_ok-passes.ensures.search) c.requires.begin.search;
  worked = c.in_ok-passes.ensures.worked;
}

pub close_front-requires-clause-worked : goal.close_front-requires-clause-worked
close_front-requires-clause-worked g c = record {
  search = subst (GoesBy g.B.Bounds.kind g.B.Bounds.film)
      (sym (c.in_ok-passes-2.ensures.worked.goes_on.search ∙ c.in_ok-passes.ensures.search)) c.requires.begin.search;
  worked = c.in_ok-passes-2.ensures.worked.worked;
}

pub close_front-requires-clause-full : goal.close_front-requires-clause-full
close_front-requires-clause-full g c = c.in_ok-passes-2.ensures.worked.weight c.in_ok-passes.ensures.full

pub returns : goal.returns
returns g c = record {
  closed = record {
    passes = c.in_ok-passes-3.ensures.passes;
    full = c.in_ok-passes-3.ensures.full;
    search = c.in_ok-passes-3.ensures.search ∙ c.in_ok-passes-2.ensures.worked.goes_on.search ∙ c.in_ok-passes.ensures.search;
    closed = c.in_ok-passes-3.ensures.closed;
    best = c.in_ok-passes-3.ensures.best;
  };
}
