use Rattle.std.proofs.Common.{◌∙◌, sym, subst}
use Rattle.strip_hand.specs.Search.{GoesBy}
use Rattle.strip_crew.proofs.working.do_job.Goals as goal

pub returns : goal.returns
returns g c =
    let done = c.in_ok-passes.ensures.worked 1 in
    record {
      is_job = record {
        passes = done.passes;
        light = done.weight c.requires.job.light;
        worker = c.in_ok-passes.ensures.worker;
        from = c.in_ok-passes.ensures.home ∙ c.requires.job.from;
        search = subst (GoesBy g.B.Bounds.kind g.B.Bounds.film) (sym done.goes_on.search) c.requires.job.search;
        worked = done.worked;
      };
      left = done.left;
    }
