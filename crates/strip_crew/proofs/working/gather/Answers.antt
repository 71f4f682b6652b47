use Rattle.strip_crew.specs.Crew.{shown}
use Rattle.strip_crew.proofs.working.gather.Goals as goal

pub returns-clause-gathered : goal.returns-clause-gathered
returns-clause-gathered g c = record {
  passes = c.join.ensures.passes;
  goes_on = c.join.ensures.takes_over.first;
  weight = λ rest one other. c.join.ensures.heavier rest one other;
  home = c.join.ensures.home;
  worked = λ front was found.
      c.merge.ensures.worked (shown c.args.passes.now) (shown c.args.job.passes) (shown c.join.new.into) front was found c.join.ensures.takes_over;
  left = c.join.ensures.left;
}
