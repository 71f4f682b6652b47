use Rattle.std.proofs.Common.{length}
use Rattle.std.proofs.lemmas.Bool.{eq-eqb, eqb-true}
use Rattle.strip_mask.specs.Set.{minus}
use Rattle.strip_mask.proofs.Below.{lies_by_minus}
use Rattle.strip_film.specs.Film.{all_scenes}
use Rattle.strip_check.proofs.Accepting.{is_justified, reached, status_holds, status_test}
use Rattle.strip_check.proofs.Tests.{before_decides, order_decides}
use Rattle.strip_check.proofs.laws.the_tests_decide.Goals as goal

pub returns-clause-order : goal.returns-clause-order
returns-clause-order c = order_decides

pub returns-clause-pair : goal.returns-clause-pair
returns-clause-pair c = before_decides

pub returns-clause-set : goal.returns-clause-set
returns-clause-set c = λ film set. (
  λ part. (lies_by_minus (length film.casts) set).0 (eqb-true (minus set (all_scenes film)) 0 part),
  λ lies. eq-eqb (minus set (all_scenes film)) 0 ((lies_by_minus (length film.casts) set).1 lies),
)

pub returns-clause-line : goal.returns-clause-line
returns-clause-line c = λ kind film lines line is lies. (
  λ le. is_justified kind film lines line is lies le,
  λ fits. reached kind film lines line is lies (c.the_rules_are_true.ensures.begin kind film is) fits,
)

pub returns-clause-status : goal.returns-clause-status
returns-clause-status c = λ status bound cost. (λ test. status_holds status bound cost test, λ tells. status_test status bound cost tells)
