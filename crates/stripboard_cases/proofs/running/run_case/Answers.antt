use Rattle.std.proofs.Common.{rules, sym, subst}
use Rattle.stripboard_cases.specs.AtHand.{AreApart}
use Rattle.stripboard_cases.proofs.Hands.{apart_none}
use Rattle.stripboard_cases.proofs.Turns.{apart_all_given}
use Rattle.stripboard_cases.proofs.running.run_case.Goals as goal

pub do_all-requires : goal.do_all-requires
do_all-requires g c = (search rules, apart_all_given c.args.shared.now c.new-files.result.items _ (subst AreApart (sym c.new-files.ensures.items) apart_none) (c.give_all.ensures (cc)))
