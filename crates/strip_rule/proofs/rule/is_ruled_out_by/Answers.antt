use Rattle.std.proofs.Common.{sym, ◌∙◌}
use Rattle.strip_mask.specs.Iter.{rest_of}
use Rattle.strip_mask.proofs.Turns.{turn_member}
use Rattle.strip_rule.specs.Rule.{rules_out}
use Rattle.strip_rule.proofs.Left.{any_at_turn}
use Rattle.strip_rule.proofs.rule.is_ruled_out_by.Goals as goal

pub goes_before-requires-clause-first : goal.goes_before-requires-clause-first
goes_before-requires-clause-first c = c.requires.lies c.in-Some.first
    (turn_member c.args.firsts.0 c.in-Some.first c.loop-first.yielded (rest_of c.loop-first.first-iterator) (rest_of c.next.new.self) c.loop-first.invariant.turns c.in-Some.ensures.steps)

pub returns-then-goes_before : goal.returns-then-goes_before
returns-then-goes_before c = λ set located second_ready firsts_ready. sym (any_at_turn
    (λ first. rules_out c.args.film.now set first c.args.s) c.args.firsts.0 c.in-Some.first c.loop-first.yielded (rest_of c.loop-first.first-iterator) (rest_of c.next.new.self)
    c.loop-first.invariant.turns c.in-Some.ensures.steps
    (sym (c.goes_before.ensures set located
    (firsts_ready c.in-Some.first (turn_member c.args.firsts.0 c.in-Some.first c.loop-first.yielded (rest_of c.loop-first.first-iterator) (rest_of c.next.new.self) c.loop-first.invariant.turns c.in-Some.ensures.steps))
    second_ready) ∙ c.if-goes_before.true))
