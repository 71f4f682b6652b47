use Rattle.std.proofs.Common.{◌≡◌, ◌∙◌, ℕ, suc, ◌+◌, true, false, List, ◌++◌, length, ap, arith}
use Rattle.strip_mask.proofs.Lists.{count-append}
use Rattle.strip_least.specs.Rule.{once_below, times}
use Rattle.strip_crew.specs.Race.{parts_where}
use Rattle.strip_crew.proofs.Queued.{all_parts}
use Rattle.strip_crew.proofs.queues.parts_in_turn.Goals as goal

pub returns : goal.returns
returns c = λ part. (
    let wanted = c.args.wanted.now in
    let first : c.push_parts.new.numbers.items ≡ parts_where true 1 wanted
    = c.in_ok-push_parts.ensures ∙ ap (λ (xs : List ℕ). xs ++ parts_where true 1 wanted) c.in_ok-numbers.ensures.items in
    let one : times part c.push_parts.new.numbers.items ≡ times part (parts_where true 1 wanted) = ap (times part) first in
    let two : times part c.push_parts-2.new.numbers.items ≡ times part c.push_parts.new.numbers.items + times part (parts_where false 1 wanted)
    = ap (times part) c.in_ok-push_parts-2.ensures ∙ count-append part c.push_parts.new.numbers.items (parts_where false 1 wanted) in
    let ends : once_below part (1 + length wanted) ≡ once_below part (suc (length wanted))
    = ap (once_below part) (let same : 1 + length wanted ≡ suc (length wanted) = omega arith in same) in
    omega (arith, one, two, ends, all_parts part 1 wanted))
