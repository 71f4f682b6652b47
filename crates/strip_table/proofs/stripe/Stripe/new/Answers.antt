use Rattle.std.proofs.Common.{rules, arith}
use Rattle.strip_table.proofs.Stripes.{laid_out_empty, seen_empty}
use Rattle.strip_table.proofs.stripe.Stripe.new.Goals as goal

pub invariant_of-result : goal.invariant_of-result
invariant_of-result c =
    let slots = c.in_ok-vec.ensures.items_if_clones_equal (search rules) in
    let lines = c.in_ok-vec-2.ensures.items_if_clones_equal (search rules) in
    let counts = c.in_ok-vec-3.ensures.items_if_clones_equal (search rules) in
    rw (slots, lines, counts) (laid_out_empty c.args.buckets _ _ c.requires (omega arith))

pub returns : goal.returns
returns c =
    let slots = c.in_ok-vec.ensures.items_if_clones_equal (search rules) in
    let lines = c.in_ok-vec-2.ensures.items_if_clones_equal (search rules) in
    let counts = c.in_ok-vec-3.ensures.items_if_clones_equal (search rules) in
    seen_empty c.args.buckets _ _ _ _ _ slots lines counts
