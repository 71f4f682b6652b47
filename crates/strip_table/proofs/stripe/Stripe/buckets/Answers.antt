use Rattle.std.proofs.Common.{arith}
use Rattle.strip_table.proofs.Stripes.{count_seen, length-stripe_data}
use Rattle.strip_table.proofs.stripe.Stripe.buckets.Goals as goal

pub overflow_cast-result : goal.overflow_cast-result
overflow_cast-result c =
    record {
      fits = omega (
        arith,
        c.len.ensures,
        c.self.inside.slots.ok.0,
        c.self.invariant.stripe.count,
        length-stripe_data c.self.inside.slots.items c.self.inside.lines.items c.self.inside.counts.items c.self.invariant.line_count c.self.invariant.count_count,
      );
    }

pub returns : goal.returns
returns c = omega (arith, c.len.ensures, c.self.inside.slots.ok.0, count_seen _ _ _ _ c.self.invariant c.self.view_is)
