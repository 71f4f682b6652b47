use Rattle.std.proofs.Common.{◌<◌, inl, inr, arith}
use Rattle.strip_bound.specs.Bounds.{bound}
use Rattle.strip_check.proofs.justify.is_justified.Goals as goal

pub returns : goal.returns
returns g c =
    let short : bound g.B.Bounds.kind g.B.Bounds.film c.args.q.0 < c.args.bound = elim c.reach.ensures.reaches [
      | inl reached ↦ absurd (omega (arith, reached, c.if-reach-bound.false))
      | inr whole ↦ omega (arith, whole, c.if-reach-bound.false)
    ] in record {
      justified = c.is_by_steps-2.ensures.decides short;
    }
