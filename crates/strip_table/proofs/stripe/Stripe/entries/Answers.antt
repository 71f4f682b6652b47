use Rattle.std.proofs.Common.{◌<◌, List, length, ap, sym, ◌∙◌, arith}
use Rattle.strip_film.specs.declared.shared.Known.{Known}
use Rattle.strip_table.specs.Stripe.{bucket_at}
use Rattle.strip_table.proofs.Stripes.{bucket_read, count_seen}
use Rattle.strip_table.proofs.stripe.Stripe.entries.Goals as goal

pub index-requires : goal.index-requires
index-requires c = omega (arith, count_seen _ _ _ _ c.self.invariant c.self.view_is, c.self.inside.slots.ok.0, c.requires)

pub index-requires-2 : goal.index-requires-2
index-requires-2 c =
    omega (arith, count_seen _ _ _ _ c.self.invariant c.self.view_is, c.self.invariant.line_count, c.self.inside.lines.ok.0, c.requires)

pub index-requires-3 : goal.index-requires-3
index-requires-3 c =
    omega (arith, count_seen _ _ _ _ c.self.invariant c.self.view_is, c.self.invariant.count_count, c.self.inside.counts.ok.0, c.requires)

pub invariant_of-result : goal.invariant_of-result
invariant_of-result c =
    let within : c.args.bucket < length c.self.inside.counts.items =
    omega (arith, count_seen _ _ _ _ c.self.invariant c.self.view_is, c.self.invariant.count_count, c.requires) in
    record { few = omega (arith, c.self.invariant.few c.args.bucket c.index-3.result.now within, c.index-3.ensures) }

pub returns : goal.returns
returns c =
    sym (bucket_read c.self.inside.slots.items c.self.inside.lines.items c.self.inside.counts.items c.args.bucket
    c.index.result.now c.index-2.result.now c.index-3.result.now c.self.invariant.line_count c.self.invariant.count_count
    (omega (arith, count_seen _ _ _ _ c.self.invariant c.self.view_is, c.requires)) c.index.ensures c.index-2.ensures c.index-3.ensures)
    ∙ ap (λ (s : List (List Known)). bucket_at s c.args.bucket) c.self.view_is
