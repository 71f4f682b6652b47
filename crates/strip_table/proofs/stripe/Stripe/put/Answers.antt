use Rattle.std.proofs.Common.{◌≡◌, ℕ, ◌<◌, List, length, slice_set, ap, sym, ◌∙◌, arith}
use Rattle.strip_film.specs.declared.shared.Known.{Known}
use Rattle.strip_table.specs.Home.{bucket_of}
use Rattle.strip_table.specs.Stripe.{bucket_at}
use Rattle.strip_table.specs.Shown.{stripe_data, used}
use Rattle.strip_table.proofs.Stripes.{bucket_read, count_seen, laid_out_after, seen_after, stripe_data-set}
use Rattle.strip_table.proofs.stripe.Stripe.put.Goals as goal
use Rattle.strip_table.proofs.stripe.Stripe.put.Goals.{After-index_mut-3}

pub index_mut-requires : goal.index_mut-requires
index_mut-requires c =
    omega (arith, count_seen _ _ _ _ c.self.invariant c.self.view_is, c.self.inside.slots.ok.0, c.home-bucket.ensures.below)

pub index_mut-requires-2 : goal.index_mut-requires-2
index_mut-requires-2 c =
    omega (arith, count_seen _ _ _ _ c.self.invariant c.self.view_is, c.self.invariant.line_count, c.self.inside.lines.ok.0, c.home-bucket.ensures.below)

pub index_mut-requires-3 : goal.index_mut-requires-3
index_mut-requires-3 c =
    omega (arith, count_seen _ _ _ _ c.self.invariant c.self.view_is, c.self.invariant.count_count, c.self.inside.counts.ok.0, c.home-bucket.ensures.below)

pub put_in-requires : goal.put_in-requires
put_in-requires c =
    let within : c.home-bucket.result < length c.self.inside.counts.items =
    omega (arith, count_seen _ _ _ _ c.self.invariant c.self.view_is, c.self.invariant.count_count, c.home-bucket.ensures.below) in
    omega (arith, c.self.invariant.few c.home-bucket.result c.index_mut-3.result.now within, c.index_mut-3.ensures.value)

-- the bucket that the parts show
read : (c : After-index_mut-3) → bucket_at (stripe_data c.self.inside.slots.items c.self.inside.lines.items c.self.inside.counts.items) c.home-bucket.result
    ≡ used c.index_mut.result.now c.index_mut-2.result.now c.index_mut-3.result.now
read c = bucket_read c.self.inside.slots.items c.self.inside.lines.items c.self.inside.counts.items c.home-bucket.result
    c.index_mut.result.now c.index_mut-2.result.now c.index_mut-3.result.now c.self.invariant.line_count c.self.invariant.count_count
    (omega (arith, count_seen _ _ _ _ c.self.invariant c.self.view_is, c.home-bucket.ensures.below))
    c.index_mut.ensures.value c.index_mut-2.ensures.value c.index_mut-3.ensures.value

pub invariant_of-self : goal.invariant_of-self
invariant_of-self c =
    let count = count_seen _ _ _ _ c.self.invariant c.self.view_is in
    laid_out_after c.self.inside.slots.items c.self.inside.lines.items c.self.inside.counts.items c.home-bucket.result
    c.put_in.new.slot c.put_in.new.lines c.put_in.new.count c.args.known.now c.put_in.result c.self.invariant
    (omega (arith, count, c.home-bucket.ensures.below)) (c.home-bucket.ensures.bucket ∙ ap (λ (n : ℕ). bucket_of c.args.known.now.set n) count)
    c.put_in.ensures.few (rw (read (goal.at.invariant_of-self c).After-index_mut-3) c.put_in.ensures.puts)

pub returns : goal.returns
returns c =
    let slots = c.self.inside.slots.items in
    let lines = c.self.inside.lines.items in
    let counts = c.self.inside.counts.items in
    let number = c.home-bucket.result in
    let after = used c.put_in.new.slot c.put_in.new.lines c.put_in.new.count in
    let seen : bucket_at c.args.self.now number ≡ used c.index_mut.result.now c.index_mut-2.result.now c.index_mut-3.result.now =
    ap (λ (s : List (List Known)). bucket_at s number) (sym c.self.view_is) ∙ read (goal.at.returns c).After-index_mut-3 in
    let new = stripe_data (slice_set slots number c.put_in.new.slot) (slice_set lines number c.put_in.new.lines) (slice_set counts number c.put_in.new.count) in
    let is : new ≡ slice_set c.args.self.now number after =
    stripe_data-set slots lines counts number c.put_in.new.slot c.put_in.new.lines c.put_in.new.count
    ∙ ap (λ (s : List (List Known)). slice_set s number after) c.self.view_is in
    let both = seen_after c.args.self.now new number c.args.known.now after c.put_in.result is
    c.home-bucket.ensures.below c.home-bucket.ensures.bucket (rw seen c.put_in.ensures.puts) in
    record { puts = both.0; others = both.1 }
