use Rattle.std.proofs.Common.{◌≡◌, ◌<◌, ◌≤◌, List, length, ap, sym, ◌∙◌, arith}
use Rattle.strip_film.specs.declared.shared.Known.{Known}
use Rattle.strip_table.specs.Bucket.{find_in}
use Rattle.strip_table.specs.Stripe.{bucket_at, home}
use Rattle.strip_table.specs.Shown.{used}
use Rattle.strip_table.proofs.Places.{found_at, not_found, place_below}
use Rattle.strip_table.proofs.Stripes.{bucket_read, count_seen}
use Rattle.strip_table.proofs.stripe.Stripe.find.Goals as goal
use Rattle.strip_table.proofs.stripe.Stripe.find.Goals.{After-index}

pub index-slot-requires : goal.index-slot-requires
index-slot-requires c =
    omega (arith, count_seen _ _ _ _ c.self.invariant c.self.view_is, c.self.inside.slots.ok.0, c.home-bucket.ensures.below)

pub index-lines-requires : goal.index-lines-requires
index-lines-requires c =
    omega (arith, count_seen _ _ _ _ c.self.invariant c.self.view_is, c.self.invariant.line_count, c.self.inside.lines.ok.0, c.home-bucket.ensures.below)

pub index-requires : goal.index-requires
index-requires c =
    omega (arith, count_seen _ _ _ _ c.self.invariant c.self.view_is, c.self.invariant.count_count, c.self.inside.counts.ok.0, c.home-bucket.ensures.below)

-- the bucket of the set, by what was read
read : (c : After-index) → home c.args.self.now c.args.set ≡ used c.index-slot.result.now c.index-lines.result.now c.index.result.now
read c =
    ap (bucket_at c.args.self.now) (sym c.home-bucket.ensures.bucket)
    ∙ ap (λ (s : List (List Known)). bucket_at s c.home-bucket.result) (sym c.self.view_is)
    ∙ bucket_read c.self.inside.slots.items c.self.inside.lines.items c.self.inside.counts.items c.home-bucket.result
    c.index-slot.result.now c.index-lines.result.now c.index.result.now c.self.invariant.line_count c.self.invariant.count_count
    (omega (arith, count_seen _ _ _ _ c.self.invariant c.self.view_is, c.home-bucket.ensures.below))
    c.index-slot.ensures c.index-lines.ensures c.index.ensures

few : (c : After-index) → c.index.result.now ≤ 4
few c =
    let within : c.home-bucket.result < length c.self.inside.counts.items =
    omega (arith, count_seen _ _ _ _ c.self.invariant c.self.view_is, c.self.invariant.count_count, c.home-bucket.ensures.below) in
    omega (arith, c.self.invariant.few c.home-bucket.result c.index.result.now within, c.index.ensures)

pub place_of-requires : goal.place_of-requires
place_of-requires c = few (goal.at.place_of-requires c).After-index

pub returns-in_err-place : goal.returns-in_err-place
returns-in_err-place c =
    let at = (goal.at.returns-in_err-place c).After-index in
    let none = not_found c.index-slot.result.now.sets c.index-slot.result.now.bounds c.index-lines.result.now c.index.result.now c.args.set
    (sym c.in_err-place.ensures) in
    c.from_residual.ensures ∙ sym (ap (λ (bucket : List Known). find_in bucket c.args.set) (read at) ∙ none)

pub bounds-lines-place : goal.bounds-lines-place
bounds-lines-place c =
    omega (
      arith,
      few (goal.at.bounds-lines-place c).After-index,
      place_below c.index-slot.result.now.sets c.index.result.now c.args.set c.in_ok-place.place (sym c.in_ok-place.ensures),
    )

pub returns : goal.returns
returns c =
    let at = (goal.at.returns c).After-index in
    let all = found_at c.index-slot.result.now.sets c.index-slot.result.now.bounds c.index-lines.result.now c.index.result.now c.args.set c.in_ok-place.place
    (omega arith) (omega arith) (omega (arith, few at)) (sym c.in_ok-place.ensures) in
    sym (ap (λ (bucket : List Known). find_in bucket c.args.set) (read at) ∙ all.0)
