use Rattle.std.proofs.Common.{◌≡◌, ◌*◌, ◌%◌, ◌^◌, ◌∙◌, ℕ, arith, sym}
use Rattle.strip_sets.proofs.Sets.{at_high, at_low, one_shifted}
use Rattle.strip_sets.proofs.by_set.HalvesBySet.at.Goals as goal

pub returns-then-set-place : goal.returns-then-set-place
returns-then-set-place g c =
    let place : ℕ = 1 * 2 ^ c.places-place.result % 18446744073709551616 in
    let is : place ≡ 2 ^ g.T.BySet.places = one_shifted g.T.BySet.places c.places-place.result c.places-place.ensures (omega (arith, c.requires.few)) in
    c.at.ensures ∙ sym (at_low g.T.BySet.places (g.T.BySet.value c.args.self.now.without) (g.T.BySet.value c.args.self.now.with) c.args.set place is c.requires.known
    c.if-set-place.true)

pub returns-else-set-place : goal.returns-else-set-place
returns-else-set-place g c =
    let place : ℕ = 1 * 2 ^ c.places-place.result % 18446744073709551616 in
    let is : place ≡ 2 ^ g.T.BySet.places = one_shifted g.T.BySet.places c.places-place.result c.places-place.ensures (omega (arith, c.requires.few)) in
    c.at-else-set-place.ensures ∙ sym (at_high g.T.BySet.places (g.T.BySet.value c.args.self.now.without) (g.T.BySet.value c.args.self.now.with) c.args.set place is
    c.requires.known c.if-set-place.false)
