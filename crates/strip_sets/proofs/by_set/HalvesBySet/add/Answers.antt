use Rattle.std.proofs.Common.{◌≡◌, ◌*◌, ◌%◌, ◌^◌, ◌<◌, ℕ, arith}
use Rattle.strip_sets.proofs.Parts.{adds_high, adds_low}
use Rattle.strip_sets.proofs.Sets.{at_high, at_low, one_shifted}
use Rattle.strip_sets.proofs.by_set.HalvesBySet.add.Goals as goal

pub add-requires-clause-fits : goal.add-requires-clause-fits
add-requires-clause-fits g c =
    let place : ℕ = 1 * 2 ^ c.places-place.result % 18446744073709551616 in
    let is : place ≡ 2 ^ g.T.BySet.places = one_shifted g.T.BySet.places c.places-place.result c.places-place.ensures (omega (arith, c.requires.few)) in
    omega (arith, c.requires.fits, at_low g.T.BySet.places (g.T.BySet.value c.args.self.now.without) (g.T.BySet.value c.args.self.now.with) c.args.set place is c.requires.known c.if-set-place.true)

pub add-requires-else-set-place-clause-fits : goal.add-requires-else-set-place-clause-fits
add-requires-else-set-place-clause-fits g c =
    let place : ℕ = 1 * 2 ^ c.places-place.result % 18446744073709551616 in
    let is : place ≡ 2 ^ g.T.BySet.places = one_shifted g.T.BySet.places c.places-place.result c.places-place.ensures (omega (arith, c.requires.few)) in
    omega (arith, c.requires.fits, at_high g.T.BySet.places (g.T.BySet.value c.args.self.now.without) (g.T.BySet.value c.args.self.now.with) c.args.set place is c.requires.known c.if-set-place.false)

pub returns-then-set-place : goal.returns-then-set-place
returns-then-set-place g c =
    let place : ℕ = 1 * 2 ^ c.places-place.result % 18446744073709551616 in
    let is : place ≡ 2 ^ g.T.BySet.places = one_shifted g.T.BySet.places c.places-place.result c.places-place.ensures (omega (arith, c.requires.few)) in
    let less : c.args.set < place = c.if-set-place.true in
    adds_low g.T.BySet.places (g.T.BySet.value c.args.self.now.without) (g.T.BySet.value c.args.self.now.with) c.args.set c.args.number (g.T.BySet.value c.add.new.self) (omega (arith, less, is)) c.add.ensures

pub returns-else-set-place : goal.returns-else-set-place
returns-else-set-place g c =
    let place : ℕ = 1 * 2 ^ c.places-place.result % 18446744073709551616 in
    let is : place ≡ 2 ^ g.T.BySet.places = one_shifted g.T.BySet.places c.places-place.result c.places-place.ensures (omega (arith, c.requires.few)) in
    adds_high g.T.BySet.places (g.T.BySet.value c.args.self.now.without) (g.T.BySet.value c.args.self.now.with) c.args.set c.args.number (g.T.BySet.value c.add-else-set-place.new.self) place is c.if-set-place.false c.requires.known
    c.add-else-set-place.ensures
