use Rattle.std.proofs.Common.{◌≡◌, ◌<◌, ◌+◌, ◌*◌, ◌^◌, ℕ, length, [], ◌∷◌, ap, arith, subst, ◌∙◌}
use Rattle.strip_mask.specs.Set.{meet, with}
use Rattle.strip_mask.proofs.ByMembers.{below_64}
use Rattle.strip_mask.proofs.Totals.{sum_over-ext}
use Rattle.strip_group.specs.Group.{GroupData}
use Rattle.strip_sets.specs.Numbers.{number}
use Rattle.strip_arrivals.specs.Company.{AreCounted, just}
use Rattle.strip_arrivals.proofs.Masks.{both_is, counted_alike, two, with_either_is, in_set}
use Rattle.strip_arrivals.proofs.Tables.{known_set, small_set}
use Rattle.strip_arrivals.proofs.Fits.{days_fit, days_low}
use Rattle.strip_arrivals.proofs.table.ArrivalsTable.both.Goals as goal

pub plays-with_one-requires : goal.plays-with_one-requires
plays-with_one-requires g c = c.requires.party.company.known_newcomers c.args.one.now.actor c.requires.pair.one_comes

pub plays-with_other-requires : goal.plays-with_other-requires
plays-with_other-requires g c = c.requires.party.company.known_newcomers c.args.other.now.actor c.requires.pair.other_comes

pub mates-requires-clause-within : goal.mates-requires-clause-within
mates-requires-clause-within g c = λ scene there. in_set c.meet-either.result.0 c.union.result.0 c.args.party.now.crew.now.set.0 scene c.meet-either.ensures there

pub counted-requires-clause-within : goal.counted-requires-clause-within
counted-requires-clause-within g c = λ scene there. in_set c.meet-both.result.0 c.meet.result.0 c.args.party.now.crew.now.set.0 scene c.meet-both.ensures there

pub counted-requires-clause-long : goal.counted-requires-clause-long
counted-requires-clause-long g c = λ scene there.
    let lt : scene < 64 = below_64 c.args.party.now.crew.now.set.0 scene c.requires.party.company.small_set (in_set c.meet-both.result.0 c.meet.result.0 c.args.party.now.crew.now.set.0 scene c.meet-both.ensures there) in
    omega (arith, lt, c.scene_days.ensures.long)

pub counted-requires-clause-fits : goal.counted-requires-clause-fits
counted-requires-clause-fits g c =
    let fits = days_fit (number g.B.BySet.value g.B.BySet.places) (c.args.party.now.higher + g.B.BySet.places) g.B.BySet.most c.args.self.now c.args.party.now c.requires.party c.meet-both.result.0 in
    omega (arith, fits, sum_over-ext c.scene_days.result.now c.args.self.now.days c.meet-both.result.0 (λ scene _. c.scene_days.ensures.days scene))

-- the days of the scenes of each class are few
pub plus-requires-clause-fits : goal.plus-requires-clause-fits
plus-requires-clause-fits g c = λ places lt.
    let film : GroupData = c.args.self.now in
    let set : ℕ = c.args.party.now.crew.now.set.0 in
    let newcomers : ℕ = c.args.party.now.newcomers.0 in
    let value = number g.B.BySet.value g.B.BySet.places in
    let count : ℕ = c.args.party.now.higher + g.B.BySet.places in
    let sized : length c.counted.new.table ≡ 2 ^ c.args.party.now.higher = omega (arith, c.counted.ensures.length, c.split_at_mut-all.ensures.front_len, c.requires.party.sized) in
    let within : places < 2 ^ count = small_set (length c.counted.new.table) c.args.party.now.higher g.B.BySet.places places sized lt in
    let low = days_low value count g.B.BySet.most film c.args.party.now c.requires.party in
    let free = low (just film newcomers 0 set) (value c.args.party.now.days.now) c.requires.party.days places within in
    let own = low (just film newcomers (with 0 c.args.one.now.actor) set) (value c.args.one.now.days.now) c.requires.one.days places within in
    let both = low c.meet-both.result.0 (value c.counted.new.table)
    (counted_alike film c.args.party.now.crew.now.group.0 count c.scene_days.result.now film.days c.meet-both.result.0 (value c.counted.new.table) c.scene_days.ensures.days c.counted.ensures.counted) places within in
    omega (arith, free, own, both, c.requires.one.all places within, c.requires.party.wide)

pub plus-requires-2-clause-fits : goal.plus-requires-2-clause-fits
plus-requires-2-clause-fits g c = λ places lt.
    let film : GroupData = c.args.self.now in
    let set : ℕ = c.args.party.now.crew.now.set.0 in
    let newcomers : ℕ = c.args.party.now.newcomers.0 in
    let value = number g.B.BySet.value g.B.BySet.places in
    let count : ℕ = c.args.party.now.higher + g.B.BySet.places in
    let sized : length c.counted.new.table ≡ 2 ^ c.args.party.now.higher = omega (arith, c.counted.ensures.length, c.split_at_mut-all.ensures.front_len, c.requires.party.sized) in
    let within : places < 2 ^ count = small_set (length c.plus.new.table) c.args.party.now.higher g.B.BySet.places places (c.plus.ensures.length ∙ sized) lt in
    let known : places < length c.counted.new.table * 2 ^ g.B.BySet.places = known_set (length c.counted.new.table) c.args.party.now.higher g.B.BySet.places places sized within in
    let low = days_low value count g.B.BySet.most film c.args.party.now c.requires.party in
    let free = low (just film newcomers 0 set) (value c.args.party.now.days.now) c.requires.party.days places within in
    let own = low (just film newcomers (with 0 c.args.one.now.actor) set) (value c.args.one.now.days.now) c.requires.one.days places within in
    let others = low (just film newcomers (with 0 c.args.other.now.actor) set) (value c.args.other.now.days.now) c.requires.other.days places within in
    let both = low c.meet-both.result.0 (value c.counted.new.table)
    (counted_alike film c.args.party.now.crew.now.group.0 count c.scene_days.result.now film.days c.meet-both.result.0 (value c.counted.new.table) c.scene_days.ensures.days c.counted.ensures.counted) places within in
    omega (arith, free, own, others, both, c.requires.one.all places within, c.plus.ensures.each places known, c.requires.party.wide)

pub returns : goal.returns
returns g c =
    let film : GroupData = c.args.self.now in
    let set : ℕ = c.args.party.now.crew.now.set.0 in
    let group : ℕ = c.args.party.now.crew.now.group.0 in
    let newcomers : ℕ = c.args.party.now.newcomers.0 in
    let value = number g.B.BySet.value g.B.BySet.places in
    let one : ℕ = c.args.one.now.actor in
    let other : ℕ = c.args.other.now.actor in
    let both : c.meet-both.result.0 ≡ just film newcomers (two one other) set
    = both_is film set newcomers c.requires.party.company.small_set one other c.requires.pair c.plays-with_one.result.0 c.plays-with_other.result.0 c.meet-both.result.0
    c.plays-with_one.ensures c.plays-with_other.ensures (c.meet-both.ensures ∙ ap (λ (s : ℕ). meet s set) c.meet.ensures) in
    let count : ℕ = c.args.party.now.higher + g.B.BySet.places in
    let higher : ℕ = c.args.party.now.higher in
    let inner : ℕ = g.B.BySet.places in
    let sized : length c.counted.new.table ≡ 2 ^ higher = omega (arith, c.counted.ensures.length, c.split_at_mut-all.ensures.front_len, c.requires.party.sized) in
    record {
      sized = (c.plus-2.ensures.length ∙ c.plus.ensures.length ∙ sized, omega (arith, c.mates.ensures.length, c.split_at_mut-mates.ensures.front_len, c.requires.party.sized));
      days = value c.counted.new.table;
      are_days = subst (λ (s : ℕ). AreCounted film group count film.days s (value c.counted.new.table)) both
          (counted_alike film group count c.scene_days.result.now film.days c.meet-both.result.0 (value c.counted.new.table) c.scene_days.ensures.days c.counted.ensures.counted);
      all = λ places lt.
          let known : places < length c.counted.new.table * 2 ^ inner = known_set (length c.counted.new.table) higher inner places sized lt in
          let known_too : places < length c.plus.new.table * 2 ^ inner = known_set (length c.plus.new.table) higher inner places (c.plus.ensures.length ∙ sized) lt in
          omega (arith, c.plus-2.ensures.each places known_too, c.plus.ensures.each places known, c.requires.one.all places lt);
      are_mates = c.mates.ensures.mates (one ∷ other ∷ []) (with_either_is film set newcomers c.requires.party.company.small_set
          one other c.plays-with_one.result.0 c.plays-with_other.result.0 c.meet-either.result.0 c.plays-with_one.ensures c.plays-with_other.ensures (c.meet-either.ensures ∙ ap (λ (s : ℕ). meet s set) c.union.ensures));
    }
