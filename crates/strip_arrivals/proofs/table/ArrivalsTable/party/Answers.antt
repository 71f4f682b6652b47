use Rattle.std.proofs.Common.{◌≡◌, ◌<◌, ◌+◌, ◌≤◌, ℕ, ap, arith, sym, subst, ◌∙◌, not, length}
use Rattle.std.proofs.lemmas.Bool.{and_parts}
use Rattle.strip_mask.specs.Set.{has}
use Rattle.strip_mask.proofs.ByMembers.{below_64, has-minus}
use Rattle.strip_mask.proofs.Totals.{sum_over-ext, sum_over_le_sum}
use Rattle.strip_sets.specs.Numbers.{number}
use Rattle.strip_arrivals.specs.Company.{AreCounted, just}
use Rattle.strip_arrivals.proofs.Masks.{counted_alike, none_is}
use Rattle.strip_arrivals.proofs.table.ArrivalsTable.party.Goals as goal

pub counted-requires-clause-within : goal.counted-requires-clause-within
counted-requires-clause-within g c = λ scene there.
    (and_parts (has c.args.crew.now.set.0 scene) (not (has c.scenes_with.result.0 scene))
    (sym (has-minus c.args.crew.now.set.0 c.scenes_with.result.0 scene) ∙ ap (λ (s : ℕ). has s scene) (sym c.minus-without.ensures) ∙ there)).0

pub counted-requires-clause-long : goal.counted-requires-clause-long
counted-requires-clause-long g c = λ scene there.
    let lt : scene < 64 = below_64 c.args.crew.now.set.0 scene c.requires.company.small_set (counted-requires-clause-within g c scene there) in
    omega (arith, lt, c.scene_days.ensures.long)

pub counted-requires-clause-fits : goal.counted-requires-clause-fits
counted-requires-clause-fits g c =
    let limits = c.requires.company.limits in
    let short : length c.args.self.now.days ≤ 64 = omega (arith, limits.day_count, limits.scene_count) in
    omega (
      arith,
      sum_over-ext c.scene_days.result.now c.args.self.now.days c.minus-without.result.0 (λ scene _. c.scene_days.ensures.days scene),
      sum_over_le_sum c.args.self.now.days c.minus-without.result.0 short,
      limits.day_sum,
      c.requires.wide,
    )

pub returns-clause-party : goal.returns-clause-party
returns-clause-party g c =
    let scenes : c.minus-without.result.0 ≡ just c.args.self.now c.args.newcomers.0 0 c.args.crew.now.set.0
    = none_is c.args.self.now c.args.crew.now.set.0 c.args.newcomers.0 c.requires.company.small_set c.minus-without.result.0 c.scenes_with.result.0 c.scenes_with.ensures c.minus-without.ensures in
    let count : ℕ = c.args.higher + g.B.BySet.places in
    let days : ℕ → ℕ = number g.B.BySet.value g.B.BySet.places c.counted.new.table in
    record {
      few = c.requires.few;
      crew = c.requires.crew;
      company = c.requires.company;
      sized = omega (arith, c.counted.ensures.length, c.requires.sized);
      days = subst (λ (s : ℕ). AreCounted c.args.self.now c.args.crew.now.group.0 count c.args.self.now.days s days) scenes
          (counted_alike c.args.self.now c.args.crew.now.group.0 count c.scene_days.result.now c.args.self.now.days c.minus-without.result.0 days c.scene_days.ensures.days c.counted.ensures.counted);
      enough = c.requires.enough;
      low = c.requires.low;
      room = c.requires.room;
      wide = c.requires.wide;
    }
