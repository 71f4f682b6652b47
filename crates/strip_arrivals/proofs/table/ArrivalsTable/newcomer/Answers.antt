use Rattle.std.proofs.Common.{◌≡◌, ◌<◌, ◌+◌, ◌*◌, ◌^◌, ℕ, length, [], ◌∷◌, true, not, ap, arith, sym, subst, ◌∙◌, inl, inr}
use Rattle.std.proofs.lemmas.Bool.{and_parts, cases_eq, false≢true}
use Rattle.strip_mask.specs.Set.{has, meet, minus, with, without}
use Rattle.strip_mask.proofs.ByMembers.{below_64, has-minus, has-without_other, has-without_same}
use Rattle.strip_mask.proofs.Totals.{sum_over-ext}
use Rattle.strip_group.specs.Group.{GroupData}
use Rattle.strip_sets.specs.Numbers.{number}
use Rattle.strip_arrivals.specs.Arrivals.{is_without}
use Rattle.strip_arrivals.specs.Company.{AreCounted, just}
use Rattle.strip_arrivals.proofs.Masks.{alone_is, counted_alike, with_one_is, in_set}
use Rattle.strip_arrivals.proofs.Tables.{known_set, small_set}
use Rattle.strip_arrivals.proofs.Fits.{days_fit, days_low, hold_low}
use Rattle.strip_arrivals.proofs.table.ArrivalsTable.newcomer.Goals as goal

pub scenes_with-requires : goal.scenes_with-requires
scenes_with-requires g c = λ i there. c.requires.party.company.known_newcomers i (elim (cases_eq c.args.actor i) [
  | inl is ↦ absurd (false≢true (sym (has-without_same c.args.party.now.newcomers.0 c.args.actor)
      ∙ ap (has (without c.args.party.now.newcomers.0 c.args.actor)) is ∙ ap (λ (s : ℕ). has s i) (sym c.without.ensures) ∙ there))
  | inr other ↦ sym (has-without_other c.args.party.now.newcomers.0 c.args.actor i other) ∙ ap (λ (s : ℕ). has s i) (sym c.without.ensures) ∙ there
])

alone_in_set : (alone scenes others plays set scene : ℕ) → alone ≡ minus scenes others → scenes ≡ meet plays set → has alone scene ≡ true → has set scene ≡ true
alone_in_set alone scenes others plays set scene is_alone is there =
    in_set scenes plays set scene is (and_parts (has scenes scene) (not (has others scene)) (sym (has-minus scenes others scene) ∙ ap (λ (s : ℕ). has s scene) (sym is_alone) ∙ there)).0

pub mates-requires-clause-within : goal.mates-requires-clause-within
mates-requires-clause-within g c = λ scene there. in_set c.meet-scenes.result.0 c.plays.result.0 c.args.party.now.crew.now.set.0 scene c.meet-scenes.ensures there

pub plus-requires-clause-fits : goal.plus-requires-clause-fits
plus-requires-clause-fits g c = λ places lt.
    let film : GroupData = c.args.self.now in
    let value = number g.B.BySet.value g.B.BySet.places in
    let count : ℕ = c.args.party.now.higher + g.B.BySet.places in
    let sized : length c.split_at_mut-all.result.0.now ≡ 2 ^ c.args.party.now.higher = omega (arith, c.split_at_mut-all.ensures.front_len, c.requires.party.sized) in
    let sized_too : length c.counted.new.table ≡ 2 ^ c.args.party.now.higher = omega (arith, c.counted.ensures.length, c.split_at_mut-days.ensures.front_len, c.requires.party.sized) in
    let copied : length c.copy.new.table ≡ 2 ^ c.args.party.now.higher = omega (arith, c.copy.ensures.length, sized) in
    let within : places < 2 ^ count = small_set (length c.copy.new.table) c.args.party.now.higher g.B.BySet.places places copied lt in
    let known : places < length c.split_at_mut-all.result.0.now * 2 ^ g.B.BySet.places = known_set (length c.split_at_mut-all.result.0.now) c.args.party.now.higher g.B.BySet.places places sized within in
    let free = days_low value count g.B.BySet.most film c.args.party.now c.requires.party
    (just film c.args.party.now.newcomers.0 0 c.args.party.now.crew.now.set.0) (value c.args.party.now.days.now) c.requires.party.days places within in
    let days = days_low value count g.B.BySet.most film c.args.party.now c.requires.party
    c.minus-alone.result.0 (value c.counted.new.table)
    (counted_alike film c.args.party.now.crew.now.group.0 count c.scene_days.result.now film.days c.minus-alone.result.0 (value c.counted.new.table) c.scene_days.ensures.days c.counted.ensures.counted) places within in
    omega (arith, free, days, c.copy.ensures.each places known, c.requires.party.wide)

pub at_most-requires : goal.at_most-requires
at_most-requires g c =
    let low = hold_low (number g.B.BySet.value g.B.BySet.places) (c.args.party.now.higher + g.B.BySet.places) g.B.BySet.most c.args.self.now c.args.party.now c.requires.party c.args.actor c.requires.comes in
    omega (arith, c.hold-hold.ensures.same, low, c.requires.party.low, c.requires.party.room)

pub counted-requires-clause-within : goal.counted-requires-clause-within
counted-requires-clause-within g c = λ scene there.
    alone_in_set c.minus-alone.result.0 c.meet-scenes.result.0 c.scenes_with.result.0 c.plays.result.0 c.args.party.now.crew.now.set.0 scene c.minus-alone.ensures c.meet-scenes.ensures there

pub counted-requires-clause-long : goal.counted-requires-clause-long
counted-requires-clause-long g c = λ scene there.
    let lt : scene < 64 = below_64 c.args.party.now.crew.now.set.0 scene c.requires.party.company.small_set
    (alone_in_set c.minus-alone.result.0 c.meet-scenes.result.0 c.scenes_with.result.0 c.plays.result.0 c.args.party.now.crew.now.set.0 scene c.minus-alone.ensures c.meet-scenes.ensures there) in
    omega (arith, lt, c.scene_days.ensures.long)

pub counted-requires-clause-fits : goal.counted-requires-clause-fits
counted-requires-clause-fits g c =
    let fits = days_fit (number g.B.BySet.value g.B.BySet.places) (c.args.party.now.higher + g.B.BySet.places) g.B.BySet.most c.args.self.now c.args.party.now c.requires.party c.minus-alone.result.0 in
    omega (arith, fits, sum_over-ext c.scene_days.result.now c.args.self.now.days c.minus-alone.result.0 (λ scene _. c.scene_days.ensures.days scene))

pub returns-clause-newcomer : goal.returns-clause-newcomer
returns-clause-newcomer g c =
    let film : GroupData = c.args.self.now in
    let set : ℕ = c.args.party.now.crew.now.set.0 in
    let group : ℕ = c.args.party.now.crew.now.group.0 in
    let newcomers : ℕ = c.args.party.now.newcomers.0 in
    let value = number g.B.BySet.value g.B.BySet.places in
    let alone : c.minus-alone.result.0 ≡ just film newcomers (with 0 c.args.actor) set
    = alone_is film set newcomers c.requires.party.company.small_set c.args.actor c.plays.result.0 c.meet-scenes.result.0 c.scenes_with.result.0 c.minus-alone.result.0 c.requires.comes c.plays.ensures c.meet-scenes.ensures
    (subst (λ (others : ℕ). (scene : ℕ) → has c.scenes_with.result.0 scene ≡ not (is_without film others scene)) c.without.ensures c.scenes_with.ensures) c.minus-alone.ensures in
    let sized_all : length c.split_at_mut-all.result.0.now ≡ 2 ^ c.args.party.now.higher = omega (arith, c.split_at_mut-all.ensures.front_len, c.requires.party.sized) in
    let sized_extra : length c.split_at_mut-extra.result.0.now ≡ 2 ^ c.args.party.now.higher = omega (arith, c.split_at_mut-extra.ensures.front_len, c.requires.party.sized) in
    let mates : ℕ → ℕ = value c.mates.new.table in
    let are_mates = c.mates.ensures.mates (c.args.actor ∷ []) (with_one_is film set newcomers c.requires.party.company.small_set c.args.actor c.plays.result.0 c.meet-scenes.result.0 c.plays.ensures c.meet-scenes.ensures) in
    record {
      comes = c.requires.comes;
      hold = c.hold-hold.ensures.same;
      days = subst (λ (s : ℕ). AreCounted film group (c.args.party.now.higher + g.B.BySet.places) film.days s (value c.counted.new.table)) alone
          (counted_alike film group (c.args.party.now.higher + g.B.BySet.places) c.scene_days.result.now film.days c.minus-alone.result.0 (value c.counted.new.table) c.scene_days.ensures.days c.counted.ensures.counted);
      mates = mates;
      are_mates = are_mates;
      sized = (
        omega (arith, c.counted.ensures.length, c.split_at_mut-days.ensures.front_len, c.requires.party.sized),
        omega (arith, c.plus.ensures.length, c.copy.ensures.length, sized_all),
        omega (arith, c.at_most.ensures.length, c.mates.ensures.length, sized_extra),
      );
      all = λ places lt.
          let known : places < length c.split_at_mut-all.result.0.now * 2 ^ g.B.BySet.places = known_set (length c.split_at_mut-all.result.0.now) c.args.party.now.higher g.B.BySet.places places sized_all lt in
          let known_too : places < length c.copy.new.table * 2 ^ g.B.BySet.places = known_set (length c.copy.new.table) c.args.party.now.higher g.B.BySet.places places (c.copy.ensures.length ∙ sized_all) lt in
          omega (arith, c.plus.ensures.each places known_too, c.copy.ensures.each places known);
      extra = λ places lt. c.at_most.ensures.each places
          (known_set (length c.mates.new.table) c.args.party.now.higher g.B.BySet.places places (c.mates.ensures.length ∙ sized_extra) lt);
    }
