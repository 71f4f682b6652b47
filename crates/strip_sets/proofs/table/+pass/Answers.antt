use Rattle.std.proofs.Common.{Bor, List, ◌≡◌, ◌≢◌, ◌+◌, ◌*◌, ◌-◌, ◌^◌, ◌/◌, ◌<◌, ◌∙◌, ◌++◌, ℕ, ap, arith, length, max, pow_pos, refl, rules, slice_index, slice_index_or, slice_set, subst, suc, sym}
use Rattle.std.proofs.lemmas.List.{take-append-drop}
use Rattle.strip_sets.specs.Numbers.{by_class, number}
use Rattle.strip_sets.specs.Saving.{Saves, SavingRoom, owes, owes_from}
use Rattle.strip_sets.proofs.Blocks.{doubled, first_block, half_length, sets_of, number_of_one, number_read, parts_of, set_same, split_blocks}
use Rattle.strip_sets.proofs.ByClass.{same_two}
use Rattle.strip_sets.proofs.Halving.{covered_between, fits_between, rise_between, room_high, room_low, saves_both}
use Rattle.strip_sets.proofs.Saving.{AreParts, IsSplit, room_agrees, saves_agree}
use Rattle.strip_sets.proofs.table.+pass.Goals as goal

pub pass-requires-clause-room : goal.pass-requires-clause-room
pass-requires-clause-room g t c =
    let p : ℕ = g.B.BySet.places in
    let none : c.args.higher ≡ 0 = c.if-higher-eq0.true in
    let some : 0 < length c.args.table.now = omega (arith, c.requires.sized.0, pow_pos c.args.higher) in
    let some_days : 0 < length c.args.days.now = omega (arith, c.requires.sized.1, pow_pos c.args.higher) in
    let d : (set : ℕ) → set < 2 ^ p → number g.B.BySet.value p c.args.days.now set ≡ g.B.BySet.value c.index-days-0.result set
    = λ set lt. number_read g.B.BySet.value p c.args.days.now c.index-days-0.result set some_days c.index-days-0.is lt in
    let f : (set : ℕ) → set < 2 ^ p → number g.B.BySet.value p c.args.table.now set ≡ g.B.BySet.value (slice_index_or c.args.table.now 0 c.index-table-0.result) set
    = λ set lt. number_of_one g.B.BySet.value p c.args.table.now c.index-table-0.result set some lt in
    let e : (class set : ℕ) → set < 2 ^ p → by_class {R = Bor (List g.row.B.Denot)} (λ s. number g.B.BySet.value g.B.BySet.places s.now) c.args.extras class set
    ≡ by_class {R = Bor g.row.B.Denot} (λ s. g.B.BySet.value s.now) c.block.result class set = λ class set lt. same_two
    (first_block g.B.BySet.value p c.args.extras.first.now set lt) (first_block g.B.BySet.value p c.args.extras.second.now set lt) class ∙ sym (c.block.ensures class set) in
    let o : (class set : ℕ) → set < 2 ^ p → by_class {R = Bor (List g.row.B.Denot)} (λ s. number g.B.BySet.value g.B.BySet.places s.now) c.args.owed class set
    ≡ by_class {R = Bor g.row.B.Denot} (λ s. g.B.BySet.value s.now) c.block-then-higher-eq0.result class set = λ class set lt. same_two
    (first_block g.B.BySet.value p c.args.owed.first.now set lt) (first_block g.B.BySet.value p c.args.owed.second.now set lt) class ∙ sym (c.block-then-higher-eq0.ensures class set) in
    room_agrees p g.C.Count.COUNT c.args.holds.now (number g.B.BySet.value p c.args.days.now) (number g.B.BySet.value p c.args.table.now)
    (g.B.BySet.value c.index-days-0.result) (g.B.BySet.value (slice_index_or c.args.table.now 0 c.index-table-0.result))
    (by_class {R = Bor (List g.row.B.Denot)} (λ s. number g.B.BySet.value g.B.BySet.places s.now) c.args.extras) (by_class {R = Bor (List g.row.B.Denot)} (λ s. number g.B.BySet.value g.B.BySet.places s.now) c.args.owed) (by_class {R = Bor g.row.B.Denot} (λ s. g.B.BySet.value s.now) c.block.result) (by_class {R = Bor g.row.B.Denot} (λ s. g.B.BySet.value s.now) c.block-then-higher-eq0.result)
    (λ set lt. sym (d set lt)) (λ set lt. sym (f set lt)) (λ class set lt. sym (e class set lt)) (λ class set lt. sym (o class set lt)) g.B.BySet.most
    (subst (λ (k : ℕ). SavingRoom k g.C.Count.COUNT g.B.BySet.most c.args.holds.now (number g.B.BySet.value p c.args.days.now) (by_class {R = Bor (List g.row.B.Denot)} (λ s. number g.B.BySet.value g.B.BySet.places s.now) c.args.extras) (by_class {R = Bor (List g.row.B.Denot)} (λ s. number g.B.BySet.value g.B.BySet.places s.now) c.args.owed)
    (number g.B.BySet.value p c.args.table.now)) (omega (arith, none)) c.requires.room)

pub returns-then-higher-eq0-clause-saves : goal.returns-then-higher-eq0-clause-saves
returns-then-higher-eq0-clause-saves g t c =
    let p : ℕ = g.B.BySet.places in
    let none : c.args.higher ≡ 0 = c.if-higher-eq0.true in
    let some : 0 < length c.args.table.now = omega (arith, c.requires.sized.0, pow_pos c.args.higher) in
    let some_days : 0 < length c.args.days.now = omega (arith, c.requires.sized.1, pow_pos c.args.higher) in
    let d : (set : ℕ) → set < 2 ^ p → number g.B.BySet.value p c.args.days.now set ≡ g.B.BySet.value c.index-days-0.result set
    = λ set lt. number_read g.B.BySet.value p c.args.days.now c.index-days-0.result set some_days c.index-days-0.is lt in
    let f : (set : ℕ) → set < 2 ^ p → number g.B.BySet.value p c.args.table.now set ≡ g.B.BySet.value (slice_index_or c.args.table.now 0 c.index-table-0.result) set
    = λ set lt. number_of_one g.B.BySet.value p c.args.table.now c.index-table-0.result set some lt in
    let e : (class set : ℕ) → set < 2 ^ p → by_class {R = Bor (List g.row.B.Denot)} (λ s. number g.B.BySet.value g.B.BySet.places s.now) c.args.extras class set
    ≡ by_class {R = Bor g.row.B.Denot} (λ s. g.B.BySet.value s.now) c.block.result class set = λ class set lt. same_two
    (first_block g.B.BySet.value p c.args.extras.first.now set lt) (first_block g.B.BySet.value p c.args.extras.second.now set lt) class ∙ sym (c.block.ensures class set) in
    let o : (class set : ℕ) → set < 2 ^ p → by_class {R = Bor (List g.row.B.Denot)} (λ s. number g.B.BySet.value g.B.BySet.places s.now) c.args.owed class set
    ≡ by_class {R = Bor g.row.B.Denot} (λ s. g.B.BySet.value s.now) c.block-then-higher-eq0.result class set = λ class set lt. same_two
    (first_block g.B.BySet.value p c.args.owed.first.now set lt) (first_block g.B.BySet.value p c.args.owed.second.now set lt) class ∙ sym (c.block-then-higher-eq0.ensures class set) in
    let m : (set : ℕ) → set < 2 ^ p → number g.B.BySet.value p (slice_set c.args.table.now 0 c.pass.new.self) set ≡ g.B.BySet.value c.pass.new.self set
    = λ set lt. first_block g.B.BySet.value p (slice_set c.args.table.now 0 c.pass.new.self) set lt ∙ set_same g.B.BySet.value c.args.table.now 0 set c.pass.new.self some in
    subst (λ (k : ℕ). Saves k (slice_index c.args.holds.now) (number g.B.BySet.value p c.args.days.now) (owes g.C.Count.COUNT (by_class {R = Bor (List g.row.B.Denot)} (λ s. number g.B.BySet.value g.B.BySet.places s.now) c.args.extras) (by_class {R = Bor (List g.row.B.Denot)} (λ s. number g.B.BySet.value g.B.BySet.places s.now) c.args.owed))
    (number g.B.BySet.value p c.args.table.now) (number g.B.BySet.value p (slice_set c.args.table.now 0 c.pass.new.self))) (omega (arith, none))
    (saves_agree p g.C.Count.COUNT c.args.holds.now (g.B.BySet.value c.index-days-0.result) (g.B.BySet.value (slice_index_or c.args.table.now 0 c.index-table-0.result))
    (number g.B.BySet.value p c.args.days.now) (number g.B.BySet.value p c.args.table.now)
    (by_class {R = Bor g.row.B.Denot} (λ s. g.B.BySet.value s.now) c.block.result) (by_class {R = Bor g.row.B.Denot} (λ s. g.B.BySet.value s.now) c.block-then-higher-eq0.result) (by_class {R = Bor (List g.row.B.Denot)} (λ s. number g.B.BySet.value g.B.BySet.places s.now) c.args.extras) (by_class {R = Bor (List g.row.B.Denot)} (λ s. number g.B.BySet.value g.B.BySet.places s.now) c.args.owed)
    d f e o (g.B.BySet.value c.pass.new.self) (number g.B.BySet.value p (slice_set c.args.table.now 0 c.pass.new.self)) m c.pass.ensures)

pub pass-requires-2 : goal.pass-requires-2
pass-requires-2 g t c κs within =
    let p : ℕ = g.B.BySet.places in
    let n : ℕ = c.args.higher - 1 + g.B.BySet.places in
    let some : c.args.higher ≢ 0 = c.if-higher-eq0.false in
    let half : length c.args.table.now / 2 ≡ 2 ^ (c.args.higher - 1) = half_length (length c.args.table.now) c.args.higher c.requires.sized.0 some in
    let sets : length c.args.table.now / 2 * 2 ^ p ≡ 2 ^ n = sets_of (length c.args.table.now / 2) (c.args.higher - 1) p half in
    let e : AreParts n (by_class {R = Bor (List g.row.B.Denot)} (λ s. number g.B.BySet.value g.B.BySet.places s.now) c.args.extras)
    (by_class {R = Bor (List g.row.B.Denot)} (λ s. number g.B.BySet.value g.B.BySet.places s.now) c.low-extras_low.result) (by_class {R = Bor (List g.row.B.Denot)} (λ s. number g.B.BySet.value g.B.BySet.places s.now) c.high-extras_high.result)
    = parts_of n (length c.args.table.now / 2 * 2 ^ p) sets c.low-extras_low.ensures.same c.high-extras_high.ensures.same in
    let o : AreParts n (by_class {R = Bor (List g.row.B.Denot)} (λ s. number g.B.BySet.value g.B.BySet.places s.now) c.args.owed)
    (by_class {R = Bor (List g.row.B.Denot)} (λ s. number g.B.BySet.value g.B.BySet.places s.now) c.low-owed_low.result) (by_class {R = Bor (List g.row.B.Denot)} (λ s. number g.B.BySet.value g.B.BySet.places s.now) c.high-owed_high.result)
    = parts_of n (length c.args.table.now / 2 * 2 ^ p) sets c.low-owed_low.ensures.same c.high-owed_high.ensures.same in
    let d : IsSplit n (number g.B.BySet.value p c.args.days.now) (number g.B.BySet.value p c.split_at.result.0.now) (number g.B.BySet.value p c.split_at.result.1.now)
    = split_blocks g.B.BySet.value p (c.args.higher - 1) c.args.days.now c.split_at.result.0.now c.split_at.result.1.now
    (sym (take-append-drop (length c.args.table.now / 2) c.args.days.now) ∙ (λ i. sym c.split_at.ensures.front i ++ sym c.split_at.ensures.back i)) (c.split_at.ensures.front_len ∙ half) in
    let f : IsSplit n (number g.B.BySet.value p c.args.table.now) (number g.B.BySet.value p c.split_at_mut-low.result.0.now) (number g.B.BySet.value p c.split_at_mut-low.result.1.now)
    = split_blocks g.B.BySet.value p (c.args.higher - 1) c.args.table.now c.split_at_mut-low.result.0.now c.split_at_mut-low.result.1.now c.split_at_mut-low.ensures.value
    (c.split_at_mut-low.ensures.front_len ∙ half) in
    let is : c.args.higher + p ≡ suc n = omega (arith, some) in (
      omega (arith, c.decreases, some),
      (
        search rules,
        (
          search rules,
          (
            omega (arith, c.requires.few),
            (
              c.requires.classes,
              (
                (
                  c.split_at_mut-low.ensures.front_len ∙ half,
                  c.split_at.ensures.front_len ∙ half,
                  c.low-extras_low.ensures.lengths.0 ∙ half,
                  c.low-extras_low.ensures.lengths.1 ∙ half,
                  c.low-owed_low.ensures.lengths.0 ∙ half,
                  c.low-owed_low.ensures.lengths.1 ∙ half,
                ),
                room_low n (c.args.higher + p) g.C.Count.COUNT g.B.BySet.most is (omega (arith, c.requires.few)) c.args.holds.now (slice_index c.args.holds.now n) refl d f e o c.requires.room,
              ),
            ),
          ),
        ),
      ),
    )

pub or_saved-requires-clause-same : goal.or_saved-requires-clause-same
or_saved-requires-clause-same g t c =
    let p : ℕ = g.B.BySet.places in
    let n : ℕ = c.args.higher - 1 + g.B.BySet.places in
    let some : c.args.higher ≢ 0 = c.if-higher-eq0.false in
    let half : length c.args.table.now / 2 ≡ 2 ^ (c.args.higher - 1) = half_length (length c.args.table.now) c.args.higher c.requires.sized.0 some in
    let sets : length c.args.table.now / 2 * 2 ^ p ≡ 2 ^ n = sets_of (length c.args.table.now / 2) (c.args.higher - 1) p half in
    let e : AreParts n (by_class {R = Bor (List g.row.B.Denot)} (λ s. number g.B.BySet.value g.B.BySet.places s.now) c.args.extras)
    (by_class {R = Bor (List g.row.B.Denot)} (λ s. number g.B.BySet.value g.B.BySet.places s.now) c.low-extras_low.result) (by_class {R = Bor (List g.row.B.Denot)} (λ s. number g.B.BySet.value g.B.BySet.places s.now) c.high-extras_high.result)
    = parts_of n (length c.args.table.now / 2 * 2 ^ p) sets c.low-extras_low.ensures.same c.high-extras_high.ensures.same in
    let o : AreParts n (by_class {R = Bor (List g.row.B.Denot)} (λ s. number g.B.BySet.value g.B.BySet.places s.now) c.args.owed)
    (by_class {R = Bor (List g.row.B.Denot)} (λ s. number g.B.BySet.value g.B.BySet.places s.now) c.low-owed_low.result) (by_class {R = Bor (List g.row.B.Denot)} (λ s. number g.B.BySet.value g.B.BySet.places s.now) c.high-owed_high.result)
    = parts_of n (length c.args.table.now / 2 * 2 ^ p) sets c.low-owed_low.ensures.same c.high-owed_high.ensures.same in
    let d : IsSplit n (number g.B.BySet.value p c.args.days.now) (number g.B.BySet.value p c.split_at.result.0.now) (number g.B.BySet.value p c.split_at.result.1.now)
    = split_blocks g.B.BySet.value p (c.args.higher - 1) c.args.days.now c.split_at.result.0.now c.split_at.result.1.now
    (sym (take-append-drop (length c.args.table.now / 2) c.args.days.now) ∙ (λ i. sym c.split_at.ensures.front i ++ sym c.split_at.ensures.back i)) (c.split_at.ensures.front_len ∙ half) in
    let f : IsSplit n (number g.B.BySet.value p c.args.table.now) (number g.B.BySet.value p c.split_at_mut-low.result.0.now) (number g.B.BySet.value p c.split_at_mut-low.result.1.now)
    = split_blocks g.B.BySet.value p (c.args.higher - 1) c.args.table.now c.split_at_mut-low.result.0.now c.split_at_mut-low.result.1.now c.split_at_mut-low.ensures.value
    (c.split_at_mut-low.ensures.front_len ∙ half) in
    let is : c.args.higher + p ≡ suc n = omega (arith, some) in
    let back : length c.split_at_mut-low.result.1.now ≡ 2 ^ (c.args.higher - 1) = omega (arith, half, c.split_at_mut-low.ensures.back_len, c.requires.sized.0, doubled c.args.higher some) in
    let within : (set : ℕ) → set < length c.split_at_mut-low.result.1.now * 2 ^ p → set < 2 ^ n = λ set lt. omega (arith, lt, sets_of (length c.split_at_mut-low.result.1.now) (c.args.higher - 1) p back) in
    let place : slice_index c.args.holds.now (c.places.result + c.args.higher - 1) ≡ slice_index c.args.holds.now n = ap (slice_index c.args.holds.now) (omega (arith, c.places.ensures, some)) in
    let double = doubled c.args.higher some in (
      omega (arith, c.pass-2.ensures.length, c.split_at_mut-low.ensures.front_len, half, back),
      omega (arith, c.split_at.ensures.front_len, half, back),
      omega (arith, c.high-extras_high.ensures.lengths.0, c.requires.sized.2, double, half, back),
      omega (arith, c.high-extras_high.ensures.lengths.1, c.requires.sized.3, double, half, back),
      omega (arith, c.high-owed_high.ensures.lengths.0, c.requires.sized.4, double, half, back),
      omega (arith, c.high-owed_high.ensures.lengths.1, c.requires.sized.5, double, half, back),
      omega (arith, c.low-owed_low.ensures.lengths.0, half, back),
      omega (arith, c.low-owed_low.ensures.lengths.1, half, back),
    )

pub or_saved-requires-clause-rise : goal.or_saved-requires-clause-rise
or_saved-requires-clause-rise g t c =
    let p : ℕ = g.B.BySet.places in
    let n : ℕ = c.args.higher - 1 + g.B.BySet.places in
    let some : c.args.higher ≢ 0 = c.if-higher-eq0.false in
    let half : length c.args.table.now / 2 ≡ 2 ^ (c.args.higher - 1) = half_length (length c.args.table.now) c.args.higher c.requires.sized.0 some in
    let sets : length c.args.table.now / 2 * 2 ^ p ≡ 2 ^ n = sets_of (length c.args.table.now / 2) (c.args.higher - 1) p half in
    let e : AreParts n (by_class {R = Bor (List g.row.B.Denot)} (λ s. number g.B.BySet.value g.B.BySet.places s.now) c.args.extras)
    (by_class {R = Bor (List g.row.B.Denot)} (λ s. number g.B.BySet.value g.B.BySet.places s.now) c.low-extras_low.result) (by_class {R = Bor (List g.row.B.Denot)} (λ s. number g.B.BySet.value g.B.BySet.places s.now) c.high-extras_high.result)
    = parts_of n (length c.args.table.now / 2 * 2 ^ p) sets c.low-extras_low.ensures.same c.high-extras_high.ensures.same in
    let o : AreParts n (by_class {R = Bor (List g.row.B.Denot)} (λ s. number g.B.BySet.value g.B.BySet.places s.now) c.args.owed)
    (by_class {R = Bor (List g.row.B.Denot)} (λ s. number g.B.BySet.value g.B.BySet.places s.now) c.low-owed_low.result) (by_class {R = Bor (List g.row.B.Denot)} (λ s. number g.B.BySet.value g.B.BySet.places s.now) c.high-owed_high.result)
    = parts_of n (length c.args.table.now / 2 * 2 ^ p) sets c.low-owed_low.ensures.same c.high-owed_high.ensures.same in
    let d : IsSplit n (number g.B.BySet.value p c.args.days.now) (number g.B.BySet.value p c.split_at.result.0.now) (number g.B.BySet.value p c.split_at.result.1.now)
    = split_blocks g.B.BySet.value p (c.args.higher - 1) c.args.days.now c.split_at.result.0.now c.split_at.result.1.now
    (sym (take-append-drop (length c.args.table.now / 2) c.args.days.now) ∙ (λ i. sym c.split_at.ensures.front i ++ sym c.split_at.ensures.back i)) (c.split_at.ensures.front_len ∙ half) in
    let f : IsSplit n (number g.B.BySet.value p c.args.table.now) (number g.B.BySet.value p c.split_at_mut-low.result.0.now) (number g.B.BySet.value p c.split_at_mut-low.result.1.now)
    = split_blocks g.B.BySet.value p (c.args.higher - 1) c.args.table.now c.split_at_mut-low.result.0.now c.split_at_mut-low.result.1.now c.split_at_mut-low.ensures.value
    (c.split_at_mut-low.ensures.front_len ∙ half) in
    let is : c.args.higher + p ≡ suc n = omega (arith, some) in
    let back : length c.split_at_mut-low.result.1.now ≡ 2 ^ (c.args.higher - 1) = omega (arith, half, c.split_at_mut-low.ensures.back_len, c.requires.sized.0, doubled c.args.higher some) in
    let within : (set : ℕ) → set < length c.split_at_mut-low.result.1.now * 2 ^ p → set < 2 ^ n = λ set lt. omega (arith, lt, sets_of (length c.split_at_mut-low.result.1.now) (c.args.higher - 1) p back) in
    let place : slice_index c.args.holds.now (c.places.result + c.args.higher - 1) ≡ slice_index c.args.holds.now n = ap (slice_index c.args.holds.now) (omega (arith, c.places.ensures, some)) in
    λ class set known lt. rise_between n (c.args.higher + p) g.C.Count.COUNT g.B.BySet.most is (omega (arith, c.requires.few)) c.args.holds.now (slice_index c.args.holds.now n) refl d f e o c.requires.room class set known (within set lt)

pub or_saved-requires-clause-fits : goal.or_saved-requires-clause-fits
or_saved-requires-clause-fits g t c =
    let p : ℕ = g.B.BySet.places in
    let n : ℕ = c.args.higher - 1 + g.B.BySet.places in
    let some : c.args.higher ≢ 0 = c.if-higher-eq0.false in
    let half : length c.args.table.now / 2 ≡ 2 ^ (c.args.higher - 1) = half_length (length c.args.table.now) c.args.higher c.requires.sized.0 some in
    let sets : length c.args.table.now / 2 * 2 ^ p ≡ 2 ^ n = sets_of (length c.args.table.now / 2) (c.args.higher - 1) p half in
    let e : AreParts n (by_class {R = Bor (List g.row.B.Denot)} (λ s. number g.B.BySet.value g.B.BySet.places s.now) c.args.extras)
    (by_class {R = Bor (List g.row.B.Denot)} (λ s. number g.B.BySet.value g.B.BySet.places s.now) c.low-extras_low.result) (by_class {R = Bor (List g.row.B.Denot)} (λ s. number g.B.BySet.value g.B.BySet.places s.now) c.high-extras_high.result)
    = parts_of n (length c.args.table.now / 2 * 2 ^ p) sets c.low-extras_low.ensures.same c.high-extras_high.ensures.same in
    let o : AreParts n (by_class {R = Bor (List g.row.B.Denot)} (λ s. number g.B.BySet.value g.B.BySet.places s.now) c.args.owed)
    (by_class {R = Bor (List g.row.B.Denot)} (λ s. number g.B.BySet.value g.B.BySet.places s.now) c.low-owed_low.result) (by_class {R = Bor (List g.row.B.Denot)} (λ s. number g.B.BySet.value g.B.BySet.places s.now) c.high-owed_high.result)
    = parts_of n (length c.args.table.now / 2 * 2 ^ p) sets c.low-owed_low.ensures.same c.high-owed_high.ensures.same in
    let d : IsSplit n (number g.B.BySet.value p c.args.days.now) (number g.B.BySet.value p c.split_at.result.0.now) (number g.B.BySet.value p c.split_at.result.1.now)
    = split_blocks g.B.BySet.value p (c.args.higher - 1) c.args.days.now c.split_at.result.0.now c.split_at.result.1.now
    (sym (take-append-drop (length c.args.table.now / 2) c.args.days.now) ∙ (λ i. sym c.split_at.ensures.front i ++ sym c.split_at.ensures.back i)) (c.split_at.ensures.front_len ∙ half) in
    let f : IsSplit n (number g.B.BySet.value p c.args.table.now) (number g.B.BySet.value p c.split_at_mut-low.result.0.now) (number g.B.BySet.value p c.split_at_mut-low.result.1.now)
    = split_blocks g.B.BySet.value p (c.args.higher - 1) c.args.table.now c.split_at_mut-low.result.0.now c.split_at_mut-low.result.1.now c.split_at_mut-low.ensures.value
    (c.split_at_mut-low.ensures.front_len ∙ half) in
    let is : c.args.higher + p ≡ suc n = omega (arith, some) in
    let back : length c.split_at_mut-low.result.1.now ≡ 2 ^ (c.args.higher - 1) = omega (arith, half, c.split_at_mut-low.ensures.back_len, c.requires.sized.0, doubled c.args.higher some) in
    let within : (set : ℕ) → set < length c.split_at_mut-low.result.1.now * 2 ^ p → set < 2 ^ n = λ set lt. omega (arith, lt, sets_of (length c.split_at_mut-low.result.1.now) (c.args.higher - 1) p back) in
    let place : slice_index c.args.holds.now (c.places.result + c.args.higher - 1) ≡ slice_index c.args.holds.now n = ap (slice_index c.args.holds.now) (omega (arith, c.places.ensures, some)) in
    λ set lt. fits_between n (c.args.higher + p) g.C.Count.COUNT g.B.BySet.most is (omega (arith, c.requires.few)) c.args.holds.now (slice_index c.args.holds.now (c.places.result + c.args.higher - 1)) place d f e o c.requires.room (number g.B.BySet.value p c.pass-2.new.table) c.pass-2.ensures.saves set (within set lt)

pub or_saved-requires-clause-covered : goal.or_saved-requires-clause-covered
or_saved-requires-clause-covered g t c =
    let p : ℕ = g.B.BySet.places in
    let n : ℕ = c.args.higher - 1 + g.B.BySet.places in
    let some : c.args.higher ≢ 0 = c.if-higher-eq0.false in
    let half : length c.args.table.now / 2 ≡ 2 ^ (c.args.higher - 1) = half_length (length c.args.table.now) c.args.higher c.requires.sized.0 some in
    let sets : length c.args.table.now / 2 * 2 ^ p ≡ 2 ^ n = sets_of (length c.args.table.now / 2) (c.args.higher - 1) p half in
    let e : AreParts n (by_class {R = Bor (List g.row.B.Denot)} (λ s. number g.B.BySet.value g.B.BySet.places s.now) c.args.extras)
    (by_class {R = Bor (List g.row.B.Denot)} (λ s. number g.B.BySet.value g.B.BySet.places s.now) c.low-extras_low.result) (by_class {R = Bor (List g.row.B.Denot)} (λ s. number g.B.BySet.value g.B.BySet.places s.now) c.high-extras_high.result)
    = parts_of n (length c.args.table.now / 2 * 2 ^ p) sets c.low-extras_low.ensures.same c.high-extras_high.ensures.same in
    let o : AreParts n (by_class {R = Bor (List g.row.B.Denot)} (λ s. number g.B.BySet.value g.B.BySet.places s.now) c.args.owed)
    (by_class {R = Bor (List g.row.B.Denot)} (λ s. number g.B.BySet.value g.B.BySet.places s.now) c.low-owed_low.result) (by_class {R = Bor (List g.row.B.Denot)} (λ s. number g.B.BySet.value g.B.BySet.places s.now) c.high-owed_high.result)
    = parts_of n (length c.args.table.now / 2 * 2 ^ p) sets c.low-owed_low.ensures.same c.high-owed_high.ensures.same in
    let d : IsSplit n (number g.B.BySet.value p c.args.days.now) (number g.B.BySet.value p c.split_at.result.0.now) (number g.B.BySet.value p c.split_at.result.1.now)
    = split_blocks g.B.BySet.value p (c.args.higher - 1) c.args.days.now c.split_at.result.0.now c.split_at.result.1.now
    (sym (take-append-drop (length c.args.table.now / 2) c.args.days.now) ∙ (λ i. sym c.split_at.ensures.front i ++ sym c.split_at.ensures.back i)) (c.split_at.ensures.front_len ∙ half) in
    let f : IsSplit n (number g.B.BySet.value p c.args.table.now) (number g.B.BySet.value p c.split_at_mut-low.result.0.now) (number g.B.BySet.value p c.split_at_mut-low.result.1.now)
    = split_blocks g.B.BySet.value p (c.args.higher - 1) c.args.table.now c.split_at_mut-low.result.0.now c.split_at_mut-low.result.1.now c.split_at_mut-low.ensures.value
    (c.split_at_mut-low.ensures.front_len ∙ half) in
    let is : c.args.higher + p ≡ suc n = omega (arith, some) in
    let back : length c.split_at_mut-low.result.1.now ≡ 2 ^ (c.args.higher - 1) = omega (arith, half, c.split_at_mut-low.ensures.back_len, c.requires.sized.0, doubled c.args.higher some) in
    let within : (set : ℕ) → set < length c.split_at_mut-low.result.1.now * 2 ^ p → set < 2 ^ n = λ set lt. omega (arith, lt, sets_of (length c.split_at_mut-low.result.1.now) (c.args.higher - 1) p back) in
    let place : slice_index c.args.holds.now (c.places.result + c.args.higher - 1) ≡ slice_index c.args.holds.now n = ap (slice_index c.args.holds.now) (omega (arith, c.places.ensures, some)) in
    λ set lt. covered_between n (c.args.higher + p) g.C.Count.COUNT g.B.BySet.most is (omega (arith, c.requires.few)) c.args.holds.now (slice_index c.args.holds.now (c.places.result + c.args.higher - 1)) place d f e o c.requires.room (number g.B.BySet.value p c.pass-2.new.table) c.pass-2.ensures.saves set (within set lt)

pub pass-requires-3 : goal.pass-requires-3
pass-requires-3 g t c κs within-lives =
    let p : ℕ = g.B.BySet.places in
    let n : ℕ = c.args.higher - 1 + g.B.BySet.places in
    let some : c.args.higher ≢ 0 = c.if-higher-eq0.false in
    let half : length c.args.table.now / 2 ≡ 2 ^ (c.args.higher - 1) = half_length (length c.args.table.now) c.args.higher c.requires.sized.0 some in
    let sets : length c.args.table.now / 2 * 2 ^ p ≡ 2 ^ n = sets_of (length c.args.table.now / 2) (c.args.higher - 1) p half in
    let e : AreParts n (by_class {R = Bor (List g.row.B.Denot)} (λ s. number g.B.BySet.value g.B.BySet.places s.now) c.args.extras)
    (by_class {R = Bor (List g.row.B.Denot)} (λ s. number g.B.BySet.value g.B.BySet.places s.now) c.low-extras_low.result) (by_class {R = Bor (List g.row.B.Denot)} (λ s. number g.B.BySet.value g.B.BySet.places s.now) c.high-extras_high.result)
    = parts_of n (length c.args.table.now / 2 * 2 ^ p) sets c.low-extras_low.ensures.same c.high-extras_high.ensures.same in
    let o : AreParts n (by_class {R = Bor (List g.row.B.Denot)} (λ s. number g.B.BySet.value g.B.BySet.places s.now) c.args.owed)
    (by_class {R = Bor (List g.row.B.Denot)} (λ s. number g.B.BySet.value g.B.BySet.places s.now) c.low-owed_low.result) (by_class {R = Bor (List g.row.B.Denot)} (λ s. number g.B.BySet.value g.B.BySet.places s.now) c.high-owed_high.result)
    = parts_of n (length c.args.table.now / 2 * 2 ^ p) sets c.low-owed_low.ensures.same c.high-owed_high.ensures.same in
    let d : IsSplit n (number g.B.BySet.value p c.args.days.now) (number g.B.BySet.value p c.split_at.result.0.now) (number g.B.BySet.value p c.split_at.result.1.now)
    = split_blocks g.B.BySet.value p (c.args.higher - 1) c.args.days.now c.split_at.result.0.now c.split_at.result.1.now
    (sym (take-append-drop (length c.args.table.now / 2) c.args.days.now) ∙ (λ i. sym c.split_at.ensures.front i ++ sym c.split_at.ensures.back i)) (c.split_at.ensures.front_len ∙ half) in
    let f : IsSplit n (number g.B.BySet.value p c.args.table.now) (number g.B.BySet.value p c.split_at_mut-low.result.0.now) (number g.B.BySet.value p c.split_at_mut-low.result.1.now)
    = split_blocks g.B.BySet.value p (c.args.higher - 1) c.args.table.now c.split_at_mut-low.result.0.now c.split_at_mut-low.result.1.now c.split_at_mut-low.ensures.value
    (c.split_at_mut-low.ensures.front_len ∙ half) in
    let is : c.args.higher + p ≡ suc n = omega (arith, some) in
    let back : length c.split_at_mut-low.result.1.now ≡ 2 ^ (c.args.higher - 1) = omega (arith, half, c.split_at_mut-low.ensures.back_len, c.requires.sized.0, doubled c.args.higher some) in
    let within : (set : ℕ) → set < length c.split_at_mut-low.result.1.now * 2 ^ p → set < 2 ^ n = λ set lt. omega (arith, lt, sets_of (length c.split_at_mut-low.result.1.now) (c.args.higher - 1) p back) in
    let place : slice_index c.args.holds.now (c.places.result + c.args.higher - 1) ≡ slice_index c.args.holds.now n = ap (slice_index c.args.holds.now) (omega (arith, c.places.ensures, some)) in
    let hold : ℕ = slice_index c.args.holds.now (c.places.result + c.args.higher - 1) in
    let between : (set : ℕ) → set < 2 ^ n → number g.B.BySet.value p c.or_saved.new.table set ≡ max (number g.B.BySet.value p c.split_at_mut-low.result.1.now set)
    (number g.B.BySet.value p c.pass-2.new.table set + hold * number g.B.BySet.value p c.split_at.result.0.now set
    - owes_from g.C.Count.COUNT (by_class {R = Bor (List g.row.B.Denot)} (λ s. number g.B.BySet.value g.B.BySet.places s.now) c.high-extras_high.result)
    (by_class {R = Bor (List g.row.B.Denot)} (λ s. number g.B.BySet.value g.B.BySet.places s.now) c.high-owed_high.result) (by_class {R = Bor (List g.row.B.Denot)} (λ s. number g.B.BySet.value g.B.BySet.places s.now) c.low-owed_low.result) set)
    = λ set lt. c.or_saved.ensures.each set (omega (arith, lt, sets_of (length c.split_at_mut-low.result.1.now) (c.args.higher - 1) p back)) in
    let double = doubled c.args.higher some in (
      omega (arith, c.decreases, some),
      (
        search rules,
        (
          search rules,
          (
            omega (arith, c.requires.few),
            (
              c.requires.classes,
              (
                (
                  omega (arith, c.or_saved.ensures.length, back),
                  omega (arith, c.split_at.ensures.back_len, c.requires.sized.1, double, half),
                  omega (arith, c.high-extras_high.ensures.lengths.0, c.requires.sized.2, double, half),
                  omega (arith, c.high-extras_high.ensures.lengths.1, c.requires.sized.3, double, half),
                  omega (arith, c.high-owed_high.ensures.lengths.0, c.requires.sized.4, double, half),
                  omega (arith, c.high-owed_high.ensures.lengths.1, c.requires.sized.5, double, half),
                ),
                room_high n (c.args.higher + p) g.C.Count.COUNT g.B.BySet.most is (omega (arith, c.requires.few)) c.args.holds.now (slice_index c.args.holds.now (c.places.result + c.args.higher - 1)) place d f e o c.requires.room (number g.B.BySet.value p c.pass-2.new.table) c.pass-2.ensures.saves (number g.B.BySet.value p c.or_saved.new.table) between,
              ),
            ),
          ),
        ),
      ),
    )

pub returns-clause-saves : goal.returns-clause-saves
returns-clause-saves g t c =
    let p : ℕ = g.B.BySet.places in
    let n : ℕ = c.args.higher - 1 + g.B.BySet.places in
    let some : c.args.higher ≢ 0 = c.if-higher-eq0.false in
    let half : length c.args.table.now / 2 ≡ 2 ^ (c.args.higher - 1) = half_length (length c.args.table.now) c.args.higher c.requires.sized.0 some in
    let sets : length c.args.table.now / 2 * 2 ^ p ≡ 2 ^ n = sets_of (length c.args.table.now / 2) (c.args.higher - 1) p half in
    let e : AreParts n (by_class {R = Bor (List g.row.B.Denot)} (λ s. number g.B.BySet.value g.B.BySet.places s.now) c.args.extras)
    (by_class {R = Bor (List g.row.B.Denot)} (λ s. number g.B.BySet.value g.B.BySet.places s.now) c.low-extras_low.result) (by_class {R = Bor (List g.row.B.Denot)} (λ s. number g.B.BySet.value g.B.BySet.places s.now) c.high-extras_high.result)
    = parts_of n (length c.args.table.now / 2 * 2 ^ p) sets c.low-extras_low.ensures.same c.high-extras_high.ensures.same in
    let o : AreParts n (by_class {R = Bor (List g.row.B.Denot)} (λ s. number g.B.BySet.value g.B.BySet.places s.now) c.args.owed)
    (by_class {R = Bor (List g.row.B.Denot)} (λ s. number g.B.BySet.value g.B.BySet.places s.now) c.low-owed_low.result) (by_class {R = Bor (List g.row.B.Denot)} (λ s. number g.B.BySet.value g.B.BySet.places s.now) c.high-owed_high.result)
    = parts_of n (length c.args.table.now / 2 * 2 ^ p) sets c.low-owed_low.ensures.same c.high-owed_high.ensures.same in
    let d : IsSplit n (number g.B.BySet.value p c.args.days.now) (number g.B.BySet.value p c.split_at.result.0.now) (number g.B.BySet.value p c.split_at.result.1.now)
    = split_blocks g.B.BySet.value p (c.args.higher - 1) c.args.days.now c.split_at.result.0.now c.split_at.result.1.now
    (sym (take-append-drop (length c.args.table.now / 2) c.args.days.now) ∙ (λ i. sym c.split_at.ensures.front i ++ sym c.split_at.ensures.back i)) (c.split_at.ensures.front_len ∙ half) in
    let f : IsSplit n (number g.B.BySet.value p c.args.table.now) (number g.B.BySet.value p c.split_at_mut-low.result.0.now) (number g.B.BySet.value p c.split_at_mut-low.result.1.now)
    = split_blocks g.B.BySet.value p (c.args.higher - 1) c.args.table.now c.split_at_mut-low.result.0.now c.split_at_mut-low.result.1.now c.split_at_mut-low.ensures.value
    (c.split_at_mut-low.ensures.front_len ∙ half) in
    let is : c.args.higher + p ≡ suc n = omega (arith, some) in
    let back : length c.split_at_mut-low.result.1.now ≡ 2 ^ (c.args.higher - 1) = omega (arith, half, c.split_at_mut-low.ensures.back_len, c.requires.sized.0, doubled c.args.higher some) in
    let within : (set : ℕ) → set < length c.split_at_mut-low.result.1.now * 2 ^ p → set < 2 ^ n = λ set lt. omega (arith, lt, sets_of (length c.split_at_mut-low.result.1.now) (c.args.higher - 1) p back) in
    let place : slice_index c.args.holds.now (c.places.result + c.args.higher - 1) ≡ slice_index c.args.holds.now n = ap (slice_index c.args.holds.now) (omega (arith, c.places.ensures, some)) in
    let hold : ℕ = slice_index c.args.holds.now (c.places.result + c.args.higher - 1) in
    let between : (set : ℕ) → set < 2 ^ n → number g.B.BySet.value p c.or_saved.new.table set ≡ max (number g.B.BySet.value p c.split_at_mut-low.result.1.now set)
    (number g.B.BySet.value p c.pass-2.new.table set + hold * number g.B.BySet.value p c.split_at.result.0.now set
    - owes_from g.C.Count.COUNT (by_class {R = Bor (List g.row.B.Denot)} (λ s. number g.B.BySet.value g.B.BySet.places s.now) c.high-extras_high.result)
    (by_class {R = Bor (List g.row.B.Denot)} (λ s. number g.B.BySet.value g.B.BySet.places s.now) c.high-owed_high.result) (by_class {R = Bor (List g.row.B.Denot)} (λ s. number g.B.BySet.value g.B.BySet.places s.now) c.low-owed_low.result) set)
    = λ set lt. c.or_saved.ensures.each set (omega (arith, lt, sets_of (length c.split_at_mut-low.result.1.now) (c.args.higher - 1) p back)) in
    let m = split_blocks g.B.BySet.value p (c.args.higher - 1) (c.pass-2.new.table ++ c.pass-3.new.table) c.pass-2.new.table c.pass-3.new.table refl
    (omega (arith, c.pass-2.ensures.length, c.split_at_mut-low.ensures.front_len, half)) in
    saves_both n (c.args.higher + p) g.C.Count.COUNT g.B.BySet.most is (omega (arith, c.requires.few)) c.args.holds.now (slice_index c.args.holds.now (c.places.result + c.args.higher - 1)) place d f e o c.requires.room (number g.B.BySet.value p c.pass-2.new.table) c.pass-2.ensures.saves (number g.B.BySet.value p c.or_saved.new.table) between (number g.B.BySet.value p c.pass-3.new.table) m c.pass-3.ensures.saves
