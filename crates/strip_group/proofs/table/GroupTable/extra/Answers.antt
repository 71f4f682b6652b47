use Rattle.std.proofs.Common.{◌≡◌, ◌+◌, ◌-◌, ◌*◌, ◌≤◌, ◌∙◌, ℕ, List, ap, arith, length, slice_index, subst, sum, sym}
use Rattle.std.proofs.Math.Nat.{mul-le-mul}
use Rattle.strip_mask.specs.Set.{LiesBelow, meet, sum_over}
use Rattle.strip_mask.specs.Sums.{sum_below}
use Rattle.strip_group.specs.declared.table.Pay.{Pay}
use Rattle.strip_group.specs.Group.{GroupData, group_extra}
use Rattle.strip_group.specs.Places.{actor_at}
use Rattle.strip_group.specs.Saved.{IsSavedMost, left_by}
use Rattle.strip_group.proofs.Extra.{paid_and_saved}
use Rattle.strip_mask.proofs.Totals.{sum_over_le_sum}
use Rattle.strip_group.proofs.table.GroupTable.extra.Goals.{then-most, else-most}
use Rattle.strip_group.proofs.table.GroupTable.extra.Goals as goal

pub overflow_mul-most : goal.overflow_mul-most
overflow_mul-most c =
    let short : length c.self.inside.sums ≤ 64 = omega (arith, c.self.invariant.limits.day_count, c.self.invariant.limits.scene_count) in
    let days : c.max.result ≤ 19800 = omega (arith, c.max.ensures, c.all.ensures, c.self.invariant.limits.day_sum) in
    let pay : c.total.result * c.max.result ≤ 384000000000 * 19800 = mul-le-mul c.total.ensures.small days in
    record { fits = omega (arith, pay) }

pub pay_of-pay-requires-clause-room : goal.pay_of-pay-requires-clause-room
pay_of-pay-requires-clause-room c =
    let short : length c.self.inside.sums ≤ 64 = omega (arith, c.self.invariant.limits.day_count, c.self.invariant.limits.scene_count) in
    let days : sum_over c.self.inside.sums c.args.q.0 ≤ c.max.result = omega (arith, c.max.ensures, c.all.ensures, sum_over_le_sum c.self.inside.sums c.args.q.0 short) in
    let rates : sum c.by_place-places.result.rates ≤ c.total.result = omega (arith, c.total.ensures.same) in
    let pay : sum c.by_place-places.result.rates * sum_over c.self.inside.sums c.args.q.0 ≤ c.total.result * c.max.result = mul-le-mul rates days in
    omega (arith, pay, c.if-most.true)

pub pay_of-pay-requires-else-most-clause-room : goal.pay_of-pay-requires-else-most-clause-room
pay_of-pay-requires-else-most-clause-room c =
    let short : length c.self.inside.sums ≤ 64 = omega (arith, c.self.invariant.limits.day_count, c.self.invariant.limits.scene_count) in
    let days : sum_over c.self.inside.sums c.args.q.0 ≤ 19800 = omega (arith, sum_over_le_sum c.self.inside.sums c.args.q.0 short, c.self.invariant.limits.day_sum) in
    let rates : sum c.by_place-places.result.rates ≤ 384000000000 = omega (arith, c.total.ensures.same, c.total.ensures.small) in
    let pay : sum c.by_place-places.result.rates * sum_over c.self.inside.sums c.args.q.0 ≤ 384000000000 * 19800 = mul-le-mul rates days in
    omega (arith, pay)

pub overflow_sub-result : goal.overflow_sub-result
overflow_sub-result c =
    let casts : List ℕ = c.self.inside.casts.items in
    let days : List ℕ = c.self.inside.sums in
    let holds : List ℕ = c.self.inside.holds.items in
    let known : LiesBelow (length holds) c.args.group.0 = subst (λ (film : GroupData). LiesBelow (length film.holds) c.args.group.0) (sym c.self.view_is) c.requires.known in
    let lies : LiesBelow (length casts) c.args.q.0 = subst (λ (film : GroupData). LiesBelow (length film.casts) c.args.q.0) (sym c.self.view_is) c.requires.lies in
    let saved : IsSavedMost c.by_place-places.result.rates (λ set. sum_over days (left_by c.by_place-places.result.stays 6 set c.args.q.0)) c.if-most.pay.saved
    = elim c.if-most.branch [
      | then-most w ↦ subst (λ (p : Pay). IsSavedMost c.by_place-places.result.rates (λ set. sum_over days (left_by c.by_place-places.result.stays 6 set c.args.q.0)) p.saved)
          (sym w.pay-is) w.pay_of-pay.ensures.saved
      | else-most w ↦ subst (λ (p : Pay). IsSavedMost c.by_place-places.result.rates (λ set. sum_over days (left_by c.by_place-places.result.stays 6 set c.args.q.0)) p.saved)
          (sym w.pay-is) w.pay_of-pay-else-most.ensures.saved
    ] in
    let alone : c.if-most.pay.alone ≡ sum_below 6 (λ place. slice_index c.by_place-places.result.rates place * sum_over days (meet c.args.q.0
    (slice_index c.by_place-places.result.stays place)))
    = elim c.if-most.branch [
      | then-most w ↦ ap (λ (p : Pay). p.alone) w.pay-is ∙ w.pay_of-pay.ensures.alone
      | else-most w ↦ ap (λ (p : Pay). p.alone) w.pay-is ∙ w.pay_of-pay-else-most.ensures.alone
    ] in
    let added : c.if-most.pay.saved + group_extra (record { casts = casts; days = days; holds = holds }) c.args.q.0 c.args.group.0 ≡ c.if-most.pay.alone
    = paid_and_saved casts days holds c.self.inside.stays.items c.by_place-places.result.stays c.by_place-places.result.rates c.args.q.0 c.args.group.0
    c.if-most.pay.saved c.self.invariant c.requires.few known lies
    (λ place lt. c.by_place-places.ensures.stays place lt ∙ ap (λ (xs : List ℕ). slice_index xs (actor_at c.args.group.0 place)) c.deref.ensures.value)
    c.by_place-places.ensures.all_stay
    (λ place lt. c.by_place-places.ensures.rates place lt ∙ ap (λ (xs : List ℕ). slice_index xs
    (actor_at c.args.group.0 place)) c.deref-2.ensures.value) c.by_place-places.ensures.no_rate
    saved ∙ sym alone in
    omega (arith, added)

pub returns : goal.returns
returns c =
    let casts : List ℕ = c.self.inside.casts.items in
    let days : List ℕ = c.self.inside.sums in
    let holds : List ℕ = c.self.inside.holds.items in
    let known : LiesBelow (length holds) c.args.group.0 = subst (λ (film : GroupData). LiesBelow (length film.holds) c.args.group.0) (sym c.self.view_is) c.requires.known in
    let lies : LiesBelow (length casts) c.args.q.0 = subst (λ (film : GroupData). LiesBelow (length film.casts) c.args.q.0) (sym c.self.view_is) c.requires.lies in
    let saved : IsSavedMost c.by_place-places.result.rates (λ set. sum_over days (left_by c.by_place-places.result.stays 6 set c.args.q.0)) c.if-most.pay.saved
    = elim c.if-most.branch [
      | then-most w ↦ subst (λ (p : Pay). IsSavedMost c.by_place-places.result.rates (λ set. sum_over days (left_by c.by_place-places.result.stays 6 set c.args.q.0)) p.saved)
          (sym w.pay-is) w.pay_of-pay.ensures.saved
      | else-most w ↦ subst (λ (p : Pay). IsSavedMost c.by_place-places.result.rates (λ set. sum_over days (left_by c.by_place-places.result.stays 6 set c.args.q.0)) p.saved)
          (sym w.pay-is) w.pay_of-pay-else-most.ensures.saved
    ] in
    let alone : c.if-most.pay.alone ≡ sum_below 6 (λ place. slice_index c.by_place-places.result.rates place * sum_over days (meet c.args.q.0
    (slice_index c.by_place-places.result.stays place)))
    = elim c.if-most.branch [
      | then-most w ↦ ap (λ (p : Pay). p.alone) w.pay-is ∙ w.pay_of-pay.ensures.alone
      | else-most w ↦ ap (λ (p : Pay). p.alone) w.pay-is ∙ w.pay_of-pay-else-most.ensures.alone
    ] in
    let added : c.if-most.pay.saved + group_extra (record { casts = casts; days = days; holds = holds }) c.args.q.0 c.args.group.0 ≡ c.if-most.pay.alone
    = paid_and_saved casts days holds c.self.inside.stays.items c.by_place-places.result.stays c.by_place-places.result.rates c.args.q.0 c.args.group.0
    c.if-most.pay.saved c.self.invariant c.requires.few known lies
    (λ place lt. c.by_place-places.ensures.stays place lt ∙ ap (λ (xs : List ℕ). slice_index xs (actor_at c.args.group.0 place)) c.deref.ensures.value)
    c.by_place-places.ensures.all_stay
    (λ place lt. c.by_place-places.ensures.rates place lt ∙ ap (λ (xs : List ℕ). slice_index xs
    (actor_at c.args.group.0 place)) c.deref-2.ensures.value) c.by_place-places.ensures.no_rate
    saved ∙ sym alone in
    (let gone : c.if-most.pay.alone - c.if-most.pay.saved ≡ group_extra (record { casts = casts; days = days; holds = holds }) c.args.q.0 c.args.group.0
    = omega (arith, added) in gone)
    ∙ ap (λ (film : GroupData). group_extra film c.args.q.0 c.args.group.0) c.self.view_is
