use Rattle.std.proofs.Common.{◌≡◌, ◌+◌, ◌∙◌, ℕ, ap, arith, drop, length-set, slice_index, sym, true}
use Rattle.std.proofs.lemmas.List.{length-replicate}
use Rattle.strip_mask.specs.Set.{IsSet, has, sum_over, without}
use Rattle.strip_mask.proofs.ByMembers.{below_64}
use Rattle.strip_mask.proofs.Sizes.{first_is, first_none}
use Rattle.strip_group.proofs.Blocks.{drop_sum, table_next, table_none}
use Rattle.strip_mask.proofs.Lists.{zeros, written}
use Rattle.strip_sets.proofs.Sets.{without_less}
use Rattle.strip_group.proofs.days.table_from.Goals as goal

pub loop-number-init : goal.loop-number-init
loop-number-init c = record { long = length-replicate {A = ℕ} 4096 0; so_far = λ set lt. zeros 4096 set ∙ table_none c.args.days.now c.args.first set lt }

pub without-requires : goal.without-requires
without-requires c =
    let small : IsSet c.loop-number.number = omega (arith, c.loop-number-test.true) in
    below_64 c.loop-number.number c.in-Some.scene small (first_is c.loop-number.number c.in-Some.scene small (sym c.first.ensures ∙ c.in-Some.is)).0

pub offset_bounds-table-without : goal.offset_bounds-table-without
offset_bounds-table-without c =
    let small : IsSet c.loop-number.number = omega (arith, c.loop-number-test.true) in
    let there : has c.loop-number.number c.in-Some.scene ≡ true = (first_is c.loop-number.number c.in-Some.scene small (sym c.first.ensures ∙ c.in-Some.is)).0 in
    omega (arith, c.without.ensures, without_less c.loop-number.number c.in-Some.scene there, c.loop-number-test.true)

pub bounds-table-without : goal.bounds-table-without
bounds-table-without c =
    let small : IsSet c.loop-number.number = omega (arith, c.loop-number-test.true) in
    let there : has c.loop-number.number c.in-Some.scene ≡ true = (first_is c.loop-number.number c.in-Some.scene small (sym c.first.ensures ∙ c.in-Some.is)).0 in
    omega (arith, c.without.ensures, without_less c.loop-number.number c.in-Some.scene there, c.loop-number-test.true)

pub overflow_add-table : goal.overflow_add-table
overflow_add-table c =
    let small : IsSet c.loop-number.number = omega (arith, c.loop-number-test.true) in
    let there : has c.loop-number.number c.in-Some.scene ≡ true = (first_is c.loop-number.number c.in-Some.scene small (sym c.first.ensures ∙ c.in-Some.is)).0 in
    let next : slice_index c.loop-number.table (without c.loop-number.number c.in-Some.scene) + c.day_of-day.result ≡ sum_over
    (drop c.args.first c.args.days.now) c.loop-number.number
    = table_next c.args.days.now c.args.first c.loop-number.number c.in-Some.scene c.loop-number.table c.day_of-day.result small there c.day_of-day.ensures c.loop-number.invariant.so_far in
    record {
      fits = omega (
        arith,
        next,
        ap
            (slice_index c.loop-number.table) c.without.ensures,
        drop_sum c.args.days.now c.args.first c.loop-number.number 19800 c.requires.few c.requires.day_sum,
      );
    }

pub unreachable-requires : goal.unreachable-requires
unreachable-requires c =
    let small : IsSet c.loop-number.number = omega (arith, c.loop-number-test.true) in
    let none : c.loop-number.number ≡ 0 = first_none c.loop-number.number small (sym c.first.ensures ∙ c.in-None.is) in
    omega (arith, none, c.loop-number.auto.number)

pub loop-number-preserved : goal.loop-number-preserved
loop-number-preserved c =
    let small : IsSet c.loop-number.number = omega (arith, c.loop-number-test.true) in
    let there : has c.loop-number.number c.in-Some.scene ≡ true = (first_is c.loop-number.number c.in-Some.scene small (sym c.first.ensures ∙ c.in-Some.is)).0 in
    let next : slice_index c.loop-number.table (without c.loop-number.number c.in-Some.scene) + c.day_of-day.result ≡ sum_over
    (drop c.args.first c.args.days.now) c.loop-number.number
    = table_next c.args.days.now c.args.first c.loop-number.number c.in-Some.scene c.loop-number.table c.day_of-day.result small there c.day_of-day.ensures c.loop-number.invariant.so_far in
    record {
      long = length-set c.loop-number.table c.loop-number.number _ ∙ c.loop-number.invariant.long;
      so_far = written c.loop-number.table c.loop-number.number (slice_index c.loop-number.table c.without.result.0 + c.day_of-day.result) (sum_over
          (drop c.args.first c.args.days.now))
          (omega (arith, c.loop-number-test.true, c.loop-number.invariant.long)) c.loop-number.invariant.so_far
          (ap (λ (s : ℕ). slice_index c.loop-number.table s + c.day_of-day.result) c.without.ensures ∙ next);
    }
