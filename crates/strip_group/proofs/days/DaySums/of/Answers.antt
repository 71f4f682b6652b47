use Rattle.std.proofs.Common.{◌≡◌, ◌+◌, ◌∙◌, [], ℕ, List, ap, arith, length, slice_index, slice_index_or, sum, sym, subst}
use Rattle.std.proofs.lemmas.Grind.{div_ceil_times}
use Rattle.std.proofs.lemmas.List.{length_push}
use Rattle.strip_group.specs.Days.{AreSums}
use Rattle.strip_group.proofs.Blocks.{tables_more}
use Rattle.strip_group.proofs.days.DaySums.of.Goals as goal

pub loop-number-init : goal.loop-number-init
loop-number-init c = record { count = ap length c.new-tables.ensures.items; each = λ number set lt _. absurd (omega (arith, lt)) }

pub loop-number-preserved : goal.loop-number-preserved
loop-number-preserved c = record {
  count = ap length c.in_ok-push.ensures.items ∙ length_push c.loop-number.tables.items c.table_from.result ∙ ap (λ (n : ℕ). n + 1) c.loop-number.invariant.count;
  each = λ number set lt small. ap (λ (tables : List (List ℕ)). slice_index (slice_index_or tables number []) set) c.in_ok-push.ensures.items
      ∙ tables_more c.args.days.now c.loop-number.tables.items c.table_from.result c.loop-number.number c.loop-number.invariant.count c.loop-number.invariant.each c.table_from.ensures number set lt small;
}

pub table_from-requires-clause-first : goal.table_from-requires-clause-first
table_from-requires-clause-first c = omega (arith, c.loop-number-test.true, c.div_ceil-number-end.ensures, div_ceil_times (length c.args.days.now) 12 (omega arith), c.requires.few)

pub invariant_of-result : goal.invariant_of-result
invariant_of-result c =
    let end : length c.loop-number.tables.items ≡ c.div_ceil-number-end.result = omega
    (arith, c.loop-number-test.false, c.loop-number.auto.number-end, c.loop-number.invariant.count) in
    let times = div_ceil_times (length c.args.days.now) 12 (omega arith) in (
      subst (λ (days : List ℕ). AreSums days c.loop-number.tables.items) (sym c.in_ok-copy_of.ensures) (record {
        short = c.requires.few;
        day_sum = c.requires.day_sum;
        whole = omega (arith, end, c.div_ceil-number-end.ensures, times);
        few = omega (arith, end, c.div_ceil-number-end.ensures, times, c.requires.few);
        each = λ number set lt. c.loop-number.invariant.each number set (omega (arith, lt, c.loop-number.invariant.count));
      }),
      c.sum_of.ensures ∙ ap sum (sym c.in_ok-copy_of.ensures),
    )
