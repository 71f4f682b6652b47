use Rattle.std.proofs.Common.{◌≡◌, ◌+◌, ◌*◌, ◌/◌, ◌%◌, ◌^◌, ◌<◌, ◌==◌, ◌∙◌, ℕ, ap, length, pow_pos, slice_index_or, slice_set, subst, sym}
use Rattle.strip_sets.specs.Numbers.{counted, number}
use Rattle.strip_sets.proofs.Blocks.{added, quotient_less, value_at}
use Rattle.strip_sets.proofs.Sets.{one_shifted}
use Rattle.strip_sets.proofs.table.add.Goals as goal

pub returns-clause-each : goal.returns-clause-each
returns-clause-each g c =
    let p : ℕ = g.B.BySet.places in
    let sets : ℕ = 1 * 2 ^ c.places-sets.result % 18446744073709551616 in
    let is : sets ≡ 2 ^ p = one_shifted p c.places-sets.result c.places-sets.ensures c.requires.few in
    let new : (other : ℕ) → other < 2 ^ p → g.B.BySet.value c.add.new.self other ≡ g.B.BySet.value (slice_index_or c.args.table.now (c.args.set / 2 ^ p) c.index-table-set.result) other + counted (other == c.args.set % 2 ^ p) c.args.more
    = subst (λ (k : ℕ). (other : ℕ) → other < 2 ^ p → g.B.BySet.value c.add.new.self other ≡ g.B.BySet.value (slice_index_or c.args.table.now (c.args.set / k) c.index-table-set.result) other + counted (other == c.args.set % k) c.args.more)
    is c.add.ensures in
    subst (λ (k : ℕ). (other : ℕ) → other < length c.args.table.now * 2 ^ p → number g.B.BySet.value p (slice_set c.args.table.now (c.args.set / k) c.add.new.self) other
    ≡ number g.B.BySet.value p c.args.table.now other + counted (other == c.args.set) c.args.more) (sym is)
    (added g.B.BySet.value p c.args.table.now c.args.set c.args.more c.add.new.self c.requires.known (λ other lt. new other lt
    ∙ ap (λ (x : ℕ). x + counted (other == c.args.set % 2 ^ p) c.args.more) (sym (value_at g.B.BySet.value c.args.table.now (c.args.set / 2 ^ p) other c.index-table-set.result
    (quotient_less c.args.set (2 ^ p) (length c.args.table.now) (pow_pos p) c.requires.known)))))
