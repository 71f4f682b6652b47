use Rattle.std.proofs.Common.{◌≡◌, ◌*◌, ◌^◌, ◌<◌, ◌∙◌, ℕ, arith, length, subst, sym}
use Rattle.std.proofs.lemmas.List.{length-set}
use Rattle.strip_sets.specs.Numbers.{in_block}
use Rattle.strip_sets.proofs.Blocks.{started, turned_all, turned_more}
use Rattle.strip_sets.proofs.table.start.Goals as goal

pub loop-block-preserved : goal.loop-block-preserved
loop-block-preserved g c = (
  length-set c.loop-block.table c.loop-block.block c.all.result ∙ c.loop-block.invariant.0,
  turned_more g.B.BySet.value (2 ^ g.B.BySet.places) (in_block g.B.BySet.value c.args.table.now) (λ (b s : ℕ). c.args.others) c.loop-block.block c.loop-block.table c.all.result
      (omega (arith, c.loop-block.invariant.0, c.loop-block-test.true)) c.all.ensures c.loop-block.invariant.1,
)

pub returns-clause-each : goal.returns-clause-each
returns-clause-each g c =
    let long : length c.loop-block.table ≡ length c.args.table.now = c.loop-block.invariant.0 in
    λ set lt. started g.B.BySet.value g.B.BySet.places c.loop-block.table c.none_and_others.result c.args.none c.args.others (omega (arith, long, c.requires.some)) c.none_and_others.ensures
    (turned_all g.B.BySet.places (length c.loop-block.table) c.loop-block.block (omega (arith, long, c.loop-block-test.false)) c.loop-block.invariant.1)
    set (subst (λ (k : ℕ). set < k * 2 ^ g.B.BySet.places) (sym long) lt)
