use Rattle.std.proofs.Common.{Bor, List, ◌+◌, ◌*◌, ◌-◌, ◌^◌, ◌≤◌, ◌∙◌, ℕ, ap, arith, length, max}
use Rattle.std.proofs.lemmas.List.{length-set}
use Rattle.strip_sets.specs.Numbers.{by_class, in_block}
use Rattle.strip_sets.specs.Saving.{owes_from}
use Rattle.strip_sets.proofs.Blocks.{of_block, turned_all, turned_more, value_at, value_read}
use Rattle.strip_sets.proofs.Owed.{owes_same}
use Rattle.strip_sets.proofs.table.or_saved.Goals as goal

pub or_saved-requires-clause-rise : goal.or_saved-requires-clause-rise
or_saved-requires-clause-rise g c = λ class set known lt. omega (
  arith,
  of_block g.B.BySet.places (length c.args.table.now) (λ (b s : ℕ). by_class {R = Bor (List g.row.B.Denot)} (λ x. in_block g.B.BySet.value x.now b) c.args.owed_before class s
      ≤ by_class {R = Bor (List g.row.B.Denot)} (λ x. in_block g.B.BySet.value x.now b) c.args.owed class s)
      (λ s small. c.requires.rise class s known small) c.loop-block.block set c.loop-block-test.true lt,
  c.block-in-loop-block.ensures class set,
  c.block-in-loop-block-2.ensures class set,
)

pub or_saved-requires-clause-fits : goal.or_saved-requires-clause-fits
or_saved-requires-clause-fits g c = λ set lt. omega (
  arith,
  of_block g.B.BySet.places (length c.args.table.now) (λ (b s : ℕ). in_block g.B.BySet.value c.args.others.now b s + c.args.hold * in_block g.B.BySet.value c.args.days_before.now b s ≤ g.B.BySet.most)
      c.requires.fits c.loop-block.block set c.loop-block-test.true lt,
  value_read g.B.BySet.value c.args.others.now c.loop-block.block set c.index-others-block.result (omega (arith, c.requires.same.0, c.loop-block-test.true)) c.index-others-block.is,
  ap (λ (d : ℕ). c.args.hold * d) (value_read g.B.BySet.value c.args.days_before.now c.loop-block.block set c.index-days_before-block.result
      (omega (arith, c.requires.same.1, c.loop-block-test.true)) c.index-days_before-block.is),
)

pub or_saved-requires-clause-covered : goal.or_saved-requires-clause-covered
or_saved-requires-clause-covered g c = λ set lt. omega (
  arith,
  of_block g.B.BySet.places (length c.args.table.now) (λ (b s : ℕ). owes_from g.C.Count.COUNT (by_class {R = Bor (List g.row.B.Denot)} (λ x. in_block g.B.BySet.value x.now b) c.args.extras)
      (by_class {R = Bor (List g.row.B.Denot)} (λ x. in_block g.B.BySet.value x.now b) c.args.owed)
      (by_class {R = Bor (List g.row.B.Denot)} (λ x. in_block g.B.BySet.value x.now b) c.args.owed_before) s ≤ in_block g.B.BySet.value c.args.others.now b s)
      c.requires.covered c.loop-block.block set c.loop-block-test.true lt,
  owes_same g.C.Count.COUNT (by_class {R = Bor (List g.row.B.Denot)} (λ x. in_block g.B.BySet.value x.now c.loop-block.block) c.args.extras)
      (by_class {R = Bor (List g.row.B.Denot)} (λ x. in_block g.B.BySet.value x.now c.loop-block.block) c.args.owed)
      (by_class {R = Bor (List g.row.B.Denot)} (λ x. in_block g.B.BySet.value x.now c.loop-block.block) c.args.owed_before)
      (by_class {R = Bor g.row.B.Denot} (λ x. g.B.BySet.value x.now) c.block.result) (by_class {R = Bor g.row.B.Denot} (λ x. g.B.BySet.value x.now) c.block-in-loop-block.result)
      (by_class {R = Bor g.row.B.Denot} (λ x. g.B.BySet.value x.now) c.block-in-loop-block-2.result) set set
      (λ class. c.block.ensures class set) (λ class. c.block-in-loop-block.ensures class set) (λ class. c.block-in-loop-block-2.ensures class set),
  value_read g.B.BySet.value c.args.others.now c.loop-block.block set c.index-others-block.result (omega (arith, c.requires.same.0, c.loop-block-test.true)) c.index-others-block.is,
)

pub loop-block-preserved : goal.loop-block-preserved
loop-block-preserved g c = (
  length-set c.loop-block.table c.loop-block.block c.or_saved.new.self ∙ c.loop-block.invariant.0,
  turned_more g.B.BySet.value (2 ^ g.B.BySet.places) (in_block g.B.BySet.value c.args.table.now)
      (λ (b s : ℕ). max (in_block g.B.BySet.value c.args.table.now b s) (in_block g.B.BySet.value c.args.others.now b s
      + c.args.hold * in_block g.B.BySet.value c.args.days_before.now b s
      - owes_from g.C.Count.COUNT (by_class {R = Bor (List g.row.B.Denot)} (λ x. in_block g.B.BySet.value x.now b) c.args.extras)
      (by_class {R = Bor (List g.row.B.Denot)} (λ x. in_block g.B.BySet.value x.now b) c.args.owed)
      (by_class {R = Bor (List g.row.B.Denot)} (λ x. in_block g.B.BySet.value x.now b) c.args.owed_before) s))
      c.loop-block.block c.loop-block.table c.or_saved.new.self (omega (arith, c.loop-block.invariant.0, c.loop-block-test.true))
      (λ set lt. omega (
        arith,
        c.or_saved.ensures set lt,
        value_at g.B.BySet.value c.loop-block.table c.loop-block.block set c.index-table-block.result (omega (arith, c.loop-block.invariant.0, c.loop-block-test.true)),
        c.loop-block.invariant.1.left c.loop-block.block set (omega arith),
        value_read g.B.BySet.value c.args.others.now c.loop-block.block set c.index-others-block.result (omega (arith, c.requires.same.0, c.loop-block-test.true)) c.index-others-block.is,
        ap (λ (d : ℕ). c.args.hold * d) (value_read g.B.BySet.value c.args.days_before.now c.loop-block.block set c.index-days_before-block.result
            (omega (arith, c.requires.same.1, c.loop-block-test.true)) c.index-days_before-block.is),
        owes_same g.C.Count.COUNT (by_class {R = Bor (List g.row.B.Denot)} (λ x. in_block g.B.BySet.value x.now c.loop-block.block) c.args.extras)
            (by_class {R = Bor (List g.row.B.Denot)} (λ x. in_block g.B.BySet.value x.now c.loop-block.block) c.args.owed)
            (by_class {R = Bor (List g.row.B.Denot)} (λ x. in_block g.B.BySet.value x.now c.loop-block.block) c.args.owed_before)
            (by_class {R = Bor g.row.B.Denot} (λ x. g.B.BySet.value x.now) c.block.result) (by_class {R = Bor g.row.B.Denot} (λ x. g.B.BySet.value x.now) c.block-in-loop-block.result)
            (by_class {R = Bor g.row.B.Denot} (λ x. g.B.BySet.value x.now) c.block-in-loop-block-2.result) set set
            (λ class. c.block.ensures class set) (λ class. c.block-in-loop-block.ensures class set) (λ class. c.block-in-loop-block-2.ensures class set),
      ))
      c.loop-block.invariant.1,
)

pub returns-clause-each : goal.returns-clause-each
returns-clause-each g c = turned_all g.B.BySet.places (length c.args.table.now) c.loop-block.block c.loop-block-test.false c.loop-block.invariant.1
