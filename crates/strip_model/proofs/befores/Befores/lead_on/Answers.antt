use Rattle.std.proofs.Common.{◌+◌, sym, ◌∙◌, arith, subst}
use Rattle.std.proofs.lemmas.List.{set-get_or}
use Rattle.strip_model.specs.Befores.{no_scenes}
use Rattle.strip_model.proofs.Knowing.{AreLedOn, led_on-more, led_on-same, led_on-all}
use Rattle.strip_model.proofs.befores.Befores.lead_on.Goals as goal
use Rattle.strip_model.proofs.befores.Befores.lead_on.Goals.{then-has, else-has}

pub loop-scenes-preserved : goal.loop-scenes-preserved
loop-scenes-preserved c = elim c.if-has.branch [
  | then-has w ↦ subst (AreLedOn (c.loop-scenes.scenes-index + 1) c.args.pair.first c.add.new.self c.args.self.now.leading) (sym w.scenes-items-is)
      (led_on-more c.loop-scenes.scenes-index c.args.pair.first c.add.new.self c.args.self.now.leading c.loop-scenes.scenes-items c.loop-scenes-test.true
      c.loop-scenes.invariant w.add_all.new.self (sym c.has.ensures ∙ w.if-has.true) w.add_all.ensures)
  | else-has w ↦ subst (AreLedOn (c.loop-scenes.scenes-index + 1) c.args.pair.first c.add.new.self c.args.self.now.leading) (sym (w.scenes-items-is ∙ set-get_or c.loop-scenes.scenes-items c.loop-scenes.scenes-index no_scenes))
      (led_on-same c.loop-scenes.scenes-index c.args.pair.first c.add.new.self c.args.self.now.leading c.loop-scenes.scenes-items c.loop-scenes-test.true
      c.loop-scenes.invariant (sym c.has.ensures ∙ w.if-has.false))
]

pub returns-clause-leading : goal.returns-clause-leading
returns-clause-leading c = λ from to from_small to_small.
    led_on-all c.args.pair c.add.new.self c.add_all-2.new.self c.args.self.now c.args.self.now.standing c.loop-scenes.scenes-items from to c.requires.first from_small to_small
    (subst (λ turn. AreLedOn turn c.args.pair.first c.add.new.self c.args.self.now.leading c.loop-scenes.scenes-items) (omega arith) c.loop-scenes.invariant) c.add.ensures c.add_all-2.ensures
