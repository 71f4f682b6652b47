use Rattle.std.proofs.Common.{◌≡◌, true, false, refl}
use Rattle.std.proofs.lemmas.List.{take_all}
use Rattle.std.proofs.lemmas.List.Elements.{All-more}
use Rattle.strip_model.specs.declared.pair.Pair.{Pair}
use Rattle.strip_model.specs.Order.{KeepsPair}
use Rattle.strip_model.proofs.pair.keeps.Goals as goal

abbrev none : Pair
none = record { first = 0; then = 0 }

pub returns-then-not-stands_before : goal.returns-then-not-stands_before
returns-then-not-stands_before c = (
  λ yes. (cc),
  λ keeps. absurd (let stands : c.stands_before.result ≡ true = c.stands_before.ensures.1 (keeps c.loop-pair.pair-index none c.loop-pair-test.true) in
      let turned : c.stands_before.result ≡ false = c.if-not-stands_before.true in
      cc),
)

pub loop-pair-preserved : goal.loop-pair-preserved
loop-pair-preserved c =
    All-more (KeepsPair c.args.order.now) c.args.pairs.now c.loop-pair.pair-index none c.loop-pair-test.true c.loop-pair.invariant
    (c.stands_before.ensures.0 c.if-not-stands_before.false)

pub returns : goal.returns
returns c = (λ yes. rw (take_all c.loop-pair.pair-index c.args.pairs.now c.loop-pair-test.false) at c.loop-pair.invariant, λ keeps. refl)
