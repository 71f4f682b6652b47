use Rattle.std.proofs.Common.{◌≡◌, ◌≢◌, true, refl}
use Rattle.std.proofs.lemmas.List.{take_all}
use Rattle.strip_model.proofs.Pairs.{AllPairs-more, not_taken, own_from_free}
use Rattle.strip_model.proofs.names.have_own_names.Goals as goal

pub returns-then-is_taken : goal.returns-then-is_taken
returns-then-is_taken g c = (
  λ no. (cc),
  λ apart. absurd (not_taken g.N.HasName.name c.args.items.now c.loop-place.place c.index-items-place.result c.name.result.now
      c.loop-place-test.true c.index-items-place.is c.name.ensures apart (c.is_taken.ensures.0 c.if-is_taken.true)),
)

pub loop-place-preserved : goal.loop-place-preserved
loop-place-preserved g c =
    AllPairs-more (λ a b. g.N.HasName.name a ≢ g.N.HasName.name b) c.args.items.now c.loop-place.place c.loop-place-test.true c.loop-place.invariant
    (own_from_free g.N.HasName.name c.args.items.now c.loop-place.place c.index-items-place.result c.name.result.now
    c.loop-place-test.true c.index-items-place.is c.name.ensures (λ any. let yes : c.is_taken.result ≡ true = c.is_taken.ensures.1 any in cc))

pub returns : goal.returns
returns g c = (λ yes. rw (take_all c.loop-place.place c.args.items.now c.loop-place-test.false) at c.loop-place.invariant, λ apart. refl)
