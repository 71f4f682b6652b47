use Rattle.std.proofs.Common.{◌∙◌, ◌++◌, ◌∷◌, [], ℕ, Option, Some, ap, arith, map, slice_index_or, sym, take}
use Rattle.strip_steal.specs.declared.share.Share.{Share}
use Rattle.strip_steal.specs.Steps.{with_entries}
use Rattle.strip_steal.specs.Taker.{entries_in}
use Rattle.strip_steal.proofs.Deals.{at_get, every-drop, put-next}
use Rattle.strip_steal.proofs.deal.put_numbers.Goals as goal

pub loop-at-init : goal.loop-at-init
loop-at-init c = (
  take {A = Option ℕ} 0 [],
  c.requires.first,
  ap (map (λ (number : ℕ). Some number)) (sym (every-drop c.args.count c.args.place c.args.numbers.now)),
)

pub loop-at-preserved : goal.loop-at-preserved
loop-at-preserved c =
    let was = c.loop-at.invariant in
    let x : ℕ = slice_index_or c.args.numbers.now c.loop-at.at 0 in (
      was.0 ++ Some x ∷ [],
      c.in_ok-put.ensures ∙ ap (λ (s : Share). with_entries s (Some x ∷ [])) was.1,
      put-next was.0 c.args.count c.loop-at.at c.args.numbers.now x (entries_in c.args.count c.args.numbers.now c.args.place)
          (at_get c.args.numbers.now c.loop-at.at 0 (omega (arith, c.loop-at-test.true))) (omega (arith, c.requires.count.0)) was.2,
    )
