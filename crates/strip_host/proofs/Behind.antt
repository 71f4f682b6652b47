-- What is behind the first item of a list that is taken item by item.
use Rattle.std.proofs.Common.{◌≡◌, List, [], ◌∷◌, length, drop, Option, Some, None, sym, ◌∙◌, refl, ap, arith}
use Rattle.std.specs.Vec.Iter.{into_iter_items, into_iter_steps}
use Rattle.std.specs.declared.vec.IntoIter.{IntoIter}

none_left : {X : Type 0} (xs : List X) → length xs ≡ 0 → xs ≡ []
none_left [] empty = refl
none_left (x ∷ xs) empty = absurd (omega (arith, empty))

pub behind_first : {X A : Type 0} (before now : IntoIter X A) (first : Option X) → into_iter_steps before first now → into_iter_items now ≡ drop 1 (into_iter_items before)
behind_first before now None steps =
    none_left _ (sym now.rest.ok.0 ∙ steps.1) ∙ ap (drop 1) (sym (none_left _ (sym before.rest.ok.0 ∙ steps.0)))
behind_first before now (Some x) steps = ap (drop 1) (sym steps.0)
