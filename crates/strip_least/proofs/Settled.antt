-- Loads that tell a pass of its own claims, and a pass of full weight that nothing is missing.
use Rattle.std.proofs.Common.{◌≡◌, ℕ, ◌<◌, List, [], min, slice_set, refl, sym, ap, ◌∙◌, subst, arith}
use Rattle.std.specs.Prelude.{⊤, slice_index}
use Rattle.atomic_table.specs.Table.{Allows, Me, keeps}
use Rattle.strip_least.specs.declared.course.Course.{Course}
use Rattle.strip_least.specs.declared.view.View.{View}
use Rattle.strip_least.specs.Rule.{IsKept, once_below}
use Rattle.strip_least.specs.Steps.{HasCounted, HasSettled, Tells}
use Rattle.strip_least.proofs.Views.{alone}
use Rattle.strip_least.proofs.Claims.{own_claims, own_once}
use Rattle.strip_least.proofs.Told.{kept_looked, kept_told, least_found, next_left, tells_least}

module _ (course : Course) (slots id : ℕ) (me : View) (heavy : 0 < me.weight) where
  counts : Allows {S = ⊤} (IsKept course) slots id (me, []) 1 (λ n. n) (λ found after. HasCounted me after.0 × (after.1 ≡ []))
  counts s k homes at small =
      let mine = k.fits id me at heavy in (
        me,
        keeps,
        tt,
        kept_told course s k id me at heavy (slice_set s.words 1 (slice_index s.words 1)) me.told (next_left course s k id me at heavy) mine.told mine.no_dearer,
        (record { only = refl; once = own_once course s k id me at }, refl),
      )

  settles : Allows {S = ⊤} (IsKept course) slots id (me, []) 0 (λ n. n) (λ found after. HasSettled me found after.0 × (after.1 ≡ []))
  settles s k homes at small =
      let mine = k.fits id me at heavy in
      let found : slice_index s.words 0 ≡ k.least = least_found course s k id me at heavy in (
        record me { told = k.least },
        keeps,
        tt,
        kept_looked course s k id me at heavy,
        (
          record {
            only = λ i. record me { told = sym found i };
            tells = subst (Tells me) (sym found) (tells_least course s k id me at heavy);
            best = λ whole.
                let here : k.best.view ≡ me = alone s.views id k.best.id me k.best.view at (k.whole ∙ sym whole) k.best.here k.best.some_weight in
                ap (λ (u : View). u.best) (sym here) ∙ k.best.best ∙ sym found;
            each = λ whole ended part.
                let all : min k.next course.parts ≡ course.parts = omega (arith, mine.ended ended) in
                own_claims course s k id me at whole part ∙ ap (once_below part) (all ∙ sym mine.parts);
          },
          refl,
        ),
      )

module _ (course : Course) (slots id : ℕ) (me : Me ⊤ View) (heavy : 0 < me.0.weight) (none : me.1 ≡ []) where
  pub counts_at : Allows {S = ⊤} (IsKept course) slots id me 1 (λ n. n) (λ found after. HasCounted me.0 after.0 × (after.1 ≡ me.1))
  counts_at =
      subst (λ (held : List (ℕ × ⊤)). Allows {S = ⊤} (IsKept course) slots id (me.0, held) 1 (λ n. n) (λ found after. HasCounted me.0 after.0 × (after.1 ≡ held)))
      (sym none) (counts course slots id me.0 heavy)

  pub settles_at : Allows {S = ⊤} (IsKept course) slots id me 0 (λ n. n) (λ found after. HasSettled me.0 found after.0 × (after.1 ≡ me.1))
  settles_at =
      subst (λ (held : List (ℕ × ⊤)). Allows {S = ⊤} (IsKept course) slots id (me.0, held) 0 (λ n. n) (λ found after. HasSettled me.0 found after.0 × (after.1 ≡ held)))
      (sym none) (settles course slots id me.0 heavy)
