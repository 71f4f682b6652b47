-- An offer lowers the least cost to what the path paid, where that is less.
use Rattle.std.proofs.Common.{◌≡◌, ℕ, ◌<◌, ◌≤◌, List, [], min, slice_set, set, inl, inr, refl, sym, ap, ◌∙◌, subst, arith}
use Rattle.std.specs.Prelude.{⊤, slice_index}
use Rattle.std.proofs.lemmas.Bool.{cases_eq, cases_lt}
use mathlib.Core.Option.{some, some-injective}
use lib.ListN.{get_elem?}
use Rattle.atomic_table.specs.Table.{Allows, Me, State, keeps}
use Rattle.atomic_table.proofs.Lists.{set_else}
use Rattle.strip_model.specs.Film.{FilmData}
use Rattle.strip_least.specs.declared.course.Course.{Course}
use Rattle.strip_least.specs.declared.view.View.{View}
use Rattle.strip_least.specs.Rule.{Fits, HasBest, IsKept, IsPaid, ended_weight, times, weight_of}
use Rattle.strip_least.specs.Steps.{HasOffered, Tells}
use Rattle.strip_least.proofs.Views.{each_put, put_here, total-put}
use Rattle.strip_least.proofs.Told.{least_found, tells_least, tells_paid}

-- the lesser of two costs that were paid was paid
pub lesser_is_paid : (film : FilmData) (least paid : ℕ) → IsPaid film least → IsPaid film paid → IsPaid film (min least paid)
lesser_is_paid film least paid first second = elim (cases_lt paid least) [
  | inl cheaper ↦ subst (IsPaid film) (omega (arith, cheaper)) second
  | inr dearer ↦ subst (IsPaid film) (omega (arith, dearer)) first
]

-- a view fits a lesser cost too
lower : (course : Course) (least next paid : ℕ) (view : View) → Fits course least next view → Fits course (min least paid) next view
lower course least next paid view fits = record {
  film = fits.film;
  start = fits.start;
  parts = fits.parts;
  told = omega (arith, fits.told);
  no_dearer = fits.no_dearer;
  best = omega (arith, fits.best);
  ended = fits.ended;
}

-- the pass that offers has the best where the path is the cheapest, and else who had it has it
best_offered : (views : List View) (id least paid : ℕ) (me w : View) → get_elem? views id ≡ some me → 0 < w.weight → w.best ≡ min me.best paid → least ≤ me.best
    → HasBest least views → HasBest (min least paid) (set views id w)
best_offered views id least paid me w at heavy best no_better was = elim (cases_lt paid least) [
  | inl cheaper ↦ record { id = id; view = w; here = put_here views id me w at; some_weight = heavy; best = omega (arith, best, no_better, cheaper) }
  | inr dearer ↦ elim (cases_eq was.id id) [
    | inl one ↦ (
        let same : me.best ≡ was.view.best = ap (λ (u : View). u.best) (some-injective me was.view (sym at ∙ (ap (get_elem? views) (sym one) ∙ was.here))) in
        record { id = id; view = w; here = put_here views id me w at; some_weight = heavy; best = omega (arith, best, same, was.best, dearer) })
    | inr apart ↦ record {
      id = was.id;
      view = was.view;
      here = set_else views id was.id w apart ∙ was.here;
      some_weight = was.some_weight;
      best = omega (arith, was.best, dearer);
    }
  ]
]

module _ (course : Course) (slots id : ℕ) (me : View) (heavy : 0 < me.weight) (paid : ℕ) (is_paid : IsPaid me.film paid) where
  kept_offered : (s : State ⊤ View) (k : IsKept course s) → get_elem? s.views id ≡ some me
      → IsKept course (record { words = slice_set s.words 0 (min (slice_index s.words 0) paid); homes = s.homes; views = set s.views id (record me { told = min k.least paid; best = min me.best paid }) })
  kept_offered s k at =
      let w : View = record me { told = min k.least paid; best = min me.best paid } in
      let mine = k.fits id me at heavy in record {
        least = min k.least paid;
        next = k.next;
        words = ap (λ (words : List ℕ). slice_set words 0 (min (slice_index words 0) paid)) k.words;
        film = k.film;
        paid = lesser_is_paid course.film k.least paid k.paid (subst (λ (film : FilmData). IsPaid film paid) mine.film is_paid);
        fits = each_put (λ u. 0 < u.weight → Fits course (min k.least paid) k.next u) s.views id w (λ j u there some_. lower course k.least k.next paid u (k.fits j u there some_)) (λ _. record {
          film = mine.film;
          start = mine.start;
          parts = mine.parts;
          told = omega arith;
          no_dearer = omega (arith, mine.told, mine.no_dearer);
          best = omega (arith, mine.best);
          ended = mine.ended;
        });
        spent = each_put (λ u. u.weight ≡ 0 → u.claims ≡ []) s.views id w k.spent (λ none. absurd (omega (arith, none, heavy)));
        best = best_offered s.views id k.least paid me w at heavy refl mine.best k.best;
        whole = (let put = total-put weight_of s.views id me w at in omega (arith, put, k.whole));
        claims = λ part. (let put = total-put (λ v. times part v.claims) s.views id me w at in omega (arith, put, k.claims part));
        few = (let put = total-put ended_weight s.views id me w at in omega (arith, put, k.few));
        small = k.small;
      }

  offers : Allows {S = ⊤} (IsKept course) slots id (me, []) 0 (λ n. min n paid) (λ found after. HasOffered paid me (min found paid) after.0 × (after.1 ≡ []))
  offers s k homes at small =
      let found : slice_index s.words 0 ≡ k.least = least_found course s k id me at heavy in
      let mine = k.fits id me at heavy in
      let least_paid : IsPaid course.film (min k.least paid) = lesser_is_paid course.film k.least paid k.paid (subst (λ (film : FilmData). IsPaid film paid) mine.film is_paid) in (
        record me { told = min k.least paid; best = min me.best paid },
        keeps,
        tt,
        kept_offered s k at,
        (
          record {
            least = slice_index s.words 0;
            was = subst (Tells me) (sym found) (tells_least course s k id me at heavy);
            lesser = refl;
            only = λ i. record me { told = min (sym found i) paid; best = min me.best paid };
            tells = subst (λ (least : ℕ). Tells me (min least paid)) (sym found) (tells_paid course me (min k.least paid) k.film mine.film (omega (arith, mine.told)) mine.no_dearer least_paid);
          },
          refl,
        ),
      )

pub offers_at : (course : Course) (slots id : ℕ) (me : Me ⊤ View) (paid : ℕ) → 0 < me.0.weight → me.1 ≡ [] → IsPaid me.0.film paid
    → Allows {S = ⊤} (IsKept course) slots id me 0 (λ n. min n paid) (λ found after. HasOffered paid me.0 (min found paid) after.0 × (after.1 ≡ me.1))
offers_at course slots id me paid heavy none is_paid =
    subst (λ (held : List (ℕ × ⊤)). Allows {S = ⊤} (IsKept course) slots id (me.0, held) 0 (λ n. min n paid)
    (λ found after. HasOffered paid me.0 (min found paid) after.0 × (after.1 ≡ held)))
    (sym none) (offers course slots id me.0 heavy paid is_paid)
