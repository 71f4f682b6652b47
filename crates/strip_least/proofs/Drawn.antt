-- A draw takes the next part, or finds that none is left.
use Rattle.std.proofs.Common.{◌≡◌, ℕ, ◌+◌, ◌%◌, ◌<◌, ◌≤◌, true, false, List, [], ◌∷◌, min, slice_set, set, inl, inr, refl, sym, ap, ◌∙◌, subst, arith}
use Rattle.std.specs.Prelude.{⊤, slice_index}
use Rattle.std.proofs.lemmas.Bool.{cases_lt}
use mathlib.Core.Option.{some}
use lib.ListN.{get_elem?}
use Rattle.atomic_table.specs.Table.{Allows, Me, State, keeps}
use Rattle.strip_model.proofs.Counts.{count-push}
use Rattle.strip_least.specs.declared.course.Course.{Course}
use Rattle.strip_least.specs.declared.view.View.{View}
use Rattle.strip_least.specs.Rule.{Fits, IsKept, ended_weight, once_below, times, total, weight_of}
use Rattle.strip_least.specs.Steps.{HasDrawn, with_claim}
use Rattle.strip_least.proofs.Views.{best-put, each_put, ended_weight-most, ended_weight-none, total-put}
use Rattle.strip_least.proofs.Claims.{once_below-suc, own_fresh, own_length, own_next}

-- a view fits a later next part too
later : (course : Course) (least next : ℕ) (view : View) → Fits course least next view → Fits course least (next + 1) view
later course least next view fits = record {
  film = fits.film;
  start = fits.start;
  parts = fits.parts;
  told = fits.told;
  no_dearer = fits.no_dearer;
  best = fits.best;
  ended = λ is. omega (arith, fits.ended is);
}

module _ (course : Course) (s : State ⊤ View) (k : IsKept course s) (id : ℕ) (me : View) (at : get_elem? s.views id ≡ some me) (heavy : 0 < me.weight) (unended : me.ended ≡ false) where
  abbrev drawn : List ℕ
  drawn = slice_set s.words 1 ((slice_index s.words 1 + 1) % 18446744073709551616)

  next_found : slice_index s.words 1 ≡ k.next
  next_found = ap (λ (words : List ℕ). slice_index words 1) k.words

  same_parts : me.parts ≡ course.parts
  same_parts = (k.fits id me at heavy).parts

  -- the word is far from its limit, since each pass ends once
  no_wrap : (k.next + 1) % 18446744073709551616 ≡ k.next + 1
  no_wrap = (let most = ended_weight-most s.views in omega (arith, k.few, k.small, k.whole, most))

  words_drawn : drawn ≡ k.least ∷ (k.next + 1) ∷ []
  words_drawn = ap (λ (words : List ℕ). slice_set words 1 ((slice_index words 1 + 1) % 18446744073709551616)) k.words ∙ ap (λ (n : ℕ). k.least ∷ n ∷ []) no_wrap

  fits_later : (j : ℕ) (u : View) → get_elem? s.views j ≡ some u → 0 < u.weight → Fits course k.least (k.next + 1) u
  fits_later j u there some_ = later course k.least k.next u (k.fits j u there some_)

  kept_claimed : k.next < course.parts → IsKept course (record { words = drawn; homes = s.homes; views = set s.views id (with_claim me k.next) })
  kept_claimed left =
      let w : View = with_claim me k.next in
      let mine = fits_later id me at heavy in record {
        least = k.least;
        next = k.next + 1;
        words = words_drawn;
        film = k.film;
        paid = k.paid;
        fits = each_put (λ u. 0 < u.weight → Fits course k.least (k.next + 1) u) s.views id w fits_later (λ _. record {
          film = mine.film;
          start = mine.start;
          parts = mine.parts;
          told = mine.told;
          no_dearer = mine.no_dearer;
          best = mine.best;
          ended = mine.ended;
        });
        spent = each_put (λ u. u.weight ≡ 0 → u.claims ≡ []) s.views id w k.spent (λ none. absurd (omega (arith, none, heavy)));
        best = best-put s.views id me w k.least at heavy refl k.best;
        whole = (let put = total-put weight_of s.views id me w at in omega (arith, put, k.whole));
        claims = λ part. (
            let put = total-put (λ v. times part v.claims) s.views id me w at in
            let push = count-push part k.next me.claims in
            let more = once_below-suc part k.next in
            let first : min k.next course.parts ≡ k.next = omega (arith, left) in
            let then_ : min (k.next + 1) course.parts ≡ k.next + 1 = omega (arith, left) in
            let was : total (λ v. times part v.claims) s.views ≡ once_below part k.next = k.claims part ∙ ap (once_below part) first in
            omega (arith, put, push, more, was) ∙ ap (once_below part) (sym then_));
        few = omega (arith, left);
        small = k.small;
      }

  kept_ended : course.parts ≤ k.next → IsKept course (record { words = drawn; homes = s.homes; views = set s.views id (record me { ended = true }) })
  kept_ended none_left =
      let w : View = record me { ended = true } in
      let mine = fits_later id me at heavy in record {
        least = k.least;
        next = k.next + 1;
        words = words_drawn;
        film = k.film;
        paid = k.paid;
        fits = each_put (λ u. 0 < u.weight → Fits course k.least (k.next + 1) u) s.views id w fits_later (λ _. record {
          film = mine.film;
          start = mine.start;
          parts = mine.parts;
          told = mine.told;
          no_dearer = mine.no_dearer;
          best = mine.best;
          ended = λ _. omega (arith, none_left);
        });
        spent = each_put (λ u. u.weight ≡ 0 → u.claims ≡ []) s.views id w k.spent (λ none. absurd (omega (arith, none, heavy)));
        best = best-put s.views id me w k.least at heavy refl k.best;
        whole = (let put = total-put weight_of s.views id me w at in omega (arith, put, k.whole));
        claims = λ part. (
            let put = total-put (λ v. times part v.claims) s.views id me w at in
            let same : min k.next course.parts ≡ min (k.next + 1) course.parts = omega (arith, none_left) in
            let was : total (λ v. times part v.claims) s.views ≡ once_below part (min (k.next + 1) course.parts) = k.claims part ∙ ap (once_below part) same in
            omega (arith, put, was));
        few = (let put = total-put ended_weight s.views id me w at in omega (arith, put, ended_weight-none me unended, heavy, k.few));
        small = k.small;
      }

  -- what a pass is told that drew a part, and one that found none
  tells_claimed : k.next < course.parts → HasDrawn me k.next (with_claim me k.next)
  tells_claimed left = record {
    claimed = λ below. record {
      unended = unended;
      below = below;
      fresh = own_fresh course s k id me at;
      only = refl;
      next = λ whole. sym (own_length course s k id me at whole unended);
    };
    none_left = λ none. absurd (omega (arith, none, left, same_parts));
  }

  tells_ended : course.parts ≤ k.next → HasDrawn me k.next (record me { ended = true })
  tells_ended none_left = record {
    claimed = λ below. absurd (omega (arith, below, none_left, same_parts));
    none_left = λ none. record {
      only = refl;
      all = λ _ whole.
          let long = own_length course s k id me at whole unended in
          let most = own_next course s k id me at whole unended in
          omega (arith, long, most, none_left, same_parts);
    };
  }

  pub draws_here : (w : View) × (IsKept course (record { words = drawn; homes = s.homes; views = set s.views id w }) × HasDrawn me (slice_index s.words 1) w)
  draws_here = elim (cases_lt k.next course.parts) [
    | inl left ↦ (with_claim me k.next, (kept_claimed left, subst (λ (n : ℕ). HasDrawn me n (with_claim me k.next)) (sym next_found) (tells_claimed left)))
    | inr none_left ↦ (record me { ended = true }, (kept_ended none_left, subst (λ (n : ℕ). HasDrawn me n (record me { ended = true })) (sym next_found) (tells_ended none_left)))
  ]

draws : (course : Course) (slots id : ℕ) (me : View) → 0 < me.weight → me.ended ≡ false
    → Allows {S = ⊤} (IsKept course) slots id (me, []) 1 (λ n. (n + 1) % 18446744073709551616) (λ found after. HasDrawn me found after.0 × (after.1 ≡ []))
draws course slots id me heavy unended s k homes at small =
    let here = draws_here course s k id me at heavy unended in (here.0, keeps, tt, here.1.0, (here.1.1, refl))

pub draws_at : (course : Course) (slots id : ℕ) (me : Me ⊤ View) → 0 < me.0.weight → me.1 ≡ [] → me.0.ended ≡ false
    → Allows {S = ⊤} (IsKept course) slots id me 1 (λ n. (n + 1) % 18446744073709551616) (λ found after. HasDrawn me.0 found after.0 × (after.1 ≡ me.1))
draws_at course slots id me heavy none unended =
    subst (λ (held : List (ℕ × ⊤)). Allows {S = ⊤} (IsKept course) slots id (me.0, held) 1 (λ n. (n + 1) % 18446744073709551616)
    (λ found after. HasDrawn me.0 found after.0 × (after.1 ≡ held)))
    (sym none) (draws course slots id me.0 heavy unended)
