-- Loads: the pass is told the least cost, or nothing but what it has.
use Rattle.std.proofs.Common.{◌≡◌, ℕ, ◌<◌, ◌≤◌, List, [], slice_set, set, refl, sym, ap, ◌∙◌, subst, arith}
use Rattle.std.specs.Prelude.{⊤, slice_index}
use mathlib.Core.Option.{some}
use lib.ListN.{get_elem?}
use Rattle.atomic_table.specs.Table.{Allows, Me, State, keeps}
use Rattle.strip_model.specs.Film.{FilmData}
use Rattle.strip_model.specs.Pay.{IsOptimum}
use Rattle.strip_film.specs.Film.{IsFilm, all_scenes}
use Rattle.strip_film.specs.Finish.{IsFinish}
use Rattle.strip_film.proofs.Optimum.{finish_from_optimum}
use Rattle.strip_least.specs.declared.course.Course.{Course}
use Rattle.strip_least.specs.declared.view.View.{View}
use Rattle.strip_least.specs.Rule.{Fits, IsKept, IsPaid, ended_weight, times, weight_of}
use Rattle.strip_least.specs.Steps.{HasLooked, Tells}
use Rattle.strip_least.proofs.Views.{best-put, each_put, total-put}

-- what a complete path paid is no less than the optimum
no_less : (film : FilmData) → IsFilm film → (cost : ℕ) → IsPaid film cost → (pay : ℕ) → IsOptimum film pay → pay ≤ cost
no_less film is cost (path, complete, pays) pay optimum =
    let finish : IsFinish film (all_scenes film) pay = finish_from_optimum film is pay optimum in
    let most = finish.least path.scenes (complete.0.remained, sym complete.0.left ∙ complete.1) in
    omega (arith, most, complete.0.steps, pays)

-- a pass may be told what a complete path paid, and what is no more than it was told
pub tells_paid : (course : Course) (view : View) (cost : ℕ) → IsFilm course.film → view.film ≡ course.film → cost ≤ view.told → view.told ≤ view.start → IsPaid course.film cost → Tells view cost
tells_paid course view cost is same no_more no_dearer paid = record {
  no_more = no_more;
  no_dearer = omega (arith, no_more, no_dearer);
  paid = subst (λ (film : FilmData). IsPaid film cost) (sym same) paid;
  no_less = λ pay optimum. no_less course.film is cost paid pay (subst (λ (film : FilmData). IsOptimum film pay) same optimum);
}

module _ (course : Course) (s : State ⊤ View) (k : IsKept course s) (id : ℕ) (me : View) (at : get_elem? s.views id ≡ some me) (heavy : 0 < me.weight) where
  -- the rule is kept where only the value told of one pass changes
  pub kept_told : (words : List ℕ) (told : ℕ) → words ≡ s.words → k.least ≤ told → told ≤ me.start
      → IsKept course (record { words = words; homes = s.homes; views = set s.views id (record me { told = told }) })
  kept_told words told same no_less no_dearer =
      let w : View = record me { told = told } in
      let mine = k.fits id me at heavy in record {
        least = k.least;
        next = k.next;
        words = same ∙ k.words;
        film = k.film;
        paid = k.paid;
        fits = each_put (λ u. 0 < u.weight → Fits course k.least k.next u) s.views id w k.fits (λ _. record {
          film = mine.film;
          start = mine.start;
          parts = mine.parts;
          told = no_less;
          no_dearer = no_dearer;
          best = mine.best;
          ended = mine.ended;
        });
        spent = each_put (λ u. u.weight ≡ 0 → u.claims ≡ []) s.views id w k.spent (λ none. absurd (omega (arith, none, heavy)));
        best = best-put s.views id me w k.least at heavy refl k.best;
        whole = (let put = total-put weight_of s.views id me w at in omega (arith, put, k.whole));
        claims = λ part. (let put = total-put (λ v. times part v.claims) s.views id me w at in omega (arith, put, k.claims part));
        few = (let put = total-put ended_weight s.views id me w at in omega (arith, put, k.few));
        small = k.small;
      }

  -- what the first word is, and that a load leaves it
  pub least_found : slice_index s.words 0 ≡ k.least
  least_found = ap (λ (words : List ℕ). slice_index words 0) k.words

  pub least_left : slice_set s.words 0 (slice_index s.words 0) ≡ s.words
  least_left = ap (λ (words : List ℕ). slice_set words 0 (slice_index words 0)) k.words ∙ sym k.words

  pub next_left : slice_set s.words 1 (slice_index s.words 1) ≡ s.words
  next_left = ap (λ (words : List ℕ). slice_set words 1 (slice_index words 1)) k.words ∙ sym k.words

  pub tells_least : Tells me k.least
  tells_least = (let mine = k.fits id me at heavy in tells_paid course me k.least k.film mine.film mine.told mine.no_dearer k.paid)

  -- the pass is told the least cost
  pub kept_looked : IsKept course (record { words = slice_set s.words 0 (slice_index s.words 0); homes = s.homes; views = set s.views id (record me { told = k.least }) })
  kept_looked =
      let mine = k.fits id me at heavy in
      kept_told (slice_set s.words 0 (slice_index s.words 0)) k.least least_left (omega arith) (omega (arith, mine.told, mine.no_dearer))

module _ (course : Course) (slots id : ℕ) (me : View) (heavy : 0 < me.weight) where
  looks : Allows {S = ⊤} (IsKept course) slots id (me, []) 0 (λ n. n) (λ found after. HasLooked me found after.0 × (after.1 ≡ []))
  looks s k homes at small =
      let found : slice_index s.words 0 ≡ k.least = least_found course s k id me at heavy in (
        record me { told = k.least },
        keeps,
        tt,
        kept_looked course s k id me at heavy,
        (record { only = λ i. record me { told = sym found i }; tells = subst (Tells me) (sym found) (tells_least course s k id me at heavy) }, refl),
      )

pub looks_at : (course : Course) (slots id : ℕ) (me : Me ⊤ View) → 0 < me.0.weight → me.1 ≡ []
    → Allows {S = ⊤} (IsKept course) slots id me 0 (λ n. n) (λ found after. HasLooked me.0 found after.0 × (after.1 ≡ me.1))
looks_at course slots id me heavy none =
    subst (λ (held : List (ℕ × ⊤)). Allows {S = ⊤} (IsKept course) slots id (me.0, held) 0 (λ n. n) (λ found after. HasLooked me.0 found after.0 × (after.1 ≡ held)))
    (sym none) (looks course slots id me.0 heavy)
