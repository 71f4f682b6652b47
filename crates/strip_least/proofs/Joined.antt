-- A pass takes in another.
use Rattle.std.proofs.Common.{◌≡◌, ◌≢◌, ℕ, ◌<◌, ◌≤◌, List, [], set, inl, inr, refl, sym, ap, ◌∙◌, arith}
use Rattle.std.specs.Prelude.{⊤}
use Rattle.std.proofs.lemmas.Bool.{cases_eq, or_cases}
use mathlib.Core.Option.{some, some-injective}
use lib.ListN.{get_elem?}
use Rattle.atomic_table.specs.Table.{Joins}
use Rattle.atomic_table.proofs.Lists.{set_else}
use Rattle.strip_mask.proofs.Lists.{count-append}
use Rattle.strip_least.specs.declared.course.Course.{Course}
use Rattle.strip_least.specs.declared.view.View.{View}
use Rattle.strip_least.specs.Rule.{Fits, HasBest, IsKept, ended_weight, times, weight_of}
use Rattle.strip_least.specs.Steps.{joined, spent_view}
use Rattle.strip_least.proofs.Views.{each_put, ended_weight-joined, put_here, total-put}

-- where one of the two had the least, the joined view has it
best_joined : (views : List View) (least id other : ℕ) (me w : View) → get_elem? views id ≡ some me → get_elem? views other ≡ some w → other ≢ id → 0 < me.weight
    → least ≤ me.best → least ≤ w.best → HasBest least views → HasBest least (set (set views id (joined me w)) other spent_view)
best_joined views least id other me w at there apart heavy mine theirs was =
    let v : View = joined me w in
    let here : get_elem? (set (set views id v) other spent_view) id ≡ some v
    = set_else (set views id v) other id spent_view (λ same. apart (sym same)) ∙ put_here views id me v at in
    elim (cases_eq was.id id) [
      | inl one ↦ (
          let same : me.best ≡ was.view.best = ap (λ (u : View). u.best) (some-injective me was.view (sym at ∙ (ap (get_elem? views) (sym one) ∙ was.here))) in
          record { id = id; view = v; here = here; some_weight = omega (arith, heavy); best = omega (arith, same, was.best, theirs) })
      | inr far ↦ elim (cases_eq was.id other) [
        | inl one ↦ (
            let same : w.best ≡ was.view.best = ap (λ (u : View). u.best) (some-injective w was.view (sym there ∙ (ap (get_elem? views) (sym one) ∙ was.here))) in
            record { id = id; view = v; here = here; some_weight = omega (arith, heavy); best = omega (arith, same, was.best, mine) })
        | inr further ↦ record {
          id = was.id;
          view = was.view;
          here = set_else (set views id v) other was.id spent_view further ∙ (set_else views id was.id v far ∙ was.here);
          some_weight = was.some_weight;
          best = was.best;
        }
      ]
    ]

fits_joined : (course : Course) (least next : ℕ) (me w : View) → Fits course least next me → Fits course least next w → Fits course least next (joined me w)
fits_joined course least next me w mine theirs = record {
  film = mine.film;
  start = mine.start;
  parts = mine.parts;
  told = omega (arith, mine.told, theirs.told);
  no_dearer = omega (arith, mine.no_dearer);
  best = omega (arith, mine.best, theirs.best);
  ended = λ is. elim (or_cases me.ended w.ended is) [
    | inl one ↦ mine.ended one
    | inr other ↦ theirs.ended other
  ];
}

pub joins : (course : Course) (id : ℕ) (me : View) (other : ℕ) (w : View) → 0 < me.weight → 0 < w.weight
    → Joins {S = ⊤} (IsKept course) id me other w (joined me w) spent_view
joins course id me other w heavy heavier s k at apart there =
    let v : View = joined me w in
    let mine = k.fits id me at heavy in
    let views : List View = set s.views id v in
    let at_other : get_elem? s.views other ≡ some w = sym (set_else s.views id other v apart) ∙ there in
    let theirs = k.fits other w at_other heavier in record {
      least = k.least;
      next = k.next;
      words = k.words;
      film = k.film;
      paid = k.paid;
      fits = each_put (λ u. 0 < u.weight → Fits course k.least k.next u) views other spent_view
          (each_put (λ u. 0 < u.weight → Fits course k.least k.next u) s.views id v k.fits (λ _. fits_joined course k.least k.next me w mine theirs))
          (λ some_. absurd (omega (arith, some_)));
      spent = each_put (λ u. u.weight ≡ 0 → u.claims ≡ []) views other spent_view
          (each_put (λ u. u.weight ≡ 0 → u.claims ≡ []) s.views id v k.spent (λ none. absurd (omega (arith, none, heavy))))
          (λ _. refl);
      best = best_joined s.views k.least id other me w at at_other apart heavy mine.best theirs.best k.best;
      whole = (
          let first = total-put weight_of s.views id me v at in
          let second = total-put weight_of views other w spent_view there in omega (arith, first, second, k.whole));
      claims = λ part. (
          let first = total-put (λ u. times part u.claims) s.views id me v at in
          let second = total-put (λ u. times part u.claims) views other w spent_view there in
          let both = count-append part me.claims w.claims in omega (arith, first, second, both, k.claims part));
      few = (
          let first = total-put ended_weight s.views id me v at in
          let second = total-put ended_weight views other w spent_view there in
          let both = ended_weight-joined me w in omega (arith, first, second, both, k.few));
      small = k.small;
    }
