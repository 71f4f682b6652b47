-- The words and the first view keep the rule.
use Rattle.std.proofs.Common.{◌≡◌, ℕ, zero, suc, ◌<◌, ◌≤◌, true, false, [], ◌∷◌, min, refl, sym, subst, arith}
use mathlib.Core.Option.{some, some-ne-none, some-injective}
use lib.ListN.{get_elem?}
use Rattle.atomic_table.specs.Table.{opening}
use Rattle.strip_film.specs.Film.{IsFilm}
use Rattle.strip_least.specs.declared.course.Course.{Course}
use Rattle.strip_least.specs.declared.view.View.{View}
use Rattle.strip_least.specs.Rule.{Fits, IsKept, IsPaid, first_view, full_weight}
use Rattle.strip_least.proofs.Claims.{once_below-out}

-- the one view of a new table
each_first : (P : View → Type 0) (first : View) → P first → (id : ℕ) (view : View) → get_elem? (first ∷ []) id ≡ some view → P view
each_first P first holds zero view at = subst P (some-injective first view at) holds
each_first P first holds (suc id) view at = absurd (some-ne-none view (sym at))

pub opens : (course : Course) → IsFilm course.film → IsPaid course.film course.start → course.parts ≤ full_weight
    → IsKept course (opening (course.start ∷ 0 ∷ []) [] (first_view course))
opens course is paid small = record {
  least = course.start;
  next = 0;
  words = refl;
  film = is;
  paid = paid;
  fits = each_first (λ u. 0 < u.weight → Fits course course.start 0 u) (first_view course) (λ _. record {
    film = refl;
    start = refl;
    parts = refl;
    told = omega arith;
    no_dearer = omega arith;
    best = omega arith;
    ended = λ same. absurd (let never : false ≡ true = same in cc);
  });
  spent = each_first (λ u. u.weight ≡ 0 → u.claims ≡ []) (first_view course) (λ _. refl);
  best = record { id = 0; view = first_view course; here = refl; some_weight = omega arith; best = refl };
  whole = omega arith;
  claims = λ part. sym (once_below-out part (min 0 course.parts) (omega arith));
  few = omega arith;
  small = small;
}
