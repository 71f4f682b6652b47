-- A pass gives a weight of 1 to a new one.
use Rattle.std.proofs.Common.{◌≡◌, ℕ, ◌-◌, ◌<◌, ◌≤◌, List, [], set, refl, arith}
use Rattle.std.specs.Prelude.{⊤}
use Rattle.atomic_table.specs.Table.{Splits}
use Rattle.strip_least.specs.declared.course.Course.{Course}
use Rattle.strip_least.specs.declared.view.View.{View}
use Rattle.strip_least.specs.Rule.{Fits, IsKept, ended_weight, times, weight_of}
use Rattle.strip_least.specs.Steps.{lightened, split_off}
use Rattle.strip_least.proofs.Views.{best-pushed, best-put, each_pushed, each_put, ended_weight-parted, total-push, total-put}

-- what a view fits, one that differs in weight and claims alone fits too
reweighed : (course : Course) (least next : ℕ) (view : View) (weight : ℕ) (claims : List ℕ) → Fits course least next view
    → Fits course least next (record view { weight = weight; claims = claims })
reweighed course least next view weight claims fits = record {
  film = fits.film;
  start = fits.start;
  parts = fits.parts;
  told = fits.told;
  no_dearer = fits.no_dearer;
  best = fits.best;
  ended = fits.ended;
}

pub splits : (course : Course) (id : ℕ) (me : View) → 2 ≤ me.weight → Splits {S = ⊤} (IsKept course) id me (lightened me) (split_off me)
splits course id me enough s k at =
    let heavy : 0 < me.weight = omega (arith, enough) in
    let mine = k.fits id me at heavy in
    let left : 0 < me.weight - 1 = omega (arith, enough) in
    let views : List View = set s.views id (lightened me) in record {
      least = k.least;
      next = k.next;
      words = k.words;
      film = k.film;
      paid = k.paid;
      fits = each_pushed (λ u. 0 < u.weight → Fits course k.least k.next u) views (split_off me)
          (each_put (λ u. 0 < u.weight → Fits course k.least k.next u) s.views id (lightened me) k.fits (λ _. reweighed course k.least k.next me (me.weight - 1) me.claims mine))
          (λ _. reweighed course k.least k.next me 1 [] mine);
      spent = each_pushed (λ u. u.weight ≡ 0 → u.claims ≡ []) views (split_off me)
          (each_put (λ u. u.weight ≡ 0 → u.claims ≡ []) s.views id (lightened me) k.spent (λ none. absurd (omega (arith, none, left))))
          (λ _. refl);
      best = best-pushed views (split_off me) k.least (best-put s.views id me (lightened me) k.least at left refl k.best);
      whole = (
          let put = total-put weight_of s.views id me (lightened me) at in
          let push = total-push weight_of views (split_off me) in omega (arith, put, push, enough, k.whole));
      claims = λ part. (
          let put = total-put (λ v. times part v.claims) s.views id me (lightened me) at in
          let push = total-push (λ v. times part v.claims) views (split_off me) in omega (arith, put, push, k.claims part));
      few = (
          let put = total-put ended_weight s.views id me (lightened me) at in
          let push = total-push ended_weight views (split_off me) in
          let both = ended_weight-parted me heavy in omega (arith, put, push, both, k.few));
      small = k.small;
    }
