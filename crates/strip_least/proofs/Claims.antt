-- Lists of claims, and what is known of those of one pass.
use Rattle.std.proofs.Common.{◌≡◌, ℕ, ◌+◌, ◌<◌, ◌≤◌, false, cond, ltb, eqb, List, [], ◌∷◌, All, min, length, inl, inr, sym, ap, ◌∙◌, arith}
use Rattle.std.specs.Prelude.{⊤}
use Rattle.std.proofs.lemmas.Bool.{cases_lt, cond-true, cond-false, lt-ltb, le-ltb}
use Rattle.std.proofs.lemmas.List.Elements.{All-cons, All-nil}
use mathlib.Core.Option.{some}
use lib.ListN.{get_elem?}
use Rattle.atomic_table.specs.Table.{State}
use Rattle.strip_mask.proofs.Lists.{count-cons, count_here}
use Rattle.strip_model.proofs.Counts.{length-order}
use Rattle.strip_least.specs.declared.course.Course.{Course}
use Rattle.strip_least.specs.declared.view.View.{View}
use Rattle.strip_least.specs.Rule.{IsKept, ended_weight, full_weight, once_below, times, total}
use Rattle.strip_least.specs.Steps.{AreOnce}
use Rattle.strip_least.proofs.Views.{ended_weight-none, ended_weight-spent, total-alone, total-one}

pub once_below-in : (part end : ℕ) → part < end → once_below part end ≡ 1
once_below-in part end below = cond-true (ltb part end) 1 0 (lt-ltb part end below)

pub once_below-out : (part end : ℕ) → end ≤ part → once_below part end ≡ 0
once_below-out part end beyond = cond-false (ltb part end) 1 0 (le-ltb part end beyond)

pub once_below-most : (part end : ℕ) → once_below part end ≤ 1
once_below-most part end = elim (cases_lt part end) [
  | inl below ↦ omega (arith, once_below-in part end below)
  | inr beyond ↦ omega (arith, once_below-out part end beyond)
]

pub once_below-suc : (part end : ℕ) → once_below part (end + 1) ≡ once_below part end + cond {A = ℕ} (eqb end part) 1 0
once_below-suc part end = grind (arith)

-- ---- a list that has each number below some number once is as long

all_below : (end : ℕ) (claims : List ℕ) → ((part : ℕ) → 0 < times part claims → part < end) → All (λ part. part < end) claims
all_below end [] below = All-nil (λ part. part < end)
all_below end (x ∷ xs) below =
    All-cons (λ part. part < end) x xs (below x (omega (arith, count_here x xs)))
    (all_below end xs (λ part some_. below part (omega (arith, some_, count-cons part x xs))))

pub length-once : (end : ℕ) (claims : List ℕ) → ((part : ℕ) → times part claims ≡ once_below part end) → length claims ≡ end
length-once end claims once =
    length-order end claims (record {
      known = all_below end claims (λ part some_. elim (cases_lt part end) [
        | inl below ↦ below
        | inr beyond ↦ absurd (omega (arith, some_, once part, once_below-out part end beyond))
      ]);
      once = λ part below. once part ∙ once_below-in part end below;
    })

-- ---- the claims of one pass

module _ (course : Course) (s : State ⊤ View) (k : IsKept course s) (id : ℕ) (me : View) (at : get_elem? s.views id ≡ some me) where
  own_few : (part : ℕ) → times part me.claims ≤ once_below part (min k.next course.parts)
  own_few part = (let one = total-one (λ v. times part v.claims) s.views id me at in omega (arith, one, k.claims part))

  -- none stands twice, and the next one isn't among them
  pub own_once : AreOnce me.claims
  own_once part = omega (arith, own_few part, once_below-most part (min k.next course.parts))

  pub own_fresh : times k.next me.claims ≡ 0
  own_fresh = omega (arith, own_few k.next, once_below-out k.next (min k.next course.parts) (omega arith))

  module _ (whole : me.weight ≡ full_weight) where
    -- a pass with all the weight has all claims
    pub own_claims : (part : ℕ) → times part me.claims ≡ once_below part (min k.next course.parts)
    own_claims part =
        sym (total-alone (λ v. times part v.claims) s.views id me at (k.whole ∙ sym whole) (λ j u there none. ap (times part) (k.spent j u there none))) ∙ k.claims part

    -- while it hasn't ended, the next part is at most the number of parts, and the length of its claims
    pub own_next : me.ended ≡ false → k.next ≤ course.parts
    own_next unended =
        let none : total ended_weight s.views ≡ ended_weight me
        = total-alone ended_weight s.views id me at (k.whole ∙ sym whole) (λ j u there spent. ended_weight-spent u spent) in
        omega (arith, none, ended_weight-none me unended, k.few)

    pub own_length : me.ended ≡ false → length me.claims ≡ k.next
    own_length unended =
        let most : min k.next course.parts ≡ k.next = omega (arith, own_next unended) in
        length-once k.next me.claims (λ part. own_claims part ∙ ap (once_below part) most)
