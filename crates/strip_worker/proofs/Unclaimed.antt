-- How many parts a hand has no record of.
use Rattle.std.proofs.Common.{◌≡◌, ℕ, suc, ◌<◌, Option, Some, None, List, length, sym, ap, ◌∙◌, subst, arith}
use Rattle.strip_mask.specs.Sums.{sum_below}
use Rattle.strip_mask.proofs.Sums.{sum_below-point}
use Rattle.strip_film.specs.Path.{PathData}
use Rattle.strip_hand.specs.Calls.{Claims}
use Rattle.strip_hand.specs.Hand.{HandData, RecordData}
use Rattle.strip_worker.specs.Team.{WalksPart}

abbrev pub if_none : Option RecordData → ℕ
if_none None = 1
if_none (Some _) = 0

abbrev pub unclaimed : HandData → ℕ
unclaimed hand = sum_below (suc (length hand.search.tasks)) (λ part. if_none (hand.records part))

-- one less where a part was claimed, and walked or not
pub one_claimed : (before claimed after : HandData) (part : ℕ) → Claims before (Some part) claimed → WalksPart claimed part after
    → unclaimed after < unclaimed before
one_claimed before claimed after part claims walks =
    let count : suc (length claimed.search.tasks) ≡ suc (length before.search.tasks)
    = ap (λ (h : HandData). suc (length h.search.tasks)) claims.0 in
    let here : if_none (after.records part) ≡ 0
    = ap if_none (subst (λ (task : ℕ). after.records task ≡ Some (record { last = walks.1.last; number = walks.2.stands.0 })) walks.2.task walks.2.stands.1) in
    let step = sum_below-point (suc (length before.search.tasks)) part (λ p. if_none (after.records p)) (λ p. if_none (before.records p)) claims.1
    (λ other within apart. ap if_none (walks.2.others other (λ same. apart (sym same)) ∙ claims.4 other (λ same. apart (sym same)))) in
    let free : if_none (before.records part) ≡ 1 = ap if_none claims.2 in
    let all : unclaimed after ≡ sum_below (suc (length before.search.tasks)) (λ p. if_none (after.records p))
    = ap (λ (n : ℕ). sum_below n (λ p. if_none (after.records p))) (ap (λ (tasks : List PathData). suc (length tasks)) (ap (λ s. s.tasks) walks.2.search) ∙ count) in
    omega (arith, here, step, free, all)
