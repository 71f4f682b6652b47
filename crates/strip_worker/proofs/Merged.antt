-- What two hands found is found by one that went on from both.
use Rattle.std.proofs.Common.{◌≡◌, ℕ, suc, ◌<◌, max, Bool, false, ◌||◌, List, length, inl, inr, ◌∙◌, arith}
use Rattle.std.specs.Prelude.{slice_index}
use Rattle.std.proofs.Math.Nat.{max-le, le-max_left, le-max_right}
use Rattle.strip_hand.specs.Hand.{HandData}
use Rattle.strip_front.specs.Calls.{AreFound}
use Rattle.strip_front.specs.Front.{FrontData}
use Rattle.strip_worker.specs.Team.{HasWorked, ReachFound, TakesOver}
use Rattle.strip_worker.proofs.Moved.{carried, cut_still, found_still}
use Rattle.strip_worker.proofs.Settled.{both_false, one_true}

module _ (one other both : HandData) (front : FrontData) (found others more : List ℕ) (spent spent_other short : Bool)
    (was : HasWorked one front found spent) (was_other : HasWorked other front others spent_other) (takes : TakesOver one other both)
    (long : length more ≡ length found)
    (greater : (task : ℕ) → task < length found → slice_index more task ≡ max (slice_index found task) (slice_index others task))
    (by : short ≡ (spent || spent_other)) where
  known_then : AreFound both front more
  known_then task within wanted =
      omega (
        arith,
        greater task (omega (arith, within, was.long)),
        max-le (found_still one both takes.first front found was.known task within wanted) (found_still other both takes.second front others was_other.known task within wanted),
      )

  reach_then : spent ≡ false → spent_other ≡ false → ReachFound both front more
  reach_then not not_other task within wanted recorded =
      let most = greater task (omega (arith, within, was.long)) in
      elim (takes.records (suc task) recorded) [
        | inl mine ↦ omega (arith, takes.first.told, was.reach not task within wanted mine, most, le-max_left (slice_index found task) (slice_index others task))
        | inr theirs ↦ omega (arith, takes.second.told, was_other.reach not_other task within wanted theirs, most, le-max_right (slice_index found task) (slice_index others task))
      ]

  pub merged : HasWorked both front more short
  merged =
      carried one both takes.first front found more spent short was (long ∙ was.long) known_then
      (λ not. (both_false spent spent_other short by not).0)
      (λ not. (let each = both_false spent spent_other short by not in reach_then each.0 each.1))
      (λ so. elim (one_true spent spent_other short by so) [ inl mine ↦ was.root mine | inr theirs ↦ was_other.root theirs ])
      (λ so. elim (one_true spent spent_other short by so) [
        | inl mine ↦ cut_still one both takes.first takes.few (was.cut mine)
        | inr theirs ↦ cut_still other both takes.second takes.few (was_other.cut theirs)
      ])
