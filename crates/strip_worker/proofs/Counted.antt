-- Lines that are counted by a hand's records.
use Rattle.std.proofs.Common.{◌≡◌, ◌≢◌, ℕ, zero, suc, ◌+◌, ◌<◌, ◌≤◌, Option, Some, None, List, length, refl, sym, ap, subst, arith}
use Rattle.std.specs.Option.{option_map, unwrap_or}
use Rattle.strip_mask.specs.Sums.{sum_below}
use Rattle.strip_mask.proofs.Sums.{sum_below-suc, sum_below-zero}
use Rattle.strip_film.specs.declared.shared.Line.{Line}
use Rattle.strip_film.specs.Path.{PathData}
use Rattle.strip_lines.specs.Paths.{ComesAfter, candidate_count}
use Rattle.strip_lines.proofs.Shares.{is_candidate_from, lines_room}
use Rattle.strip_hand.specs.Hand.{HandData, IsHand, RecordData, no_path_yet}
use Rattle.strip_hand.specs.Search.{depth_of, search_rules}
use Rattle.strip_hand.proofs.Apart.{tasks_apart}
use Rattle.strip_worker.specs.Closed.{AreCountedBy, record_in}
use Rattle.strip_worker.specs.Team.{IsCut, OwnsFront}

-- where all values but the first are 0, the sum is the first at most
only_first : (n : ℕ) (f : ℕ → ℕ) → ((i : ℕ) → 0 < i → i < suc n → f i ≡ 0) → sum_below (suc n) f ≤ f 0
only_first zero f none = omega (arith, sum_below-suc 0 f, sum_below-zero f)
only_first (suc n) f none =
    omega (arith, sum_below-suc (suc n) f, none (suc n) (omega arith) (omega arith), only_first n f (λ i some within. none i some (omega (arith, within))))

number_is_count : (entry : Option RecordData) → (unwrap_or entry no_path_yet).number ≡ unwrap_or (option_map (λ (e : RecordData). e.number) entry) 0
number_is_count None = refl
number_is_count (Some entry) = refl

-- where the hand has a record of the front alone, all lines are of its own making there
pub front_has_all : (hand : HandData) → AreCountedBy hand hand.lines → ((part : ℕ) → part ≢ 0 → hand.records part ≡ None) → OwnsFront hand
front_has_all hand counts others =
    let most : sum_below (suc (length hand.search.tasks)) (λ part. (record_in hand part).number) ≤ (record_in hand 0).number
    = only_first (length hand.search.tasks) (λ part. (record_in hand part).number)
    (λ part some within. ap (λ (entry : Option RecordData). (unwrap_or entry no_path_yet).number) (others part (λ is. omega (arith, is, some)))) in
    omega (arith, most, counts.total, number_is_count (hand.records 0))

-- where the search was cut short, there are more candidates than lines
pub cut_has_more : (hand : HandData) (lines : List Line) → IsHand hand → AreCountedBy hand lines → IsCut hand
    → length lines + 1 ≤ candidate_count (search_rules hand.search) hand.search.start
cut_has_more hand lines limits counts cut =
    let last : cut.entry.last ≡ (record_in hand cut.part).last
    = sym (ap (λ (entry : Option RecordData). (unwrap_or entry no_path_yet).last) cut.recorded) in
    lines_room (search_rules hand.search) hand.search.start (depth_of hand.search) hand.search.tasks limits.film
    (tasks_apart hand.search limits.tasks) lines (λ part. (record_in hand part).last) (λ part. (record_in hand part).number) counts cut.part cut.path
    (limits.records cut.part cut.entry cut.recorded).known (cut.is_open.0, cut.some)
    (subst (λ (path : Option PathData). ComesAfter (search_rules hand.search) path cut.path) last cut.later) cut.lies
    (is_candidate_from (search_rules hand.search) hand.search.start cut.path (cut.is_open, cut.below))
