-- A part was claimed, and its task is walked, or passed over where it isn't asked for.
use Rattle.std.proofs.Common.{◌≡◌, ◌≢◌, ℕ, suc, ◌+◌, ◌<◌, ◌≤◌, Bool, true, false, ◌||◌, ◌⊎◌, Option, Some, None, Ok, List, length, slice_set, slice_index, inl, inr, refl, sym, ap, ◌∙◌, subst, arith}
use Rattle.std.specs.Prelude.{IsSome}
use Rattle.std.proofs.lemmas.Bool.{cases_eq}
use Rattle.std.proofs.lemmas.List.{length-set, get_or-set_same, get_or-set_other}
use Rattle.strip_film.specs.Shown.{CursorData}
use Rattle.strip_lines.specs.Lines.{known}
use Rattle.strip_hand.specs.Calls.{Claims}
use Rattle.strip_hand.specs.Hand.{HandData}
use Rattle.strip_hand.specs.Search.{search_rules}
use Rattle.strip_front.specs.Calls.{AreFound}
use Rattle.strip_front.specs.Front.{FrontData, is_wanted, line_of, root_of, task_at}
use Rattle.strip_front.specs.Filled.{IsFilled}
use Rattle.strip_walk.specs.declared.found.Found.{Found}
use Rattle.strip_walk.specs.Found.{IsCutShort, IsFound}
use Rattle.strip_walk.proofs.Bounds.{bound_known}
use Rattle.strip_worker.specs.Team.{GoesOn, HasWorked, IsCut, ReachFound, WalksTask}
use Rattle.strip_worker.proofs.Moved.{carried, cut_still, found_still, goes_claimed, goes_walked, moved}

-- what is there is some number
pub some_of : (x : Option ℕ) → IsSome x → (n : ℕ) × (x ≡ Some n)
some_of None is = absurd (let e : false ≡ true = is in cc)
some_of (Some n) is = (n, refl)

-- what is found of one more task, where it is at most what is known
pub found_with : (hand : HandData) (front : FrontData) (found : List ℕ) (task bound : ℕ) → task < length found
    → bound ≤ known (search_rules hand.search) hand.lines (task_at front task).rest → AreFound hand front found
    → AreFound hand front (slice_set found task bound)
found_with hand front found task bound within most was other inside asked = elim (cases_eq other task) [
  | inl same ↦ subst (λ (t : ℕ). slice_index (slice_set found task bound) t ≤ known (search_rules hand.search) hand.lines (task_at front t).rest) (sym same)
      (omega (arith, most, get_or-set_same found task bound 0 within))
  | inr apart ↦ omega (arith, was other inside asked, get_or-set_other found task other bound 0 apart)
]

-- the empty path has a line where a task is asked for
pub wanted_root : (hand : HandData) (front : FrontData) (task : ℕ) → IsFilled hand front → task < length front.tasks → is_wanted front task ≡ true
    → IsSome (root_of front)
wanted_root hand front task filled within wanted =
    let follows = (filled.wanted task within).0 wanted in
    let line = some_of (line_of front follows.0) follows.2 in
    (filled.lines follows.0 line.0 follows.1 line.1).0

pub both_false : (a b c : Bool) → c ≡ (a || b) → c ≡ false → (a ≡ false) × (b ≡ false)
both_false false b c is not = (refl, sym is ∙ not)
both_false true b c is not = absurd (let e : true ≡ false = sym is ∙ not in cc)

pub one_true : (a b c : Bool) → c ≡ (a || b) → c ≡ true → (a ≡ true) ⊎ (b ≡ true)
one_true false b c is so = inr (sym is ∙ so)
one_true true b c is so = inl refl

next_apart : (other task : ℕ) → other ≢ task → suc other ≢ suc task
next_apart other task apart same = apart (omega (arith, same))

-- a part is passed over that is the front, or whose task isn't asked for
pub passed : (before claimed : HandData) (front : FrontData) (found : List ℕ) (part : ℕ) (spent : Bool) → HasWorked before front found spent
    → Claims before (Some part) claimed → length claimed.lines ≤ claimed.search.nodes → ((task : ℕ) → part ≡ suc task → is_wanted front task ≡ false)
    → HasWorked claimed front found spent
passed before claimed front found part spent was claims few unwanted =
    moved before claimed (goes_claimed before claimed part claims) front found spent was (λ so. few)
    (λ not task within wanted recorded. elim (cases_eq (suc task) part) [
      | inl same ↦ absurd (let e : true ≡ false = sym wanted ∙ unwanted task (sym same) in cc)
      | inr apart ↦ omega (arith, ap (λ (h : HandData). h.told) claims.0, was.reach not task within wanted (subst IsSome (claims.4 (suc task) apart) recorded))
    ])

module _ (before claimed after : HandData) (front : FrontData) (found : List ℕ) (task : ℕ) (spent : Bool) (answer : Found)
    (was : HasWorked before front found spent) (claims : Claims before (Some (suc task)) claimed)
    (walks : WalksTask claimed (suc task) (task_at front task) (Ok answer) after) (few : length after.lines ≤ after.search.nodes)
    (within : task < length front.tasks) (wanted : is_wanted front task ≡ true) where
  abbrev cursor : CursorData
  cursor = walks.0

  abbrev is : IsFound after cursor (task_at front task) answer
  is = walks.1.1

  on : GoesOn before after
  on = goes_walked before claimed after (suc task) claims (task_at front task, cursor, walks.1.0)

  others : (other : ℕ) → other ≢ task → after.records (suc other) ≡ before.records (suc other)
  others other apart =
      walks.1.0.others (suc other) (next_apart other task apart) ∙ claims.4 (suc other) (next_apart other task apart)

  abbrev more : List ℕ
  more = slice_set found task answer.bound

  found_here : slice_index more task ≡ answer.bound
  found_here = get_or-set_same found task answer.bound 0 (omega (arith, within, was.long))

  found_there : (other : ℕ) → other ≢ task → slice_index more other ≡ slice_index found other
  found_there other apart = get_or-set_other found task other answer.bound 0 apart

  known_then : AreFound after front more
  known_then =
      found_with after front found task answer.bound (omega (arith, within, was.long))
      (bound_known (search_rules after.search) after.lines (task_at front task) answer.line answer.bound (λ n line. (is.line n line).0) is.none)
      (found_still before after on front found was.known)

  reach_then : spent ≡ false → answer.spent ≡ false → ReachFound after front more
  reach_then not not_now other inside asked recorded = elim (cases_eq other task) [
    | inl same ↦ subst (λ (t : ℕ). after.told ≤ (task_at front t).paid + slice_index more t) (sym same) (omega (arith, is.enough not_now, found_here))
    | inr apart ↦ omega (arith, on.told, was.reach not other inside asked (subst IsSome (others other apart) recorded), found_there other apart)
  ]

  cut_then : IsCutShort after cursor → IsCut after
  cut_then short = record {
    full = short.full;
    part = cursor.task;
    entry = record { last = cursor.last; number = walks.1.0.stands.0 };
    recorded = walks.1.0.stands.1;
    path = short.path;
    is_open = short.is_open;
    lies = short.lies;
    later = short.later;
    some = short.some;
    below = short.below;
  }

  -- a task that is asked for was walked
  pub settled : (short : Bool) → short ≡ (spent || answer.spent) → HasWorked after front more short
  settled short by =
      carried before after on front found more spent short was (length-set found task answer.bound ∙ was.long) known_then
      (λ not. (both_false spent answer.spent short by not).0)
      (λ not. (let each = both_false spent answer.spent short by not in reach_then each.0 each.1))
      (λ so. wanted_root before front task was.filled within wanted)
      (λ so. elim (one_true spent answer.spent short by so) [
        | inl earlier ↦ cut_still before after on few (was.cut earlier)
        | inr now ↦ cut_then (is.spent now)
      ])
