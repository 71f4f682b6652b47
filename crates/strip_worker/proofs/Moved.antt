-- What was found stays where the hand goes on.
use Rattle.std.proofs.Common.{◌≡◌, ◌≢◌, ℕ, suc, ◌≤◌, Bool, true, false, Some, None, List, length, sym, ap, ◌∙◌, subst, arith}
use Rattle.std.specs.Prelude.{IsSome}
use Rattle.strip_lines.proofs.Grown.{grow_trans}
use Rattle.strip_hand.specs.Calls.{Claims}
use Rattle.strip_hand.specs.Hand.{HandData, RecordData}
use Rattle.strip_hand.specs.Search.{SearchData, search_rules}
use Rattle.strip_front.specs.Calls.{AreFound}
use Rattle.strip_front.specs.Front.{FrontData, IsFrontOf, root_of}
use Rattle.strip_front.specs.Filled.{IsFilled, IsWhole}
use Rattle.strip_front.proofs.Grown.{grow_same}
use Rattle.strip_front.proofs.Small.{filled_grows, found_grows}
use Rattle.strip_worker.specs.Team.{GoesOn, HasWorked, IsCut, ReachFound, WalksPart}

-- ---- a hand that goes on

pub goes_then : (before between after : HandData) → GoesOn before between → GoesOn between after → GoesOn before after
goes_then before between after one two = record {
  search = two.search ∙ one.search;
  told = omega (arith, one.told, two.told);
  grow = grow_trans before.lines between.lines after.lines one.grow two.grow;
  records = λ part entry is. two.records part entry (one.records part entry is);
}

-- a record that was there is none of a part that was claimed
record_apart : (hand : HandData) (part other : ℕ) (entry : RecordData) → hand.records part ≡ None → hand.records other ≡ Some entry → other ≢ part
record_apart hand part other entry free is same = (let both : None ≡ Some entry = sym free ∙ ap hand.records (sym same) ∙ is in cc)

-- it claims a part
pub goes_claimed : (before after : HandData) (part : ℕ) → Claims before (Some part) after → GoesOn before after
goes_claimed before after part claims = record {
  search = ap (λ (h : HandData). h.search) claims.0;
  told = omega (arith, ap (λ (h : HandData). h.told) claims.0);
  grow = grow_same before.lines after.lines (ap (λ (h : HandData). h.lines) claims.0);
  records = λ other entry is. claims.4 other (record_apart before part other entry claims.2 is) ∙ is;
}

-- it claims a part, and walks in it
pub goes_walked : (before claimed after : HandData) (part : ℕ) → Claims before (Some part) claimed → WalksPart claimed part after → GoesOn before after
goes_walked before claimed after part claims walks = record {
  search = walks.2.search ∙ ap (λ (h : HandData). h.search) claims.0;
  told = omega (arith, walks.2.told, ap (λ (h : HandData). h.told) claims.0);
  grow = grow_trans before.lines claimed.lines after.lines (grow_same before.lines claimed.lines (ap (λ (h : HandData). h.lines) claims.0)) walks.2.grow;
  records = λ other entry is.
      let apart : other ≢ part = record_apart before part other entry claims.2 is in walks.2.others other apart ∙ claims.4 other apart ∙ is;
}

-- ---- what was found

module _ (before after : HandData) (on : GoesOn before after) where
  pub found_still : (front : FrontData) (found : List ℕ) → AreFound before front found → AreFound after front found
  found_still front found are =
      subst (λ (search : SearchData). AreFound (record after { search = search }) front found) (sym on.search)
      (found_grows before after front on.grow found are)

  -- the later hand is cut short, by the search of the earlier one
  cut_later : length after.lines ≤ before.search.nodes → IsCut before → IsCut (record after { search = before.search })
  cut_later few cut = record {
    full = omega (arith, cut.full, on.grow.count, few);
    part = cut.part;
    entry = cut.entry;
    recorded = on.records cut.part cut.entry cut.recorded;
    path = cut.path;
    is_open = cut.is_open;
    lies = cut.lies;
    later = cut.later;
    some = cut.some;
    below = cut.below;
  }

  pub cut_still : length after.lines ≤ after.search.nodes → IsCut before → IsCut after
  cut_still few cut =
      subst (λ (search : SearchData). IsCut (record after { search = search })) (sym on.search)
      (cut_later (omega (arith, few, ap (λ (search : SearchData). search.nodes) on.search)) cut)

  -- it leaves out nothing below a lesser value either
  whole_falls : (front : FrontData) → IsWhole before.search front before.told → IsWhole before.search front after.told
  whole_falls front held = record {
    none = λ none. omega (arith, on.told, held.none none);
    paths = λ some place within none. omega (arith, on.told, held.paths some place within none);
  }

  -- what the hand found before, with other numbers
  pub carried : (front : FrontData) (found more : List ℕ) (spent short : Bool) → HasWorked before front found spent → length more ≡ length front.tasks
      → AreFound after front more → (short ≡ false → spent ≡ false) → (short ≡ false → ReachFound after front more) → (short ≡ true → IsSome (root_of front))
      → (short ≡ true → IsCut after) → HasWorked after front more short
  carried front found more spent short was long are not reach root cut = record {
    front_of = subst (λ (search : SearchData). IsFrontOf (search_rules search) front) (sym on.search) was.front_of;
    tasks = ap (λ (search : SearchData). search.tasks) on.search ∙ was.tasks;
    filled = subst (λ (search : SearchData). IsFilled (record after { search = search }) front) (sym on.search)
        (filled_grows before after front on.grow was.filled);
    long = long;
    known = are;
    whole = λ is. subst (λ (search : SearchData). IsWhole search front after.told) (sym on.search) (whole_falls front (was.whole (not is)));
    reach = reach;
    root = root;
    cut = cut;
  }

  -- the same numbers, where what was claimed meanwhile reaches by them
  pub moved : (front : FrontData) (found : List ℕ) (spent : Bool) → HasWorked before front found spent
      → (spent ≡ true → length after.lines ≤ after.search.nodes) → (spent ≡ false → ReachFound after front found) → HasWorked after front found spent
  moved front found spent was few reach =
      carried front found found spent spent was was.long (found_still front found was.known) (λ not. not) reach was.root (λ is. cut_still (few is) (was.cut is))

  -- no part was claimed meanwhile
  pub moved_same : (front : FrontData) (found : List ℕ) (spent : Bool) → HasWorked before front found spent
      → (spent ≡ true → length after.lines ≤ after.search.nodes) → ((part : ℕ) → after.records part ≡ before.records part) → HasWorked after front found spent
  moved_same front found spent was few same =
      moved front found spent was few
      (λ not task within wanted recorded. omega (arith, on.told, was.reach not task within wanted (subst IsSome (same (suc task)) recorded)))

-- it finds that no part is left
pub goes_ended : (before after : HandData) → Claims before None after → GoesOn before after
goes_ended before after claims = record {
  search = ap (λ (h : HandData). h.search) claims;
  told = omega (arith, ap (λ (h : HandData). h.told) claims);
  grow = grow_same before.lines after.lines (ap (λ (h : HandData). h.lines) claims);
  records = λ part entry is. (λ i. (claims i).records part) ∙ is;
}

pub moved_ended : (before after : HandData) (front : FrontData) (found : List ℕ) (spent : Bool) → Claims before None after
    → HasWorked before front found spent → HasWorked after front found spent
moved_ended before after front found spent claims was =
    moved_same before after (goes_ended before after claims) front found spent was
    (λ so. omega (arith, (was.cut so).full, ap (λ (h : HandData). length h.lines) claims, ap (λ (h : HandData). h.search.nodes) claims))
    (λ part i. (claims i).records part)
