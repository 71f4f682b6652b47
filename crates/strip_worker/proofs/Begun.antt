-- A search begins: the front is gone down.
use Rattle.std.proofs.Common.{◌≡◌, ℕ, suc, ◌<◌, ◌≤◌, Bool, true, false, Option, Some, None, List, length, replicate, refl, sym, ap, ◌∙◌, subst, arith}
use Rattle.std.specs.Prelude.{IsSome, slice_index}
use Rattle.std.proofs.lemmas.List.{get_or-replicate, length-replicate}
use Rattle.strip_film.specs.Shown.{CursorData}
use Rattle.strip_lines.proofs.Grown.{grow_self}
use Rattle.strip_hand.specs.Hand.{HandData, RecordData}
use Rattle.strip_hand.specs.Search.{SearchData, search_rules}
use Rattle.strip_front.specs.Calls.{GoesDown, IsCutShort, IsDown}
use Rattle.strip_front.specs.Front.{FrontData, IsFrontOf}
use Rattle.strip_worker.specs.Team.{GoesOn, HasFront, HasWorked, IsCut, IsFresh, OwnsFront, beginning}
use Rattle.strip_worker.proofs.Moved.{carried, found_still}

-- a number for each of the tasks, all of them 0
pub zeros : (found : List ℕ) (n count : ℕ) → found ≡ replicate n 0 → n ≡ count
    → (length found ≡ count) × ((task : ℕ) → task < count → slice_index found task ≡ 0)
zeros found n count are same = (
  ap (λ (xs : List ℕ). length xs) are ∙ length-replicate n 0 ∙ same,
  λ task within. ap (λ (xs : List ℕ). slice_index xs task) are ∙ get_or-replicate n task 0 0 (omega (arith, within, same)),
)

-- a part of which there is no record
no_record : (entry : Option RecordData) → entry ≡ None → ¬ IsSome entry
no_record entry free some = (let both : false ≡ true = subst IsSome free some in cc)

-- nobody has gone down yet
pub not_yet_down : (hand : HandData) → HasFront hand → GoesDown hand hand (beginning 0)
not_yet_down hand claimed = record {
  only = refl;
  no_more = omega arith;
  grow = grow_self hand.lines;
  no_fewer = omega arith;
  others = λ part apart. refl;
  task = refl;
  stands = (0, claimed.front);
}

-- the front was gone down, and nothing was found of any task
module _ (before after : HandData) (cursor : CursorData) (front : FrontData) (found : List ℕ) (spent : Bool) (claimed : HasFront before)
    (goes : GoesDown before after cursor) (front_of : IsFrontOf (search_rules before.search) front)
    (same_tasks : before.search.tasks ≡ front.tasks)
    (none : (length found ≡ length front.tasks) × ((task : ℕ) → task < length front.tasks → slice_index found task ≡ 0))
    (down : IsDown after cursor front spent) (some_lines : 1 ≤ before.search.nodes) where
  same_search : after.search ≡ before.search
  same_search = ap (λ (h : HandData). h.search) goes.only

  cut : IsCutShort after cursor → IsCut after
  cut is = record {
    full = is.full;
    part = cursor.task;
    entry = record { last = cursor.last; number = goes.stands.0 };
    recorded = goes.stands.1;
    path = is.later.0;
    is_open = is.later.1;
    lies = is.later.2;
    later = is.later.3;
    some = is.later.4;
    below = is.later.5;
  }

  pub begins : OwnsFront after → HasWorked after front found spent
  begins owns = record {
    front_of = subst (λ (search : SearchData). IsFrontOf (search_rules search) front) (sym same_search) front_of;
    tasks = ap (λ (search : SearchData). search.tasks) same_search ∙ same_tasks;
    filled = down.filled;
    long = none.0;
    known = λ task within wanted. omega (arith, none.1 task within);
    whole = down.whole;
    reach = λ not task within wanted recorded.
        absurd (no_record (after.records (suc task)) (goes.others (suc task) (λ zero_is. omega (arith, zero_is)) ∙ claimed.others (suc task) (λ zero_is. omega (arith, zero_is))) recorded);
    root = λ is. down.own is (omega (arith, some_lines, ap (λ (search : SearchData). search.nodes) same_search)) owns;
    cut = λ is. cut (down.spent is);
  }

-- a hand that has claimed nothing has found nothing, by a front that another hand went down
module _ (hand fresh : HandData) (front : FrontData) (found none : List ℕ) (was : HasWorked hand front found false) (is : IsFresh hand fresh)
    (zeroes : (length none ≡ length front.tasks) × ((task : ℕ) → task < length front.tasks → slice_index none task ≡ 0)) where
  -- what was found, without the records
  abbrev bare : HandData
  bare = record hand { records = λ part. None }

  on : GoesOn bare fresh
  on = record {
    search = is.search;
    told = is.told;
    grow = is.grow;
    records = λ part entry there. absurd (let both : None ≡ Some entry = there in cc);
  }

  nothing_bare : HasWorked bare front none false
  nothing_bare = record {
    front_of = was.front_of;
    tasks = was.tasks;
    filled = record { lines = was.filled.lines; wanted = was.filled.wanted };
    long = zeroes.0;
    known = λ task within wanted. omega (arith, zeroes.1 task within);
    whole = was.whole;
    reach = λ not task within wanted recorded. absurd (let both : false ≡ true = recorded in cc);
    root = was.root;
    cut = λ so. absurd (let both : false ≡ true = so in cc);
  }

  pub nothing : HasWorked fresh front none false
  nothing =
      carried bare fresh on front none none false false nothing_bare zeroes.0 (found_still bare fresh on front none nothing_bare.known) (λ not. not)
      (λ not task within wanted recorded. absurd (no_record (fresh.records (suc task)) (is.none (suc task)) recorded)) was.root
      (λ so. absurd (let both : false ≡ true = so in cc))
