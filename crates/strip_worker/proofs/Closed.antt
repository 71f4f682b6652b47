-- A search ends: its front is closed up, and what is known of all scenes is the bound.
use Rattle.std.proofs.Common.{◌≡◌, ℕ, suc, ◌<◌, ◌≤◌, Bool, true, false, Result, Ok, Err, IfOk, List, length, count_by, eqb, inl, inr, refl, sym, ap, ◌∙◌, subst, arith}
use Rattle.std.proofs.lemmas.Bool.{cases_Bool}
use Rattle.strip_io.specs.declared.files.Memory.{Memory}
use Rattle.strip_mask.proofs.Below.{LiesBelow-full}
use Rattle.strip_model.specs.declared.kind.Kind.{Kind}
use Rattle.strip_model.specs.Film.{FilmData}
use Rattle.strip_model.specs.Order.{IsKeptOrder}
use Rattle.strip_model.specs.Pay.{IsLeast, pay_of}
use Rattle.strip_film.specs.declared.shared.Line.{Line}
use Rattle.strip_film.specs.Film.{IsFilm, all_scenes}
use Rattle.strip_film.specs.Finish.{IsAtMostFinish, steps_cost}
use Rattle.strip_film.specs.Path.{PathData, IsComplete}
use Rattle.strip_film.specs.Rules.{BeginLeast, BoundsFinish}
use Rattle.strip_film.specs.Shown.{CursorData}
use Rattle.strip_film.proofs.Orders.{AllOnce-from_order, kept_from_ready, ready_from_order}
use Rattle.strip_film.proofs.StepSum.{steps_are_pay}
use Rattle.strip_lines.specs.Lines.{known, rules_of}
use Rattle.strip_lines.proofs.Grown.{known-grows}
use Rattle.strip_lines.proofs.Justified.{known_is_true}
use Rattle.strip_lines.specs.Paths.{candidate_count, leaving_count}
use Rattle.strip_lines.proofs.Shares.{lines_few, lines_ways}
use Rattle.strip_hand.specs.Hand.{HandData, IsHand, IsSearchOf}
use Rattle.strip_hand.specs.Search.{GoesBy, SearchData, depth_of, search_rules}
use Rattle.strip_hand.proofs.Apart.{tasks_apart}
use Rattle.strip_front.specs.Calls.{AllReach, GoesDown, IsClosedUp, Learns}
use Rattle.strip_front.specs.Front.{FrontData, root_of}
use Rattle.strip_worker.specs.Closed.{HasAll, IsClosed, IsSettled, known_of_all, record_in}
use Rattle.strip_lines.specs.declared.ended.Ended.{Ended}
use Rattle.strip_lines.specs.Ended.{EndedData, EndsFrom, IsEnded, ended_data}
use Rattle.strip_worker.specs.Team.{GoesOn, HasWorked}
use Rattle.strip_worker.proofs.Counted.{cut_has_more}
use Rattle.strip_worker.proofs.Moved.{moved_same}
use Rattle.strip_worker.proofs.Settled.{some_of}

-- ---- the front is closed up

-- a hand that learns goes on
pub goes_learning : (before after : HandData) → Learns before after → GoesOn before after
goes_learning before after learns = record {
  search = ap (λ (h : HandData). h.search) learns.only;
  told = omega (arith, ap (λ (h : HandData). h.told) learns.only);
  grow = learns.grow;
  records = λ part entry is. (λ i. (learns.only i).records part) ∙ is;
}

module _ (kind : Kind) (film : FilmData) (before after : HandData) (front : FrontData) (found : List ℕ) (spent : Bool) (bound : ℕ)
    (by : IsSearchOf kind film before) (was : HasWorked before front found spent) (all : HasAll before) (learns : Learns before after) (limits : IsHand after) where
  on : GoesOn before after
  on = goes_learning before after learns

  held : HasWorked after front found spent
  held = moved_same before after on front found spent was (λ so. limits.few) (λ part i. (learns.only i).records part)

  by_then : IsSearchOf kind film after
  by_then = subst (GoesBy kind film) (sym on.search) by

  -- each task that is asked for reaches, as each part has a record
  reach : spent ≡ false → AllReach front found after.told
  reach not task within wanted =
      let count : length front.tasks ≡ length before.search.tasks
      = ap (λ (tasks : List PathData). length tasks) (sym was.tasks) in
      let most = was.reach not task within wanted (all (suc task) (omega (arith, within, count))) in
      omega (arith, most, on.told)

  -- what closing up answered is known of all scenes
  pub closed : IsClosedUp after front found bound → IsClosed kind film after spent bound
  closed up = record {
    search = by_then;
    limits = limits;
    most = up.known_of;
    whole = λ not. up.reaches (held.whole not) (reach not);
    cut = held.cut;
    reaches = λ so. (let line = some_of (root_of front) (held.root so) in (up.root line.0 line.1).1);
  }

-- the search stays from the way down the front to the end
pub search_stays : (search : SearchData) (front down worked shut : HandData) (cursor : CursorData) → front.search ≡ search → GoesDown front down cursor
    → GoesOn down worked → Learns worked shut → shut.search ≡ search
search_stays search front down worked shut cursor same goes on learns =
    ap (λ (h : HandData). h.search) learns.only ∙ on.search ∙ ap (λ (h : HandData). h.search) goes.only ∙ same

-- ---- the end is told

module _ (film : FilmData) (is : IsFilm film) where
  -- a bound on finishing all scenes is one on what any order pays
  least_from_finish : (bound : ℕ) → IsAtMostFinish film (all_scenes film) bound → IsLeast film bound
  least_from_finish bound most order kept =
      let pays : steps_cost film (all_scenes film) order ≡ pay_of film order
      = steps_are_pay film is order (AllOnce-from_order (length film.casts) order is.scene_count.1 kept.is_order) in
      omega (arith, pays, most order (ready_from_order film is order kept))

  -- a complete path is an order, and paid what it pays
  complete_kept : (path : PathData) → IsComplete film path → IsKeptOrder film path.scenes
  complete_kept path complete = kept_from_ready film is path.scenes (complete.0.remained, sym complete.0.left ∙ complete.1)

  complete_pays : (path : PathData) → IsComplete film path → path.paid ≡ pay_of film path.scenes
  complete_pays path complete =
      complete.0.steps
      ∙ steps_are_pay film is path.scenes (AllOnce-from_order (length film.casts) path.scenes is.scene_count.1 (complete_kept path complete).is_order)

-- what is known of all scenes, by the rules of the film and the kind
known_by : (kind : Kind) (film : FilmData) (hand : HandData) (lines : List Line) → IsSearchOf kind film hand
    → known (rules_of kind film) lines (all_scenes film) ≡ known_of_all hand lines
known_by kind film hand lines by = λ i. known (rules_of (sym by.1 i) (sym by.0 i)) lines (all_scenes (sym by.0 i))

-- what is told of a path and lines, with this bound
abbrev pub end_of : PathData → List Line → ℕ → Bool → EndedData
end_of best lines bound spent = record {
  order = best.scenes;
  cost = best.paid;
  bound = bound;
  held = length lines;
  lines = lines;
  spent = spent;
}

module _ (kind : Kind) (film : FilmData) (hand : HandData) (best : PathData) (lines : List Line) (spent : Bool) (number bound : ℕ)
    (shut : IsClosed kind film hand spent number) (left : IsSettled hand best lines)
    (bounds : BoundsFinish (search_rules hand.search)) (begin : BeginLeast (search_rules hand.search))
    (whole_is : spent ≡ false → bound ≡ number) (read : List Line) (same : read ≡ lines)
    (cut_is : spent ≡ true → bound ≡ known (rules_of kind film) read (all_scenes film)) where
  abbrev is_film : IsFilm hand.search.film
  is_film = shut.limits.film

  kept : IsKeptOrder hand.search.film best.scenes
  kept = complete_kept hand.search.film is_film best left.complete

  pays : best.paid ≡ pay_of hand.search.film best.scenes
  pays = complete_pays hand.search.film is_film best left.complete

  true_bound : IsLeast hand.search.film (known_of_all hand lines)
  true_bound =
      least_from_finish hand.search.film is_film (known_of_all hand lines)
      (known_is_true (search_rules hand.search) lines is_film bounds begin left.justified (all_scenes hand.search.film)
      (LiesBelow-full (length hand.search.film.casts)))

  most : number ≤ known_of_all hand lines
  most = omega (arith, shut.most, known-grows (search_rules hand.search) hand.lines lines (all_scenes hand.search.film) left.grow)

  -- unless the budget was spent, the number is what is known of all scenes, and the cost
  number_is_known : spent ≡ false → number ≡ known_of_all hand lines
  number_is_known not = omega (arith, shut.whole not, most, left.least, pays, true_bound best.scenes kept)

  number_is_cost : spent ≡ false → number ≡ best.paid
  number_is_cost not = omega (arith, shut.whole not, most, left.least, pays, true_bound best.scenes kept)

  bound_is_known : bound ≡ known_of_all hand lines
  bound_is_known = elim (cases_Bool spent) [
    | inl so ↦ cut_is so ∙ ap (λ (xs : List Line). known (rules_of kind film) xs (all_scenes film)) same ∙ known_by kind film hand lines shut.search
    | inr not ↦ whole_is not ∙ number_is_known not
  ]

  full : spent ≡ true → length lines ≡ hand.search.nodes
  full so = omega (arith, (shut.cut so).full, left.grow.count, left.few)

  candidates : length lines ≤ candidate_count (search_rules hand.search) hand.search.start
  candidates =
      lines_few (search_rules hand.search) hand.search.start (depth_of hand.search) hand.search.tasks is_film (tasks_apart hand.search shut.limits.tasks) lines
      (λ part. (record_in hand part).last) (λ part. (record_in hand part).number) left.counts

  of_set : (set : ℕ) → count_by (λ line. eqb line.set set) lines ≤ leaving_count (search_rules hand.search) hand.search.start set
  of_set =
      lines_ways (search_rules hand.search) hand.search.start (depth_of hand.search) hand.search.tasks is_film (tasks_apart hand.search shut.limits.tasks) lines
      (λ part. (record_in hand part).last) (λ part. (record_in hand part).number) left.counts

  more : spent ≡ true → hand.search.nodes < candidate_count (search_rules hand.search) hand.search.start
  more so = omega (arith, full so, cut_has_more hand lines shut.limits left.counts (shut.cut so))

  -- the end, over the search's own film and kind
  ends : EndsFrom hand.search.kind hand.search.film hand.search.start hand.search.nodes (end_of best lines bound spent)
  ends start paid = record {
    order = kept;
    cost = pays;
    no_dearer = omega (arith, paid, left.least, shut.limits.told);
    lines = left.justified;
    bound = bound_is_known;
    true_bound = subst (IsLeast hand.search.film) (sym bound_is_known) true_bound;
    held = refl;
    most = left.few;
    candidates = subst (λ (cost : ℕ). length lines ≤ candidate_count (search_rules hand.search) cost) (sym paid) candidates;
    sets = λ set. subst (λ (cost : ℕ). count_by (λ line. eqb line.set set) lines ≤ leaving_count (search_rules hand.search) cost set) (sym paid) (of_set set);
    spent = λ so. record {
      full = full so;
      fewer = subst (λ (cost : ℕ). hand.search.nodes < candidate_count (search_rules hand.search) cost) (sym paid) (more so);
      reaches = omega (arith, shut.reaches so, most, bound_is_known);
    };
    closed = λ not. whole_is not ∙ number_is_cost not;
  }

  pub tells : EndsFrom kind film hand.search.start hand.search.nodes (end_of best lines bound spent)
  tells =
      subst (λ (k : Kind). EndsFrom k film hand.search.start hand.search.nodes (end_of best lines bound spent)) shut.search.1
      (subst (λ (f : FilmData). EndsFrom hand.search.kind f hand.search.start hand.search.nodes (end_of best lines bound spent)) shut.search.0 ends)

-- the end that was told is one of this hand
pub told_by : (kind : Kind) (film : FilmData) (hand : HandData) (best : PathData) (lines : List Line) (spent : Bool) (number : ℕ) (result : Result Ended Memory)
    → IfOk result (λ ended. (any : HandData) → IsClosed kind film any spent number → IsSettled any best lines
    → EndsFrom kind film any.search.start any.search.nodes (ended_data ended))
    → IsClosed kind film hand spent number → IsSettled hand best lines
    → IfOk result (λ ended. EndsFrom kind film hand.search.start hand.search.nodes (ended_data ended))
told_by kind film hand best lines spent number (Ok ended) every shut left = every hand shut left
told_by kind film hand best lines spent number (Err memory) every shut left = tt

-- the end that was told is one from the start path
pub ended_from : (kind : Kind) (film : FilmData) (start : PathData) (nodes : ℕ) (result : Result Ended Memory)
    → IfOk result (λ ended. EndsFrom kind film start.paid nodes (ended_data ended)) → IfOk result (λ ended. IsEnded kind film start nodes (ended_data ended))
ended_from kind film start nodes (Ok ended) every = every start refl
ended_from kind film start nodes (Err memory) every = tt
