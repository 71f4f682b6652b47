use Rattle.std.proofs.Common.{◌≡◌, ℕ, ◌+◌, min, true, false, ◌||◌, Ok, Err, sym, ap, ◌∙◌, subst, refl, arith}
use Rattle.strip_mask.specs.Set.{has, size, without}
use Rattle.strip_mask.proofs.ByMembers.{below_64}
use Rattle.strip_mask.proofs.Sizes.{size-without}
use Rattle.strip_model.specs.Film.{FilmData}
use Rattle.strip_film.specs.Film.{IsFilm, LiesIn}
use Rattle.strip_film.specs.Path.{PathData, extended}
use Rattle.strip_film.specs.Shoot.{step_cost}
use Rattle.strip_film.specs.Running.{IsRunning}
use Rattle.strip_film.specs.Shown.{cursor_data, path_data, running_data, turns_data}
use Rattle.strip_film.specs.Turns.{TakesNext}
use Rattle.strip_film.proofs.Paths.{path_limit, rest_lies, one_fewer, rest_set}
use Rattle.strip_rule.proofs.Firsts.{first_there}
use Rattle.strip_rule.proofs.Open.{open_is}
use Rattle.strip_hand.specs.Search.{SearchData, search_rules}
use Rattle.strip_walk.specs.Found.{IsFound, MayExplore}
use Rattle.strip_walk.specs.Walked.{Explores, Walks}
use Rattle.strip_walk.specs.Begun.{BeginsWalk, IsFirst, IsThrough, Offers}
use Rattle.strip_walk.specs.Sifted.{to_walk}
use Rattle.strip_walk.specs.declared.found.Begun.{Begun}
use Rattle.strip_walk.specs.declared.found.Begun.TheVariants.{Enlisted}
use Rattle.strip_walk.proofs.Answered.{cut_explores}
use Rattle.strip_walk.proofs.Ended.{closes, line_stays, may_raise, offered_explores}
use Rattle.strip_walk.proofs.Settled.{AreSettled, may_child, settled_more, settled_none, sifted_by}
use Rattle.strip_walk.proofs.Stayed.{explores_after, may_still, refused_after}
use Rattle.strip_walk.proofs.Turned.{first_ready, if_ok_holds, next_is, still_ranked, sum_fits, taken, turn_refused, turn_walks}
use Rattle.strip_walk.proofs.walk.+children.Goals as goal

pub walk_on-loop-s-init : goal.walk_on-loop-s-init
walk_on-loop-s-init g t c =
    let path : PathData = path_data c.args.running.now.path in
    let begun : BeginsWalk (g.H.Hand.shows c.args.hand.now) (cursor_data c.args.cursor.now) path (Ok c.in_ok-found.field-0) (g.H.Hand.shows c.list.new.hand) (cursor_data c.list.new.cursor)
    = subst (λ (p : PathData). BeginsWalk (g.H.Hand.shows c.args.hand.now) (cursor_data c.args.cursor.now) p (Ok c.in_ok-found.field-0) (g.H.Hand.shows c.list.new.hand) (cursor_data c.list.new.cursor))
    c.path.ensures c.in_ok-found.ensures.begun in
    let opened : BeginsWalk (g.H.Hand.shows c.args.hand.now) (cursor_data c.args.cursor.now) path (Ok (Enlisted c.in-Enlisted.opened)) (g.H.Hand.shows c.list.new.hand) (cursor_data c.list.new.cursor)
    = subst (λ (b : Begun). BeginsWalk (g.H.Hand.shows c.args.hand.now) (cursor_data c.args.cursor.now) path (Ok b) (g.H.Hand.shows c.list.new.hand) (cursor_data c.list.new.cursor))
    c.in-Enlisted.is begun in
    record {
      sound = c.in_ok-found.ensures.sound;
      home = c.in_ok-found.ensures.home;
      limits = c.keeps_limits-2.ensures;
      running = c.requires.running;
      path = refl;
      walks = opened.0;
      line = record { there = opened.1.there; set = opened.1.set };
      ranks = (sifted_by g.B.Bounds.kind g.B.Bounds.film (g.H.Hand.shows c.args.hand.now).search path c.in-Enlisted.opened.told c.sift-sifted.result
          c.requires.search c.sift-sifted.ensures.sifted).ranks;
      settled = settled_none (g.H.Hand.shows c.args.hand.now).search (g.H.Hand.shows c.list.new.hand) (cursor_data c.list.new.cursor) path c.in-Enlisted.opened
          c.sift-sifted.result opened.1
          (sifted_by g.B.Bounds.kind g.B.Bounds.film (g.H.Hand.shows c.args.hand.now).search path c.in-Enlisted.opened.told c.sift-sifted.result
          c.requires.search c.sift-sifted.ensures.sifted);
    }

pub walk_on-step-step-requires-clause-running : goal.walk_on-step-step-requires-clause-running
walk_on-step-step-requires-clause-running g t c = rw c.film-film.ensures c.loop-s.invariant.running

pub walk_on-step-step-requires-clause-remains : goal.walk_on-step-step-requires-clause-remains
walk_on-step-step-requires-clause-remains g t c =
    let search : SearchData = (g.H.Hand.shows c.args.hand.now).search in
    let path : PathData = path_data c.args.running.now.path in
    let first : IsFirst search path c.in-Some.s
    = c.loop-s.invariant.settled.within c.in-Some.s c.in-Some.ensures.0.waits in
    subst (λ (p : PathData). has p.rest c.in-Some.s ≡ true) (sym c.loop-s.invariant.path) (first_there search.film path.rest c.in-Some.s first)

pub walk_on-walk_child-requires : goal.walk_on-walk_child-requires
walk_on-walk_child-requires g t c κs within =
    let search : SearchData = (g.H.Hand.shows c.args.hand.now).search in
    let path : PathData = path_data c.args.running.now.path in
    let first : IsFirst search path c.in-Some.s
    = c.loop-s.invariant.settled.within c.in-Some.s c.in-Some.ensures.0.waits in
    let here : SearchData = (g.H.Hand.shows c.loop-s.hand).search in
    let now : PathData = path_data c.loop-s.running.path in
    let child_is : extended here.film now c.in-Some.s ≡ extended search.film path c.in-Some.s
    = (λ i. extended (c.loop-s.invariant.walks.search i).film (c.loop-s.invariant.path i) c.in-Some.s) in
    let is : IsFilm search.film = subst IsFilm (c.film-film.ensures ∙ sym c.requires.search.0) c.keeps_limits.ensures in
    let less = one_fewer search.film path c.requires.may.is_open.0 is c.in-Some.s (open_is search.film path.rest c.in-Some.s first).0 in
    let same : size (without now.rest c.in-Some.s) ≡ size (without path.rest c.in-Some.s)
    = ap (λ (p : PathData). size (without p.rest c.in-Some.s)) c.loop-s.invariant.path in (
      omega (arith, less, same, c.decreases),
      (
        within.0,
        (
          within.1,
          (
            c.loop-s.invariant.sound,
            (
              subst (λ (of : SearchData). (of.film ≡ g.B.Bounds.film) × (of.kind ≡ g.B.Bounds.kind)) (sym c.loop-s.invariant.walks.search) c.requires.search,
              (
                c.loop-s.invariant.running,
                (
                  subst (λ (p : PathData). IsFirst here p c.in-Some.s) (sym c.loop-s.invariant.path)
                      (subst (λ (of : SearchData). IsFirst of path c.in-Some.s) (sym c.loop-s.invariant.walks.search) first),
                  (
                    c.step-step.ensures ∙ ap (λ (film : FilmData). step_cost film now.rest c.in-Some.s) c.film-film.ensures,
                    subst (MayExplore (g.H.Hand.shows c.loop-s.hand) (cursor_data c.loop-s.cursor)) (sym child_is)
                        (may_child (g.H.Hand.shows c.args.hand.now) (g.H.Hand.shows c.loop-s.hand) (cursor_data c.args.cursor.now) (cursor_data c.loop-s.cursor) path
                        (to_walk c.loop-s.sifted) c.loop-s.sifted.least c.loop-s.spent c.in-Some.s c.requires.may c.loop-s.invariant.walks c.loop-s.invariant.settled
                        c.in-Some.ensures.0.waits),
                  ),
                ),
              ),
            ),
          ),
        ),
      ),
    )

pub walk_on-returns-in_err-found-2-clause-home : goal.walk_on-returns-in_err-found-2-clause-home
walk_on-returns-in_err-found-2-clause-home g t c = c.in_err-found-2.ensures.home ∙ c.loop-s.invariant.home

pub walk_on-returns-in_err-found-2-clause-explored : goal.walk_on-returns-in_err-found-2-clause-explored
walk_on-returns-in_err-found-2-clause-explored g t c =
    let search : SearchData = (g.H.Hand.shows c.args.hand.now).search in
    let path : PathData = path_data c.args.running.now.path in
    let here : SearchData = (g.H.Hand.shows c.loop-s.hand).search in
    let now : PathData = path_data c.loop-s.running.path in
    let child_is : extended here.film now c.in-Some.s ≡ extended search.film path c.in-Some.s
    = (λ i. extended (c.loop-s.invariant.walks.search i).film (c.loop-s.invariant.path i) c.in-Some.s) in
    turn_refused (g.H.Hand.shows c.args.hand.now) (g.H.Hand.shows c.loop-s.hand) (g.H.Hand.shows c.walk_child.new.hand) (cursor_data c.args.cursor.now) (cursor_data c.loop-s.cursor)
    (cursor_data c.walk_child.new.cursor) path (extended here.film now c.in-Some.s) c.in-Some.s c.loop-s.invariant.limits.few c.loop-s.invariant.walks child_is
    c.from_residual-in_err-found-2.result c.in_err-found-2.field-0.0 c.from_residual-in_err-found-2.ensures.0 c.in_err-found-2.ensures.explored

pub walk_on-overflow_add-step : goal.walk_on-overflow_add-step
walk_on-overflow_add-step g t c =
    let search : SearchData = (g.H.Hand.shows c.args.hand.now).search in
    let path : PathData = path_data c.args.running.now.path in
    let first : IsFirst search path c.in-Some.s
    = c.loop-s.invariant.settled.within c.in-Some.s c.in-Some.ensures.0.waits in
    let here : SearchData = (g.H.Hand.shows c.loop-s.hand).search in
    let now : PathData = path_data c.loop-s.running.path in
    let child_is : extended here.film now c.in-Some.s ≡ extended search.film path c.in-Some.s
    = (λ i. extended (c.loop-s.invariant.walks.search i).film (c.loop-s.invariant.path i) c.in-Some.s) in
    let explored : Walks (g.H.Hand.shows c.loop-s.hand) (cursor_data c.loop-s.cursor) (extended search.film path c.in-Some.s) (g.H.Hand.shows c.walk_child.new.hand) (cursor_data c.walk_child.new.cursor)
    × IsFound (g.H.Hand.shows c.walk_child.new.hand) (cursor_data c.walk_child.new.cursor) (extended search.film path c.in-Some.s) c.in_ok-found-2.found
    = subst (λ (p : PathData). Walks (g.H.Hand.shows c.loop-s.hand) (cursor_data c.loop-s.cursor) p (g.H.Hand.shows c.walk_child.new.hand) (cursor_data c.walk_child.new.cursor)
    × IsFound (g.H.Hand.shows c.walk_child.new.hand) (cursor_data c.walk_child.new.cursor) p c.in_ok-found-2.found)
    child_is c.in_ok-found-2.ensures.explored in
    let step : c.step-step.result ≡ step_cost search.film path.rest c.in-Some.s
    = c.step-step.ensures ∙ (λ i. step_cost ((c.film-film.ensures ∙ sym c.requires.search.0) i) (c.loop-s.invariant.path i).rest c.in-Some.s) in
    let is : IsFilm search.film = subst IsFilm (c.film-film.ensures ∙ sym c.requires.search.0) c.keeps_limits.ensures in
    omega (
      arith,
      step,
      sum_fits search path c.in-Some.s is c.requires.may.is_open.0 first (g.H.Hand.shows c.walk_child.new.hand) (cursor_data c.walk_child.new.cursor) c.in_ok-found-2.found
          (explored.0.search ∙ c.loop-s.invariant.walks.search) explored.1,
    )

pub walk_on-loop-s-preserved : goal.walk_on-loop-s-preserved
walk_on-loop-s-preserved g t c =
    let search : SearchData = (g.H.Hand.shows c.args.hand.now).search in
    let path : PathData = path_data c.args.running.now.path in
    let here : SearchData = (g.H.Hand.shows c.loop-s.hand).search in
    let now : PathData = path_data c.loop-s.running.path in
    let child_is : extended here.film now c.in-Some.s ≡ extended search.film path c.in-Some.s
    = (λ i. extended (c.loop-s.invariant.walks.search i).film (c.loop-s.invariant.path i) c.in-Some.s) in
    let explored : Walks (g.H.Hand.shows c.loop-s.hand) (cursor_data c.loop-s.cursor) (extended search.film path c.in-Some.s) (g.H.Hand.shows c.walk_child.new.hand) (cursor_data c.walk_child.new.cursor)
    × IsFound (g.H.Hand.shows c.walk_child.new.hand) (cursor_data c.walk_child.new.cursor) (extended search.film path c.in-Some.s) c.in_ok-found-2.found
    = subst (λ (p : PathData). Walks (g.H.Hand.shows c.loop-s.hand) (cursor_data c.loop-s.cursor) p (g.H.Hand.shows c.walk_child.new.hand) (cursor_data c.walk_child.new.cursor)
    × IsFound (g.H.Hand.shows c.walk_child.new.hand) (cursor_data c.walk_child.new.cursor) p c.in_ok-found-2.found)
    child_is c.in_ok-found-2.ensures.explored in
    let step : c.step-step.result ≡ step_cost search.film path.rest c.in-Some.s
    = c.step-step.ensures ∙ (λ i. step_cost ((c.film-film.ensures ∙ sym c.requires.search.0) i) (c.loop-s.invariant.path i).rest c.in-Some.s) in
    record {
      sound = c.in_ok-found-2.ensures.sound;
      home = c.in_ok-found-2.ensures.home ∙ c.loop-s.invariant.home;
      limits = c.keeps_limits-in-Some.ensures;
      running = c.in_ok-found-2.ensures.running.0;
      path = c.in_ok-found-2.ensures.running.1 ∙ c.loop-s.invariant.path;
      walks = turn_walks (g.H.Hand.shows c.args.hand.now) (g.H.Hand.shows c.loop-s.hand) (g.H.Hand.shows c.walk_child.new.hand) (cursor_data c.args.cursor.now) (cursor_data c.loop-s.cursor)
          (cursor_data c.walk_child.new.cursor) path (extended here.film now c.in-Some.s) c.in-Some.s c.loop-s.invariant.limits.few c.loop-s.invariant.walks child_is c.in_ok-found-2.ensures.explored.0;
      line = line_stays (g.H.Hand.shows c.loop-s.hand) (g.H.Hand.shows c.walk_child.new.hand) path c.in-Enlisted.opened.line explored.0.grow c.loop-s.invariant.line;
      ranks = still_ranked search path (turns_data c.loop-s.sifted.visit) (turns_data c.take_next.new.self) c.in-Some.s c.in-Some.ensures.1 c.in-Some.ensures.2
          c.loop-s.invariant.ranks;
      settled = subst (λ (left : ℕ). AreSettled search (g.H.Hand.shows c.walk_child.new.hand) (cursor_data c.walk_child.new.cursor) path left c.min.result
          (c.loop-s.spent || c.in_ok-found-2.found.spent)) (sym c.in-Some.ensures.1)
          (settled_more search (g.H.Hand.shows c.loop-s.hand) (g.H.Hand.shows c.walk_child.new.hand) (cursor_data c.loop-s.cursor) (cursor_data c.walk_child.new.cursor) path
          (to_walk c.loop-s.sifted) c.loop-s.sifted.least c.loop-s.spent c.in-Some.s c.in_ok-found-2.found c.loop-s.invariant.walks.search c.keeps_limits-in-Some.ensures
          explored.0 explored.1 c.loop-s.invariant.settled c.requires.may.is_open.0
          (next_is search path (turns_data c.loop-s.sifted.visit) c.in-Some.s c.loop-s.invariant.ranks c.in-Some.ensures.0)
          c.min.result (c.min.ensures ∙ ap (λ (n : ℕ). min c.loop-s.sifted.least (n + c.in_ok-found-2.found.bound)) step));
    }

pub walk_on-loop-s-smaller : goal.walk_on-loop-s-smaller
walk_on-loop-s-smaller g t c =
    omega (
      arith,
      size-without (to_walk c.loop-s.sifted) c.in-Some.s c.loop-s.sifted.visit.set c.in-Some.ensures.0.waits,
      ap size c.in-Some.ensures.1,
    )

pub walk_on-close-requires-clause-sound : goal.walk_on-close-requires-clause-sound
walk_on-close-requires-clause-sound g t c = c.loop-s.invariant.sound

pub walk_on-close-requires-clause-may : goal.walk_on-close-requires-clause-may
walk_on-close-requires-clause-may g t c =
    let path : PathData = path_data c.args.running.now.path in
    let settled : AreSettled (g.H.Hand.shows c.args.hand.now).search (g.H.Hand.shows c.loop-s.hand) (cursor_data c.loop-s.cursor) path 0 c.loop-s.sifted.least c.loop-s.spent
    = subst (λ (left : ℕ). AreSettled (g.H.Hand.shows c.args.hand.now).search (g.H.Hand.shows c.loop-s.hand) (cursor_data c.loop-s.cursor) path left c.loop-s.sifted.least c.loop-s.spent)
    (subst (TakesNext (turns_data c.loop-s.sifted.visit) (turns_data c.take_next.new.self)) c.in_default.is c.take_next.ensures) c.loop-s.invariant.settled in
    let opened : BeginsWalk (g.H.Hand.shows c.args.hand.now) (cursor_data c.args.cursor.now) path (Ok (Enlisted c.in-Enlisted.opened)) (g.H.Hand.shows c.list.new.hand) (cursor_data c.list.new.cursor)
    = subst (λ (b : Begun). BeginsWalk (g.H.Hand.shows c.args.hand.now) (cursor_data c.args.cursor.now) path (Ok b) (g.H.Hand.shows c.list.new.hand) (cursor_data c.list.new.cursor))
    c.in-Enlisted.is (subst (λ (p : PathData). BeginsWalk (g.H.Hand.shows c.args.hand.now) (cursor_data c.args.cursor.now) p (Ok c.in_ok-found.field-0) (g.H.Hand.shows c.list.new.hand) (cursor_data c.list.new.cursor))
    c.path.ensures c.in_ok-found.ensures.begun) in
    let static_is : c.in-Enlisted.opened.bound ≡ (search_rules (g.H.Hand.shows c.args.hand.now).search).bound path.rest
    = opened.1.static_bound ∙ ap (λ (of : SearchData). (search_rules of).bound path.rest) opened.0.search in
    may_raise (g.H.Hand.shows c.args.hand.now) (g.H.Hand.shows c.loop-s.hand) (cursor_data c.args.cursor.now) (cursor_data c.loop-s.cursor) path
    c.loop-s.sifted.least c.loop-s.spent c.in-Enlisted.opened.bound c.in-Enlisted.opened.line c.max.result c.requires.may c.requires.some c.loop-s.invariant.limits c.loop-s.invariant.walks
    settled static_is c.loop-s.invariant.line c.max.ensures

pub walk_on-close-requires-clause-set : goal.walk_on-close-requires-clause-set
walk_on-close-requires-clause-set g t c = c.loop-s.invariant.line.set ∙ ap (λ (path : PathData). path.rest) (sym c.loop-s.invariant.path) ∙ sym c.rest.ensures

pub walk_on-returns-clause-home : goal.walk_on-returns-clause-home
walk_on-returns-clause-home g t c = c.close.ensures.home ∙ c.loop-s.invariant.home

pub walk_on-returns-clause-running : goal.walk_on-returns-clause-running
walk_on-returns-clause-running g t c = if_ok_holds _ c.close.result (c.loop-s.invariant.running, c.loop-s.invariant.path)

pub walk_on-returns-clause-explored : goal.walk_on-returns-clause-explored
walk_on-returns-clause-explored g t c =
    let path : PathData = path_data c.args.running.now.path in
    let settled : AreSettled (g.H.Hand.shows c.args.hand.now).search (g.H.Hand.shows c.loop-s.hand) (cursor_data c.loop-s.cursor) path 0 c.loop-s.sifted.least c.loop-s.spent
    = subst (λ (left : ℕ). AreSettled (g.H.Hand.shows c.args.hand.now).search (g.H.Hand.shows c.loop-s.hand) (cursor_data c.loop-s.cursor) path left c.loop-s.sifted.least c.loop-s.spent)
    (subst (TakesNext (turns_data c.loop-s.sifted.visit) (turns_data c.take_next.new.self)) c.in_default.is c.take_next.ensures) c.loop-s.invariant.settled in
    let opened : BeginsWalk (g.H.Hand.shows c.args.hand.now) (cursor_data c.args.cursor.now) path (Ok (Enlisted c.in-Enlisted.opened)) (g.H.Hand.shows c.list.new.hand) (cursor_data c.list.new.cursor)
    = subst (λ (b : Begun). BeginsWalk (g.H.Hand.shows c.args.hand.now) (cursor_data c.args.cursor.now) path (Ok b) (g.H.Hand.shows c.list.new.hand) (cursor_data c.list.new.cursor))
    c.in-Enlisted.is (subst (λ (p : PathData). BeginsWalk (g.H.Hand.shows c.args.hand.now) (cursor_data c.args.cursor.now) p (Ok c.in_ok-found.field-0) (g.H.Hand.shows c.list.new.hand) (cursor_data c.list.new.cursor))
    c.path.ensures c.in_ok-found.ensures.begun) in
    let static_is : c.in-Enlisted.opened.bound ≡ (search_rules (g.H.Hand.shows c.args.hand.now).search).bound path.rest
    = opened.1.static_bound ∙ ap (λ (of : SearchData). (search_rules of).bound path.rest) opened.0.search in
    let rest : c.rest.result.0 ≡ path.rest = c.rest.ensures ∙ ap (λ (p : PathData). p.rest) c.loop-s.invariant.path in
    closes (g.H.Hand.shows c.args.hand.now) (g.H.Hand.shows c.loop-s.hand) (cursor_data c.args.cursor.now) (cursor_data c.loop-s.cursor) path
    c.loop-s.sifted.least c.loop-s.spent c.in-Enlisted.opened.bound c.in-Enlisted.opened.line c.max.result c.requires.may c.requires.some c.loop-s.invariant.limits c.loop-s.invariant.walks
    settled static_is c.loop-s.invariant.line c.max.ensures
    (g.H.Hand.shows c.close.new.hand) _ (λ i. record { line = c.in-Enlisted.opened.line; set = rest i; bound = c.max.result }) c.close.result c.close.ensures.closed

-- ---- a child

pub walk_child-without-rest-requires : goal.walk_child-without-rest-requires
walk_child-without-rest-requires g t c =
    let search : SearchData = (g.H.Hand.shows c.args.hand.now).search in
    let path : PathData = path_data c.args.running.now.path in
    let is : IsFilm g.B.Bounds.film = subst IsFilm c.film-film.ensures c.keeps_limits.ensures in
    below_64 path.rest c.args.s
    (rest_set g.B.Bounds.film path c.requires.running.path is)
    (first_there search.film path.rest c.args.s c.requires.first)

pub walk_child-take_with-requires-clause-ready : goal.walk_child-take_with-requires-clause-ready
walk_child-take_with-requires-clause-ready g t c =
    let search : SearchData = (g.H.Hand.shows c.args.hand.now).search in
    let path : PathData = path_data c.args.running.now.path in
    let film_is : search.film ≡ c.film-film.result.now = c.requires.search.0 ∙ sym c.film-film.ensures in
    first_ready search c.film-film.result.now path c.args.s film_is c.requires.first

pub walk_child-returns-then-is_empty-clause-explored : goal.walk_child-returns-then-is_empty-clause-explored
walk_child-returns-then-is_empty-clause-explored g t c =
    let search : SearchData = (g.H.Hand.shows c.args.hand.now).search in
    let path : PathData = path_data c.args.running.now.path in
    let film_is : search.film ≡ c.film-film.result.now = c.requires.search.0 ∙ sym c.film-film.ensures in
    let longer : PathData = path_data c.take_with.new.self.path in
    let longer_is : longer ≡ extended search.film path c.args.s = taken search c.film-film.result.now path c.args.s film_is c.requires.first longer c.take_with.ensures.path in
    let rest_is : without path.rest c.args.s ≡ c.without-rest.result.0 = sym (c.without-rest.ensures ∙ ap (λ (q : ℕ). without q c.args.s) c.rest.ensures) in
    offered_explores (g.H.Hand.shows c.args.hand.now) (g.H.Hand.shows c.offer-found.new.hand) (cursor_data c.args.cursor.now) (extended search.film path c.args.s)
    c.offer-found.result c.requires.may (rest_is ∙ c.is_empty.ensures.0 c.if-is_empty.true)
    (subst (λ (p : PathData). Offers (g.H.Hand.shows c.args.hand.now) p c.offer-found.result (g.H.Hand.shows c.offer-found.new.hand))
    (c.path.ensures ∙ longer_is) c.offer-found.ensures.offered)

pub walk_child-meet-met-requires-clause-lies : goal.walk_child-meet-met-requires-clause-lies
walk_child-meet-met-requires-clause-lies g t c =
    let search : SearchData = (g.H.Hand.shows c.args.hand.now).search in
    let path : PathData = path_data c.args.running.now.path in
    let rest_is : without path.rest c.args.s ≡ c.without-rest.result.0 = sym (c.without-rest.ensures ∙ ap (λ (q : ℕ). without q c.args.s) c.rest.ensures) in
    subst (LiesIn g.B.Bounds.film) rest_is
    (subst (λ (film : FilmData). LiesIn film (without path.rest c.args.s)) c.requires.search.0
    (rest_lies search.film (extended search.film path c.args.s) c.requires.may.is_open.0))

pub walk_child-overflow_add-paid : goal.walk_child-overflow_add-paid
walk_child-overflow_add-paid g t c =
    let search : SearchData = (g.H.Hand.shows c.args.hand.now).search in
    let path : PathData = path_data c.args.running.now.path in
    let is : IsFilm search.film = subst IsFilm (c.film-film.ensures ∙ sym c.requires.search.0) c.keeps_limits.ensures in
    let paid_is : (extended search.film path c.args.s).paid ≡ c.paid.result + c.args.step
    = (λ i. (sym c.paid.ensures i) + (ap (λ (film : FilmData). step_cost film path.rest c.args.s) c.requires.search.0 ∙ sym c.requires.step) i) in
    omega (arith, paid_is, path_limit search.film (extended search.film path c.args.s) c.requires.may.is_open.0 is)

pub walk_child-returns-in-Cut-clause-explored : goal.walk_child-returns-in-Cut-clause-explored
walk_child-returns-in-Cut-clause-explored g t c =
    let search : SearchData = (g.H.Hand.shows c.args.hand.now).search in
    let path : PathData = path_data c.args.running.now.path in
    let rest_is : without path.rest c.args.s ≡ c.without-rest.result.0 = sym (c.without-rest.ensures ∙ ap (λ (q : ℕ). without q c.args.s) c.rest.ensures) in
    let paid_is : (extended search.film path c.args.s).paid ≡ c.paid.result + c.args.step
    = (λ i. (sym c.paid.ensures i) + (ap (λ (film : FilmData). step_cost film path.rest c.args.s) c.requires.search.0 ∙ sym c.requires.step) i) in
    cut_explores (g.H.Hand.shows c.args.hand.now) (g.H.Hand.shows c.meet-met.new.hand) (cursor_data c.args.cursor.now) (extended search.film path c.args.s) c.in-Cut.found
    c.keeps_limits-2.ensures c.requires.may (c.in-Cut.ensures.met (extended search.film path c.args.s) rest_is paid_is)

pub walk_child-walk_on-requires : goal.walk_child-walk_on-requires
walk_child-walk_on-requires g t c κs within =
    let search : SearchData = (g.H.Hand.shows c.args.hand.now).search in
    let path : PathData = path_data c.args.running.now.path in
    let film_is : search.film ≡ c.film-film.result.now = c.requires.search.0 ∙ sym c.film-film.ensures in
    let longer : PathData = path_data c.take_with-in-Through.new.self.path in
    let longer_is : longer ≡ extended search.film path c.args.s = taken search c.film-film.result.now path c.args.s film_is c.requires.first longer c.take_with-in-Through.ensures.path in
    let rest_is : without path.rest c.args.s ≡ c.without-rest.result.0 = sym (c.without-rest.ensures ∙ ap (λ (q : ℕ). without q c.args.s) c.rest.ensures) in
    let paid_is : (extended search.film path c.args.s).paid ≡ c.paid.result + c.args.step
    = (λ i. (sym c.paid.ensures i) + (ap (λ (film : FilmData). step_cost film path.rest c.args.s) c.requires.search.0 ∙ sym c.requires.step) i) in
    let met = c.in-Through.ensures.met (extended search.film path c.args.s) rest_is paid_is in
    let less : size longer.rest ≡ size (without path.rest c.args.s) = ap (λ (p : PathData). size p.rest) longer_is in (
      omega (arith, less, c.decreases),
      (
        within.0,
        (
          within.1,
          (
            c.in-Through.ensures.sound,
            (
              subst (λ (of : SearchData). (of.film ≡ g.B.Bounds.film) × (of.kind ≡ g.B.Bounds.kind)) (sym met.0.search) c.requires.search,
              (
                subst (λ (film : FilmData). IsRunning film (running_data c.take_with-in-Through.new.self)) c.film-film.ensures c.take_with-in-Through.ensures.running,
                (
                  subst (MayExplore (g.H.Hand.shows c.meet-met.new.hand) (cursor_data c.args.cursor.now)) (sym longer_is)
                      (may_still (g.H.Hand.shows c.args.hand.now) (g.H.Hand.shows c.meet-met.new.hand) (cursor_data c.args.cursor.now) (extended search.film path c.args.s) met.0 c.requires.may),
                  (
                    (λ none. absurd (let e : false ≡ true = sym c.if-is_empty.false ∙ c.is_empty.ensures.1 (sym rest_is ∙ ap (λ (p : PathData). p.rest) (sym longer_is) ∙ none) in cc)),
                    subst (λ (p : PathData). IsThrough (g.H.Hand.shows c.meet-met.new.hand) p c.in-Through.passed) (sym longer_is) met.1,
                  ),
                ),
              ),
            ),
          ),
        ),
      ),
    )

pub walk_child-take_with-requires-in-Through-clause-ready : goal.walk_child-take_with-requires-in-Through-clause-ready
walk_child-take_with-requires-in-Through-clause-ready g t c =
    let search : SearchData = (g.H.Hand.shows c.args.hand.now).search in
    let path : PathData = path_data c.args.running.now.path in
    let film_is : search.film ≡ c.film-film.result.now = c.requires.search.0 ∙ sym c.film-film.ensures in
    first_ready search c.film-film.result.now path c.args.s film_is c.requires.first

pub walk_child-returns-in_err-found-in-Through-clause-explored : goal.walk_child-returns-in_err-found-in-Through-clause-explored
walk_child-returns-in_err-found-in-Through-clause-explored g t c =
    let search : SearchData = (g.H.Hand.shows c.args.hand.now).search in
    let path : PathData = path_data c.args.running.now.path in
    let film_is : search.film ≡ c.film-film.result.now = c.requires.search.0 ∙ sym c.film-film.ensures in
    let longer : PathData = path_data c.take_with-in-Through.new.self.path in
    let longer_is : longer ≡ extended search.film path c.args.s = taken search c.film-film.result.now path c.args.s film_is c.requires.first longer c.take_with-in-Through.ensures.path in
    let rest_is : without path.rest c.args.s ≡ c.without-rest.result.0 = sym (c.without-rest.ensures ∙ ap (λ (q : ℕ). without q c.args.s) c.rest.ensures) in
    let paid_is : (extended search.film path c.args.s).paid ≡ c.paid.result + c.args.step
    = (λ i. (sym c.paid.ensures i) + (ap (λ (film : FilmData). step_cost film path.rest c.args.s) c.requires.search.0 ∙ sym c.requires.step) i) in
    let met = c.in-Through.ensures.met (extended search.film path c.args.s) rest_is paid_is in
    refused_after (g.H.Hand.shows c.args.hand.now) (g.H.Hand.shows c.meet-met.new.hand) (g.H.Hand.shows c.walk_on.new.hand) (cursor_data c.args.cursor.now)
    (cursor_data c.walk_on.new.cursor) (extended search.film path c.args.s) c.keeps_limits-2.ensures.few c.requires.may.stands met.0
    c.from_residual.result c.in_err-found-in-Through.field-0.0 c.from_residual.ensures.0
    (subst (λ (p : PathData). Explores (g.H.Hand.shows c.meet-met.new.hand) (cursor_data c.args.cursor.now) p (Err c.in_err-found-in-Through.field-0.0)
    (g.H.Hand.shows c.walk_on.new.hand) (cursor_data c.walk_on.new.cursor)) longer_is c.in_err-found-in-Through.ensures.explored)

pub walk_child-returns-in_ok-found-in-Through-clause-explored : goal.walk_child-returns-in_ok-found-in-Through-clause-explored
walk_child-returns-in_ok-found-in-Through-clause-explored g t c =
    let search : SearchData = (g.H.Hand.shows c.args.hand.now).search in
    let path : PathData = path_data c.args.running.now.path in
    let film_is : search.film ≡ c.film-film.result.now = c.requires.search.0 ∙ sym c.film-film.ensures in
    let longer : PathData = path_data c.take_with-in-Through.new.self.path in
    let longer_is : longer ≡ extended search.film path c.args.s = taken search c.film-film.result.now path c.args.s film_is c.requires.first longer c.take_with-in-Through.ensures.path in
    let rest_is : without path.rest c.args.s ≡ c.without-rest.result.0 = sym (c.without-rest.ensures ∙ ap (λ (q : ℕ). without q c.args.s) c.rest.ensures) in
    let paid_is : (extended search.film path c.args.s).paid ≡ c.paid.result + c.args.step
    = (λ i. (sym c.paid.ensures i) + (ap (λ (film : FilmData). step_cost film path.rest c.args.s) c.requires.search.0 ∙ sym c.requires.step) i) in
    let met = c.in-Through.ensures.met (extended search.film path c.args.s) rest_is paid_is in
    explores_after (g.H.Hand.shows c.args.hand.now) (g.H.Hand.shows c.meet-met.new.hand) (g.H.Hand.shows c.walk_on.new.hand) (cursor_data c.args.cursor.now)
    (cursor_data c.walk_on.new.cursor) (extended search.film path c.args.s) c.keeps_limits-2.ensures.few c.requires.may.stands met.0 (Ok c.in_ok-found-in-Through.found)
    (subst (λ (p : PathData). Explores (g.H.Hand.shows c.meet-met.new.hand) (cursor_data c.args.cursor.now) p (Ok c.in_ok-found-in-Through.found)
    (g.H.Hand.shows c.walk_on.new.hand) (cursor_data c.walk_on.new.cursor)) longer_is c.in_ok-found-in-Through.ensures.explored)
