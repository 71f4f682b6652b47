use Rattle.std.proofs.Common.{◌∙◌, IfOk, List, ap, subst, sym, arith}
use Rattle.strip_film.specs.declared.shared.Line.{Line}
use Rattle.strip_film.specs.Path.{PathData}
use Rattle.strip_film.specs.Shown.{path_data}
use Rattle.strip_hand.specs.Hand.{HandData}
use Rattle.strip_hand.specs.Search.{GoesBy, SearchData, search_rules}
use Rattle.strip_front.specs.Front.{IsEmptyFront}
use Rattle.strip_front.specs.Shown.{front_data}
use Rattle.strip_world.specs.Hand.{hand_data}
use Rattle.strip_world.specs.Opened.{search_of}
use Rattle.strip_world.specs.World.{worker_at}
use Rattle.strip_worker.specs.Closed.{IsSettled}
use Rattle.strip_lines.specs.Ended.{EndsFrom, ended_data}
use Rattle.strip_worker.proofs.Closed.{ended_from, search_stays, told_by}
use Rattle.strip_worker.proofs.Counted.{front_has_all}
use Rattle.strip_alone.proofs.OneWorker.{has_all, owns_all, search_by, settled_alone}
use Rattle.strip_alone.proofs.search.alone_through.Goals as goal

pub go_down_front-requires-clause-search : goal.go_down_front-requires-clause-search
go_down_front-requires-clause-search g c =
    search_by g.B.Bounds.film g.B.Bounds.kind c.in_ok-world.world.search c.args.nodes (path_data c.args.start.now).paid (front_data c.in_ok-front.front).tasks
    c.in_ok-world.ensures.search

pub go_down_front-requires-clause-may : goal.go_down_front-requires-clause-may
go_down_front-requires-clause-may g c = record {
  some_lines = omega (arith, c.requires.some_lines, ap (λ (s : SearchData). s.nodes) c.in_ok-world.ensures.search);
  claimed = c.in_ok-world.ensures.front;
  unfilled = record {
    tasks = ap (λ (s : SearchData). s.tasks) c.in_ok-world.ensures.search;
    empty = subst (λ (s : SearchData). IsEmptyFront (search_rules s) (front_data c.in_ok-front.front)) (sym c.in_ok-world.ensures.search) c.in_ok-front.ensures.empty;
  };
}

pub work-requires-clause-worked : goal.work-requires-clause-worked
work-requires-clause-worked g c = λ κs outlives. record {
  search = subst (GoesBy g.B.Bounds.kind g.B.Bounds.film) (sym (ap (λ (h : HandData). h.search) c.go_down_front.ensures.down.1.only))
      (search_by g.B.Bounds.film g.B.Bounds.kind c.in_ok-world.world.search c.args.nodes (path_data c.args.start.now).paid (front_data c.in_ok-front.front).tasks
      c.in_ok-world.ensures.search);
  worked = c.in_ok-walked.ensures.worked
      (front_has_all (hand_data c.go_down_front.new.hand)
      (owns_all c.go_down_front.new.hand c.go_down_front.ensures.sound (c.go_down_front.ensures.home ∙ c.in_ok-world.ensures.one_worker))
      (λ part apart. c.go_down_front.ensures.down.1.others part apart ∙ c.in_ok-world.ensures.front.others part apart));
}

pub close-requires-clause-worked : goal.close-requires-clause-worked
close-requires-clause-worked g c = record {
  search = subst (GoesBy g.B.Bounds.kind g.B.Bounds.film)
      (sym (c.work.ensures.works_on.goes_on.search ∙ ap (λ (h : HandData). h.search) c.go_down_front.ensures.down.1.only))
      (search_by g.B.Bounds.film g.B.Bounds.kind c.in_ok-world.world.search c.args.nodes (path_data c.args.start.now).paid (front_data c.in_ok-front.front).tasks
      c.in_ok-world.ensures.search);
  worked = c.in_ok-work.ensures.ended.worked;
}

pub close-requires-clause-all : goal.close-requires-clause-all
close-requires-clause-all g c =
    has_all c.work.new.hand c.work.ensures.sound (c.work.ensures.home ∙ c.go_down_front.ensures.home ∙ c.in_ok-world.ensures.one_worker)
    c.in_ok-work.ensures.ended.ended

pub returns : goal.returns
returns g c = record {
  ended =
      let kind = g.B.Bounds.kind in
      let film = g.B.Bounds.film in
      let world = c.close.new.hand in
      let one_worker = c.close.ensures.home ∙ c.work.ensures.home ∙ c.go_down_front.ensures.home ∙ c.in_ok-world.ensures.one_worker in
      let same_search = search_stays (search_of film kind (path_data c.args.start.now) (front_data c.in_ok-front.front).tasks (record { workers = 1; nodes = c.args.nodes; entries = c.args.entries }))
      (hand_data c.in_ok-world.world) (hand_data c.go_down_front.new.hand) (hand_data c.work.new.hand) (hand_data world) c.go_down_front.ensures.down.0
      c.in_ok-world.ensures.search c.go_down_front.ensures.down.1 c.work.ensures.works_on.goes_on c.close.ensures.learns in
      let left = subst (λ (path : PathData). IsSettled (hand_data world) path c.into_lines.result.items) (sym c.best.ensures)
      (subst (λ (lines : List Line). IsSettled (hand_data world) (worker_at world 0).best lines) (sym c.into_lines.ensures)
      (settled_alone world c.close.ensures.sound one_worker)) in
      ended_from kind film (path_data c.args.start.now) c.args.nodes c.tell.result
      (subst (λ (search : SearchData). IfOk c.tell.result (λ ended. EndsFrom kind film search.start search.nodes (ended_data ended))) same_search
      (told_by kind film (hand_data world) (path_data c.best.result.now) c.into_lines.result.items c.work.new.walked.spent c.in_ok-number.number
      c.tell.result c.tell.ensures.ended c.in_ok-number.ensures.closed left));
}
