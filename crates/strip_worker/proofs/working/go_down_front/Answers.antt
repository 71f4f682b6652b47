use Rattle.std.proofs.Common.{◌∙◌, Some, List, ap, sym, length}
use Rattle.strip_film.specs.Path.{PathData}
use Rattle.strip_film.specs.Shown.{CursorData, cursor_data}
use Rattle.strip_front.specs.Shown.{front_data}
use Rattle.strip_worker.specs.Team.{beginning}
use Rattle.strip_worker.proofs.Begun.{begins, not_yet_down, zeros}
use Rattle.strip_worker.proofs.working.go_down_front.Goals as goal

pub returns-clause-worked : goal.returns-clause-worked
returns-clause-worked g c =
    begins (g.H.Hand.shows c.args.hand.now) (g.H.Hand.shows c.go_down.new.hand) (cursor_data c.go_down.new.cursor) (front_data c.go_down.new.front)
    c.in_ok-walked.walked.found.items c.in_ok-spent.spent c.requires.may.claimed c.go_down.ensures.stays
    c.go_down.ensures.front.front_of (c.requires.may.unfilled.tasks ∙ sym c.go_down.ensures.front.tasks)
    (zeros c.in_ok-walked.walked.found.items (length (front_data c.args.front.now).tasks) (length (front_data c.go_down.new.front).tasks) c.in_ok-walked.ensures.found
    (sym (ap (λ (tasks : List PathData). length tasks) c.go_down.ensures.front.tasks)))
    c.in_ok-spent.ensures.down c.requires.may.some_lines

pub returns-in_err-walked-clause-down : goal.returns-in_err-walked-clause-down
returns-in_err-walked-clause-down g c = (beginning 0, not_yet_down (g.H.Hand.shows c.args.hand.now) c.requires.may.claimed)

pub go_down-requires-clause-may : goal.go_down-requires-clause-may
go_down-requires-clause-may g c = record {
  unfilled = c.requires.may.unfilled;
  stands = (
    0,
    ap (λ (k : CursorData). (g.H.Hand.shows c.args.hand.now).records k.task) c.of.ensures ∙ c.requires.may.claimed.front
        ∙ ap (λ (k : CursorData). Some (record { last = k.last; number = 0 })) (sym c.of.ensures),
  );
  begins = c.of.ensures;
}
