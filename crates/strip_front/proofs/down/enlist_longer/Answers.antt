use Rattle.std.proofs.Common.{◌≡◌, None, slice_set, Result, ◌<◌, ◌∙◌, Ok, ap, sym, subst, arith, length}
use Rattle.std.proofs.lemmas.List.{get_or-set_other, get_or-set_same, length-map, length-set}
use Rattle.strip_io.specs.declared.files.Memory.{Memory}
use Rattle.strip_film.specs.Path.{PathData}
use Rattle.strip_film.specs.Shown.{cursor_data, path_data}
use Rattle.strip_hand.specs.Hand.{HandData}
use Rattle.strip_hand.specs.Search.{SearchData}
use Rattle.strip_front.specs.declared.down.Tried.{Tried}
use Rattle.strip_front.specs.Calls.{GoesDown}
use Rattle.strip_front.specs.Front.{FrontData, path_at}
use Rattle.strip_front.specs.Shown.{front_data}
use Rattle.strip_front.specs.Tried.{IsEnlisted, MayTry, Tries, has_spent}
use Rattle.strip_front.proofs.FrontFacts.{FrontFacts, front_facts}
use Rattle.strip_front.proofs.GoneDown.{down_then, tries_down}
use Rattle.strip_front.proofs.Tried.{all_tried, may_try, path_read, tried_at, tried_more}
use Rattle.strip_front.proofs.down.enlist_longer.Given.{Over}
use Rattle.strip_front.proofs.down.enlist_longer.Goals as goal
use Rattle.strip_front.proofs.down.enlist_longer.Goals.{After-index-paths-place, After-try_path, In-loop-place}

same_search : (g : Over) (c : goal.In-loop-place g) → (g.H.Hand.shows c.loop-place.hand).search ≡ (g.H.Hand.shows c.args.hand.now).search
same_search g c = ap (λ (h : HandData). h.search) c.loop-place.invariant.down.only

facts : (g : Over) (c : goal.In-loop-place g)
    → FrontFacts (g.H.Hand.shows c.args.hand.now).search.kind (g.H.Hand.shows c.args.hand.now).search.film (front_data c.args.front.now)
facts g c =
    front_facts (g.H.Hand.shows c.args.hand.now).search.kind (g.H.Hand.shows c.args.hand.now).search.film (front_data c.args.front.now) c.keeps_limits.ensures.film c.requires.begun.front_of

within : (g : Over) (c : goal.In-loop-place g) → c.loop-place.place < length (front_data c.args.front.now).paths
within g c = omega (arith, c.loop-place-test.true, c.len-place-end.ensures, c.requires.begun.front_of.lines)

path_is : (g : Over) (c : goal.After-index-paths-place g) → path_data c.index-paths-place.result ≡ path_at (front_data c.args.front.now) c.loop-place.place
path_is g c =
    let count : length c.loop-place.front.paths.paths.items ≡ length c.args.front.now.paths.paths.items
    = sym (length-map c.loop-place.front.paths.paths.items path_data) ∙ ap (λ (f : FrontData). length f.paths) c.loop-place.invariant.only
    ∙ length-map c.args.front.now.paths.paths.items path_data in
    path_read c.paths.result.now c.loop-place.front.paths.paths.items c.loop-place.place c.index-paths-place.result c.paths.ensures
    (omega (arith, count, within g (goal.at.After-index-paths-place g c).In-loop-place, length-map c.args.front.now.paths.paths.items path_data)) c.index-paths-place.is
    ∙ ap (λ (f : FrontData). path_at f c.loop-place.place) c.loop-place.invariant.only

may : (g : Over) (c : goal.After-index-paths-place g) → MayTry (g.H.Hand.shows c.loop-place.hand).search (cursor_data c.loop-place.cursor) (path_data c.index-paths-place.result)
may g c =
    let at = (goal.at.After-index-paths-place g c).In-loop-place in
    subst (MayTry (g.H.Hand.shows c.loop-place.hand).search (cursor_data c.loop-place.cursor)) (sym (path_is g c))
    (subst (λ (s : SearchData). MayTry s (cursor_data c.loop-place.cursor) (path_at (front_data c.args.front.now) c.loop-place.place)) (sym (same_search g at))
    (may_try (g.H.Hand.shows c.args.hand.now).search (cursor_data c.loop-place.cursor) (front_data c.args.front.now) (facts g at) c.requires.begun.tasks
    c.loop-place.invariant.down.task c.loop-place.place (within g at) (g.H.Hand.shows c.loop-place.hand) c.loop-place.front.lines.items c.loop-place.spent c.loop-place.invariant.tried))

pub try_path-requires-clause-stands : goal.try_path-requires-clause-stands
try_path-requires-clause-stands g c = record { stands = c.loop-place.invariant.down.stands; task = c.loop-place.invariant.down.task }

pub try_path-requires-clause-may : goal.try_path-requires-clause-may
try_path-requires-clause-may g c = may g (goal.at.try_path-requires-clause-may g c).After-index-paths-place

down : (g : Over) (c : goal.After-try_path g) → GoesDown (g.H.Hand.shows c.args.hand.now) (g.H.Hand.shows c.try_path.new.hand) (cursor_data c.try_path.new.cursor)
down g c =
    down_then (g.H.Hand.shows c.args.hand.now) (g.H.Hand.shows c.loop-place.hand) (g.H.Hand.shows c.try_path.new.hand) (cursor_data c.loop-place.cursor) (cursor_data c.try_path.new.cursor)
    c.loop-place.invariant.down
    (tries_down (g.H.Hand.shows c.loop-place.hand) (cursor_data c.loop-place.cursor) (path_data c.index-paths-place.result) (g.H.Hand.shows c.try_path.new.hand) (cursor_data c.try_path.new.cursor)
    c.loop-place.invariant.down.stands c.loop-place.invariant.down.task c.try_path.result c.try_path.ensures.tried)

tries : (g : Over) (c : goal.After-try_path g) (t : Tried) → c.try_path.result ≡ Ok t
    → Tries (g.H.Hand.shows c.loop-place.hand) (cursor_data c.loop-place.cursor) (path_at (front_data c.args.front.now) c.loop-place.place) (Ok t)
    (g.H.Hand.shows c.try_path.new.hand) (cursor_data c.try_path.new.cursor)
tries g c t was =
    subst (λ (p : PathData). Tries (g.H.Hand.shows c.loop-place.hand) (cursor_data c.loop-place.cursor) p (Ok t) (g.H.Hand.shows c.try_path.new.hand) (cursor_data c.try_path.new.cursor))
    (path_is g (goal.at.After-try_path g c).After-index-paths-place)
    (subst (λ (r : Result Tried Memory). Tries (g.H.Hand.shows c.loop-place.hand) (cursor_data c.loop-place.cursor) (path_data c.index-paths-place.result) r
    (g.H.Hand.shows c.try_path.new.hand) (cursor_data c.try_path.new.cursor)) was c.try_path.ensures.tried)

pub returns-clause-enlisted : goal.returns-clause-enlisted
returns-clause-enlisted g c =
    subst (λ (f : FrontData). IsEnlisted (g.H.Hand.shows c.loop-place.hand) (cursor_data c.loop-place.cursor) f c.loop-place.spent) (sym c.loop-place.invariant.only)
    (all_tried (g.H.Hand.shows c.loop-place.hand) (cursor_data c.loop-place.cursor) (record (front_data c.args.front.now) { lines = c.loop-place.front.lines.items }) c.loop-place.spent
    c.loop-place.place (omega (arith, c.loop-place-test.false, c.len-place-end.ensures, c.requires.begun.front_of.lines)) c.loop-place.invariant.tried)

pub loop-place-preserved : goal.loop-place-preserved
loop-place-preserved g c =
    let at = (goal.at.loop-place-preserved g c).After-try_path in
    let here = (goal.at.After-try_path g at).After-index-paths-place in
    let room : c.loop-place.place < length c.loop-place.front.lines.items
    = omega (arith, within g (goal.at.After-index-paths-place g here).In-loop-place, c.loop-place.invariant.room, c.requires.begun.front_of.lines) in
    record {
      sound = c.try_path.ensures.sound;
      home = c.try_path.ensures.home ∙ c.loop-place.invariant.home;
      down = down g at;
      only = ap (λ (f : FrontData). record f { lines = slice_set c.loop-place.front.lines.items c.loop-place.place c.line.result }) c.loop-place.invariant.only;
      room = length-set c.loop-place.front.lines.items c.loop-place.place c.line.result ∙ c.loop-place.invariant.room;
      tried = tried_at (g.H.Hand.shows c.try_path.new.hand) (cursor_data c.try_path.new.cursor)
          (record (front_data c.args.front.now) { lines = slice_set c.loop-place.front.lines.items c.loop-place.place c.line.result }) c.loop-place.place c.loop-place.spent
          c.is_spent-spent.result (has_spent c.in_ok-tried.tried) c.is_spent-spent.ensures
          (tried_more (g.H.Hand.shows c.loop-place.hand) (cursor_data c.loop-place.cursor) (g.H.Hand.shows c.try_path.new.hand) (cursor_data c.try_path.new.cursor)
          (record (front_data c.args.front.now) { lines = c.loop-place.front.lines.items }) c.loop-place.place c.loop-place.spent
          (slice_set c.loop-place.front.lines.items c.loop-place.place c.line.result) c.loop-place.invariant.tried
          (λ p other. get_or-set_other c.loop-place.front.lines.items c.loop-place.place p c.line.result None other)
          c.in_ok-tried.tried (tries g at c.in_ok-tried.tried c.in_ok-tried.was)
          (get_or-set_same c.loop-place.front.lines.items c.loop-place.place c.line.result None room ∙ c.line.ensures)
          (omega (arith, c.loop-place.auto.place)) c.try_path.ensures.limits
          (subst (MayTry (g.H.Hand.shows c.loop-place.hand).search (cursor_data c.loop-place.cursor)) (path_is g here) (may g here)));
    }
