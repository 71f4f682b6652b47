use Rattle.std.proofs.Common.{◌≡◌, ℕ, ◌<◌, ◌∙◌, Ok, None, Some, Result, Option, List, ap, sym, subst, arith, length, slice_set, get_or}
use Rattle.std.proofs.lemmas.List.{get_or-set_other, get_or-set_same, length-map, length-set}
use Rattle.strip_io.specs.declared.files.Memory.{Memory}
use Rattle.strip_film.specs.Path.{PathData}
use Rattle.strip_film.specs.Shown.{CursorData, cursor_data, path_data}
use Rattle.strip_hand.specs.Hand.{HandData}
use Rattle.strip_hand.specs.Search.{SearchData, search_rules}
use Rattle.strip_film.specs.Film.{all_scenes}
use Rattle.strip_front.specs.declared.down.Tried.{Tried}
use Rattle.strip_front.specs.declared.down.Tried.TheVariants.{Line, Passed, Spent}
use Rattle.strip_front.specs.Calls.{GoesDown}
use Rattle.strip_front.specs.Front.{IsFrontOf, line_of, path_at}
use Rattle.strip_front.specs.Shown.{front_data}
use Rattle.strip_front.specs.Tried.{MayTry, Tries}
use Rattle.strip_front.proofs.FrontFacts.{FrontFacts, front_facts}
use Rattle.strip_front.proofs.GoneDown.{down_then, tries_down}
use Rattle.strip_front.proofs.Tried.{may_try_first, none_there, path_read, root_enlisted, root_passed, root_spent}
use Rattle.strip_front.proofs.down.enlist_paths.Given.{Over}
use Rattle.strip_front.proofs.down.enlist_paths.Goals as goal
use Rattle.strip_front.proofs.down.enlist_paths.Goals.{After-index-paths-0, After-paths, After-try_path}

facts : (g : Over) (c : goal.After-paths g)
    → FrontFacts (g.H.Hand.shows c.args.hand.now).search.kind (g.H.Hand.shows c.args.hand.now).search.film (front_data c.args.front.now)
facts g c =
    front_facts (g.H.Hand.shows c.args.hand.now).search.kind (g.H.Hand.shows c.args.hand.now).search.film (front_data c.args.front.now) c.keeps_limits.ensures.film c.requires.may.unfilled.empty.front_of

some_paths : (g : Over) (c : goal.After-paths g) → 0 < length c.args.front.now.paths.paths.items
some_paths g c = omega (arith, (facts g c).some, length-map c.args.front.now.paths.paths.items path_data)

pub bounds-paths-0 : goal.bounds-paths-0
bounds-paths-0 g c = omega (arith, some_paths g (goal.at.bounds-paths-0 g c).After-paths, ap length c.paths.ensures)

path_is : (g : Over) (c : goal.After-index-paths-0 g) → path_data c.index-paths-0.result ≡ path_at (front_data c.args.front.now) 0
path_is g c =
    path_read c.paths.result.now c.args.front.now.paths.paths.items 0 c.index-paths-0.result c.paths.ensures (some_paths g (goal.at.After-index-paths-0 g c).After-paths) c.index-paths-0.is

may : (g : Over) (c : goal.After-index-paths-0 g) → MayTry (g.H.Hand.shows c.args.hand.now).search (cursor_data c.args.cursor.now) (path_data c.index-paths-0.result)
may g c =
    let at = (goal.at.After-index-paths-0 g c).After-paths in
    subst (MayTry (g.H.Hand.shows c.args.hand.now).search (cursor_data c.args.cursor.now)) (sym (path_is g c))
    (may_try_first (g.H.Hand.shows c.args.hand.now).search (cursor_data c.args.cursor.now) (front_data c.args.front.now) (facts g at) c.requires.may.unfilled.tasks
    (ap (λ (k : CursorData). k.task) c.requires.may.begins) 0 (facts g at).some (ap (λ (k : CursorData). k.last) c.requires.may.begins))

pub try_path-requires-clause-stands : goal.try_path-requires-clause-stands
try_path-requires-clause-stands g c = record { stands = c.requires.may.stands; task = ap (λ (k : CursorData). k.task) c.requires.may.begins }

pub try_path-requires-clause-may : goal.try_path-requires-clause-may
try_path-requires-clause-may g c = may g (goal.at.try_path-requires-clause-may g c).After-index-paths-0

some_lines : (g : Over) (c : goal.After-paths g) → 0 < length c.args.front.now.lines.items
some_lines g c = omega (arith, (facts g c).some, c.requires.may.unfilled.empty.front_of.lines)

pub index_mut-requires : goal.index_mut-requires
index_mut-requires g c = omega (arith, some_lines g (goal.at.index_mut-requires g c).After-paths)

down : (g : Over) (c : goal.After-try_path g) → GoesDown (g.H.Hand.shows c.args.hand.now) (g.H.Hand.shows c.try_path.new.hand) (cursor_data c.try_path.new.cursor)
down g c =
    tries_down (g.H.Hand.shows c.args.hand.now) (cursor_data c.args.cursor.now) (path_data c.index-paths-0.result) (g.H.Hand.shows c.try_path.new.hand) (cursor_data c.try_path.new.cursor)
    c.requires.may.stands (ap (λ (k : CursorData). k.task) c.requires.may.begins) c.try_path.result c.try_path.ensures.tried

-- no path has a line yet
none : (g : Over) (c : goal.After-paths g) (place : ℕ) → line_of (front_data c.args.front.now) place ≡ None
none g c place =
    ap (λ (xs : List (Option ℕ)). get_or xs place None) c.requires.may.unfilled.empty.lines ∙ none_there (length (front_data c.args.front.now).paths) place

tries : (g : Over) (c : goal.After-try_path g) (t : Tried) → c.try_path.result ≡ Ok t
    → Tries (g.H.Hand.shows c.args.hand.now) (cursor_data c.args.cursor.now) (path_data c.index-paths-0.result) (Ok t)
    (g.H.Hand.shows c.try_path.new.hand) (cursor_data c.try_path.new.cursor)
tries g c t was =
    subst (λ (r : Result Tried Memory). Tries (g.H.Hand.shows c.args.hand.now) (cursor_data c.args.cursor.now) (path_data c.index-paths-0.result) r
    (g.H.Hand.shows c.try_path.new.hand) (cursor_data c.try_path.new.cursor)) was c.try_path.ensures.tried

-- it is the empty one
rest_is : (g : Over) (c : goal.After-index-paths-0 g) → (path_data c.index-paths-0.result).rest ≡ all_scenes (g.H.Hand.shows c.args.hand.now).search.film
rest_is g c = ap (λ (p : PathData). p.rest) (path_is g c ∙ (facts g (goal.at.After-index-paths-0 g c).After-paths).first)

paid_is : (g : Over) (c : goal.After-index-paths-0 g) → (path_data c.index-paths-0.result).paid ≡ 0
paid_is g c = ap (λ (p : PathData). p.paid) (path_is g c ∙ (facts g (goal.at.After-index-paths-0 g c).After-paths).first)

-- the front with the line of the empty path
rooted : (g : Over) (c : goal.After-try_path g) (line : ℕ)
    → IsFrontOf (search_rules (g.H.Hand.shows c.args.hand.now).search)
    (record (front_data c.args.front.now) { lines = slice_set c.args.front.now.lines.items 0 (Some line) })
rooted g c line = record {
  depth = c.requires.may.unfilled.empty.front_of.depth;
  tasks = c.requires.may.unfilled.empty.front_of.tasks;
  wanted = c.requires.may.unfilled.empty.front_of.wanted;
  paths = c.requires.may.unfilled.empty.front_of.paths;
  lines = length-set c.args.front.now.lines.items 0 (Some line) ∙ c.requires.may.unfilled.empty.front_of.lines;
}

pub enlist_longer-requires-clause-begun : goal.enlist_longer-requires-clause-begun
enlist_longer-requires-clause-begun g c =
    let at = (goal.at.enlist_longer-requires-clause-begun g c).After-try_path in
    let here = (goal.at.After-try_path g at).After-index-paths-0 in
    let first = (goal.at.After-index-paths-0 g here).After-paths in
    let lines : List (Option ℕ) = slice_set c.args.front.now.lines.items 0 (Some c.in-Line.line) in
    let same : (g.H.Hand.shows c.try_path.new.hand).search ≡ (g.H.Hand.shows c.args.hand.now).search = ap (λ (h : HandData). h.search) (down g at).only in
    record {
      tasks = ap (λ (s : SearchData). s.tasks) same ∙ c.requires.may.unfilled.tasks;
      front_of = subst (λ (s : SearchData). IsFrontOf (search_rules s) (record (front_data c.args.front.now) { lines = lines })) (sym same) (rooted g at c.in-Line.line);
      stands = record { stands = (down g at).stands; task = (down g at).task };
      tried = root_enlisted (g.H.Hand.shows c.args.hand.now) (cursor_data c.args.cursor.now) (g.H.Hand.shows c.try_path.new.hand) (cursor_data c.try_path.new.cursor) (front_data c.args.front.now)
          (none g first) (ap (λ (k : CursorData). k.last) c.requires.may.begins) (path_data c.index-paths-0.result) (rest_is g here) (paid_is g here)
          lines c.in-Line.line
          (get_or-set_same c.args.front.now.lines.items 0 (Some c.in-Line.line) None (some_lines g first))
          (λ p other. get_or-set_other c.args.front.now.lines.items 0 p (Some c.in-Line.line) None other) (path_is g here)
          (tries g at (Line c.in-Line.line) (c.in_ok-try_path.was ∙ ap (λ (t : Tried). Ok t) c.in-Line.is));
    }

pub returns-in-Passed-clause-enlisted : goal.returns-in-Passed-clause-enlisted
returns-in-Passed-clause-enlisted g c =
    let at = (goal.at.returns-in-Passed-clause-enlisted g c).After-try_path in
    let here = (goal.at.After-try_path g at).After-index-paths-0 in
    root_passed (g.H.Hand.shows c.args.hand.now) (cursor_data c.args.cursor.now) (g.H.Hand.shows c.try_path.new.hand) (cursor_data c.try_path.new.cursor) (front_data c.args.front.now)
    (none g (goal.at.After-index-paths-0 g here).After-paths) (ap (λ (k : CursorData). k.last) c.requires.may.begins) (path_data c.index-paths-0.result) (rest_is g here) (paid_is g here)
    (tries g at Passed (c.in_ok-try_path.was ∙ ap (λ (t : Tried). Ok t) c.in-Passed.is))

pub returns-in-Spent-clause-enlisted : goal.returns-in-Spent-clause-enlisted
returns-in-Spent-clause-enlisted g c =
    let at = (goal.at.returns-in-Spent-clause-enlisted g c).After-try_path in
    let here = (goal.at.After-try_path g at).After-index-paths-0 in
    root_spent (g.H.Hand.shows c.args.hand.now) (cursor_data c.args.cursor.now) (g.H.Hand.shows c.try_path.new.hand) (cursor_data c.try_path.new.cursor) (front_data c.args.front.now)
    (none g (goal.at.After-index-paths-0 g here).After-paths) (ap (λ (k : CursorData). k.last) c.requires.may.begins) (path_data c.index-paths-0.result) (rest_is g here) (paid_is g here)
    c.try_path.ensures.limits (may g here) (tries g at Spent (c.in_ok-try_path.was ∙ ap (λ (t : Tried). Ok t) c.in-Spent.is))

pub returns-in_err-try_path-clause-down : goal.returns-in_err-try_path-clause-down
returns-in_err-try_path-clause-down g c = down g (goal.at.returns-in_err-try_path-clause-down g c).After-try_path

pub returns-in-Passed-clause-down : goal.returns-in-Passed-clause-down
returns-in-Passed-clause-down g c = down g (goal.at.returns-in-Passed-clause-down g c).After-try_path

pub returns-in-Spent-clause-down : goal.returns-in-Spent-clause-down
returns-in-Spent-clause-down g c = down g (goal.at.returns-in-Spent-clause-down g c).After-try_path

pub returns-in-Line-clause-down : goal.returns-in-Line-clause-down
returns-in-Line-clause-down g c =
    down_then (g.H.Hand.shows c.args.hand.now) (g.H.Hand.shows c.try_path.new.hand) (g.H.Hand.shows c.enlist_longer.new.hand) (cursor_data c.try_path.new.cursor) (cursor_data c.enlist_longer.new.cursor)
    (down g (goal.at.returns-in-Line-clause-down g c).After-try_path) c.enlist_longer.ensures.down
