use Rattle.std.proofs.Common.{refl}
use Rattle.strip_film.specs.Shown.{cursor_data, path_data}
use Rattle.strip_walk.proofs.Answered.{made_opened, made_walks, spent_found}
use Rattle.strip_walk.proofs.beginning.list.Goals as goal

pub returns-in-Line-clause-begun : goal.returns-in-Line-clause-begun
returns-in-Line-clause-begun g c =
    let made = rw c.in-Line.is at c.in_ok-listed.ensures.listed in (
      made_walks (g.H.Hand.shows c.args.hand.now) (g.H.Hand.shows c.enlist.new.self) (cursor_data c.args.cursor.now) (cursor_data c.enlist.new.cursor)
          (path_data c.args.path.now) c.args.passed.now.bound c.in-Line.line c.keeps_limits.ensures made,
      made_opened (g.H.Hand.shows c.args.hand.now) (g.H.Hand.shows c.enlist.new.self) (cursor_data c.args.cursor.now) (cursor_data c.enlist.new.cursor)
          (path_data c.args.path.now) c.in-Line.line c.args.passed.now _ refl c.requires.through made,
    )

pub returns-in-Spent-clause-begun : goal.returns-in-Spent-clause-begun
returns-in-Spent-clause-begun g c =
    let spent = rw c.in-Spent.is at c.in_ok-listed.ensures.listed in
    spent_found (g.H.Hand.shows c.args.hand.now) (g.H.Hand.shows c.enlist.new.self) (cursor_data c.args.cursor.now) (path_data c.args.path.now)
    c.in-Spent.lines c.args.passed.now c.keeps_limits.ensures c.requires.may c.requires.some c.requires.through spent.0
    (cursor_data c.enlist.new.cursor) c.best_of.result spent.1 c.best_of.ensures
