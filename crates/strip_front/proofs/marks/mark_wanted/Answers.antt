use Rattle.std.proofs.Common.{length, ap, arith}
use Rattle.strip_lines.specs.Lines.{rules_of}
use Rattle.strip_front.specs.Front.{FrontData}
use Rattle.strip_front.specs.Shown.{front_data}
use Rattle.strip_front.proofs.Asked.{FollowsBefore, follows_all, follows_more, front_marked}
use Rattle.strip_front.proofs.marks.mark_wanted.Goals as goal

pub mark_behind-requires-clause-front : goal.mark_behind-requires-clause-front
mark_behind-requires-clause-front c = (
  c.requires.0,
  front_marked (rules_of c.requires.0 c.args.film.now) (front_data c.args.front.now) (front_data c.loop-place.front)
      (FollowsBefore c.args.film.now (front_data c.args.front.now) c.loop-place.place) c.loop-place.invariant c.requires.1,
)

pub mark_behind-requires-clause-place : goal.mark_behind-requires-clause-place
mark_behind-requires-clause-place c =
    omega (arith, c.loop-place-test.true, c.len-place-end.ensures, c.requires.1.lines, ap (λ (f : FrontData). length f.paths) c.loop-place.invariant.only)

pub loop-place-preserved : goal.loop-place-preserved
loop-place-preserved c =
    follows_more c.args.film.now (front_data c.args.front.now) (front_data c.loop-place.front) (front_data c.mark_behind.new.front) c.loop-place.place c.loop-place.invariant
    c.mark_behind.ensures

pub returns : goal.returns
returns c =
    follows_all c.args.film.now (front_data c.args.front.now) (front_data c.loop-place.front) c.loop-place.place
    (omega (arith, c.loop-place-test.false, c.len-place-end.ensures, c.requires.1.lines))
    (omega (arith, c.loop-place.auto.place-end, c.len-place-end.ensures, c.requires.1.lines)) c.loop-place.invariant
