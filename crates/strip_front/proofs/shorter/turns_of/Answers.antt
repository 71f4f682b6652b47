use Rattle.std.proofs.Common.{◌≡◌, ◌∙◌, ◌<◌, ℕ, List, Contains, append_assoc, length, true, slice_index, sym, ap, subst, arith}
use Rattle.std.proofs.lemmas.List.{length-set}
use Rattle.strip_mask.specs.Set.{has}
use Rattle.strip_mask.specs.Iter.{rest_of}
use Rattle.strip_mask.proofs.Members.{Contains-members}
use Rattle.strip_mask.proofs.Turns.{turn_below, turn_member, turns_all}
use Rattle.strip_model.specs.Film.{FilmData}
use Rattle.strip_film.specs.Film.{IsFilm}
use Rattle.strip_film.specs.Rules.{rank}
use Rattle.strip_film.specs.Shown.{turns_data}
use Rattle.strip_film.proofs.Placed.{placed_more}
use Rattle.strip_film.proofs.Ranks.{sooner_by}
use Rattle.strip_rule.specs.Rule.{open_firsts}
use Rattle.strip_rule.proofs.Firsts.{first_there, firsts_set}
use Rattle.strip_lines.specs.Lines.{rules_of}
use Rattle.strip_front.proofs.shorter.turns_of.Given.{Over}
use Rattle.strip_front.proofs.shorter.turns_of.Goals as goal
use Rattle.strip_front.proofs.shorter.turns_of.Goals.{After-open_firsts-firsts, After-rank}

pub rank-requires-clause-member : goal.rank-requires-clause-member
rank-requires-clause-member g c =
    let film = g.B.Bounds.film in
    first_there film c.args.rest.0 c.in-Some.first
    (turn_member (open_firsts film c.args.rest.0) c.in-Some.first c.loop-first.yielded (rest_of c.loop-first.first-iterator) (rest_of c.next.new.self)
    c.loop-first.invariant.turns c.in-Some.ensures.steps)

-- an open first is the number of a set's member
below : (g : Over) (c : goal.After-rank g) → c.in-Some.first < 64
below g c =
    turn_below (open_firsts g.B.Bounds.film c.args.rest.0) c.in-Some.first c.loop-first.yielded (rest_of c.loop-first.first-iterator) (rest_of c.next.new.self)
    c.loop-first.invariant.turns c.in-Some.ensures.steps

pub overflow_cast-ranks : goal.overflow_cast-ranks
overflow_cast-ranks g c = omega (arith, below g (goal.at.overflow_cast-ranks g c).After-rank)

pub offset_bounds-ranks-first : goal.offset_bounds-ranks-first
offset_bounds-ranks-first g c = omega (arith, below g (goal.at.offset_bounds-ranks-first g c).After-rank)

pub bounds-ranks-first : goal.bounds-ranks-first
bounds-ranks-first g c = below g (goal.at.bounds-ranks-first g c).After-rank

pub loop-first-preserved : goal.loop-first-preserved
loop-first-preserved g c =
    let film = g.B.Bounds.film in
    let lt : c.in-Some.first < length c.loop-first.ranks
    = omega (arith, below g (goal.at.loop-first-preserved g c).After-rank, c.loop-first.invariant.long) in
    record {
      ranked = placed_more c.loop-first.ranks c.loop-first.yielded c.in-Some.first c.rank.result (rank (rules_of g.B.Bounds.kind film) c.args.rest.0) lt
          c.loop-first.invariant.ranked c.rank.ensures;
      long = length-set c.loop-first.ranks c.in-Some.first c.rank.result ∙ c.loop-first.invariant.long;
      turns = rw append_assoc (rw (← c.in-Some.ensures.steps) c.loop-first.invariant.turns);
    }

-- the set is that of its open firsts
own_firsts : (g : Over) (c : goal.After-open_firsts-firsts g) → c.open_firsts-firsts.result.0 ≡ open_firsts g.B.Bounds.film c.args.rest.0
own_firsts g c = c.open_firsts-firsts.ensures.open ∙ ap (λ (f : FilmData). open_firsts f c.args.rest.0) c.film-film.ensures

pub returns-clause-by_rank : goal.returns-clause-by_rank
returns-clause-by_rank g c =
    let film = g.B.Bounds.film in
    let firsts : ℕ = open_firsts film c.args.rest.0 in
    let left : (turns_data c.of.result).left ≡ firsts = c.of.ensures.left ∙ own_firsts g (goal.at.returns-clause-by_rank g c).After-open_firsts-firsts in
    let ranked : (scene : ℕ) → has (turns_data c.of.result).left scene ≡ true
    → slice_index c.loop-first.ranks scene ≡ rank (rules_of g.B.Bounds.kind film) c.args.rest.0 scene
    = (λ scene waits. c.loop-first.invariant.ranked scene (subst (λ (xs : List ℕ). Contains xs scene)
    (sym (turns_all firsts c.loop-first.yielded (rest_of c.loop-first.first-iterator) c.loop-first.invariant.turns c.in-None.ensures.steps.0))
    (Contains-members firsts scene
    (firsts_set film c.args.rest.0 (subst IsFilm c.film-film.ensures c.keeps_limits.ensures) c.requires.lies)
    (ap (λ (q : ℕ). has q scene) (sym left) ∙ waits)))) in
    λ one other here there sooner. sooner_by (slice_index c.loop-first.ranks) (rank (rules_of g.B.Bounds.kind film) c.args.rest.0) one other
    (ranked one here) (ranked other there) (c.of.ensures.by_rank one other here there sooner)
