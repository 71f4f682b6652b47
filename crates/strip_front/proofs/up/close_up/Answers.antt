use Rattle.std.proofs.Common.{◌≡◌, ◌+◌, ◌-◌, ◌≤◌, ◌∙◌, Some, None, IsSome, ℕ, length, refl, sym, ap, subst, arith}
use Rattle.std.specs.Option.{is_some}
use Rattle.std.proofs.lemmas.List.{get_or_default}
use Rattle.strip_mask.proofs.Below.{LiesBelow-full}
use Rattle.strip_model.specs.declared.kind.Kind.{Kind}
use Rattle.strip_model.specs.Film.{FilmData}
use Rattle.strip_film.specs.Film.{all_scenes}
use Rattle.strip_film.specs.Path.{PathData}
use Rattle.strip_bound.specs.Bounds.{bound}
use Rattle.strip_lines.specs.Lines.{known}
use Rattle.strip_lines.proofs.Grown.{known-static}
use Rattle.strip_hand.specs.Search.{SearchData, search_rules}
use Rattle.strip_front.specs.Front.{FrontData, path_at, root_of}
use Rattle.strip_front.specs.Raised.{IsRaisedTo, ReachesFrom}
use Rattle.strip_front.specs.Shown.{front_data}
use Rattle.strip_front.proofs.FrontFacts.{FrontFacts, front_facts}
use Rattle.strip_front.proofs.Small.{same_search, walked_still}
use Rattle.strip_front.proofs.Tried.{none_is, some_is}
use Rattle.strip_front.proofs.up.close_up.Given.{Over}
use Rattle.strip_front.proofs.up.close_up.Goals as goal
use Rattle.strip_front.proofs.up.close_up.Goals.{After-index-2, After-keeps_limits, In-loop-scene_count}

facts : (g : Over) (c : goal.After-keeps_limits g)
    → FrontFacts (g.H.Hand.shows c.args.hand.now).search.kind (g.H.Hand.shows c.args.hand.now).search.film (front_data c.args.front.now)
facts g c =
    front_facts (g.H.Hand.shows c.args.hand.now).search.kind (g.H.Hand.shows c.args.hand.now).search.film (front_data c.args.front.now) c.keeps_limits.ensures.film c.requires.walked.front_of

pub index-requires : goal.index-requires
index-requires g c = omega (arith, (facts g (goal.at.index-requires g c).After-keeps_limits).some, c.requires.walked.front_of.lines)

pub whole-requires : goal.whole-requires
whole-requires g c = record {
  lies = rw (c.all.ensures, c.film.ensures) (LiesBelow-full (length g.B.Bounds.film.casts));
}

-- where the empty path has no line, the number is the static bound
pub returns-then-is_none-clause-closed : goal.returns-then-is_none-clause-closed
returns-then-is_none-clause-closed g c =
    let hand = g.H.Hand.shows c.args.hand.now in
    let front = front_data c.args.front.now in
    let all = all_scenes hand.search.film in
    let start = (goal.at.returns-then-is_none-clause-closed g c).After-keeps_limits in
    let none : root_of front ≡ None
    = get_or_default c.args.front.now.lines.items 0 None c.index.result.now (omega (arith, (facts g start).some, c.requires.walked.front_of.lines))
    ∙ sym c.index.ensures ∙ none_is c.index.result.now c.if-is_none.ensures in
    let static : c.whole.result ≡ bound hand.search.kind hand.search.film all
    = c.whole.ensures ∙ ap (bound g.B.Bounds.kind g.B.Bounds.film) (c.all.ensures ∙ ap all_scenes c.film.ensures)
    ∙ ap (λ (k : Kind). bound k g.B.Bounds.film (all_scenes g.B.Bounds.film)) (sym c.requires.search.1)
    ∙ ap (λ (f : FilmData). bound hand.search.kind f (all_scenes f)) (sym c.requires.search.0) in
    record {
      known_of = omega (arith, static, known-static (search_rules hand.search) hand.lines all);
      static_bound = omega (arith, static);
      root = λ line some. absurd (let e : Some line ≡ None = sym some ∙ none in cc);
      reaches = λ whole all. omega (arith, static, whole.none none);
    }

root : (g : Over) (c : goal.In-loop-scene_count g) → IsSome (root_of (front_data c.args.front.now))
root g c =
    ap is_some (get_or_default c.args.front.now.lines.items 0 None c.index.result.now
    (omega (arith, (facts g (goal.at.In-loop-scene_count g c).After-keeps_limits).some, c.requires.walked.front_of.lines)) ∙ sym c.index.ensures)
    ∙ c.if-is_none.ensures

pub raise_layer-requires-clause-raised : goal.raise_layer-requires-clause-raised
raise_layer-requires-clause-raised g c =
    let at = (goal.at.raise_layer-requires-clause-raised g c).In-loop-scene_count in
    let hand = g.H.Hand.shows c.loop-scene_count.hand in
    subst (λ (f : FrontData). IsRaisedTo hand f c.args.found.now c.loop-scene_count.front.numbers.items (c.loop-scene_count.scene_count - 1 + 1)) (sym c.loop-scene_count.invariant.front) (record {
      walked = walked_still (g.H.Hand.shows c.args.hand.now) hand c.loop-scene_count.invariant.learns (front_data c.args.front.now) c.args.found.now c.requires.walked;
      root = root g at;
      raised = λ place there long. c.loop-scene_count.invariant.raised place there (omega (arith, long, c.loop-scene_count-test.true));
    })

pub index-requires-2 : goal.index-requires-2
index-requires-2 g c = omega (arith, (facts g (goal.at.index-requires-2 g c).After-keeps_limits).some, c.loop-scene_count.front.numbered, ap (λ (f : FrontData). length f.paths) c.loop-scene_count.invariant.front)

-- the number of the empty path
reached : (g : Over) (c : goal.After-index-2 g) → ReachesFrom (g.H.Hand.shows c.loop-scene_count.hand) (front_data c.args.front.now) c.args.found.now 0 c.index-2.result.now
reached g c =
    let some = (facts g (goal.at.After-index-2 g c).After-keeps_limits).some in
    subst (ReachesFrom (g.H.Hand.shows c.loop-scene_count.hand) (front_data c.args.front.now) c.args.found.now 0)
    (sym (c.index-2.ensures ∙ get_or_default c.loop-scene_count.front.numbers.items 0 c.index-2.result.now 0 (omega (arith, some, c.loop-scene_count.front.numbered, ap (λ (f : FrontData). length f.paths) c.loop-scene_count.invariant.front))))
    (c.loop-scene_count.invariant.raised 0 some (omega (arith, c.loop-scene_count-test.false)))

same : (g : Over) (c : goal.After-index-2 g) → (g.H.Hand.shows c.loop-scene_count.hand).search ≡ (g.H.Hand.shows c.args.hand.now).search
same g c = same_search (g.H.Hand.shows c.args.hand.now) (g.H.Hand.shows c.loop-scene_count.hand) c.loop-scene_count.invariant.learns

rest_is : (g : Over) (c : goal.After-index-2 g) → (path_at (front_data c.args.front.now) 0).rest ≡ all_scenes (g.H.Hand.shows c.args.hand.now).search.film
rest_is g c = ap (λ (p : PathData). p.rest) (facts g (goal.at.After-index-2 g c).After-keeps_limits).first

paid_is : (g : Over) (c : goal.After-index-2 g) → (path_at (front_data c.args.front.now) 0).paid ≡ 0
paid_is g c = ap (λ (p : PathData). p.paid) (facts g (goal.at.After-index-2 g c).After-keeps_limits).first

-- the number is that of the empty path
pub returns-clause-closed : goal.returns-clause-closed
returns-clause-closed g c =
    let at = (goal.at.returns-clause-closed g c).After-index-2 in
    let hand = g.H.Hand.shows c.loop-scene_count.hand in
    let number = c.index-2.result.now in
    let whole_is : (path_at (front_data c.args.front.now) 0).rest ≡ all_scenes hand.search.film
    = rest_is g at ∙ ap (λ (s : SearchData). all_scenes s.film) (sym (same g at)) in
    record {
      known_of = subst (λ (q : ℕ). number ≤ known (search_rules hand.search) hand.lines q) whole_is (reached g at).known_of;
      static_bound = subst (λ (q : ℕ). bound hand.search.kind hand.search.film q ≤ number) whole_is (reached g at).static_bound;
      root = λ line is. ((reached g at).raised line is, (reached g at).looks_ahead refl (some_is (root_of (front_data c.args.front.now)) line is));
      reaches = λ whole all. omega (arith, (reached g at).reaches hand.told whole all, paid_is g at);
    }
