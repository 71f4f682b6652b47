use Rattle.std.proofs.Common.{◌≡◌, ◌+◌, ◌<◌, ◌∙◌, ℕ, List, length, sym, ap, subst, arith}
use Rattle.std.proofs.lemmas.List.{length-map}
use Rattle.strip_film.specs.Path.{PathData}
use Rattle.strip_film.specs.Shown.{path_data}
use Rattle.strip_front.specs.Calls.{IsWalked}
use Rattle.strip_front.specs.Front.{FrontData, path_at}
use Rattle.strip_front.specs.Raised.{IsRaisedTo, ReachesFrom}
use Rattle.strip_front.specs.Shown.{front_data}
use Rattle.strip_front.proofs.Raised.{longer_still, one_more_passed, one_more_raised}
use Rattle.strip_front.proofs.Small.{learns_then, walked_still}
use Rattle.strip_front.proofs.Tried.{path_read}
use Rattle.strip_front.proofs.up.raise_layer.Given.{Over}
use Rattle.strip_front.proofs.up.raise_layer.Goals as goal
use Rattle.strip_front.proofs.up.raise_layer.Goals.{After-scenes, In-loop-place}

within : (g : Over) (c : goal.In-loop-place g) → c.loop-place.place < length (front_data c.args.front.now).paths
within g c = omega (arith, c.loop-place-test.true, c.len-place-end.ensures, c.requires.raised.walked.front_of.lines)

still_walked : (g : Over) (c : goal.In-loop-place g) → IsWalked (g.H.Hand.shows c.loop-place.hand) (front_data c.args.front.now) c.args.found.now
still_walked g c =
    walked_still (g.H.Hand.shows c.args.hand.now) (g.H.Hand.shows c.loop-place.hand) c.loop-place.invariant.learns (front_data c.args.front.now) c.args.found.now
    c.requires.raised.walked

same_paths : (g : Over) (c : goal.In-loop-place g) → length c.loop-place.front.paths.paths.items ≡ length c.args.front.now.paths.paths.items
same_paths g c =
    sym (length-map c.loop-place.front.paths.paths.items path_data) ∙ ap (λ (f : FrontData). length f.paths) c.loop-place.invariant.front
    ∙ length-map c.args.front.now.paths.paths.items path_data

-- how many scenes the path has
count_is : (g : Over) (c : goal.After-scenes g) → length c.scenes.result.now ≡ length (path_at (front_data c.args.front.now) c.loop-place.place).scenes
count_is g c =
    let at = (goal.at.After-scenes g c).In-loop-place in
    ap (λ (xs : List ℕ). length xs) c.scenes.ensures
    ∙ ap (λ (p : PathData). length p.scenes)
    (path_read c.paths.result.now c.loop-place.front.paths.paths.items c.loop-place.place c.index-paths-place.result c.paths.ensures
    (omega (arith, within g at, same_paths g at, length-map c.args.front.now.paths.paths.items path_data)) c.index-paths-place.is
    ∙ ap (λ (f : FrontData). path_at f c.loop-place.place) c.loop-place.invariant.front)

pub raise_path-requires-clause-raised : goal.raise_path-requires-clause-raised
raise_path-requires-clause-raised g c =
    let here = (goal.at.raise_path-requires-clause-raised g c).After-scenes in
    let at = (goal.at.After-scenes g here).In-loop-place in
    let hand = g.H.Hand.shows c.loop-place.hand in
    let place = c.loop-place.place in
    subst (λ (f : FrontData). IsRaisedTo hand f c.args.found.now c.loop-place.front.numbers.items (length (path_at f place).scenes + 1)) (sym c.loop-place.invariant.front) (record {
      walked = still_walked g at;
      root = c.requires.raised.root;
      raised = λ other there long. c.loop-place.invariant.longer other there (omega (arith, long, count_is g here, c.if-scenes-scene_count.false));
    })

pub loop-place-preserved-then-scenes-scene_count : goal.loop-place-preserved-then-scenes-scene_count
loop-place-preserved-then-scenes-scene_count g c =
    let here = (goal.at.loop-place-preserved-then-scenes-scene_count g c).After-scenes in
    let at = (goal.at.After-scenes g here).In-loop-place in
    record {
      sound = c.loop-place.invariant.sound;
      home = c.loop-place.invariant.home;
      learns = c.loop-place.invariant.learns;
      front = c.loop-place.invariant.front;
      longer = c.loop-place.invariant.longer;
      before = one_more_passed (g.H.Hand.shows c.loop-place.hand) (front_data c.args.front.now) c.args.found.now c.loop-place.front.numbers.items c.loop-place.place c.args.scene_count
          (within g at) (λ same. c.if-scenes-scene_count.true (omega (arith, count_is g here, same))) c.loop-place.invariant.longer c.loop-place.invariant.before;
    }

pub loop-place-preserved : goal.loop-place-preserved
loop-place-preserved g c =
    let here = (goal.at.loop-place-preserved g c).After-scenes in
    let at = (goal.at.After-scenes g here).In-loop-place in
    let hand = g.H.Hand.shows c.loop-place.hand in
    let after = g.H.Hand.shows c.raise_path.new.hand in
    let front = front_data c.args.front.now in
    let reached : ReachesFrom after front c.args.found.now c.loop-place.place c.in_ok-number.number
    = subst (λ (f : FrontData). ReachesFrom after f c.args.found.now c.loop-place.place c.in_ok-number.number) c.loop-place.invariant.front c.in_ok-number.ensures.reached in
    let room : c.loop-place.place < length c.loop-place.front.numbers.items = omega (arith, within g at, c.loop-place.front.numbered, ap (λ (f : FrontData). length f.paths) c.loop-place.invariant.front) in
    let count : length (path_at front c.loop-place.place).scenes ≡ c.args.scene_count = omega (arith, count_is g here, c.if-scenes-scene_count.false) in
    record {
      sound = c.raise_path.ensures.sound;
      home = c.raise_path.ensures.home ∙ c.loop-place.invariant.home;
      learns = learns_then (g.H.Hand.shows c.args.hand.now) hand after c.loop-place.invariant.learns c.raise_path.ensures.learns;
      front = c.loop-place.invariant.front;
      longer = longer_still hand after c.raise_path.ensures.learns front (still_walked g at).filled c.args.found.now c.loop-place.front.numbers.items c.loop-place.place c.in_ok-number.number
          c.args.scene_count (within g at) room count reached c.loop-place.invariant.longer;
      before = one_more_raised hand after c.raise_path.ensures.learns front (still_walked g at).filled c.args.found.now c.loop-place.front.numbers.items c.loop-place.place c.in_ok-number.number
          c.args.scene_count (within g at) room count reached c.loop-place.invariant.before;
    }
