use Rattle.std.proofs.Common.{◌≡◌, ◌≢◌, ◌∙◌, ◌+◌, ◌-◌, ◌<◌, ◌++◌, ◌∷◌, [], ℕ, List, All, Contains, append-nil, get_or, length, map, sym, ap, subst, arith}
use Rattle.std.specs.List.{AllPairs}
use Rattle.std.proofs.lemmas.List.{get_or-map, length-map, take_all}
use Rattle.std.proofs.lemmas.List.Elements.{All-weaker, Contains-get_or}
use Rattle.strip_mask.proofs.Lists.{contains_none}
use Rattle.strip_film.specs.Film.{IsFilm}
use Rattle.strip_film.specs.Path.{IsPath, PathData}
use Rattle.strip_film.specs.Rules.{IsOpen}
use Rattle.strip_film.specs.Shown.{path_data}
use Rattle.strip_lines.specs.Lines.{rules_of}
use Rattle.strip_lines.specs.Parts.{no_task}
use Rattle.strip_paths.specs.Shown.{paths_of}
use Rattle.strip_front.specs.Layers.{layer}
use Rattle.strip_front.proofs.Facts.{LayerFacts}
use Rattle.strip_front.proofs.Layered.{layer_facts}
use Rattle.strip_front.proofs.Onward.{AreFollowed, followed_turn, pushed_one}
use Rattle.strip_front.proofs.ShorterPaths.{shorter_next, shorter_open, shorter_short}
use Rattle.strip_front.proofs.shorter.with_layer.Given.{Over}
use Rattle.strip_front.proofs.shorter.with_layer.Goals as goal
use Rattle.strip_front.proofs.shorter.with_layer.Goals.{After-keeps_limits, After-path-item, then-scenes-count+in_ok-push_kept, else-scenes-count}

facts : (g : Over) (c : goal.After-keeps_limits g) (count : ℕ) → LayerFacts g.B.Bounds.kind g.B.Bounds.film count
facts g c = layer_facts g.B.Bounds.kind g.B.Bounds.film (subst IsFilm c.film.ensures c.keeps_limits.ensures)

-- the path of this turn
shown : (g : Over) (c : goal.After-path-item g) (d : PathData) → get_or (map path_data c.args.shorter.now) c.loop-path.path-index d ≡ path_data c.path-item.result
shown g c d = get_or-map path_data c.args.shorter.now c.loop-path.path-index c.path-item.result d c.loop-path-test.true ∙ ap path_data (sym c.path-item.is)

there : (g : Over) (c : goal.After-path-item g) → Contains (map path_data c.args.shorter.now) (path_data c.path-item.result)
there g c =
    subst (Contains (map path_data c.args.shorter.now)) (shown g c no_task)
    (Contains-get_or (map path_data c.args.shorter.now) c.loop-path.path-index no_task (omega (arith, c.loop-path-test.true, length-map c.args.shorter.now path_data)))

pub push_kept-requires-clause-path : goal.push_kept-requires-clause-path
push_kept-requires-clause-path g c =
    (shorter_open g.B.Bounds.kind g.B.Bounds.film c.args.count (facts g (goal.at.push_kept-requires-clause-path g c).After-keeps_limits)
    (map path_data c.args.shorter.now) c.requires.shorter (path_data c.path-item.result) (there g (goal.at.push_kept-requires-clause-path g c).After-path-item)).0

pub push_kept-requires-clause-layer : goal.push_kept-requires-clause-layer
push_kept-requires-clause-layer g c =
    let film = g.B.Bounds.film in
    subst (λ (paths : List PathData). All (IsPath film) paths) (sym c.requires.layer)
    (All-weaker (IsOpen (rules_of g.B.Bounds.kind film)) (IsPath film) (λ path open_path. open_path.0) (layer film c.args.count)
    (facts g (goal.at.push_kept-requires-clause-layer g c).After-keeps_limits c.args.count).is_open)

pub push_kept-requires-clause-apart : goal.push_kept-requires-clause-apart
push_kept-requires-clause-apart g c =
    subst (λ (paths : List PathData). AllPairs (λ a b. a.rest ≢ b.rest) paths) (sym c.requires.layer)
    (facts g (goal.at.push_kept-requires-clause-apart g c).After-keeps_limits c.args.count).apart

pub loop-path-preserved : goal.loop-path-preserved
loop-path-preserved g c =
    let film = g.B.Bounds.film in
    let rules = rules_of g.B.Bounds.kind film in
    let all : List PathData = map path_data c.args.shorter.now in
    let path : PathData = path_data c.path-item.result in
    let now : List PathData = map path_data c.loop-path.paths.items in
    let at = (goal.at.loop-path-preserved g c).After-path-item in
    let pushed : map path_data c.push.new.self.items ≡ now ++ path ∷ []
    = pushed_one path_data c.loop-path.paths.items c.push.new.self.items c.path-item.result c.in_ok-push.ensures.items in
    let turn = followed_turn rules (paths_of c.args.next.now) c.args.count all c.loop-path.path-index path now in
    let within : c.loop-path.path-index < length all = omega (arith, c.loop-path-test.true, length-map c.args.shorter.now path_data) in
    let short = shorter_short g.B.Bounds.kind film c.args.count (facts g (goal.at.loop-path-preserved g c).After-keeps_limits) all c.requires.shorter path (there g at) in
    record {
      followed = elim c.if-scenes-count.branch [
        | then-scenes-count+in_ok-push_kept w ↦ (let long : length path.scenes + 1 ≡ c.args.count = omega (arith, w.if-scenes-count.true, ap length c.scenes.ensures) in
            let more = w.in_ok-push_kept.ensures in
            turn more.0 (map path_data c.if-scenes-count.paths.items) c.requires.shorter.rise within (shown g at path) short c.loop-path.invariant.followed
            (λ p. ((λ inside. (long, (more.2.same p).0 inside)), (λ both. (more.2.same p).1 both.1))) more.2.rise
            (ap (λ paths. map path_data paths.items) w.paths-is ∙ more.1 ∙ ap (λ (ps : List PathData). ps ++ more.0) pushed))
        | else-scenes-count w ↦ turn [] (map path_data c.if-scenes-count.paths.items) c.requires.shorter.rise within (shown g at path) short c.loop-path.invariant.followed
            (λ p. (
              (λ inside. absurd (contains_none p inside)),
              (λ both. absurd (omega (arith, both.0, w.if-scenes-count.false, ap length c.scenes.ensures))),
            ))
            (λ i j d before inside. absurd (omega (arith, inside)))
            (ap (λ paths. map path_data paths.items) w.paths-is ∙ pushed ∙ sym (append-nil (now ++ path ∷ [])))
      ];
    }

pub returns : goal.returns
returns g c =
    let film = g.B.Bounds.film in
    let all : List PathData = map path_data c.args.shorter.now in
    shorter_next g.B.Bounds.kind film c.args.count (facts g (goal.at.returns g c).After-keeps_limits) all c.requires.shorter
    (c.args.count - 1) (omega (arith, c.requires.some)) (paths_of c.args.next.now) (map path_data c.loop-path.paths.items) c.requires.layer
    (subst (λ (seen : List PathData). AreFollowed (rules_of g.B.Bounds.kind film) (paths_of c.args.next.now) c.args.count seen (map path_data c.loop-path.paths.items))
    (take_all c.loop-path.path-index all (omega (arith, length-map c.args.shorter.now path_data, c.loop-path-test.false, c.loop-path.auto.path-index-end)))
    c.loop-path.invariant.followed)
