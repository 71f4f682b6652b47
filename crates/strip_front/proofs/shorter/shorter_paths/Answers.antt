use Rattle.std.proofs.Common.{◌≡◌, ◌≤◌, ◌∙◌, ◌+◌, ◌-◌, [], ℕ, suc, List, All, fold, map, rules, sym, ap, subst, arith}
use Rattle.std.specs.List.{flat_map}
use Rattle.std.proofs.lemmas.List.Elements.{All-weaker}
use Rattle.strip_model.specs.Film.{FilmData}
use Rattle.strip_film.specs.Path.{IsPath, PathData}
use Rattle.strip_film.specs.Rules.{IsOpen}
use Rattle.strip_film.specs.Shown.{path_data}
use Rattle.strip_lines.specs.Lines.{rules_of}
use Rattle.strip_paths.specs.Paths.{paths_after, with_path}
use Rattle.strip_paths.specs.Shown.{paths_of}
use Rattle.strip_front.specs.Front.{AreShorter}
use Rattle.strip_front.specs.Layers.{layer}
use Rattle.strip_front.proofs.Layered.{layer_facts}
use Rattle.strip_front.proofs.ShorterPaths.{only_empty}
use Rattle.strip_front.proofs.shorter.shorter_paths.Given.{Over}
use Rattle.strip_front.proofs.shorter.shorter_paths.Goals as goal
use Rattle.strip_front.proofs.shorter.shorter_paths.Goals.{In_ok-last-2}

pub loop-count-init : goal.loop-count-init
loop-count-init g c =
    let film = g.B.Bounds.film in
    let empty : paths_of c.in_ok-last.last ≡ layer film 0 = c.in_ok-last.ensures ∙ ap (λ (f : FilmData). layer f 0) c.film-film.ensures in
    record {
      some = omega arith;
      shorter = subst (AreShorter (rules_of g.B.Bounds.kind film) 1)
          (sym (ap (map path_data) (c.in_ok-shorter.ensures.items_if_clones_equal (search rules) ∙ c.paths.ensures) ∙ empty))
          (only_empty (rules_of g.B.Bounds.kind film));
      last = λ before one. (let none : 0 ≡ before = omega (arith, one) in empty ∙ ap (layer film) none);
    }

-- the last layer so far
last_is : (film : FilmData) (count : ℕ) (paths : List PathData) → 1 ≤ count → ((before : ℕ) → count ≡ before + 1 → paths ≡ layer film before)
    → paths ≡ layer film (count - 1)
last_is film count paths some last = last (count - 1) (omega (arith, some))

pub layer_after-requires : goal.layer_after-requires
layer_after-requires g c =
    let film = c.film-film.result.now in
    let kind = g.B.Bounds.kind in
    let before : ℕ = c.loop-count.count - 1 in
    let same : paths_of c.loop-count.last ≡ layer film before
    = last_is g.B.Bounds.film c.loop-count.count (paths_of c.loop-count.last) c.loop-count.invariant.some c.loop-count.invariant.last ∙ ap (λ (f : FilmData). layer f before) (sym c.film-film.ensures) in
    record {
      paths = subst (λ (paths : List PathData). All (IsPath film) paths) (sym same)
          (All-weaker (IsOpen (rules_of kind film)) (IsPath film) (λ path open_path. open_path.0) (layer film before) (layer_facts kind film c.keeps_limits.ensures before).is_open);
    }

-- and the next one
next_is : (g : Over) (c : goal.In_ok-last-2 g) → paths_of c.in_ok-last-2.last ≡ layer g.B.Bounds.film c.loop-count.count
next_is g c =
    let film = g.B.Bounds.film in
    let count : suc (c.loop-count.count - 1) ≡ c.loop-count.count = omega (arith, c.loop-count.invariant.some) in
    c.in_ok-last-2.ensures
    ∙ ap (λ (f : FilmData). fold with_path [] (flat_map (paths_after f) (paths_of c.loop-count.last))) c.film-film.ensures
    ∙ ap (λ (paths : List PathData). fold with_path [] (flat_map (paths_after film) paths)) (last_is film c.loop-count.count (paths_of c.loop-count.last) c.loop-count.invariant.some c.loop-count.invariant.last)
    ∙ ap (layer film) count

pub with_layer-requires-clause-layer : goal.with_layer-requires-clause-layer
with_layer-requires-clause-layer g c = next_is g (goal.at.with_layer-requires-clause-layer g c).In_ok-last-2

pub loop-count-preserved : goal.loop-count-preserved
loop-count-preserved g c = record {
  some = omega arith;
  shorter = c.in_ok-shorter-2.ensures;
  last = λ before one. (let same : c.loop-count.count ≡ before = omega (arith, one) in
      next_is g (goal.at.loop-count-preserved g c).In_ok-last-2 ∙ ap (layer g.B.Bounds.film) same);
}

pub returns-clause-shorter : goal.returns-clause-shorter
returns-clause-shorter g c =
    let all : c.loop-count.count ≡ c.args.depth = omega (arith, c.loop-count-test.false, c.loop-count.auto.count-end, c.loop-count.invariant.some, c.requires.depth.some) in
    subst (λ (n : ℕ). AreShorter (rules_of g.B.Bounds.kind g.B.Bounds.film) n (map path_data c.loop-count.shorter.items)) all c.loop-count.invariant.shorter
