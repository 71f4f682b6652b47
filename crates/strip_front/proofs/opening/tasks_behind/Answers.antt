use Rattle.std.proofs.Common.{◌≡◌, ◌∙◌, [], ℕ, suc, List, All, fold, map, sym, ap, subst}
use Rattle.std.specs.List.{flat_map}
use Rattle.std.proofs.lemmas.List.Elements.{All-weaker}
use Rattle.std.proofs.lemmas.Result.{IfOk-weaker}
use Rattle.strip_model.specs.declared.kind.Kind.{Kind}
use Rattle.strip_model.specs.Film.{FilmData}
use Rattle.strip_film.specs.declared.path.Path.{Path}
use Rattle.strip_film.specs.Film.{IsFilm}
use Rattle.strip_film.specs.Path.{IsPath, PathData}
use Rattle.strip_film.specs.Rules.{IsOpen}
use Rattle.strip_film.specs.Shown.{path_data}
use Rattle.strip_lines.specs.Lines.{rules_of}
use Rattle.strip_paths.specs.Paths.{paths_after, with_path}
use Rattle.strip_paths.specs.Shown.{paths_of}
use Rattle.strip_paths.proofs.Rests.{others_permuted}
use Rattle.strip_front.specs.Layers.{AreTasksOf, layer}
use Rattle.strip_front.proofs.Layered.{layer_facts}
use Rattle.strip_front.proofs.opening.tasks_behind.Goals as goal

-- the paths of a layer are paths of the film
paths_there : (kind : Kind) (film : FilmData) (depth : ℕ) → IsFilm film → (paths : List PathData) → paths ≡ layer film depth → All (IsPath film) paths
paths_there kind film depth is paths same =
    subst (λ (ps : List PathData). All (IsPath film) ps) (sym same)
    (All-weaker (IsOpen (rules_of kind film)) (IsPath film) (λ path open_path. open_path.0) (layer film depth) (layer_facts kind film is depth).is_open)

-- the layer behind another one
next_layer : (film told : FilmData) (before : ℕ) (last longest : List PathData) → told ≡ film → longest ≡ fold with_path [] (flat_map (paths_after told) last)
    → last ≡ layer film before → longest ≡ layer film (suc before)
next_layer film told before last longest same made from =
    made ∙ ap (λ (f : FilmData). fold with_path [] (flat_map (paths_after f) last)) same
    ∙ ap (λ (paths : List PathData). fold with_path [] (flat_map (paths_after film) paths)) from

pub layer_after-requires : goal.layer_after-requires
layer_after-requires g c =
    let before = c.requires.layer.0 in
    record {
      paths = paths_there g.B.Bounds.kind c.film-film.result.now before c.keeps_limits.ensures (paths_of c.args.last.now)
          (c.requires.layer.1 ∙ ap (λ (f : FilmData). layer f before) (sym c.film-film.ensures));
    }

pub by_promise-requires : goal.by_promise-requires
by_promise-requires g c = record {
  paths =
      let before = c.requires.layer.0 in
      let film = g.B.Bounds.film in
      paths_there g.B.Bounds.kind film (suc before) (subst IsFilm c.film-film.ensures c.keeps_limits.ensures) (map path_data c.paths.result.now)
      (ap (λ (paths : List Path). map path_data paths) c.paths.ensures
      ∙ next_layer film c.film-film.result.now before (paths_of c.args.last.now) (paths_of c.in_ok-longest.longest) c.film-film.ensures c.in_ok-longest.ensures c.requires.layer.1);
}

pub of-requires : goal.of-requires
of-requires g c =
    let before = c.requires.layer.0 in
    let film = g.B.Bounds.film in
    let are = c.in_ok-tasks.ensures (suc before) (ap (λ (paths : List Path). map path_data paths) c.paths.ensures
    ∙ next_layer film c.film-film.result.now before (paths_of c.args.last.now) (paths_of c.in_ok-longest.longest) c.film-film.ensures c.in_ok-longest.ensures c.requires.layer.1) in
    record {
      apart = others_permuted (layer film (suc before)) (map path_data c.in_ok-tasks.tasks.items) are.same
          (layer_facts g.B.Bounds.kind film (subst IsFilm c.film-film.ensures c.keeps_limits.ensures) (suc before)).apart;
    }

pub returns : goal.returns
returns g c = λ before from.
    let film = g.B.Bounds.film in
    let kind = g.B.Bounds.kind in
    let are = c.in_ok-tasks.ensures (suc before) (ap (λ (paths : List Path). map path_data paths) c.paths.ensures
    ∙ next_layer film c.film-film.result.now before (paths_of c.args.last.now) (paths_of c.in_ok-longest.longest) c.film-film.ensures c.in_ok-longest.ensures from) in
    IfOk-weaker c.of.result (λ by_set. by_set.paths ≡ c.in_ok-tasks.tasks) (λ tasks. AreTasksOf (rules_of kind film) (suc before) (paths_of tasks))
    (λ by_set same. subst (AreTasksOf (rules_of kind film) (suc before)) (sym (ap (λ list. map path_data list.items) same)) are) c.of.ensures
