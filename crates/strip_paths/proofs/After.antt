-- Paths with one scene more, and other paths to which these are added.
use Rattle.std.proofs.Common.{◌≡◌, ℕ, suc, ◌+◌, true, List, fold, All, arith}
use Rattle.std.proofs.lemmas.List.Elements.{All-map}
use Rattle.strip_mask.specs.Set.{has, members, size, without}
use Rattle.strip_mask.proofs.Members.{All-members, Contains-members}
use Rattle.strip_model.specs.declared.kind.Kind.{Kind}
use Rattle.strip_model.specs.Film.{FilmData}
use Rattle.strip_film.specs.Film.{IsFilm}
use Rattle.strip_film.specs.Path.{PathData, extended}
use Rattle.strip_film.specs.Rules.{IsOpen}
use Rattle.strip_film.specs.Shoot.{step_cost}
use Rattle.strip_film.proofs.Paths.{IsOpen-extended, rest_lies, one_fewer}
use Rattle.strip_rule.specs.Rule.{open_firsts}
use Rattle.strip_rule.proofs.Firsts.{firsts_set}
use Rattle.strip_lines.specs.Lines.{rules_of}
use Rattle.strip_paths.specs.Paths.{paths_after, with_path}
use Rattle.strip_paths.proofs.Added.{AreApart, Pays, apart_of, each_of, pays_kept, pays_of}
use Rattle.strip_paths.proofs.Lists.{Contains-map}
use Rattle.strip_paths.proofs.Open.{first_ready}

-- ---- paths with one scene more

-- with an open first an open path stays open
pub more_open : (kind : Kind) (film : FilmData) (path : PathData) (scene : ℕ) → IsOpen (rules_of kind film) path → has (open_firsts film path.rest) scene ≡ true
    → IsOpen (rules_of kind film) (extended film path scene)
more_open kind film path scene is member = IsOpen-extended (rules_of kind film) path scene is (first_ready film path.rest scene member) member

-- what holds of each path that goes on from one
pub each_after : (film : FilmData) (P : PathData → Type 0) (path : PathData)
    → ((scene : ℕ) → has (open_firsts film path.rest) scene ≡ true → P (extended film path scene)) → All P (paths_after film path)
each_after film P path holds = All-map P (extended film path) (members (open_firsts film path.rest))
    (All-members (λ scene. P (extended film path scene)) (open_firsts film path.rest) holds)

-- ---- added to other paths

pub open_put : (kind : Kind) (film : FilmData) (paths : List PathData) (path : PathData) → All (IsOpen (rules_of kind film)) paths → IsOpen (rules_of kind film) path
    → All (IsOpen (rules_of kind film)) (fold with_path paths (paths_after film path))
open_put kind film paths path are is =
    each_of (IsOpen (rules_of kind film)) paths (paths_after film path) are
    (each_after film (IsOpen (rules_of kind film)) path (λ scene member. more_open kind film path scene is member))

-- of each scene that may come next there is one that leaves as much and pays no more
pub pays_put : (kind : Kind) (film : FilmData) (is : IsFilm film) (paths : List PathData) (path : PathData) (scene : ℕ) → IsOpen (rules_of kind film) path
    → has (open_firsts film path.rest) scene ≡ true
    → Pays (fold with_path paths (paths_after film path)) (without path.rest scene) (path.paid + step_cost film path.rest scene)
pays_put kind film is paths path scene is_open member =
    pays_of paths (paths_after film path) (extended film path scene)
    (Contains-map (extended film path) (members (open_firsts film path.rest)) scene
    (Contains-members (open_firsts film path.rest) scene (firsts_set film path.rest is (rest_lies film path is_open.0)) member))

-- what the others paid stays reached
pub pays_on : (film : FilmData) (paths : List PathData) (path : PathData) (rest most : ℕ) → Pays paths rest most
    → Pays (fold with_path paths (paths_after film path)) rest most
pays_on film paths path rest most found = pays_kept paths (paths_after film path) rest most found

pub apart_put : (film : FilmData) (paths : List PathData) (path : PathData) → AreApart paths → AreApart (fold with_path paths (paths_after film path))
apart_put film paths path apart = apart_of paths (paths_after film path) apart

-- each leaves one scene fewer than the path
pub sizes_put : (kind : Kind) (film : FilmData) (is : IsFilm film) (left : ℕ) (paths : List PathData) (path : PathData)
    → All (λ (p : PathData). size p.rest ≡ left) paths → IsOpen (rules_of kind film) path → size path.rest ≡ suc left
    → All (λ (p : PathData). size p.rest ≡ left) (fold with_path paths (paths_after film path))
sizes_put kind film is left paths path are is_open count =
    each_of (λ (p : PathData). size p.rest ≡ left) paths (paths_after film path) are
    (each_after film (λ (p : PathData). size p.rest ≡ left) path (λ scene member.
    let fewer = one_fewer film path is_open.0 is scene (first_ready film path.rest scene member) in
    omega (arith, fewer, count)))
