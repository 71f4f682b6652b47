-- A layer that was gone on from, walked below, and raised.
use Rattle.std.proofs.Common.{◌≡◌, ℕ, suc, ◌+◌, ◌^◌, ◌<◌, ◌≤◌, Bool, false, true, Option, Some, None, List, [], ◌∷◌, ◌++◌, length, All, get_or, take, refl, sym, ap, ◌∙◌, subst, arith}
use Rattle.std.proofs.lemmas.Bool.{false≢true, false_from_ne_true}
use Rattle.std.specs.Option.{is_some}
use Rattle.std.proofs.Math.Seq.{take-append_seam}
use Rattle.std.proofs.lemmas.List.Elements.{All-cons, All-contains, All-nil}
use Rattle.strip_mask.specs.Set.{has, size, without}
use Rattle.strip_mask.proofs.Below.{size-full}
use Rattle.strip_mask.proofs.Sizes.{empty_from_size}
use Rattle.strip_model.specs.declared.kind.Kind.{Kind}
use Rattle.strip_model.specs.Film.{FilmData}
use Rattle.strip_film.specs.Film.{IsFilm, all_scenes}
use Rattle.strip_film.specs.Path.{IsComplete, PathData}
use Rattle.strip_film.proofs.Paths.{rest_set}
use Rattle.strip_film.specs.Rules.{IsOpen, Rules}
use Rattle.strip_film.specs.Shoot.{step_cost}
use Rattle.strip_lines.specs.Lines.{rules_of}
use Rattle.strip_layers.specs.declared.layer.Layer.{Layer}
use Rattle.strip_layers.specs.declared.layer.Standing.{Standing}
use Rattle.strip_layers.specs.Layer.{standing_at, value_in}
use Rattle.strip_layers.specs.Raised.{MayRaiseLayer}
use Rattle.strip_layers.specs.Search.{Extends, IsSearch, Rises, SearchData}
use Rattle.strip_layers.specs.Walked.{GoesOn, HasWalked, IsLayer, IsLevel, Pays, Reaches, WalksLayer}
use Rattle.strip_layers.proofs.Grown.{extends_trans}
use Rattle.strip_layers.proofs.Looked.{standing_stays}

-- the walk of the layers below leaves what a layer may be raised by
module _ (rules : Rules) (before now after : SearchData) (left limit : ℕ) (paths : List PathData) (sets : List ℕ) (standings : List Standing)
    (next : List PathData) (below : List ℕ) (values : List Standing) (level : IsLevel rules (suc left) paths) (small : after.best.paid < 2 ^ 64)
    (gone : GoesOn rules before left limit paths sets standings next now)
    (search : IsSearch rules after) (rises : Rises now after) (layer : IsLayer rules after limit next below values) where
  was_unspent : after.spent ≡ false → now.spent ≡ false
  was_unspent not_after = false_from_ne_true now.spent (λ was. false≢true (sym not_after ∙ rises.spent was))

  reach : (place : ℕ) (p : PathData) (line scene cost : ℕ) → after.spent ≡ false → place < length paths
      → (standing_at standings place).place ≡ Some line → has (rules.firsts (get_or paths place p).rest) scene ≡ true
      → cost ≤ limit → cost ≤ after.best.paid
      → cost ≤ (get_or paths place p).paid + step_cost rules.film (get_or paths place p).rest scene
      + value_in below values (without (get_or paths place p).rest scene)
  reach place p line scene cost unspent within at first inside cheaper =
      let path : PathData = get_or paths place p in
      let pays : Pays next (without path.rest scene) (path.paid + step_cost rules.film path.rest scene) = gone.lead place p within line scene at first in
      let reached : cost ≤ pays.0.paid + value_in below values pays.0.rest
      = All-contains (λ q. Reaches after q limit (value_in below values q.rest)) next pays.0 (layer.reaches unspent) pays.1 cost inside cheaper in
      omega (arith, reached, pays.3, ap (value_in below values) pays.2)

  pub may_raise : MayRaiseLayer rules after limit paths sets standings below values
  may_raise = record {
    search = search;
    level = (suc left, omega arith, level);
    small = small;
    sets_are = gone.sets_are;
    count = gone.count;
    stand = λ place p within. standing_stays rules now after limit (get_or paths place p) (standing_at standings place) rises.grow rises.spent
        (gone.stand place p within);
    most = layer.most;
    reach = reach;
  }

-- a walk that was given up below
pub given_up : (rules : Rules) (before now after : SearchData) (may_spend : Bool) (limit : ℕ) (paths next : List PathData) → Extends before now
    → WalksLayer rules now may_spend limit next None after → WalksLayer rules before may_spend limit paths None after
given_up rules before now after may_spend limit paths next extends (not, more) = (not, extends_trans before now after extends more)

-- nothing remains after paths that leave no scenes
pub all_complete : (kind : Kind) (film : FilmData) (left : ℕ) (paths : List PathData) → IsFilm film → left ≡ 0 → IsLevel (rules_of kind film) left paths
    → All (IsComplete film) paths
all_complete kind film left paths is_film none level place d within =
    let path : PathData = get_or paths place d in
    let along = (level.is_open place d within).0 in (
      along,
      empty_from_size path.rest (rest_set film path along is_film)
          (level.sizes place d within ∙ none),
    )

-- ---- the whole film

abbrev pub whole_path : FilmData → PathData
whole_path film = record { scenes = []; rest = all_scenes film; paid = 0 }

pub whole_level : (kind : Kind) (film : FilmData) (left : ℕ) (paths : List PathData) → IsFilm film → left ≡ length film.casts → paths ≡ whole_path film ∷ []
    → IsLevel (rules_of kind film) left paths
whole_level kind film left paths is_film left_is paths_are = subst (IsLevel (rules_of kind film) left) (sym paths_are) (record {
  is_open = All-cons (IsOpen (rules_of kind film)) (whole_path film) [] (record { remained = tt; left = refl; steps = refl }, tt) (All-nil (IsOpen (rules_of kind film)));
  sizes = All-cons (λ path. size path.rest ≡ left) (whole_path film) [] (size-full (length film.casts) is_film.scene_count.1 ∙ sym left_is)
      (All-nil (λ path. size path.rest ≡ left));
  apart = λ i j d before within. absurd (omega (arith, before, within));
})

pub walked_whole : (kind : Kind) (film : FilmData) (before after : SearchData) (may_spend : Bool) (limit : ℕ) (paths : List PathData) (walked : Option Layer)
    → paths ≡ whole_path film ∷ [] → is_some walked ≡ true → WalksLayer (rules_of kind film) before may_spend limit paths walked after
    → HasWalked (rules_of kind film) before may_spend limit true after
walked_whole kind film before after may_spend limit paths None paths_are some walks = absurd (false≢true some)
walked_whole kind film before after may_spend limit paths (Some layer) paths_are some walks = (
  walks.0,
  walks.1,
  λ unspent cost inside cheaper. (let reached : cost ≤ 0 + value_in layer.sets.keys layer.standings.items (all_scenes film)
      = subst (λ (ps : List PathData). All (λ path. Reaches after path limit (value_in layer.sets.keys layer.standings.items path.rest)) ps) paths_are
      (walks.2.reaches unspent) 0 (whole_path film) (omega arith) cost inside cheaper in
      omega (arith, reached, walks.2.most (all_scenes film))),
)

-- a walk that was given up, and whose lines were taken back
pub taken_back : (before now after : SearchData) (count : ℕ) → Extends before now → before.spent ≡ false → count ≡ length before.lines
    → after ≡ record now { lines = take count now.lines; spent = false } → after ≡ before
taken_back before now after count extends unspent count_is after_is = after_is ∙ (λ i. record {
  lines = (ap (take count) extends.lines ∙ ap (λ (n : ℕ). take n (before.lines ++ extends.more)) count_is ∙ take-append_seam before.lines extends.more) i;
  best = extends.best i;
  goal = extends.goal i;
  nodes = extends.nodes i;
  spent = sym unspent i;
})

pub undone_whole : (rules : Rules) (before now after : SearchData) (may_spend : Bool) (limit count : ℕ) (paths : List PathData) (walked : Option Layer)
    → is_some walked ≡ false → before.spent ≡ false → count ≡ length before.lines → after ≡ record now { lines = take count now.lines; spent = false }
    → WalksLayer rules before may_spend limit paths walked now → HasWalked rules before may_spend limit false after
undone_whole rules before now after may_spend limit count paths None none unspent count_is after_is (not, extends) =
    (not, taken_back before now after count extends unspent count_is after_is)
undone_whole rules before now after may_spend limit count paths (Some layer) none unspent count_is after_is walks =
    absurd (false≢true (sym none))
