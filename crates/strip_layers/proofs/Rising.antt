-- The sets of a layer whose lines are raised one after the other.
use Rattle.std.proofs.Common.{◌≡◌, ◌≢◌, ℕ, ◌+◌, ◌-◌, ◌<◌, ◌≤◌, false, true, List, length, Some, None, inl, inr, get_or, refl, sym, ap, ◌∙◌, subst, set, arith}
use Rattle.std.proofs.lemmas.Bool.{cases_eq, false≢true, false_from_ne_true}
use Rattle.std.proofs.lemmas.List.{get_or_default, get_or-set_same, get_or-set_other, length-set}
use Rattle.strip_mask.specs.Set.{has, size, without}
use Rattle.strip_mask.proofs.Sizes.{size-empty}
use Rattle.strip_model.specs.declared.kind.Kind.{Kind}
use Rattle.strip_model.specs.Film.{FilmData}
use Rattle.strip_film.specs.Film.{LiesIn}
use Rattle.strip_film.specs.Path.{PathData}
use Rattle.strip_film.specs.Rules.{Rules}
use Rattle.strip_film.specs.Shoot.{step_cost}
use Rattle.strip_film.proofs.Paths.{rest_lies}
use Rattle.strip_lines.specs.Lines.{known, rules_of}
use Rattle.strip_lines.proofs.Grown.{known-grows}
use Rattle.strip_lines.specs.Parts.{no_task}
use Rattle.strip_layers.specs.declared.layer.Standing.{Standing}
use Rattle.strip_layers.specs.Layer.{no_standing, standing_at, value_in}
use Rattle.strip_layers.specs.Raised.{IsLeastOver, IsRaised, MayRaiseLayer}
use Rattle.strip_layers.specs.Search.{HasLine, IsSearch, Rises, SearchData}
use Rattle.strip_layers.specs.Walked.{IsLayer, IsStanding, Reaches}
use Rattle.strip_layers.proofs.Grown.{rises_self, rises_trans}
use Rattle.strip_layers.proofs.Looked.{standing_stays}
use Rattle.strip_layers.proofs.Places.{path_at, value_known, value_there}
use Rattle.strip_layers.proofs.Raised.{after, known_then, rises_then, search_then}

-- a path of the layer is done: its value is known of what it leaves, and unless the search is spent it reaches the limit or
-- the best path
pub record IsDone (rules : Rules) (now : SearchData) (limit : ℕ) (path : PathData) (value : ℕ) : Type 0 where
  pub most : value ≤ known rules now.lines path.rest
  pub reaches : now.spent ≡ false → Reaches now path limit value

-- those before a place are done, and the others are as they were
pub record AreRaised (rules : Rules) (before now : SearchData) (limit number : ℕ) (paths : List PathData) (standings standings_now : List Standing)
    : Type 0 where
  pub search : IsSearch rules now
  pub rises : Rises before now
  pub count : length standings_now ≡ length paths
  pub done : (place : ℕ) → place < number → place < length paths
      → IsDone rules now limit (path_at paths place) (standing_at standings_now place).value
  pub same : (place : ℕ) → number ≤ place → standing_at standings_now place ≡ standing_at standings place

done_stays : (rules : Rules) (now after : SearchData) (limit : ℕ) (path : PathData) (value : ℕ) → Rises now after → IsDone rules now limit path value
    → IsDone rules after limit path value
done_stays rules now after limit path value rises is = record {
  most = omega (arith, is.most, known-grows rules now.lines after.lines path.rest rises.grow);
  reaches = λ not_then cost within below.
      is.reaches (false_from_ne_true now.spent (λ was. false≢true (sym not_then ∙ rises.spent was))) cost within (omega (arith, below, rises.cheaper));
}

module _ (kind : Kind) (film : FilmData) (before : SearchData) (limit : ℕ) (paths : List PathData) (sets : List ℕ) (standings : List Standing)
    (below : List ℕ) (values : List Standing) (may : MayRaiseLayer (rules_of kind film) before limit paths sets standings below values) where
  abbrev rules : Rules
  rules = rules_of kind film

  pub raised_none : AreRaised rules before before limit 0 paths standings standings
  raised_none = record {
    search = may.search;
    rises = rises_self before;
    count = may.count;
    done = λ place less within. absurd (omega (arith, less));
    same = λ place more. refl;
  }

  -- something remains after each path
  pub some_left : (place : ℕ) → place < length paths → (path_at paths place).rest ≢ 0
  some_left place within none =
      let size_is : size (path_at paths place).rest ≡ may.level.0 = may.level.2.sizes place no_task within in
      omega (arith, size_is, ap size none, size-empty, may.level.1)

  module _ (now : SearchData) (number : ℕ) (standings_now : List Standing)
      (so : AreRaised rules before now limit number paths standings standings_now) (within : number < length paths) where
    abbrev path : PathData
    path = path_at paths number

    same_here : standing_at standings_now number ≡ standing_at standings number
    same_here = so.same number (omega arith)

    pub here : IsStanding rules now limit path (standing_at standings number)
    here = standing_stays rules before now limit path (standing_at standings number) so.rises.grow so.rises.spent (may.stand number no_task within)

    -- its line, if it is open
    pub line_here : (line : ℕ) → (standing_at standings_now number).place ≡ Some line → HasLine now.lines path.rest line
    line_here line at = here.line line (ap (λ (s : Standing). s.place) (sym same_here) ∙ at)

    pub path_lies : LiesIn film path.rest
    path_lies = rest_lies film path (may.level.2.is_open number no_task within).0

    -- a closed set
    pub raised_closed : (standing_at standings_now number).place ≡ None → AreRaised rules before now limit (number + 1) paths standings standings_now
    raised_closed none = record {
      search = so.search;
      rises = so.rises;
      count = so.count;
      done = λ place less there. elim (cases_eq place number) [
        | inl same ↦ subst (λ (k : ℕ). IsDone rules now limit (path_at paths k) (standing_at standings_now k).value) (sym same)
            (subst (λ (s : Standing). IsDone rules now limit path s.value) (sym same_here) (record {
              most = here.most;
              reaches = λ not_spent cost inside cheaper.
                  omega (arith, inside, here.closed (ap (λ (s : Standing). s.place) (sym same_here) ∙ none) not_spent);
            }))
        | inr other ↦ so.done place (omega (arith, less, other)) there
      ];
      same = λ place more. so.same place (omega (arith, more));
    }

    -- an open one, whose line is raised
    module _ (line answer : ℕ) (then : SearchData) (at : (standing_at standings_now number).place ≡ Some line)
        (by : IsRaised film below values now line answer then) where
      was_at : (standing_at standings number).place ≡ Some line
      was_at = ap (λ (s : Standing). s.place) (sym same_here) ∙ at

      has_line : HasLine now.lines path.rest line
      has_line = here.line line was_at

      least_is : IsLeastOver film below values path.rest by.least
      least_is = subst (λ (q : ℕ). IsLeastOver film below values q by.least) has_line.set by.is_least

      most_so : (scene : ℕ) → has (rules.firsts path.rest) scene ≡ true
          → by.least ≤ step_cost film path.rest scene + known rules now.lines (without path.rest scene)
      most_so scene first =
          omega (
            arith,
            least_is.most scene first,
            may.most (without path.rest scene),
            known-grows rules before.lines now.lines (without path.rest scene) so.rises.grow,
          )

      was_unspent : now.spent ≡ false → before.spent ≡ false
      was_unspent not_now = false_from_ne_true before.spent (λ was. false≢true (sym not_now ∙ so.rises.spent was))

      reaches_so : now.spent ≡ false → (cost : ℕ) → cost ≤ limit → cost ≤ now.best.paid → cost ≤ path.paid + by.least
      reaches_so not_now cost inside cheaper =
          let least : cost - path.paid ≤ by.least
          = least_is.greatest (cost - path.paid) (omega (arith, cheaper, so.rises.cheaper, may.small)) (λ scene first. omega (
            arith,
            may.reach number no_task line scene cost (was_unspent not_now) within was_at first inside (omega (arith, cheaper, so.rises.cheaper)),
          )) in
          omega (arith, least)

      abbrev more : SearchData
      more = after rules now path.rest line by.least so.search has_line (some_left number within) most_so

      done_here : IsDone rules more limit path answer
      done_here = record {
        most = known_then rules now path.rest line by.least so.search has_line (some_left number within) most_so answer by.answer;
        reaches = λ not_then cost inside cheaper. omega (arith, by.answer, reaches_so not_then cost inside cheaper);
      }

      rises_here : Rises now more
      rises_here = rises_then rules now path.rest line by.least so.search has_line (some_left number within) most_so

      module _ (standings_then : List Standing) (standing : Standing) (value_is : standing.value ≡ answer)
          (standings_are : standings_then ≡ set standings_now number standing) where
        number_in : number < length standings_now
        number_in = omega (arith, within, so.count)

        at_then : (place : ℕ) → place ≢ number → standing_at standings_then place ≡ standing_at standings_now place
        at_then place other = ap (λ (xs : List Standing). standing_at xs place) standings_are ∙ get_or-set_other standings_now number place standing no_standing other

        here_then : standing_at standings_then number ≡ standing
        here_then = ap (λ (xs : List Standing). standing_at xs number) standings_are ∙ get_or-set_same standings_now number standing no_standing number_in

        raised_more : AreRaised rules before more limit (number + 1) paths standings standings_then
        raised_more = record {
          search = search_then rules now path.rest line by.least so.search has_line (some_left number within) most_so;
          rises = rises_trans before now more so.rises rises_here;
          count = ap length standings_are ∙ length-set standings_now number standing ∙ so.count;
          done = λ place less there. elim (cases_eq place number) [
            | inl same ↦ subst (λ (k : ℕ). IsDone rules more limit (path_at paths k) (standing_at standings_then k).value) (sym same)
                (subst (λ (n : ℕ). IsDone rules more limit path n) (sym (ap (λ (s : Standing). s.value) here_then ∙ value_is)) done_here)
            | inr other ↦ subst (λ (s : Standing). IsDone rules more limit (path_at paths place) s.value) (sym (at_then place other))
                (done_stays rules now more limit (path_at paths place) (standing_at standings_now place).value rises_here
                (so.done place (omega (arith, less, other)) there))
          ];
          same = λ place high. at_then place (λ same. omega (arith, high, same)) ∙ so.same place (omega (arith, high));
        }

        pub raised_opened : AreRaised rules before then limit (number + 1) paths standings standings_then
        raised_opened = subst (λ (s : SearchData). AreRaised rules before s limit (number + 1) paths standings standings_then) (sym by.search) raised_more

  -- at the end all are done
  pub raised_all : (now : SearchData) (number : ℕ) (standings_now : List Standing) → AreRaised rules before now limit number paths standings standings_now
      → length paths ≤ number → IsSearch rules now × Rises before now × IsLayer rules now limit paths sets standings_now
  raised_all now number standings_now so all = (
    so.search,
    so.rises,
    record {
      most = λ one. value_known paths sets standings_now may.sets_are may.level.2.apart one (known rules now.lines one)
          (λ place within same. subst (λ (q : ℕ). (standing_at standings_now place).value ≤ known rules now.lines q) same
          (so.done place (omega (arith, within, all)) within).most);
      reaches = λ not_spent place d within.
          let path_is : path_at paths place ≡ get_or paths place d = get_or_default paths place no_task d within in
          subst (λ (p : PathData). Reaches now p limit (value_in sets standings_now p.rest)) path_is
          (λ cost inside cheaper. omega (
            arith,
            value_there paths sets standings_now may.sets_are may.level.2.apart place within,
            (so.done place (omega (arith, within, all)) within).reaches not_spent cost inside cheaper,
          ));
    },
  )
