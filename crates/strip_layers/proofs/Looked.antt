-- How a set stands that was looked at.
use Rattle.std.proofs.Common.{◌≡◌, ◌≢◌, ℕ, ◌<◌, ◌≤◌, true, List, Some, None, inl, inr, sym, ◌∙◌, subst, arith}
use Rattle.std.specs.List.{position}
use Rattle.std.proofs.lemmas.Bool.{false≢true, false_from_ne_true, eq-eqb}
use Rattle.strip_model.specs.declared.kind.Kind.{Kind}
use Rattle.strip_model.specs.Film.{FilmData}
use Rattle.strip_film.specs.declared.shared.Line.{Line}
use Rattle.strip_film.specs.Film.{IsFilm}
use Rattle.strip_film.specs.Path.{PathData}
use Rattle.strip_film.specs.Rules.{IsOpen, Rules}
use Rattle.strip_bound.specs.Bounds.{bound}
use Rattle.strip_lines.specs.Lines.{GrowTo, line_at, no_line, rules_of}
use Rattle.strip_lines.proofs.Grown.{known-grows}
use Rattle.strip_layers.specs.declared.ask.Ask.{Ask}
use Rattle.strip_layers.specs.declared.layer.Standing.{Standing}
use Rattle.strip_layers.specs.Search.{Adds, Extends, HasLine, IsSearch, Opens, SearchData}
use Rattle.strip_layers.specs.Walked.{IsLooked, IsStanding, Stands}
use Rattle.strip_layers.proofs.Grown.{extends_grow, extends_self, line_stays}
use Rattle.strip_layers.proofs.Opened.{HasOpened, added_opened, opened_there}
use Rattle.strip_layers.proofs.Sets.{has_set, none_has}

-- how a path's set stands goes on to hold while lines are added and the search may be spent
pub standing_stays : (rules : Rules) (before after : SearchData) (limit : ℕ) (path : PathData) (standing : Standing) → GrowTo before.lines after.lines
    → (before.spent ≡ true → after.spent ≡ true) → IsStanding rules before limit path standing → IsStanding rules after limit path standing
standing_stays rules before after limit path standing grow spent is = record {
  most = omega (arith, is.most, known-grows rules before.lines after.lines path.rest grow);
  closed = λ none not_then. is.closed none (false_from_ne_true before.spent (λ was. false≢true (sym not_then ∙ spent was)));
  line = λ place at. line_stays before.lines after.lines path.rest place grow (is.line place at);
}

-- a path was looked at while lines were added
pub looked_stays : (kind : Kind) (film : FilmData) (lines more : List Line) (limit : ℕ) (path : PathData) (ask : Ask) → GrowTo lines more
    → IsLooked kind film lines limit path ask → IsLooked kind film more limit path ask
looked_stays kind film lines more limit path ask grow is = record {
  set = is.set;
  need = is.need;
  most = omega (arith, is.most, known-grows (rules_of kind film) lines more path.rest grow);
  reaches = elim is.reaches [
    | inl enough ↦ inl enough
    | inr short ↦ elim short [
      | inl static ↦ inr (inl static)
      | inr (place, line) ↦ inr (inr (place, line_stays lines more path.rest place grow line))
    ]
  ];
}

-- what looking at a path leaves
pub record HasStood (rules : Rules) (before : SearchData) (limit : ℕ) (path : PathData) (standing : Standing) (after : SearchData) : Type 0 where
  pub search : IsSearch rules after
  pub extends : Extends before after
  pub stands : IsStanding rules after limit path standing

module _ (kind : Kind) (film : FilmData) (before after : SearchData) (limit : ℕ) (path : PathData) (ask : Ask) (standing : Standing)
    (is_film : IsFilm film) (is : IsSearch (rules_of kind film) before) (goal : limit ≤ before.goal) (is_open : IsOpen (rules_of kind film) path)
    (some : path.rest ≢ 0) (looked : IsLooked kind film before.lines limit path ask) where
  abbrev rules : Rules
  rules = rules_of kind film

  -- the set has no line, so that its value is the static bound
  static_is : position (has_set path.rest) before.lines ≡ None → ask.value < ask.need → ask.value ≡ bound kind film path.rest
  static_is none short = elim looked.reaches [
    | inl enough ↦ absurd (omega (arith, enough, short))
    | inr why ↦ elim why [
      | inl static ↦ static
      | inr (place, line) ↦ absurd (false≢true (sym (none_has path.rest before.lines none place no_line line.there)
          ∙ eq-eqb (line_at before.lines place).set path.rest line.set))
    ]
  ]

  opened : (rest : ℕ) → rest ≡ path.rest → ask.value < ask.need
      → Opens before (record { set = rest; bound = ask.value }) standing.place after → HasOpened rules before path.rest standing.place after
  opened rest same short (inl (there, line, at, stays)) =
      subst (HasOpened rules before path.rest standing.place) (sym stays)
      (opened_there rules before path.rest there standing.place is (subst (λ (q : ℕ). HasLine before.lines q there) same line) at)
  opened rest same short (inr (none, adds)) =
      let none_there : position (has_set path.rest) before.lines ≡ None = subst (λ (q : ℕ). position (has_set q) before.lines ≡ None) same none in
      let static : ask.value ≡ bound kind film path.rest = static_is none_there short in
      added_opened rules before path ask.value is_film is is_open some none_there static (omega (arith, looked.need, short, goal)) standing.place after
      (subst (λ (q : ℕ). Adds before (record { set = q; bound = ask.value }) standing.place after) same adds)

  pub stood : (rest : ℕ) → rest ≡ path.rest → Stands before rest ask standing after → HasStood rules before limit path standing after
  stood rest same (value, inl (enough, none, stays)) = subst (HasStood rules before limit path standing) (sym stays) (record {
    search = is;
    extends = extends_self before;
    stands = record {
      most = omega (arith, value, looked.most);
      closed = λ _ _. omega (arith, value, enough, looked.need);
      line = λ place at. absurd (let e : None ≡ Some place = sym none ∙ at in cc);
    };
  })
  stood rest same (value, inr (short, opens)) =
      let done : HasOpened rules before path.rest standing.place after = opened rest same short opens in record {
        search = done.search;
        extends = done.extends;
        stands = record {
          most = omega (arith, value, looked.most, known-grows rules before.lines after.lines path.rest (extends_grow before after done.extends));
          closed = λ none not_then. absurd (false≢true (sym not_then ∙ done.closed none));
          line = done.line;
        };
      }
