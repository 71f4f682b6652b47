-- A set that is opened: it has a line already, or one is added, or the search is spent.
use Rattle.std.proofs.Common.{◌≡◌, ◌≢◌, ℕ, ◌+◌, ◌<◌, ◌≤◌, true, Option, [], ◌∷◌, ◌++◌, length, Some, None, All, refl, sym, ap, ◌∙◌, subst, append-nil, arith}
use Rattle.std.specs.List.{position}
use Rattle.std.proofs.lemmas.List.{length-append}
use Rattle.std.proofs.Math.Seq.{get_or-append_seam}
use Rattle.std.proofs.lemmas.List.Elements.{All-push}
use Rattle.strip_film.specs.declared.shared.Line.{Line}
use Rattle.strip_film.specs.Film.{IsFilm}
use Rattle.strip_film.specs.Path.{PathData}
use Rattle.strip_film.specs.Rules.{IsOpen, Rules}
use Rattle.strip_film.proofs.Paths.{rest_lies}
use Rattle.strip_lines.specs.Lines.{line_at, no_line}
use Rattle.strip_lines.proofs.Grown.{added-grows, justified-added}
use Rattle.strip_lines.specs.Apart.{AreApart, IsLeft}
use Rattle.strip_lines.specs.Paths.{candidate_count}
use Rattle.strip_lines.proofs.Apart.{apart_few}
use Rattle.strip_lines.proofs.Shares.{is_candidate_from}
use Rattle.strip_layers.specs.Search.{Adds, Extends, HasLine, IsFull, IsSearch, SearchData}
use Rattle.strip_layers.proofs.Apart.{apart_more}
use Rattle.strip_layers.proofs.Grown.{extends_self, whole_stays}
use Rattle.strip_layers.proofs.Sets.{has_set}

-- what opening a set leaves: the set has a line, or the search is spent
pub record HasOpened (rules : Rules) (before : SearchData) (rest : ℕ) (place : Option ℕ) (after : SearchData) : Type 0 where
  pub search : IsSearch rules after
  pub extends : Extends before after
  pub closed : place ≡ None → after.spent ≡ true
  pub line : (there : ℕ) → place ≡ Some there → HasLine after.lines rest there

-- a set that has a line
pub opened_there : (rules : Rules) (search : SearchData) (rest there : ℕ) (place : Option ℕ) → IsSearch rules search → HasLine search.lines rest there
    → place ≡ Some there → HasOpened rules search rest place search
opened_there rules search rest there place is line at = record {
  search = is;
  extends = extends_self search;
  closed = λ none. absurd (let e : None ≡ Some there = sym none ∙ at in cc);
  line = λ other same. (let e : Some other ≡ Some there = sym same ∙ at in
      let n : other ≡ there = cc in
      subst (HasLine search.lines rest) (sym n) line);
}

module _ (rules : Rules) (before : SearchData) (path : PathData) (bound : ℕ) (is_film : IsFilm rules.film) (is : IsSearch rules before)
    (is_open : IsOpen rules path) (some : path.rest ≢ 0) (none : position (has_set path.rest) before.lines ≡ None)
    (static : bound ≡ rules.bound path.rest) (below : path.paid + bound < before.goal) where
  abbrev line : Line
  line = record { set = path.rest; bound = bound }

  abbrev more : SearchData
  more = record before { lines = before.lines ++ line ∷ [] }

  abbrev over : SearchData
  over = record before { spent = true }

  left_here : IsLeft rules before.goal path.rest
  left_here = record {
    path = path;
    unfinished = (is_open.0, some);
    candidate = is_candidate_from rules before.goal path (is_open, omega (arith, static, below));
    leaves = refl;
  }

  apart_then : AreApart more.lines
  apart_then = apart_more before.lines line is.apart none

  left_then : All (λ (l : Line). IsLeft rules before.goal l.set) more.lines
  left_then = All-push (λ (l : Line). IsLeft rules before.goal l.set) before.lines line is.left left_here

  is_full : before.nodes ≤ length before.lines → IsFull rules over
  is_full full = record {
    full = omega (arith, full, is.few);
    fewer = (let few : length more.lines ≤ candidate_count rules before.goal = apart_few rules is_film before.goal more.lines apart_then left_then in
        omega (arith, few, full, length-append before.lines (line ∷ [])));
  }

  search_over : before.nodes ≤ length before.lines → IsSearch rules over
  search_over full = record {
    justified = is.justified;
    apart = is.apart;
    left = is.left;
    few = is.few;
    spent = λ _. is_full full;
    whole = record { some = is.whole.some; set = is.whole.set; ahead = is.whole.ahead };
    best = is.best;
    no_dearer = is.no_dearer;
  }

  search_more : length before.lines < before.nodes → IsSearch rules more
  search_more room = record {
    justified = justified-added rules before.lines line is.justified (rest_lies rules.film path is_open.0) (omega (arith, static));
    apart = apart_then;
    left = left_then;
    few = omega (arith, room, length-append before.lines (line ∷ []));
    spent = λ spent. absurd (let whole : length before.lines ≡ before.nodes = (is.spent spent).full in omega (arith, room, whole));
    whole = whole_stays rules before more (added-grows before.lines line) is.whole;
    best = is.best;
    no_dearer = is.no_dearer;
  }

  line_there : (place : ℕ) → place ≡ length before.lines → HasLine more.lines path.rest place
  line_there place last = record {
    there = omega (arith, last, length-append before.lines (line ∷ []));
    set = ap (λ (n : ℕ). (line_at (before.lines ++ line ∷ []) n).set) last ∙ ap (λ (l : Line). l.set) (get_or-append_seam before.lines line [] no_line);
  }

  pub added_opened : (place : Option ℕ) (after : SearchData) → Adds before line place after → HasOpened rules before path.rest place after
  added_opened None after (full, over_is) = subst (HasOpened rules before path.rest None) (sym over_is) (record {
    search = search_over full;
    extends = record { best = refl; goal = refl; nodes = refl; more = []; lines = sym (append-nil before.lines); spent = λ _. refl };
    closed = λ _. refl;
    line = λ there same. absurd (let e : None ≡ Some there = same in cc);
  })
  added_opened (Some place) after (last, room, more_is) = subst (HasOpened rules before path.rest (Some place)) (sym more_is) (record {
    search = search_more room;
    extends = record { best = refl; goal = refl; nodes = refl; more = line ∷ []; lines = refl; spent = λ spent. spent };
    closed = λ same. absurd (let e : Some place ≡ None = same in cc);
    line = λ there same. (let n : there ≡ place = (let e : Some place ≡ Some there = same in cc) in
        subst (HasLine more.lines path.rest) (sym n) (line_there place last));
  })
