-- How a search by layers ends.
use Rattle.std.proofs.Common.{◌≡◌, ℕ, ◌+◌, ◌-◌, ◌*◌, ◌<◌, ◌≤◌, max, min, false, true, Bool, ltb, List, [], length, All, Some, None, get_or, inl, inr, refl, sym, ap, ◌∙◌, subst, arith}
use Rattle.std.specs.List.{position, position_or_len}
use Rattle.std.proofs.lemmas.Bool.{cond-true, eq-eqb, false≢true, lt-ltb}
use Rattle.std.proofs.lemmas.List.Elements.{All-nil}
use Rattle.std.proofs.lemmas.List.Sums.{position_or_len_is}
use Rattle.strip_mask.proofs.Below.{LiesBelow-full}
use Rattle.strip_model.specs.declared.kind.Kind.{Kind}
use Rattle.strip_model.specs.Film.{FilmData}
use Rattle.strip_model.specs.Order.{IsKeptOrder, IsOrder}
use Rattle.strip_model.specs.Pay.{pay_of}
use Rattle.strip_film.specs.Film.{IsFilm, all_scenes}
use Rattle.strip_film.specs.Finish.{EachOnce, IsAtMostFinish, steps_cost}
use Rattle.strip_film.specs.Path.{IsComplete, PathData}
use Rattle.strip_film.specs.Rules.{BeginLeast, BoundsFinish, Rules}
use Rattle.strip_bound.specs.Bounds.{bound}
use Rattle.strip_bound.proofs.Finish.{bound_finishes}
use Rattle.strip_rule.proofs.Open.{open_begins_least}
use Rattle.strip_lines.specs.Apart.{IsLeft}
use Rattle.strip_lines.specs.Paths.{candidate_count}
use Rattle.strip_lines.proofs.Apart.{apart_few, apart_ways}
use Rattle.strip_lines.specs.Lines.{known, line_at, no_line, rules_of}
use Rattle.strip_lines.proofs.Justified.{known_is_true}
use Rattle.strip_layers.specs.Layered.{HasEnded, IsEnd, IsLayered, LayeredData}
use Rattle.strip_layers.specs.Search.{IsFull, IsSearch, SearchData}
use Rattle.strip_layers.specs.Walked.{HasWalked}
use Rattle.strip_layers.proofs.Apart.{known_there}
use Rattle.strip_layers.proofs.Sets.{has_set}

-- the lemma speaks of the orders of the film by these two laws
abbrev pub KeptAreReady : FilmData → Type 0
KeptAreReady film = (order : List ℕ) → IsKeptOrder film order → EachOnce film (all_scenes film) order

abbrev pub StepsPay : FilmData → Type 0
StepsPay film = (order : List ℕ) → IsOrder (length film.casts) order → steps_cost film (all_scenes film) order ≡ pay_of film order

bounds_finish : (kind : Kind) (film : FilmData) → IsFilm film → BoundsFinish (rules_of kind film)
bounds_finish kind film is set lies = bound_finishes kind film set is lies

begin_least : (kind : Kind) (film : FilmData) → IsFilm film → BeginLeast (rules_of kind film)
begin_least kind film is set lies some = open_begins_least film is set lies some

-- what the first line has is what is known of all scenes
pub whole_known : (rules : Rules) (search : SearchData) → IsSearch rules search → (line_at search.lines 0).bound ≡ known rules search.lines (all_scenes rules.film)
whole_known rules search is =
    let all : ℕ = all_scenes rules.film in
    let passes : has_set all (line_at search.lines 0) ≡ true = eq-eqb (line_at search.lines 0).set all is.whole.set in
    let first : position_or_len (has_set all) search.lines ≡ 0
    = position_or_len_is (has_set all) search.lines 0 no_line (omega arith) (λ k before. absurd (omega (arith, before))) (λ _. passes) in
    let found : position (has_set all) search.lines ≡ Some 0
    = cond-true (ltb (position_or_len (has_set all) search.lines) (length search.lines)) (Some (position_or_len (has_set all) search.lines)) None
    (lt-ltb (position_or_len (has_set all) search.lines) (length search.lines) (omega (arith, first, is.whole.some)))
    ∙ ap (λ (n : ℕ). Some n) first in
    let there : max (line_at search.lines 0).bound (rules.bound all) ≡ known rules search.lines all
    = known_there rules search.lines all 0 is.apart found in
    omega (arith, there, is.whole.ahead)

-- a search that has ended
module _ (kind : Kind) (film : FilmData) (start : PathData) (nodes : ℕ) (search : SearchData) (layered : LayeredData) (is_film : IsFilm film)
    (is : IsSearch (rules_of kind film) search) (goal_is : search.goal ≡ start.paid) (cap_is : search.nodes ≡ nodes) (ended : HasEnded search)
    (is_end : IsEnd search layered) where
  abbrev rules : Rules
  rules = rules_of kind film

  lines_are : search.lines ≡ layered.lines
  lines_are = sym is_end.lines

  bound_is : layered.bound ≡ known rules search.lines (all_scenes film)
  bound_is = is_end.bound ∙ whole_known rules search is

  -- no list of all scenes costs less than what is known of them
  finish : IsAtMostFinish film (all_scenes film) layered.bound
  finish =
      subst (IsAtMostFinish film (all_scenes film)) (sym bound_is)
      (known_is_true rules search.lines is_film (bounds_finish kind film is_film) (begin_least kind film is_film) is.justified (all_scenes film)
      (LiesBelow-full (length film.casts)))

  most : layered.bound ≤ search.best.paid
  most = omega (arith, finish search.best.scenes (is.best.0.remained, sym is.best.0.left ∙ is.best.1), is.best.0.steps)

  closed : layered.is_spent ≡ false → layered.bound ≡ search.best.paid
  closed not_spent = elim (is_end.closed not_spent) [
    | inl unspent ↦ elim ended [
      | inl spent ↦ absurd (false≢true (sym unspent ∙ spent))
      | inr reached ↦ omega (arith, reached, most, is_end.bound)
    ]
    | inr reached ↦ omega (arith, reached, most)
  ]

  still_left : All (λ line. IsLeft rules start.paid line.set) search.lines
  still_left place d within = subst (λ (cost : ℕ). IsLeft rules cost (get_or search.lines place d).set) goal_is (is.left place d within)

  abbrev same : LayeredData
  same = record layered { lines = search.lines; best = search.best }

  pub layered_is : KeptAreReady film → StepsPay film → IsLayered kind film start nodes layered
  layered_is each pays = subst (IsLayered kind film start nodes) (λ i. record layered { lines = lines_are i; best = sym is_end.best i }) (record {
    best = is.best;
    no_dearer = omega (arith, is.no_dearer, goal_is);
    justified = is.justified;
    apart = is.apart;
    left = still_left;
    most = omega (arith, is.few, cap_is);
    candidates = apart_few rules is_film start.paid search.lines is.apart still_left;
    sets = λ set. apart_ways rules is_film start.paid set search.lines is.apart still_left;
    bound = bound_is;
    true_bound = λ order kept. (let no_less : layered.bound ≤ steps_cost film (all_scenes film) order = finish order (each order kept) in
        omega (arith, no_less, pays order kept.is_order));
    spent = λ spent. (let full : IsFull rules search = is.spent (is_end.spent spent) in record {
      full = full.full ∙ cap_is;
      fewer = omega (arith, full.fewer, cap_is, ap (candidate_count rules) goal_is);
      reaches = omega (arith, is.whole.ahead, is_end.bound);
      below = is_end.below spent;
    });
    closed = closed;
  })

-- the static bound of all scenes is what the start pays already
module _ (kind : Kind) (film : FilmData) (start : PathData) (nodes : ℕ) (is_film : IsFilm film) (complete : IsComplete film start)
    (reaches : start.paid ≤ bound kind film (all_scenes film)) where
  static_finish : IsAtMostFinish film (all_scenes film) (bound kind film (all_scenes film))
  static_finish = bounds_finish kind film is_film (all_scenes film) (LiesBelow-full (length film.casts))

  pub nothing_is : KeptAreReady film → StepsPay film
      → IsLayered kind film start nodes (record { lines = []; bound = bound kind film (all_scenes film); best = start; is_spent = false })
  nothing_is each pays = record {
    best = complete;
    no_dearer = omega arith;
    justified = All-nil _;
    apart = λ i j d before within. absurd (omega (arith, within));
    left = All-nil _;
    most = omega arith;
    candidates = omega arith;
    sets = λ set. omega arith;
    bound = refl;
    true_bound = λ order kept. (let no_less : bound kind film (all_scenes film) ≤ steps_cost film (all_scenes film) order = static_finish order (each order kept) in
        omega (arith, no_less, pays order kept.is_order));
    spent = λ spent. absurd (false≢true spent);
    closed = λ _. omega (arith, reaches, static_finish start.scenes (complete.0.remained, sym complete.0.left ∙ complete.1), complete.0.steps);
  }

-- a walk that was done brings what is known of all scenes nearer to what the best path pays
pub nearer : (rules : Rules) (before after : SearchData) (may_spend : Bool) (limit more : ℕ) → (line_at before.lines 0).bound < limit → limit ≤ before.best.paid
    → 0 < length before.lines → HasWalked rules before may_spend limit true after → after.spent ≡ false
    → 3 * (after.best.paid - (line_at after.lines 0).bound) + more < 3 * (before.best.paid - (line_at before.lines 0).bound) + more
nearer rules before after may_spend limit more above below some (is, rises, reaches) unspent =
    let reached : min limit after.best.paid ≤ (line_at after.lines 0).bound
    = omega (arith, whole_known rules after is, reaches unspent (min limit after.best.paid) (omega arith) (omega arith)) in
    omega (arith, reached, above, below, rises.cheaper, rises.grow.no_lower 0 some)
