-- Lines that are raised by what is known of the layer below, and what is then known of their layer.
use Rattle.std.proofs.Common.{◌≡◌, ◌≢◌, ℕ, ◌+◌, ◌<◌, ◌≤◌, max, true, length, All, inr, refl, sym, ap, ◌∙◌, subst, arith}
use Rattle.std.proofs.lemmas.List.{get_or_default, get_or-set_same, length-set}
use Rattle.strip_mask.specs.Set.{has, without}
use Rattle.strip_film.specs.declared.shared.Line.{Line}
use Rattle.strip_film.specs.Rules.{Rules}
use Rattle.strip_film.specs.Shoot.{step_cost}
use Rattle.strip_lines.specs.Lines.{GrowTo, IsJustified, known, line_at, no_line, raised, with_raised}
use Rattle.strip_lines.proofs.Grown.{justified-raised, known-line, raised-grows}
use Rattle.strip_lines.specs.Apart.{IsLeft}
use Rattle.strip_layers.specs.Search.{HasLine, IsFull, IsSearch, Rises, SearchData}
use Rattle.strip_layers.proofs.Apart.{apart_same}
use Rattle.strip_layers.proofs.Grown.{whole_stays}

-- a line is raised to a number that each first and what is known behind it reach
module _ (rules : Rules) (now : SearchData) (rest place least : ℕ) (is : IsSearch rules now) (line : HasLine now.lines rest place) (some : rest ≢ 0)
    (most : (scene : ℕ) → has (rules.firsts rest) scene ≡ true → least ≤ step_cost rules.film rest scene + known rules now.lines (without rest scene)) where
  abbrev pub after : SearchData
  after = record now { lines = with_raised now.lines place least }

  pub grows : GrowTo now.lines after.lines
  grows = raised-grows now.lines place least line.there

  as_many : length after.lines ≡ length now.lines
  as_many = length-set now.lines place (raised (line_at now.lines place) least)

  reached_line : IsJustified rules now.lines (record { set = (line_at now.lines place).set; bound = least })
  reached_line =
      subst (λ (q : ℕ). IsJustified rules now.lines (record { set = q; bound = least })) (sym line.set) (inr (some, most))

  still_left : All (λ one. IsLeft rules now.goal one.set) after.lines
  still_left k d within =
      let here : k < length now.lines = omega (arith, within, as_many) in
      subst (IsLeft rules now.goal)
      (sym (ap (λ (one : Line). one.set) (get_or_default after.lines k d no_line within) ∙ grows.same_set k here))
      (is.left k no_line here)

  still_full : IsFull rules now → IsFull rules after
  still_full full = record { full = as_many ∙ full.full; fewer = full.fewer }

  pub search_then : IsSearch rules after
  search_then = record {
    justified = justified-raised rules now.lines place least is.justified line.there reached_line;
    apart = apart_same now.lines after.lines grows as_many is.apart;
    left = still_left;
    few = omega (arith, is.few, as_many);
    spent = λ spent. still_full (is.spent spent);
    whole = whole_stays rules now after grows is.whole;
    best = is.best;
    no_dearer = is.no_dearer;
  }

  pub rises_then : Rises now after
  rises_then = record { goal = refl; nodes = refl; grow = grows; cheaper = omega arith; spent = λ spent. spent }

  pub known_then : (answer : ℕ) → answer ≡ max (line_at now.lines place).bound least → answer ≤ known rules after.lines rest
  known_then answer answer_is =
      let there : place < length after.lines = omega (arith, line.there, as_many) in
      let here : (line_at after.lines place).bound ≡ max (line_at now.lines place).bound least
      = ap (λ (one : Line). one.bound) (get_or-set_same now.lines place (raised (line_at now.lines place) least) no_line line.there) in
      let most_then : (line_at after.lines place).bound ≤ known rules after.lines rest
      = subst (λ (q : ℕ). (line_at after.lines place).bound ≤ known rules after.lines q) (grows.same_set place line.there ∙ line.set)
      (known-line rules after.lines place there) in
      omega (arith, here, most_then, answer_is)
