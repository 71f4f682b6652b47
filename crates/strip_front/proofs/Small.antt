-- What a hand knows is small, and stays.
use Rattle.std.proofs.Common.{◌≡◌, ℕ, ◌<◌, ◌≤◌, ◌^◌, false, List, [], refl, sym, ap, ◌∙◌, subst, arith}
use Rattle.strip_mask.specs.Set.{has}
use Rattle.strip_mask.proofs.ByMembers.{has-empty}
use Rattle.strip_model.specs.declared.kind.Kind.{Kind}
use Rattle.strip_model.specs.Film.{FilmData}
use Rattle.strip_film.specs.declared.shared.Line.{Line}
use Rattle.strip_film.specs.Film.{IsFilm, LiesIn}
use Rattle.strip_film.proofs.Small.{finish_small}
use Rattle.strip_bound.specs.Bounds.{bound}
use Rattle.strip_bound.proofs.Finish.{bound_finishes}
use Rattle.strip_rule.proofs.Open.{open_begins_least}
use Rattle.strip_lines.specs.Lines.{GrowTo, known, line_at}
use Rattle.strip_lines.proofs.Grown.{grow_self, grow_trans, known-grows, known-line}
use Rattle.strip_lines.proofs.Justified.{known_is_true}
use Rattle.strip_hand.specs.Hand.{HandData, IsHand}
use Rattle.strip_hand.specs.Search.{SearchData, search_rules}
use Rattle.strip_front.specs.Calls.{AreFound, IsWalked, Learns}
use Rattle.strip_front.specs.Filled.{HasLine, IsFilled}
use Rattle.strip_front.specs.Front.{FrontData, IsFrontOf, path_at, task_at}
use Rattle.strip_front.proofs.Grown.{line_grows}

-- what is known of a set is at most the cost of finishing it
pub known_small : (hand : HandData) (set : ℕ) → IsHand hand → LiesIn hand.search.film set → known (search_rules hand.search) hand.lines set < 2 ^ 63
known_small hand set is lies =
    let film = hand.search.film in
    finish_small film set (known (search_rules hand.search) hand.lines set) is.film lies
    (known_is_true (search_rules hand.search) hand.lines is.film (λ q. bound_finishes hand.search.kind film q is.film) (open_begins_least film is.film) is.lines set lies)

-- the static bound of no scenes is nothing
pub bound-empty : (kind : Kind) (film : FilmData) → IsFilm film → bound kind film 0 ≡ 0
bound-empty kind film is = omega (arith, bound_finishes kind film 0 is (λ i member. absurd (let e : has 0 i ≡ false = has-empty i in cc)) [] (tt, refl))

-- ---- a hand that learns

pub learns_self : (hand : HandData) → Learns hand hand
learns_self hand = record { only = refl; grow = grow_self hand.lines; no_fewer = omega arith }

pub learns_then : (before between after : HandData) → Learns before between → Learns between after → Learns before after
learns_then before between after one two = record {
  only = two.only ∙ ap (λ (h : HandData). record h { lines = after.lines; refusals = after.refusals }) one.only;
  grow = grow_trans before.lines between.lines after.lines one.grow two.grow;
  no_fewer = omega (arith, one.no_fewer, two.no_fewer);
}

-- the front's lines, and what was found of its tasks, where more is known, by the search of the earlier hand
module _ (before after : HandData) (front : FrontData) (grow : GrowTo before.lines after.lines) where
  pub filled_grows : IsFilled before front → IsFilled (record after { search = before.search }) front
  filled_grows filled = record {
    lines = λ place line within at. (
      (filled.lines place line within at).0,
      line_grows before.lines after.lines line (path_at front place).rest grow (filled.lines place line within at).1,
    );
    wanted = filled.wanted;
  }

  pub found_grows : (found : List ℕ) → AreFound before front found → AreFound (record after { search = before.search }) front found
  found_grows found are = λ task within wanted.
      omega (arith, are task within wanted, known-grows (search_rules before.search) before.lines after.lines (task_at front task).rest grow)

module _ (before after : HandData) (learns : Learns before after) where
  pub same_search : after.search ≡ before.search
  same_search = ap (λ (h : HandData). h.search) learns.only

  pub known_still : (set : ℕ) → known (search_rules before.search) before.lines set ≤ known (search_rules after.search) after.lines set
  known_still set =
      subst (λ (s : SearchData). known (search_rules before.search) before.lines set ≤ known (search_rules s) after.lines set) (sym same_search)
      (known-grows (search_rules before.search) before.lines after.lines set learns.grow)

  pub filled_still : (front : FrontData) → IsFilled before front → IsFilled after front
  filled_still front filled =
      subst (λ (search : SearchData). IsFilled (record after { search = search }) front) (sym same_search)
      (filled_grows before after front learns.grow filled)

  pub found_still : (front : FrontData) (found : List ℕ) → AreFound before front found → AreFound after front found
  found_still front found are =
      subst (λ (search : SearchData). AreFound (record after { search = search }) front found) (sym same_search)
      (found_grows before after front learns.grow found are)

  pub walked_still : (front : FrontData) (found : List ℕ) → IsWalked before front found → IsWalked after front found
  walked_still front found walked = record {
    front_of = subst (λ (search : SearchData). IsFrontOf (search_rules search) front) (sym same_search) walked.front_of;
    filled = filled_still front walked.filled;
    count = walked.count;
    known_of = found_still front found walked.known_of;
  }

-- a line that has a bound makes it known of its set
pub line_makes_known : (search : SearchData) (before after : List Line) (line set number : ℕ) → HasLine before line set → GrowTo before after → number ≤ (line_at after line).bound
    → number ≤ known (search_rules search) after set
line_makes_known search before after line set number has grow raised =
    let now = line_grows before after line set grow has in
    omega (arith, raised, subst (λ (q : ℕ). (line_at after line).bound ≤ known (search_rules search) after q) now.leaves (known-line (search_rules search) after line now.there))
