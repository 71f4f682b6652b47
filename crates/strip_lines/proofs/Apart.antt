-- Lines of sets that differ number no more than candidates.
use Rattle.std.proofs.Common.{◌≡◌, ◌≢◌, ℕ, suc, ◌+◌, ◌≤◌, Bool, true, false, eqb, ◌&&◌, ◌||◌, List, [], ◌∷◌, length, get_or, count_by, All, inl, inr, sym, ap, ◌∙◌, subst, arith}
use Rattle.std.proofs.lemmas.Bool.{false≢true, eq-eqb, eqb-true, and_parts, and_from, or_cases, cases_Bool, false_from_ne_true}
use Rattle.std.proofs.lemmas.List.Elements.{All-head, All-tail}
use Rattle.std.proofs.Math.Bool.{or-true}
use Rattle.strip_mask.proofs.Sizes.{mark}
use Rattle.strip_film.specs.declared.shared.Line.{Line}
use Rattle.strip_film.specs.Film.{IsFilm}
use Rattle.strip_film.specs.Path.{PathData}
use Rattle.strip_film.specs.Rules.{Rules}
use Rattle.strip_lines.specs.Apart.{AreApart, IsLeft}
use Rattle.strip_lines.specs.Paths.{candidate_count, is_candidate, leaving, number_of, leaving_count}
use Rattle.strip_lines.proofs.Sums.{count-cons, count_none, count_two}
use Rattle.strip_lines.proofs.Enumerated.{all_unfinished, counted_once, lists}
use Rattle.strip_lines.proofs.Later.{at, mark_two, same_as, same_there}

-- some line has this set
abbrev among : List Line → ℕ → Bool
among [] set = false
among (line ∷ lines) set = eqb set line.set || among lines set

-- the lines behind the first have other sets than it
others : (line : Line) (lines : List Line) → AreApart (line ∷ lines) → All (λ other. line.set ≢ other.set) lines
others line lines apart place other within = apart 0 (suc place) other (omega arith) (omega (arith, within))

behind : (line : Line) (lines : List Line) → AreApart (line ∷ lines) → AreApart lines
behind line lines apart i j d before within = apart (suc i) (suc j) d (omega (arith, before)) (omega (arith, within))

not_among : (set : ℕ) (lines : List Line) → All (λ other. set ≢ other.set) lines → among lines set ≡ true → ⊥
not_among set [] other there = false≢true there
not_among set (line ∷ lines) other there = elim (or_cases (eqb set line.set) (among lines set) there) [
  | inl here ↦ All-head (λ one. set ≢ one.set) line lines other (eqb-true set line.set here)
  | inr later ↦ not_among set lines (All-tail (λ one. set ≢ one.set) line lines other) later
]

module _ (rules : Rules) (is : IsFilm rules.film) (cost : ℕ) where
  abbrev candidate : PathData → Bool
  candidate = is_candidate rules cost

  -- a candidate with one of these sets
  abbrev one_of_them : List Line → PathData → Bool
  one_of_them lines path = among lines path.rest && candidate path

  left_once : (set : ℕ) → IsLeft rules cost set → 1 ≤ leaving_count rules cost set
  left_once set left =
      let passes : leaving set candidate left.path ≡ true = and_from (eqb left.path.rest set) (candidate left.path) (eq-eqb left.path.rest set left.leaves) left.candidate in
      let both : count_by (same_as rules is left.path) (lists rules.film is) + count_by (λ scenes. false) (lists rules.film is)
      ≤ count_by (λ scenes. leaving set candidate (at rules is scenes)) (lists rules.film is)
      = count_two (same_as rules is left.path) (λ scenes. false) (λ scenes. leaving set candidate (at rules is scenes)) (lists rules.film is)
      (λ k d lt. mark_two (same_as rules is left.path (get_or (lists rules.film is) k d)) false (leaving set candidate (at rules is (get_or (lists rules.film is) k d)))
      (λ same. subst (λ (path : PathData). leaving set candidate path ≡ true)
      (sym (same_there rules is left.path (get_or (lists rules.film is) k d) left.unfinished (all_unfinished rules.film is k d lt) same)) passes)
      (λ e. absurd (false≢true e)) (λ e. absurd (false≢true e))) in
      omega (arith, both, counted_once rules.film is left.path left.unfinished)

  one_more : (line : Line) (lines : List Line) → AreApart (line ∷ lines)
      → leaving_count rules cost line.set + number_of rules.film (one_of_them lines) ≤ number_of rules.film (one_of_them (line ∷ lines))
  one_more line lines apart =
      count_two (λ scenes. leaving line.set candidate (at rules is scenes)) (λ scenes. one_of_them lines (at rules is scenes))
      (λ scenes. one_of_them (line ∷ lines) (at rules is scenes)) (lists rules.film is)
      (λ k d lt. at_each (at rules is (get_or (lists rules.film is) k d)))
    where
      at_each : (path : PathData) → mark (leaving line.set candidate path) + mark (one_of_them lines path) ≤ mark (one_of_them (line ∷ lines) path)
      at_each path =
          mark_two (leaving line.set candidate path) (one_of_them lines path) (one_of_them (line ∷ lines) path)
          (λ first. (let both = and_parts (eqb path.rest line.set) (candidate path) first in
          and_from (among (line ∷ lines) path.rest) (candidate path) (ap (λ (b : Bool). b || among lines path.rest) both.0) both.1))
          (λ later. (let both = and_parts (among lines path.rest) (candidate path) later in
          and_from (among (line ∷ lines) path.rest) (candidate path) (ap (λ (b : Bool). eqb path.rest line.set || b) both.0 ∙ or-true (eqb path.rest line.set)) both.1))
          (λ later. false_from_ne_true (leaving line.set candidate path) (λ first.
          (let here = and_parts (eqb path.rest line.set) (candidate path) first in
          let there = and_parts (among lines path.rest) (candidate path) later in
          not_among line.set lines (others line lines apart) (subst (λ (set : ℕ). among lines set ≡ true) (eqb-true path.rest line.set here.0) there.0))))

  as_many : (lines : List Line) → AreApart lines → All (λ line. IsLeft rules cost line.set) lines → length lines ≤ number_of rules.film (one_of_them lines)
  as_many [] apart left = omega arith
  as_many (line ∷ lines) apart left =
      omega (
        arith,
        left_once line.set (All-head (λ one. IsLeft rules cost one.set) line lines left),
        one_more line lines apart,
        as_many lines (behind line lines apart) (All-tail (λ one. IsLeft rules cost one.set) line lines left),
      )

  pub apart_few : (lines : List Line) → AreApart lines → All (λ line. IsLeft rules cost line.set) lines → length lines ≤ candidate_count rules cost
  apart_few lines apart left =
      let both : count_by (λ scenes. one_of_them lines (at rules is scenes)) (lists rules.film is) + count_by (λ scenes. false) (lists rules.film is)
      ≤ count_by (λ scenes. candidate (at rules is scenes)) (lists rules.film is)
      = count_two (λ scenes. one_of_them lines (at rules is scenes)) (λ scenes. false) (λ scenes. candidate (at rules is scenes)) (lists rules.film is)
      (λ k d lt. mark_two (one_of_them lines (at rules is (get_or (lists rules.film is) k d))) false (candidate (at rules is (get_or (lists rules.film is) k d)))
      (λ there. (and_parts (among lines (at rules is (get_or (lists rules.film is) k d)).rest) (candidate (at rules is (get_or (lists rules.film is) k d))) there).1)
      (λ e. absurd (false≢true e)) (λ e. absurd (false≢true e))) in
      omega (arith, both, as_many lines apart left)

  pub apart_ways : (set : ℕ) (lines : List Line) → AreApart lines → All (λ line. IsLeft rules cost line.set) lines
      → count_by (λ line. eqb line.set set) lines ≤ leaving_count rules cost set
  apart_ways set [] apart left = omega arith
  apart_ways set (line ∷ lines) apart left = elim (cases_Bool (eqb line.set set)) [
    | inl here ↦ (let same : line.set ≡ set = eqb-true line.set set here in
        let none : count_by (λ other. eqb other.set set) lines ≡ 0
        = count_none (λ other. eqb other.set set) lines (λ k d lt. false_from_ne_true (eqb (get_or lines k d).set set)
        (λ too. others line lines apart k d lt (same ∙ sym (eqb-true (get_or lines k d).set set too)))) in
        let some : 1 ≤ leaving_count rules cost set
        = subst (λ (n : ℕ). 1 ≤ leaving_count rules cost n) same (left_once line.set (All-head (λ one. IsLeft rules cost one.set) line lines left)) in
        omega (arith, count-cons (λ other. eqb other.set set) line lines, ap mark here, none, some))
    | inr not_here ↦ (let rest : count_by (λ other. eqb other.set set) lines ≤ leaving_count rules cost set
        = apart_ways set lines (behind line lines apart) (All-tail (λ one. IsLeft rules cost one.set) line lines left) in
        omega (arith, count-cons (λ other. eqb other.set set) line lines, ap mark not_here, rest))
  ]
