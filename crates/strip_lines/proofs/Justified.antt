-- What a justified list makes known is true.
use Rattle.std.proofs.Common.{◌≡◌, ℕ, zero, suc, ◌+◌, ◌<◌, ◌≤◌, true, false, eqb, List, [], ◌∷◌, length, get_or, All, inl, inr, subst, arith}
use Rattle.std.proofs.lemmas.Bool.Decides.{eqb_tells}
use Rattle.std.proofs.lemmas.List.Elements.{All-head, All-tail}
use Rattle.strip_mask.specs.Set.{has, without, size}
use Rattle.strip_mask.proofs.Below.{is_set_below, LiesBelow-without}
use Rattle.strip_mask.proofs.Sizes.{size-without}
use Rattle.strip_film.specs.declared.shared.Line.{Line}
use Rattle.strip_film.specs.Film.{IsFilm, LiesIn}
use Rattle.strip_film.specs.Shoot.{step_cost}
use Rattle.strip_film.specs.Finish.{IsAtMostFinish, steps_cost}
use Rattle.strip_film.specs.Rules.{Rules, BoundsFinish, BeginLeast}
use Rattle.strip_lines.specs.Lines.{known, IsJustified, AreJustified}
use Rattle.strip_film.proofs.Lists.{ready_there}
use Rattle.strip_lines.proofs.Grown.{at_most}

module _ (rules : Rules) (lines : List Line) (is : IsFilm rules.film) (bounds : BoundsFinish rules) (begin : BeginLeast rules) where
  -- what is known of the film's sets of fewer than n scenes is true
  abbrev KnownBelow : ℕ → Type 0
  KnownBelow n = (set : ℕ) → LiesIn rules.film set → size set < n → IsAtMostFinish rules.film set (known rules lines set)

  -- so is a justified line of n scenes: some first of its set begins a least tail
  line_is_true : (line : Line) → LiesIn rules.film line.set → IsJustified rules lines line → KnownBelow (size line.set)
      → IsAtMostFinish rules.film line.set line.bound
  line_is_true line lies (inl static) smaller scenes each = omega (arith, bounds line.set lies scenes each, static)
  line_is_true line lies (inr (some, steps)) smaller scenes each =
      let first = begin line.set lies some in
      let rest : ℕ = without line.set first.0 in
      let there : has line.set first.0 ≡ true = ready_there rules.film line.set first.0 first.2.1.0.0 in
      let fewer : size rest + 1 ≡ size line.set = size-without line.set first.0 (is_set_below (length rules.film.casts) line.set is.scene_count.1 lies) there in
      let later : known rules lines rest ≤ steps_cost rules.film rest first.2.0
      = smaller rest (LiesBelow-without (length rules.film.casts) line.set first.0 lies) (omega (arith, fewer)) first.2.0 (first.2.1.0.1, first.2.1.1) in
      let least : steps_cost rules.film line.set (first.0 ∷ first.2.0) ≤ steps_cost rules.film line.set scenes = first.2.2 scenes each in
      let step : line.bound ≤ step_cost rules.film line.set first.0 + known rules lines rest = steps first.0 first.1 in
      omega (arith, later, least, step)

  -- and so is what some justified lines make known of a set
  known_of : (some : List Line) → All (λ line. LiesIn rules.film line.set × IsJustified rules lines line) some
      → (set : ℕ) → LiesIn rules.film set → KnownBelow (size set) → IsAtMostFinish rules.film set (known rules some set)
  known_of [] are set lies smaller scenes each = bounds set lies scenes each
  known_of (line ∷ some) are set lies smaller scenes each =
      at_most (eqb line.set set) line.bound (known rules some set) (steps_cost rules.film set scenes)
      (λ test. elim (eqb_tells line.set set) [
        | inl same ↦ of_line same.1
        | inr other ↦ absurd (let e : eqb line.set set ≡ false = other.0 in cc)
      ])
      (known_of some (All-tail (λ line. LiesIn rules.film line.set × IsJustified rules lines line) line some are) set lies smaller scenes each)
    where
      justified : LiesIn rules.film line.set × IsJustified rules lines line
      justified = All-head (λ line. LiesIn rules.film line.set × IsJustified rules lines line) line some are

      of_line : line.set ≡ set → line.bound ≤ steps_cost rules.film set scenes
      of_line same =
          subst (λ (q : ℕ). KnownBelow (size q) → IsAtMostFinish rules.film q line.bound) same (line_is_true line justified.0 justified.1) smaller scenes each

  module _ (are : AreJustified rules lines) where
    known_below : (n : ℕ) → KnownBelow n
    known_below zero set lies fewer = absurd (omega arith)
    known_below (suc n) set lies fewer = known_of lines are set lies (λ smaller smaller_lies less. known_below n smaller smaller_lies (omega arith))

    pub known_is_true : (set : ℕ) → LiesIn rules.film set → IsAtMostFinish rules.film set (known rules lines set)
    known_is_true set lies = known_below (size set + 1) set lies (omega arith)

    pub lines_are_true : All (λ line. IsAtMostFinish rules.film line.set line.bound) lines
    lines_are_true place default lt =
        let line : Line = get_or lines place default in
        let justified = are place default lt in
        line_is_true line justified.0 justified.1 (known_below (size line.set))
