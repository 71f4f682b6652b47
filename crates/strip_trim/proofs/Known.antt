-- What a trimmed list makes known, and that it is justified.
use Rattle.std.proofs.Common.{◌≡◌, ℕ, ◌+◌, ◌<◌, ◌≤◌, max, true, List, [], length, get_or, inl, inr, refl, ap, sym, ◌∙◌, subst, arith}
use Rattle.std.proofs.lemmas.Bool.{cases_lt}
use Rattle.std.proofs.lemmas.List.{get_or_default, get_or-map, length-map}
use Rattle.std.proofs.lemmas.List.Elements.{Contains-get_or}
use Rattle.strip_mask.specs.Set.{has, without}
use Rattle.strip_film.specs.declared.shared.Line.{Line}
use Rattle.strip_film.specs.Film.{LiesIn, all_scenes}
use Rattle.strip_film.specs.Rules.{Rules}
use Rattle.strip_film.specs.Shoot.{step_cost}
use Rattle.strip_lines.specs.Lines.{AreJustified, IsJustified, known, line_at, no_line}
use Rattle.strip_lines.proofs.Grown.{known-static}
use Rattle.strip_trim.specs.Best.{best_bound}
use Rattle.strip_trim.proofs.BestKnown.{bound_least, bound_line, bound_none, known_best}
use Rattle.strip_trim.specs.Trimmed.{AreTrimmed, LeadsOn, LineStays, Reached}
use Rattle.strip_trim.proofs.Found.{best_or_none, bound_at}
use Rattle.strip_trim.proofs.Reached.{reached_on}

module _ (rules : Rules) (lines trimmed : List Line) (are : AreTrimmed rules lines trimmed) where
  pub count : length trimmed ≡ length are.places
  count = ap (λ (xs : List Line). length xs) are.are ∙ length-map are.places (line_at lines)

  read : (k : ℕ) → k < length are.places → line_at trimmed k ≡ line_at lines (get_or are.places k 0)
  read k within = ap (λ (xs : List Line). line_at xs k) are.are ∙ get_or-map (line_at lines) are.places k 0 no_line within

  -- each of its lines stays, and each line that stays is one of them
  line_of : (k : ℕ) → k < length trimmed → (place : ℕ) × LineStays rules lines place × (line_at trimmed k ≡ line_at lines place)
  line_of k lt =
      let within : k < length are.places = omega (arith, lt, count) in
      (get_or are.places k 0, (are.exact (get_or are.places k 0)).0 (Contains-get_or are.places k 0 within), read k within)

  there : (place : ℕ) → LineStays rules lines place → (k : ℕ) × (k < length trimmed) × (line_at trimmed k ≡ line_at lines place)
  there place stay =
      let found = (are.exact place).1 stay in
      let at : get_or are.places found.0 0 ≡ place = get_or_default are.places found.0 0 place found.1 ∙ found.2 in
      (found.0, omega (arith, found.1, count), read found.0 found.1 ∙ ap (line_at lines) at)

  no_more : (set : ℕ) → best_bound trimmed set ≤ best_bound lines set
  no_more set = bound_least trimmed set (best_bound lines set) (λ k lt is.
      (let found = line_of k lt in
      let same : (line_at lines found.0).set ≡ set = ap (λ (l : Line). l.set) (sym found.2) ∙ is in
      let bound : (line_at trimmed k).bound ≡ (line_at lines found.0).bound = ap (λ (l : Line). l.bound) found.2 in
      let reach : (line_at lines found.0).bound ≤ best_bound lines set
      = subst (λ (q : ℕ). (line_at lines found.0).bound ≤ best_bound lines q) same (bound_line lines found.0 found.1.best.within) in
      omega (arith, bound, reach)))

  no_less : (set : ℕ) → Reached rules lines set → best_bound lines set ≤ best_bound trimmed set
  no_less set reached = elim (best_or_none lines set) [
    | inl (place, best) ↦ (
        let found = there place (record { best = best.0; reached = subst (Reached rules lines) (sym best.1) reached }) in
        let same : (line_at trimmed found.0).set ≡ set = ap (λ (l : Line). l.set) found.2 ∙ best.1 in
        let bound : (line_at trimmed found.0).bound ≡ (line_at lines place).bound = ap (λ (l : Line). l.bound) found.2 in
        let reach : (line_at trimmed found.0).bound ≤ best_bound trimmed set
        = subst (λ (q : ℕ). (line_at trimmed found.0).bound ≤ best_bound trimmed q) same (bound_line trimmed found.0 found.1) in
        omega (arith, bound, reach, bound_at lines set place best))
    | inr none ↦ (let e = bound_none lines set none in omega (arith, e))
  ]

  -- of a set that is reached it makes the same known
  pub known_reached : (set : ℕ) → Reached rules lines set → known rules trimmed set ≡ known rules lines set
  known_reached set reached =
      let same : best_bound trimmed set ≡ best_bound lines set = omega (arith, no_more set, no_less set reached) in
      known_best rules trimmed set ∙ (ap (λ (bound : ℕ). max (rules.bound set) bound) same ∙ sym (known_best rules lines set))

  pub known_whole : known rules trimmed (all_scenes rules.film) ≡ known rules lines (all_scenes rules.film)
  known_whole = known_reached (all_scenes rules.film) ([], tt, refl)

  -- a line that stays is justified by the lines that stay
  still_justified : (place : ℕ) → LineStays rules lines place → IsJustified rules lines (line_at lines place) → IsJustified rules trimmed (line_at lines place)
  still_justified place stay (inl static) = inl static
  still_justified place stay (inr (some, steps)) = elim (cases_lt (rules.bound set) (line_at lines place).bound) [
    | inl above ↦ inr (some, λ scene first. step above scene first)
    | inr static ↦ inl static
  ]
    where
      set : ℕ
      set = (line_at lines place).set

      best : (line_at lines place).bound ≡ best_bound lines set
      best = bound_at lines set place (stay.best, refl)

      step : rules.bound set < (line_at lines place).bound → (scene : ℕ) → has (rules.firsts set) scene ≡ true
          → (line_at lines place).bound ≤ step_cost rules.film set scene + known rules trimmed (without set scene)
      step above scene first = elim (cases_lt (step_cost rules.film set scene + rules.bound (without set scene)) (line_at lines place).bound) [
        | inl short ↦ (
            let leads : LeadsOn rules lines set scene = record { above = omega (arith, above, best); first = first; short = omega (arith, short, best) } in
            let same = known_reached (without set scene) (reached_on rules lines set scene stay.reached leads) in
            omega (arith, steps scene first, same))
        | inr long ↦ omega (arith, long, known-static rules trimmed (without set scene))
      ]

  pub justified : AreJustified rules lines → AreJustified rules trimmed
  justified all k d lt =
      let found = line_of k lt in
      let here : get_or trimmed k d ≡ line_at lines found.0 = get_or_default trimmed k d no_line lt ∙ found.2 in
      let was = all found.0 no_line found.1.best.within in
      subst (λ (line : Line). LiesIn rules.film line.set × IsJustified rules trimmed line) (sym here) (was.0, still_justified found.0 found.1 was.1)
