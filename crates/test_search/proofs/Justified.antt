-- That lines are justified, by a test that computes.
use Rattle.std.proofs.Common.{◌≡◌, ◌≢◌, ◌==◌, ◌&&◌, ◌||◌, nat_lt, ℕ, ◌+◌, ◌<◌, ◌≤◌, ◌^◌, Bool, true, leb, eqb-true, get_or, List, length, inl, inr, refl, arith}
use Rattle.std.specs.List.{list_all}
use Rattle.std.proofs.lemmas.Bool.{and_parts, leb-true, ltb-true, or_cases}
use Rattle.std.proofs.lemmas.List.Elements.{All-contains}
use Rattle.std.proofs.lemmas.List.Sums.{AllPass-from_list_all}
use Rattle.strip_mask.specs.Set.{full, has, meet, members, minus, numbers_below, sum_over, union, with, without}
use Rattle.strip_mask.proofs.Below.{lies_by_minus}
use Rattle.strip_mask.proofs.Members.{Contains-members}
use Rattle.strip_model.specs.declared.kind.Kind.TheVariants.{Pairs, Plain}
use Rattle.strip_film.specs.declared.shared.Line.{Line}
use Rattle.strip_film.specs.Film.{LiesIn}
use Rattle.strip_film.specs.Rules.{Rules}
use Rattle.strip_film.specs.Shoot.{step_cost}
use Rattle.strip_lines.specs.Lines.{AreJustified, IsJustified, known, rules_of}
use Rattle.test_search.specs.Worked.{ring, ring_lines, triangle, triangle_lines}

-- each first step and what is known of the rest reach the bound
abbrev reaches : Rules → List Line → Line → ℕ → Bool
reaches rules lines line scene = leb line.bound (step_cost rules.film line.set scene + known rules lines (without line.set scene))

abbrev passes : Rules → List Line → Line → Bool
passes rules lines line =
    (minus line.set (full (length rules.film.casts)) == 0)
    && (leb line.bound (rules.bound line.set)
    || (nat_lt 0 line.set && (nat_lt (rules.firsts line.set) (2 ^ 64) && list_all (reaches rules lines line) (members (rules.firsts line.set)))))

module _ (rules : Rules) (lines : List Line) where
  justified_by : (line : Line) → passes rules lines line ≡ true → LiesIn rules.film line.set × IsJustified rules lines line
  justified_by line pass =
      let parts = and_parts (minus line.set (full (length rules.film.casts)) == 0) _ pass in (
        (lies_by_minus (length rules.film.casts) line.set).0 (eqb-true _ _ parts.0),
        elim (or_cases (leb line.bound (rules.bound line.set)) _ parts.1) [
          | inl static ↦ inl (leb-true line.bound (rules.bound line.set) static)
          | inr steps ↦ inr (by_steps steps)
        ],
      )
    where
      by_steps : (nat_lt 0 line.set && (nat_lt (rules.firsts line.set) (2 ^ 64) && list_all (reaches rules lines line) (members (rules.firsts line.set)))) ≡ true
          → (line.set ≢ 0) × ((scene : ℕ) → has (rules.firsts line.set) scene ≡ true
          → line.bound ≤ step_cost rules.film line.set scene + known rules lines (without line.set scene))
      by_steps steps =
          let first = and_parts (nat_lt 0 line.set) _ steps in
          let second = and_parts (nat_lt (rules.firsts line.set) (2 ^ 64)) _ first.1 in
          let all = AllPass-from_list_all (reaches rules lines line) (members (rules.firsts line.set)) second.1 in (
            (let some : 0 < line.set = ltb-true 0 line.set first.0 in λ none. omega (arith, some, none)),
            λ scene there. leb-true line.bound (step_cost rules.film line.set scene + known rules lines (without line.set scene))
                (All-contains (λ s. reaches rules lines line s ≡ true) (members (rules.firsts line.set)) scene all
                (Contains-members (rules.firsts line.set) scene (ltb-true (rules.firsts line.set) (2 ^ 64) second.0) there)),
          )

  all_justified : list_all (passes rules lines) lines ≡ true → AreJustified rules lines
  all_justified pass place default lt = justified_by (get_or lines place default) (AllPass-from_list_all (passes rules lines) lines pass place default lt)

pub triangle_justified : AreJustified (rules_of Pairs triangle) triangle_lines
unfolding has union meet minus with without full members numbers_below sum_over
triangle_justified = all_justified (rules_of Pairs triangle) triangle_lines refl

pub ring_justified : AreJustified (rules_of Plain ring) ring_lines
unfolding has union meet minus with without full members numbers_below sum_over
ring_justified = all_justified (rules_of Plain ring) ring_lines refl
