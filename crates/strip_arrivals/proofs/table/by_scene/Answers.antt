use Rattle.std.proofs.Common.{◌≡◌, ℕ, ◌<◌, length, slice_index, slice_set, sym, ◌∙◌, subst, inl, inr, arith, length-set, get_or-set_other, get_or-set_same}
use Rattle.std.proofs.lemmas.Bool.{cases_eq, cases_lt}
use Rattle.std.proofs.lemmas.List.{get_or_past, length-replicate}
use Rattle.strip_mask.proofs.Lists.{zeros}
use Rattle.strip_arrivals.proofs.table.by_scene.Goals as goal

pub loop-scene-init : goal.loop-scene-init
loop-scene-init c = record {
  long = length-replicate {A = ℕ} 64 0;
  so_far = λ scene lt. absurd (omega (arith, lt));
  later = λ scene le. zeros 64 scene;
}

pub loop-scene-preserved : goal.loop-scene-preserved
loop-scene-preserved c =
    let here : ℕ = c.loop-scene.scene in
    let within : here < length c.loop-scene.numbers = omega (arith, c.loop-scene.invariant.long, c.loop-scene-test.true, c.requires) in
    let day : ℕ = slice_index c.args.days.now here in
    record {
      long = length-set c.loop-scene.numbers here day ∙ c.loop-scene.invariant.long;
      so_far = λ scene lt. elim (cases_eq scene here) [
        | inl is ↦ subst (λ (n : ℕ). slice_index (slice_set c.loop-scene.numbers here day) n ≡ slice_index c.args.days.now n) (sym is) (get_or-set_same c.loop-scene.numbers here day 0 within)
        | inr other ↦ get_or-set_other c.loop-scene.numbers here scene day 0 other ∙ c.loop-scene.invariant.so_far scene (omega (arith, lt, other))
      ];
      later = λ scene le. get_or-set_other c.loop-scene.numbers here scene day 0 (λ same. omega (arith, same, le)) ∙ c.loop-scene.invariant.later scene (omega (arith, le));
    }

pub returns-clause-days : goal.returns-clause-days
returns-clause-days c = λ scene. elim (cases_lt scene c.loop-scene.scene) [
  | inl lt ↦ c.loop-scene.invariant.so_far scene lt
  | inr past ↦ c.loop-scene.invariant.later scene past ∙ sym (get_or_past c.args.days.now scene 0 (omega (arith, past, c.loop-scene-test.false)))
]
