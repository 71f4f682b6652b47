-- The plan of the order of the rows: a checker accepts it, and a text says it.
use Rattle.std.proofs.Common.{◌≡◌, ◌↔◌, ◌==◌, ◌∙◌, ℕ, Bool, true, false, if◌then◌else◌, [], length, refl, sym, ap, inl, inr, arith}
use Rattle.std.proofs.lemmas.Bool.{cases_eq}
use Rattle.std.proofs.lemmas.Bool.Decides.{nat_tests}
use Rattle.std.proofs.lemmas.List.Elements.{All-nil}
use Rattle.strip_model.specs.declared.kind.Kind.TheVariants.{Pairs}
use Rattle.strip_model.specs.Film.{FilmData}
use Rattle.strip_model.specs.Order.{IsKeptOrder, IsOrder}
use Rattle.strip_model.specs.Pay.{pay_of}
use Rattle.strip_proof.specs.declared.plan.Status.{Status}
use Rattle.strip_proof.specs.declared.plan.Status.TheVariants.{Optimal, Bounded}
use Rattle.strip_film.specs.Film.{LiesIn}
use Rattle.strip_lines.specs.Lines.{IsJustified}
use Rattle.strip_model.specs.Data.{InstanceData, IsInstance}
use Rattle.strip_model.specs.FilmOf.{film_of}
use Rattle.strip_model.proofs.Small.{pay_small_of}
use Rattle.strip_reduce.specs.Reduction.{reduced}
use Rattle.strip_proof.specs.Text.{IsReadableLine, IsReadablePlan}
use Rattle.strip_check.specs.Accepted.{IsAccepted, IsTruePlan, class_rules}
use Rattle.strip_solve.proofs.Readable.{no_order}
use Rattle.strip_solve.proofs.Rows.{rows_order}
use Rattle.strip_solve.specs.Own.{own_order}
use Rattle.strip_solve.specs.Priced.{priced_plan, priced_status, whole_bound}

abbrev status_by : Bool → Status
status_by same = if same then Optimal else Bounded

status_tells : (least cost : ℕ) → (priced_status least cost ≡ Optimal) ↔ (least ≡ cost)
status_tells least cost = elim (cases_eq least cost) [
  | inl same ↦ (let equal : (least == cost) ≡ true = grind (arith, nat_tests) in ((λ is. same), (λ is. ap status_by equal)))
  | inr other ↦ (let differ : (least == cost) ≡ false = grind (arith, nat_tests) in
      ((λ is. absurd (let e : Bounded ≡ Optimal = sym (ap status_by differ) ∙ is in cc)), (λ same. absurd (other same))))
]

-- a checker accepts it if the order keeps the pairs
pub priced_accepted : (film : FilmData) → IsKeptOrder film (own_order film) → IsAccepted film (priced_plan film)
priced_accepted film kept = record {
  order = kept;
  cost = refl;
  justified = All-nil (λ line. LiesIn (reduced film).film line.set × IsJustified (class_rules Pairs film) [] line);
  reaches = omega arith;
  status = status_tells (whole_bound film) (pay_of film (own_order film));
}

-- a text says it, if what it says is true
pub priced_readable : (inst : InstanceData) → IsInstance inst → IsTruePlan (film_of inst) (priced_plan (film_of inst))
    → IsReadablePlan inst (priced_plan (film_of inst))
priced_readable inst is holds =
    let order : IsOrder (length inst.scenes) (own_order (film_of inst)) = rows_order inst (own_order (film_of inst)) refl in
    let cost = pay_small_of inst (own_order (film_of inst)) is order in
    record {
      scenes = order.known;
      some = no_order (length inst.scenes) (own_order (film_of inst)) is.scene_count.0 order;
      cost = cost;
      bound = omega (arith, cost, holds.no_more);
      held = omega arith;
      few = omega arith;
      lines = All-nil IsReadableLine;
    }
