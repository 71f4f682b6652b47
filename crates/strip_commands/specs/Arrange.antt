-- The command `arrange`: the film's text with its scenes in a plan's order.
use Rattle.std.specs.Prelude.{◌≡◌, ◌⊎◌, ℕ, List, length, Ok}
use Rattle.strip_model.specs.Order.{IsOrder}
use Rattle.strip_model.specs.Pay.{pay_of}
use Rattle.strip_model.specs.Data.{InstanceData}
use Rattle.strip_model.specs.FilmOf.{film_of}
use Rattle.strip_instance.specs.Text.{says}
use Rattle.strip_instance.specs.Arranged.{arranged}
use Rattle.strip_instance.specs.Canonical.{canonical_text}
use Rattle.strip_solve.specs.Own.{own_order}
use Rattle.strip_words.specs.Plans.{PlanFilesData}
use Rattle.strip_answer.specs.declared.status.Status.{Status}
use Rattle.strip_answer.specs.declared.status.Status.TheVariants.{Done}
use Rattle.strip_io.specs.Files.{FilesData}
use Rattle.strip_answer.specs.Both.{IsBothDue}
use Rattle.strip_commands.specs.Ordered.{IsNoOrder}

-- the text is printed that says the instance with its scenes in this order, whose rows pay what the order pays; the
-- order may break pairs
pub record IsArrangedText (inst : InstanceData) (order : List ℕ) (status : Status) (printed : List ℕ) : Type 0 where
  pub is_order : IsOrder (length inst.scenes) order
  pub done : status ≡ Done
  pub text : printed ≡ canonical_text (arranged inst order)
  pub same : says printed ≡ Ok (arranged inst order)
  pub pay : pay_of (film_of (arranged inst order)) (own_order (film_of (arranged inst order))) ≡ pay_of (film_of inst) order

abbrev pub IsArranged : InstanceData → List ℕ → Status → List ℕ → Type 0
IsArranged inst order status printed = IsArrangedText inst order status printed ⊎ IsNoOrder inst order status printed

-- what is due for the two files: of the plan the order alone is looked at
abbrev pub IsArrangeDue : PlanFilesData → FilesData → FilesData → Status → List ℕ → Type 0
IsArrangeDue files before after status printed =
    IsBothDue (λ inst plan. IsArranged inst plan.order) files.film files.plan before after status printed
