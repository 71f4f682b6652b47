use Rattle.std.proofs.Common.{ap, sym, ◌∙◌, not, inl, inr}
use Rattle.std.proofs.lemmas.Bool.{cases_Bool}
use Rattle.strip_model.proofs.Fits.{never_both, fit-push, last_known, last_once, last_not_back}
use Rattle.strip_model.proofs.fitting.fits_behind.Goals as goal
use Rattle.strip_model.proofs.fitting.fits_behind.Goals.{then-is_known, else-is_known}

pub returns-then-not-stands-clause-fits : goal.returns-then-not-stands-clause-fits
returns-then-not-stands-clause-fits c = λ pairs knows fit. elim c.if-is_known.branch [
  | then-is_known w ↦ (
    λ yes. fit-push c.args.scenes pairs c.args.pair.now fit (c.is_known.ensures.0 w.if-is_known.true)
        (λ there. never_both (not w.stands.result) (sym w.value-is ∙ c.if-not-stands.true) (ap not ((w.stands.ensures pairs knows).1 there)))
        (λ back. never_both (not c.leads.result) yes (ap not ((c.leads.ensures pairs knows).1 back))),
    λ fits. elim (cases_Bool c.leads.result) [
      | inl leads ↦ absurd (last_not_back c.args.scenes pairs c.args.pair.now fits ((c.leads.ensures pairs knows).0 leads))
      | inr free ↦ ap not free
    ],
  )
  | else-is_known w ↦ absurd (never_both c.if-is_known.value c.if-not-stands.true (w.value-is ∙ w.if-is_known.false))
]

pub returns-else-not-stands-clause-fits : goal.returns-else-not-stands-clause-fits
returns-else-not-stands-clause-fits c = λ pairs knows fit. (
  λ yes. absurd (never_both c.if-is_known.value yes c.if-not-stands.false),
  λ fits. elim c.if-is_known.branch [
    | then-is_known w ↦ elim (cases_Bool w.stands.result) [
      | inl stands ↦ absurd (last_once c.args.scenes pairs c.args.pair.now fits ((w.stands.ensures pairs knows).0 stands))
      | inr new ↦ w.value-is ∙ ap not new
    ]
    | else-is_known w ↦ absurd (never_both c.is_known.result (c.is_known.ensures.1 (last_known c.args.scenes pairs c.args.pair.now fits)) w.if-is_known.false)
  ],
)
