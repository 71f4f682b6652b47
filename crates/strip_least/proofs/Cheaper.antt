-- The cheaper of two paths.
use Rattle.std.proofs.Common.{◌≡◌, ltb, min, inl, inr, sym, ap, ◌∙◌, subst, arith}
use Rattle.std.proofs.lemmas.Bool.{cases_lt, cond-true, cond-false, lt-ltb, le-ltb}
use Rattle.strip_film.specs.Path.{PathData}
use Rattle.strip_least.specs.Pass.{cheaper}

pub cheaper_is : (P : PathData → Type 0) (path other : PathData) → P path → P other → P (cheaper path other)
cheaper_is P path other first second = elim (cases_lt other.paid path.paid) [
  | inl less ↦ subst P (sym (cond-true (ltb other.paid path.paid) other path (lt-ltb other.paid path.paid less))) second
  | inr no_less ↦ subst P (sym (cond-false (ltb other.paid path.paid) other path (le-ltb other.paid path.paid no_less))) first
]

pub cheaper_pays : (path other : PathData) → (cheaper path other).paid ≡ min path.paid other.paid
cheaper_pays path other = elim (cases_lt other.paid path.paid) [
  | inl less ↦ ap (λ (p : PathData). p.paid) (cond-true (ltb other.paid path.paid) other path (lt-ltb other.paid path.paid less)) ∙ omega (arith, less)
  | inr no_less ↦ ap (λ (p : PathData). p.paid) (cond-false (ltb other.paid path.paid) other path (le-ltb other.paid path.paid no_less)) ∙ omega (arith, no_less)
]
