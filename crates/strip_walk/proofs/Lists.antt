-- Lists of scenes that begin alike, and which of them comes first.
use Rattle.std.proofs.Common.{◌≡◌, ℕ, true, List, [], ◌∷◌, ◌++◌, length, drop, refl, sym, ap, ◌∙◌, subst, append_assoc}
use Rattle.std.specs.Prelude.{nat_eq}
use Rattle.std.specs.List.{starts_with}
use Rattle.std.proofs.lemmas.Bool.Decides.{Decides-eqb}
use Rattle.std.proofs.lemmas.List.{append-nil}
use Rattle.std.proofs.lemmas.Slice.Eq.{starts_is}
use Rattle.strip_film.specs.Finish.{rest_after}
use Rattle.strip_film.specs.Ranks.{IsEarlier, IsSooner}
use Rattle.strip_film.specs.Rules.{Rules, rank}
use Rattle.strip_film.proofs.Ranks.{earlier_parted, longer_not_earlier}

-- what follows in a list that begins with another
pub starts_from : (xs ys : List ℕ) → starts_with nat_eq xs ys ≡ true → xs ≡ ys ++ drop (length ys) xs
starts_from xs ys is = (starts_is Decides-eqb xs ys true (sym is)).0 refl

pub starts_of : (xs ys rest : List ℕ) → xs ≡ ys ++ rest → starts_with nat_eq xs ys ≡ true
starts_of xs ys rest is = (starts_is Decides-eqb xs ys (starts_with nat_eq xs ys) refl).1 rest is

pub starts_itself : (xs : List ℕ) → starts_with nat_eq xs xs ≡ true
starts_itself xs = starts_of xs xs [] (sym (append-nil xs))

-- a list that goes on begins as it did
pub starts_longer : (xs ys zs : List ℕ) → starts_with nat_eq xs ys ≡ true → starts_with nat_eq (xs ++ zs) ys ≡ true
starts_longer xs ys zs is =
    starts_of (xs ++ zs) ys (drop (length ys) xs ++ zs) (ap (λ (l : List ℕ). l ++ zs) (starts_from xs ys is) ∙ append_assoc ys (drop (length ys) xs) zs)

-- a list begins with a part of what it begins with
pub starts_shorter : (xs ys zs : List ℕ) → starts_with nat_eq xs (ys ++ zs) ≡ true → starts_with nat_eq xs ys ≡ true
starts_shorter xs ys zs is =
    starts_of xs ys (zs ++ drop (length (ys ++ zs)) xs) (starts_from xs (ys ++ zs) is ∙ append_assoc ys zs (drop (length (ys ++ zs)) xs))

-- ---- by ranks

module _ (rules : Rules) (set : ℕ) where
  -- what begins with a list doesn't come before it
  pub begun_not_earlier : (xs ys : List ℕ) → starts_with nat_eq xs ys ≡ true → IsEarlier rules set xs ys → ⊥
  begun_not_earlier xs ys is earlier =
      longer_not_earlier rules set ys (drop (length ys) xs) (subst (λ (l : List ℕ). IsEarlier rules set l ys) (starts_from xs ys is) earlier)

  -- what goes on with a scene comes before what goes on with one that goes later
  pub begun_earlier : (xs ys : List ℕ) (s t : ℕ) → starts_with nat_eq xs (ys ++ s ∷ []) ≡ true → IsSooner (rank rules (rest_after set ys)) s t
      → IsEarlier rules set xs (ys ++ t ∷ [])
  begun_earlier xs ys s t is sooner =
      let rest : List ℕ = drop (length (ys ++ s ∷ [])) xs in
      subst (λ (l : List ℕ). IsEarlier rules set l (ys ++ t ∷ [])) (sym (starts_from xs (ys ++ s ∷ []) is ∙ append_assoc ys (s ∷ []) rest))
      (earlier_parted rules set ys s rest t [] sooner)
