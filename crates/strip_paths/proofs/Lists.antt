-- Lists that are joined end to end, and folds over them.
use Rattle.std.proofs.Common.{◌≡◌, List, [], ◌∷◌, All, Contains, inl, inr, sym, ◌∙◌, refl, subst, fold, map}
use Rattle.std.specs.List.{flat_map}
use Rattle.std.proofs.lemmas.List.Elements.{All-nil, All-append, All-head, All-tail, Contains-append_left, Contains-append_right}
use Rattle.std.proofs.lemmas.List.Sums.{fold-append}
use Rattle.strip_model.proofs.Lists.{contains_cases, contains_here, contains_later, contains_none}

pub fold_flat_map : {A B C : Type 0} (f : B → A → B) (g : C → List A) (b : B) (xs : List C) → fold f b (flat_map g xs) ≡ fold (λ c x. fold f c (g x)) b xs
fold_flat_map f g b [] = refl
fold_flat_map f g b (x ∷ xs) = fold-append f b (g x) (flat_map g xs) ∙ fold_flat_map f g (fold f b (g x)) xs

pub All-flat_map : {A C : Type 0} (P : A → Type 0) (g : C → List A) (xs : List C) → All (λ x. All P (g x)) xs → All P (flat_map g xs)
All-flat_map P g [] all = All-nil P
All-flat_map P g (x ∷ xs) all =
    All-append P (g x) (flat_map g xs) (All-head (λ y. All P (g y)) x xs all) (All-flat_map P g xs (All-tail (λ y. All P (g y)) x xs all))

pub Contains-flat_map : {A C : Type 0} (g : C → List A) (xs : List C) (x : C) (y : A) → Contains xs x → Contains (g x) y → Contains (flat_map g xs) y
Contains-flat_map g [] x y there among = absurd (contains_none x there)
Contains-flat_map g (z ∷ zs) x y there among = elim (contains_cases z zs x there) [
  | inl same ↦ Contains-append_left (g z) (flat_map g zs) y (subst (λ w. Contains (g w) y) (sym same) among)
  | inr later ↦ Contains-append_right (g z) (flat_map g zs) y (Contains-flat_map g zs x y later among)
]

pub Contains-map : {A C : Type 0} (g : C → A) (xs : List C) (x : C) → Contains xs x → Contains (map g xs) (g x)
Contains-map g [] x there = absurd (contains_none x there)
Contains-map g (z ∷ zs) x there = elim (contains_cases z zs x there) [
  | inl same ↦ subst (λ w. Contains (map g (z ∷ zs)) (g w)) same (contains_here (g z) (map g zs))
  | inr later ↦ contains_later (g z) (map g zs) (g x) (Contains-map g zs x later)
]
