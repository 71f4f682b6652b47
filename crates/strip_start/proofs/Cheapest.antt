-- The cheapest of a list of paths, path by path.
use Rattle.std.proofs.Common.{◌≡◌, ◌≤◌, List, [], ◌∷◌, ◌++◌, ◌⊎◌, inl, inr, sym, subst, arith, Contains}
use Rattle.std.proofs.lemmas.List.Elements.{All-push, All-weaker, Contains-append_left, Contains-push}
use Rattle.strip_film.specs.Shown.{path_data}
use Rattle.strip_film.specs.declared.path.Path.{Path}
use Rattle.strip_start.specs.Runs.{IsCheapest}

-- the cheaper of a cheapest path and one more is a cheapest of all
pub cheapest_next : (known : List Path) (found best next : Path) → IsCheapest known best
    → (next ≡ found) ⊎ (next ≡ best) → (path_data next).paid ≤ (path_data found).paid → (path_data next).paid ≤ (path_data best).paid
    → IsCheapest (known ++ found ∷ []) next
cheapest_next known found best next is either one other = record {
  one = elim either [
    | inl same ↦ subst (Contains (known ++ found ∷ [])) (sym same) (Contains-push known found)
    | inr same ↦ subst (Contains (known ++ found ∷ [])) (sym same) (Contains-append_left known (found ∷ []) best is.one)
  ];
  least = All-push (λ (path : Path). (path_data next).paid ≤ (path_data path).paid) known found
      (All-weaker (λ (path : Path). (path_data best).paid ≤ (path_data path).paid) (λ (path : Path). (path_data next).paid ≤ (path_data path).paid)
      (λ path less. omega (arith, less, other)) known is.least) one;
}
