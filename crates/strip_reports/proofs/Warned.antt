-- Warnings that are appended, one after the other.
use Rattle.std.proofs.Common.{◌≡◌, ℕ, ◌+◌, ◌<◌, Bool, true, false, cond, List, [], ◌∷◌, ◌++◌, append-nil, filter, length, get_or, take, sym, ap, ◌∙◌}
use Rattle.std.specs.List.{flat_map}
use Rattle.std.proofs.lemmas.List.{flat_map_more}
use Rattle.std.proofs.lemmas.List.Elements.{filter_more}

module _ {X : Type 0} (text : X → List ℕ) (test : X → Bool) (front : List ℕ) (xs : List X) (i : ℕ) (d : X) (within : i < length xs) where
  abbrev so_far : List ℕ
  so_far = front ++ flat_map text (filter test (take i xs))

  abbrev with_next : Bool → List ℕ
  with_next passes = front ++ flat_map text (filter test (take i xs) ++ cond passes (get_or xs i d ∷ []) [])

  next : (passes : Bool) → test (get_or xs i d) ≡ passes → with_next passes ≡ front ++ flat_map text (filter test (take (i + 1) xs))
  next passes is =
      ap with_next (sym is) ∙ ap (λ (list : List X). front ++ flat_map text list) (sym (filter_more test xs i d within))

  -- one that passes the test has its text appended
  pub with_text : (before after : List ℕ) → before ≡ so_far → after ≡ before ++ text (get_or xs i d) → test (get_or xs i d) ≡ true
      → after ≡ front ++ flat_map text (filter test (take (i + 1) xs))
  with_text before after is written passes =
      written ∙ ap (λ (list : List ℕ). list ++ text (get_or xs i d)) is
      ∙ flat_map_more text front (filter test (take i xs)) (get_or xs i d) ∙ next true passes

  -- and another has not
  pub without_text : (before after : List ℕ) → before ≡ so_far → after ≡ before → test (get_or xs i d) ≡ false
      → after ≡ front ++ flat_map text (filter test (take (i + 1) xs))
  without_text before after is same fails =
      same ∙ is ∙ ap (λ (list : List X). front ++ flat_map text list) (sym (append-nil (filter test (take i xs)))) ∙ next false fails
