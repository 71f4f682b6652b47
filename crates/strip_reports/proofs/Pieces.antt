-- Texts made of pieces, one after the other.
use Rattle.std.proofs.Common.{◌≡◌, ℕ, ◌+◌, ◌<◌, List, [], ◌∷◌, ◌++◌, append_assoc, length, get_or, map, take, sym, ap, ◌∙◌, arith}
use Rattle.std.specs.List.{flat_map, range_with_len}
use Rattle.std.proofs.lemmas.List.{flat_map_more, map-append, take_more}
use Rattle.std.proofs.lemmas.List.FromFn.{map-range_with_len_more}

-- the piece of one more element, as contracts see it
pub piece_next : {X Y : Type 0} (f : Y → List ℕ) (g : X → Y) (front : List ℕ) (xs : List X) (i : ℕ) (d : X) → i < length xs
    → (front ++ flat_map f (map g (take i xs))) ++ f (g (get_or xs i d)) ≡ front ++ flat_map f (map g (take (i + 1) xs))
piece_next f g front xs i d lt =
    flat_map_more f front (map g (take i xs)) (g (get_or xs i d))
    ∙ ap (λ ys. front ++ flat_map f ys) (sym (map-append g (take i xs) (get_or xs i d ∷ [])) ∙ ap (map g) (sym (take_more xs i d lt)))

-- the piece of one more place
pub place_next : {X : Type 0} (f : X → List ℕ) (g : ℕ → X) (front : List ℕ) (n : ℕ)
    → (front ++ flat_map f (map g (range_with_len 0 n))) ++ f (g n) ≡ front ++ flat_map f (map g (range_with_len 0 (n + 1)))
place_next f g front n =
    flat_map_more f front (map g (range_with_len 0 n)) (g n)
    ∙ ap (λ ys. front ++ flat_map f ys) (sym (map-range_with_len_more g 0 n n (omega arith)))

-- five pieces and three that were written one after the other
pub five_made : (text a b c d e : List ℕ) → ((((text ++ a) ++ b) ++ c) ++ d) ++ e ≡ text ++ (a ++ b ++ c ++ d ++ e)
five_made text a b c d e = simp append_assoc

pub three_made : (text a b c : List ℕ) → ((text ++ a) ++ b) ++ c ≡ text ++ (a ++ b ++ c)
three_made text a b c = simp append_assoc
