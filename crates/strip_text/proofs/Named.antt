-- An element of a list, as the code has it and as contracts see it.
use Rattle.std.proofs.Common.{◌≡◌, ℕ, ◌<◌, List, length, get_or, map, sym, ap, ◌∙◌, arith}
use Rattle.std.proofs.lemmas.List.{get_or-map, length-map}

-- a value of it
pub value_at : {X Y Z : Type 0} (f : X → Y) (value : Y → Z) (xs : List X) (ys : List Y) (i : ℕ) (d : X) (e : Z) → map f xs ≡ ys → i < length ys
    → get_or (map value ys) i e ≡ value (f (get_or xs i d))
value_at f value xs ys i d e same lt =
    let short : i < length xs = omega (arith, ap length same, length-map xs f) in
    let outer : get_or (map value ys) i e ≡ value (get_or ys i (f d)) = get_or-map value ys i (f d) e lt in
    let seen : get_or ys i (f d) ≡ get_or (map f xs) i (f d) = ap (λ zs. get_or zs i (f d)) (sym same) in
    outer ∙ ap value (seen ∙ get_or-map f xs i d (f d) short)

-- the element itself
pub seen_at : {X Y : Type 0} (f : X → Y) (xs : List X) (ys : List Y) (i : ℕ) (d : X) → map f xs ≡ ys → i < length ys
    → get_or ys i (f d) ≡ f (get_or xs i d)
seen_at f xs ys i d same lt =
    let short : i < length xs = omega (arith, ap length same, length-map xs f) in
    ap (λ zs. get_or zs i (f d)) (sym same) ∙ get_or-map f xs i d (f d) short
