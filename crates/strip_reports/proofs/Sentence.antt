-- The sentence on an order, made of pieces.
use Rattle.std.proofs.Common.{◌≡◌, ℕ, List, [], ◌∷◌, ◌++◌, append_assoc, append-nil, codes, ap}
use Rattle.std.specs.List.{flat_map}

abbrev pub sentence : List ℕ → List ℕ → List ℕ → List ℕ → List ℕ → List ℕ → List ℕ
sentence cost scenes days actors bound status =
    codes "<p>This order costs " ++ cost ++ codes " (scenes: " ++ scenes ++ codes ", days: " ++ days ++ codes ", actors: " ++ actors
    ++ codes "); its plan claims the bound " ++ bound ++ codes " and the status " ++ status
    ++ codes ", which stripcheck checks and this page does not.</p>\n"

regroup : (a b c d e f g h i j k l m : List ℕ)
    → flat_map (λ piece. piece) (a ∷ b ∷ c ∷ d ∷ e ∷ f ∷ g ∷ h ∷ i ∷ j ∷ k ∷ l ∷ m ∷ []) ≡ a ++ b ++ c ++ d ++ e ++ f ++ g ++ h ++ i ++ j ++ k ++ l ++ m
regroup a b c d e f g h i j k l m = simp (append_assoc, append-nil)

pub sentence_made : (page cost scenes days actors bound status : List ℕ)
    → page ++ flat_map (λ piece. piece) (codes "<p>This order costs " ∷ cost ∷ codes " (scenes: " ∷ scenes ∷ codes ", days: " ∷ days
    ∷ codes ", actors: " ∷ actors ∷ codes "); its plan claims the bound " ∷ bound ∷ codes " and the status " ∷ status
    ∷ codes ", which stripcheck checks and this page does not.</p>\n" ∷ [])
    ≡ page ++ sentence cost scenes days actors bound status
sentence_made page cost scenes days actors bound status =
    ap (λ (list : List ℕ). page ++ list) (regroup (codes "<p>This order costs ") cost (codes " (scenes: ") scenes (codes ", days: ") days
    (codes ", actors: ") actors (codes "); its plan claims the bound ") bound (codes " and the status ") status
    (codes ", which stripcheck checks and this page does not.</p>\n"))
