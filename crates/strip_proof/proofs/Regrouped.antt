-- A text that was written row by row.
use Rattle.std.proofs.Common.{◌≡◌, ℕ, List, [], ◌++◌, append_assoc, sym, ap, ◌∙◌}
use Rattle.std.proofs.lemmas.List.{append-nil}

eight : (a b c d e f g h : List ℕ) → (((((((([] ++ a) ++ b) ++ c) ++ d) ++ e) ++ f) ++ g) ++ h) ≡ a ++ (b ++ (c ++ (d ++ (e ++ (f ++ (g ++ h))))))
eight a b c d e f g h = simp append_assoc

-- eight rows, one after the other, are their text
pub eight_rows : (t0 t1 t2 t3 t4 t5 t6 t7 t8 a b c d e f g h : List ℕ) → t0 ≡ [] → t1 ≡ t0 ++ a → t2 ≡ t1 ++ b → t3 ≡ t2 ++ c → t4 ≡ t3 ++ d
    → t5 ≡ t4 ++ e → t6 ≡ t5 ++ f → t7 ≡ t6 ++ g → t8 ≡ t7 ++ h → t8 ≡ a ++ (b ++ (c ++ (d ++ (e ++ (f ++ (g ++ (h ++ [])))))))
eight_rows t0 t1 t2 t3 t4 t5 t6 t7 t8 a b c d e f g h none one two three four five six seven last =
    rw (last, seven, six, five, four, three, two, one, none) (eight a b c d e f g h)
    ∙ ap (λ (rest : List ℕ). a ++ (b ++ (c ++ (d ++ (e ++ (f ++ (g ++ rest))))))) (sym (append-nil h))
