-- The cast that marks spell.
use Rattle.std.proofs.Common.{◌≡◌, ℕ, zero, suc, ◌+◌, ◌*◌, ◌/◌, ◌%◌, Bool, true, false, cond, eqb, List, [], ◌∷◌, get_or, refl, sym, ap, ◌∙◌, arith}
use Rattle.std.proofs.lemmas.Nat.Bits.{bit_at-suc, bit_at_lowest}
use Rattle.std.specs.Int.{bit_at}
use Rattle.strip_mask.specs.Set.{has}
use Rattle.strip_mask.proofs.Bits.{has_is}
use Rattle.strip_mask.proofs.ByMembers.{has-empty}
use Rattle.strip_text.specs.Field.{Field}
use Rattle.strip_instance.specs.Field.{is_work_mark}
use Rattle.strip_instance.specs.Text.{cast_of_marks}

-- the lowest bit tells whether number 0 is in the set
lowest : (b : Bool) (n : ℕ) → (cond b 1 0 + 2 * n) % 2 ≡ cond b 1 0
lowest true n = omega arith
lowest false n = omega arith

bit-is : (b : Bool) → eqb (cond b 1 0) 1 ≡ b
bit-is true = refl
bit-is false = refl

has-lowest : (b : Bool) (n : ℕ) → has (cond b 1 0 + 2 * n) 0 ≡ b
has-lowest b n = has_is (cond b 1 0 + 2 * n) 0 ∙ ap (λ bit. eqb bit 1) (bit_at_lowest (cond b 1 0 + 2 * n) ∙ lowest b n) ∙ bit-is b

-- the other bits stand one place higher
halved : (b : Bool) (n : ℕ) → (cond b 1 0 + 2 * n) / 2 ≡ n
halved true n = omega arith
halved false n = omega arith

has-higher : (b : Bool) (n i : ℕ) → has (cond b 1 0 + 2 * n) (suc i) ≡ has n i
has-higher b n i =
    has_is (cond b 1 0 + 2 * n) (suc i)
    ∙ ap (λ bit. eqb bit 1) (bit_at-suc (cond b 1 0 + 2 * n) i ∙ ap (λ half. bit_at half i) (halved b n)) ∙ sym (has_is n i)

-- the set of marks has an actor whose mark says that he works
pub has-cast_of_marks : (marks : List Field) (actor : ℕ) → has (cast_of_marks marks) actor ≡ is_work_mark (get_or marks actor [])
has-cast_of_marks [] actor = has-empty actor
has-cast_of_marks (mark ∷ marks) zero = has-lowest (is_work_mark mark) (cast_of_marks marks)
has-cast_of_marks (mark ∷ marks) (suc actor) =
    has-higher (is_work_mark mark) (cast_of_marks marks) actor ∙ has-cast_of_marks marks actor
