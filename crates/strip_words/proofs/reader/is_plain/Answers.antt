use Rattle.std.proofs.Common.{rules, ◌≡◌, ◌↔◌, Bool, true, false, not, [], ◌∷◌, length, get_or, IsTrue, true≢false, sym, subst}
use Rattle.std.proofs.lemmas.List.{nil_from_length}
use Rattle.std.specs.Bool.{◌==◌, Decides}
use Rattle.std.proofs.lemmas.Bool.Decides.{Decides-eqb, Decides-not}
use Rattle.std.proofs.lemmas.Str.Pattern.{starts_char}
use Rattle.strip_words.specs.Words.{Word, IsPlain}
use Rattle.strip_words.proofs.reader.is_plain.Goals as goal

plain_by : (word : Word) (starts : Bool) → false ≡ (length word == 0) → Decides starts (get_or word 0 0 ≡ 45)
    → IsTrue (not starts) ↔ IsPlain word
plain_by [] starts none _ = absurd (true≢false (sym none))
plain_by (first ∷ rest) starts _ decides = Decides-not starts decides

empty_not_plain : (word : Word) (empty : Bool) → true ≡ (length word == 0) → empty ≡ true → IsTrue (not empty) ↔ IsPlain word
empty_not_plain word empty none is =
    let nil = nil_from_length word ((Decides-eqb (length word) 0).0 (sym none)) in
    (λ plain. absurd (true≢false (sym (subst (λ b. not b ≡ true) is plain))), λ plain. absurd (subst IsPlain nil plain))

pub returns-then-not-is_empty : goal.returns-then-not-is_empty
returns-then-not-is_empty c = plain_by c.args.word.now c.starts_with.result c.if-not-is_empty.ensures
    (starts_char 45 c.args.word.now c.starts_with.result c.starts_with.ensures.cases (search rules) (search rules))

pub returns-else-not-is_empty : goal.returns-else-not-is_empty
returns-else-not-is_empty c = empty_not_plain c.args.word.now c.is_empty.result c.if-not-is_empty.ensures c.if-not-is_empty.false
