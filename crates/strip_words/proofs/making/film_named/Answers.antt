use Rattle.std.proofs.Common.{◌≡◌, ℕ, Option, None, Some, IfNone, IfSome, List, [], ◌∷◌, length, get_or, Bor, sym, ap, ◌∙◌, subst, refl, arith}
use Rattle.std.proofs.Math.ListN.{get_or-map}
use Rattle.strip_words.specs.Words.{Word}
use Rattle.strip_words.specs.Options.{IsNumber}
use Rattle.strip_words.specs.Shown.{strs}
use Rattle.strip_words.proofs.Results.{if_err}
use Rattle.strip_words.proofs.making.film_named.Goals as goal

three_strs : (words : List (Bor (List ℕ))) (default : Bor (List ℕ)) → length words ≡ 3
    → strs words ≡ (get_or words 0 default).now ∷ (get_or words 1 default).now ∷ (get_or words 2 default).now ∷ []
three_strs (a ∷ b ∷ c ∷ []) default three = refl
three_strs words default three = absurd (omega (arith, three))

-- the word at a place among the three
at_place : (operands : List (Bor (List ℕ))) (default : Bor (List ℕ)) (k : ℕ) (words : List Word) → strs operands ≡ words
    → get_or words k default.now ≡ (get_or operands k default).now
at_place operands default k words are = ap (λ (ws : List Word). get_or ws k default.now) (sym are) ∙ get_or-map (λ word. word.now) operands k default

unfit : (found : Option ℕ) (least most : ℕ) (read word : Word) → found ≡ None → IfNone found ((n : ℕ) → ¬ IsNumber least most read n) → word ≡ read
    → (n : ℕ) → ¬ IsNumber least most word n
unfit found least most read word is none same n number =
    subst (λ o. IfNone o ((n : ℕ) → ¬ IsNumber least most read n)) is none n (subst (λ w. IsNumber least most w n) same number)

fit : (found : Option ℕ) (least most n : ℕ) (word : Word) → found ≡ Some n → IfSome found (IsNumber least most word) → IsNumber least most word n
fit found least most n word is some = subst (λ o. IfSome o (IsNumber least most word)) is some

pub returns-in_err-number-clause-bad : goal.returns-in_err-number-clause-bad
returns-in_err-number-clause-bad c = if_err c.from_residual.result _ (λ e film names.
    unfit c.number_of.result 0 18446744073709551615 _ names.number c.in_err-number.ensures.ok_part c.number_of.ensures.none
    (at_place c.args.operands.now _ 0 _ names.three) film.number names.from_number)

pub returns-in_err-scenes-clause-bad : goal.returns-in_err-scenes-clause-bad
returns-in_err-scenes-clause-bad c = if_err c.from_residual-in_err-scenes.result _ (λ e film names.
    unfit c.number_of-2.result 1 200 _ names.scenes c.in_err-scenes.ensures.ok_part c.number_of-2.ensures.none
    (at_place c.args.operands.now _ 1 _ names.three) film.scenes names.scene_count)

pub returns-in_err-actors-clause-bad : goal.returns-in_err-actors-clause-bad
returns-in_err-actors-clause-bad c = if_err c.from_residual-in_err-actors.result _ (λ e film names.
    unfit c.number_of-3.result 0 64 _ names.actors c.in_err-actors.ensures.ok_part c.number_of-3.ensures.none
    (at_place c.args.operands.now _ 2 _ names.three) film.actors names.actor_count)

pub returns-clause-named : goal.returns-clause-named
returns-clause-named c = record {
  number = _;
  scenes = _;
  actors = _;
  three = three_strs c.args.operands.now _ c.requires;
  from_number = fit c.number_of.result 0 18446744073709551615 c.in_ok-number.number _ c.in_ok-number.ensures.ok_part c.number_of.ensures.some;
  scene_count = fit c.number_of-2.result 1 200 c.in_ok-scenes.scenes _ c.in_ok-scenes.ensures.ok_part c.number_of-2.ensures.some;
  actor_count = fit c.number_of-3.result 0 64 c.in_ok-actors.actors _ c.in_ok-actors.ensures.ok_part c.number_of-3.ensures.some;
}
