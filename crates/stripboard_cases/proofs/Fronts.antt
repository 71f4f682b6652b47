-- The rows of a text, gone through from the front.
use Rattle.std.proofs.Common.{◌≡◌, ◌++◌, ◌∷◌, [], List, ℕ, ◌<◌, ◌+◌, length, refl, sym, ◌∙◌, ap, inl, inr, append_assoc, arith}
use Rattle.std.proofs.lemmas.List.{length-append}
use Rattle.stripboard_cases.specs.Met.{HasRow, IsBeforeRow}

-- what is left of the text begins with a row of it
pub record IsRest (text rest : List ℕ) : Type 0 where
  pub front : List ℕ
  pub starts : IsBeforeRow front
  pub whole : text ≡ front ++ rest

pub rest_whole : (text : List ℕ) → IsRest text text
rest_whole text = record { front = []; starts = inl refl; whole = refl }

pub rest_behind : (text rest row behind : List ℕ) → IsRest text rest → rest ≡ row ++ 10 ∷ behind → IsRest text behind
rest_behind text rest row behind is cut = record {
  front = is.front ++ (row ++ 10 ∷ []);
  starts = inr (is.front ++ row, sym (append_assoc is.front row (10 ∷ [])));
  whole = is.whole ∙ ap (λ (xs : List ℕ). is.front ++ xs) (cut ∙ sym (append_assoc row (10 ∷ []) behind))
      ∙ sym (append_assoc is.front (row ++ 10 ∷ []) behind);
}

pub rest_has : (text rest row behind : List ℕ) → IsRest text rest → rest ≡ row ++ 10 ∷ behind → HasRow text row
rest_has text rest row behind is cut = record {
  front = is.front;
  behind = behind;
  starts = is.starts;
  whole = is.whole ∙ ap (λ (xs : List ℕ). is.front ++ xs) cut;
}

pub rest_shorter : (rest row behind : List ℕ) → rest ≡ row ++ 10 ∷ behind → length behind < length rest
rest_shorter rest row behind cut =
    let whole : length rest ≡ length row + length (10 ∷ behind) = ap length cut ∙ length-append row (10 ∷ behind) in
    omega (arith, whole)
