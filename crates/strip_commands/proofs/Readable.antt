-- Names that are made can be said by a text.
use Rattle.std.proofs.Common.{◌≡◌, ◌≤◌, ◌<◌, ◌^◌, ℕ, ◌+◌, ◌%◌, Bool, true, false, not, ◌&&◌, nat_le, List, [], ◌∷◌, length, All, codes, refl, ap, ◌∙◌, arith, bytes_eq}
use Rattle.std.specs.List.{list_all}
use Rattle.std.specs.Fmt.{decimal}
use Rattle.std.specs.Str.{str_to_ascii_lowercase}
use Rattle.std.proofs.lemmas.Bool.{false_from_ne_true}
use Rattle.std.proofs.lemmas.Bool.Decides.{nat_tests}
use Rattle.std.proofs.lemmas.Fmt.{decimal_by_steps}
use Rattle.std.proofs.lemmas.Nat.{mod_below}
use Rattle.std.proofs.lemmas.List.Elements.{All-nil, All-cons, All-push}
use Rattle.std.proofs.lemmas.List.Sums.{list_all-from_AllPass}
use Rattle.std.proofs.lemmas.Slice.Eq.{bytes_eq-Decides}
use Rattle.strip_model.specs.Data.{ActorData, IsName, SceneData}
use Rattle.strip_text.specs.Field.{Field, is_blank, trimmed}
use Rattle.strip_text.proofs.Blanks.{HasNoBlank-decimal, trimmed-same}
use Rattle.strip_instance.specs.Field.{is_kept, is_name, is_name_byte, is_scene_name}
use Rattle.strip_instance.specs.Text.{HasReadableNames, IsReadableName}
use Rattle.strip_commands.specs.Words.{behind, generator_of}
use Rattle.strip_commands.specs.Generated.{actor_at, generated, name_at, scene_at}
use Rattle.strip_commands.proofs.Limits.{all_places, name_fits}

digit_byte : (digit : ℕ) → digit < 10 → is_name_byte (48 + digit) ≡ true
digit_byte digit low = grind (arith, nat_tests, low)

-- a number has no control byte
digits_are_name_bytes : (n : ℕ) → n < 2 ^ 64 → All (λ b. is_name_byte b ≡ true) (decimal n)
digits_are_name_bytes n lt = decimal_by_steps (λ _ digits. All (λ b. is_name_byte b ≡ true) digits)
    (λ n low. All-cons (λ b. is_name_byte b ≡ true) (48 + n) [] (digit_byte n low) (All-nil (λ b. is_name_byte b ≡ true)))
    (λ n digits _ all. All-push (λ b. is_name_byte b ≡ true) digits (48 + n % 10) all (digit_byte (n % 10) (mod_below n 10 (omega arith))))
    n lt

and_three : (a b c : Bool) → a ≡ true → b ≡ true → c ≡ true → (a && b && c) ≡ true
and_three a b c one two three = rw (one, two, three) refl

-- words that begin with different letters aren't one
other_word : (letter first : ℕ) (rest word : Field) → (letter ≡ first → ⊥) → bytes_eq (letter ∷ rest) (first ∷ word) ≡ false
other_word letter first rest word other =
    false_from_ne_true (bytes_eq (letter ∷ rest) (first ∷ word)) (λ same. other (let e = (bytes_eq-Decides (letter ∷ rest) (first ∷ word)).0 same in cc))

-- a letter that is no blank and no control byte
module _ (letter place : ℕ) (low : place < 200) (is_letter : is_name_byte letter ≡ true) (no_blank : is_blank letter ≡ false) where
  abbrev pub name : List ℕ
  name = letter ∷ decimal (place + 1)

  pub bare : trimmed name ≡ name
  bare = trimmed-same name (All-cons (λ b. is_blank b ≡ false) letter (decimal (place + 1)) no_blank (HasNoBlank-decimal (place + 1) (omega (arith, low))))

  pub named : is_name name ≡ true
  named =
      let fits : IsName name = name_fits letter place low in
      and_three (nat_le 1 (length name)) (nat_le (length name) 64) (list_all is_name_byte name)
      (grind (arith, nat_tests, fits.0)) (grind (arith, nat_tests, fits.1))
      (list_all-from_AllPass is_name_byte name (All-cons (λ b. is_name_byte b ≡ true) letter (decimal (place + 1)) is_letter (digits_are_name_bytes (place + 1) (omega (arith, low)))))

pub actor_named : (place : ℕ) → place < 200 → IsReadableName is_name (name_at (codes "a") place)
actor_named place low = record { passes = named 97 place low refl refl; bare = bare 97 place low refl refl }

not_kept : (place : ℕ) → place < 200 → is_kept (name_at (codes "s") place) ≡ false
not_kept place low =
    let digits = str_to_ascii_lowercase (decimal (place + 1)) in
    rw (other_word 115 114 digits (codes "ate") (λ same. omega (arith, same)), other_word 115 104 digits (codes "old") (λ same. omega (arith, same)), other_word 115 98 digits (codes "efore") (λ same. omega (arith, same))) refl

pub scene_named : (place : ℕ) → place < 200 → IsReadableName is_scene_name (name_at (codes "s") place)
scene_named place low = record {
  passes = ap (λ (b : Bool). b && not (is_kept (name_at (codes "s") place))) (named 115 place low refl refl) ∙ ap not (not_kept place low);
  bare = bare 115 place low refl refl;
}

pub made_readable : (number scenes actors : ℕ) → scenes ≤ 200 → actors ≤ 64 → HasReadableNames (generated number scenes actors)
made_readable number scenes actors few cast = record {
  scenes = all_places (λ (scene : SceneData). IsReadableName is_scene_name scene.name) (scene_at (behind (generator_of number) actors) actors) scenes
      (λ i low. scene_named i (omega (arith, low, few)));
  actors = all_places (λ (actor : ActorData). IsReadableName is_name actor.name) (actor_at (generator_of number)) actors
      (λ i low. actor_named i (omega (arith, low, cast)));
}
