-- What is made keeps the limits.
use Rattle.std.proofs.Common.{◌≡◌, ◌≢◌, ◌≤◌, ◌<◌, ℕ, ◌+◌, ◌*◌, List, [], ◌∷◌, length, get_or, map, All, sym, subst, arith}
use Rattle.std.specs.List.{AllPairs, range_with_len}
use Rattle.std.specs.Fmt.{decimal}
use Rattle.std.proofs.lemmas.List.{length-append}
use Rattle.std.proofs.lemmas.List.FromFn.{get_or-map-range_with_len, length-map-range_with_len}
use Rattle.std.proofs.lemmas.Fmt.{decimal_injective, length-decimal-le}
use Rattle.std.proofs.lemmas.Nat.{mod_below}
use Rattle.strip_mask.specs.Set.{LiesBelow}
use Rattle.strip_model.proofs.Fits.{fit-none}
use Rattle.strip_model.specs.Data.{ActorData, IsActor, IsInstance, IsName, IsScene, SceneData}
use Rattle.strip_commands.specs.Words.{behind, generator_of, word_at}
use Rattle.strip_commands.specs.Generated.{actor_at, cast_of, generated, name_at, scene_at}
use Rattle.strip_commands.proofs.Casts.{cast_lies}

-- ---- names

one_letter : (letter : ℕ) (xs ys : List ℕ) → letter ∷ xs ≡ letter ∷ ys → xs ≡ ys
one_letter letter xs ys same = cc

-- two places have two names
pub name_once : (letter i j : ℕ) → i < 200 → j < 200 → name_at (letter ∷ []) i ≡ name_at (letter ∷ []) j → i ≡ j
name_once letter i j low high same =
    let both = decimal_injective (i + 1) (j + 1) (omega (arith, low)) (omega (arith, high)) (one_letter letter (decimal (i + 1)) (decimal (j + 1)) same) in
    omega (arith, both)

pub name_fits : (letter i : ℕ) → i < 200 → IsName (name_at (letter ∷ []) i)
name_fits letter i low =
    let long : length (name_at (letter ∷ []) i) ≡ 1 + length (decimal (i + 1)) = length-append (letter ∷ []) (decimal (i + 1)) in
    let most : length (decimal (i + 1)) ≤ 3 = length-decimal-le 3 (i + 1) (omega arith) (omega (arith, low)) (omega (arith, low)) in
    (omega (arith, long), omega (arith, long, most))

-- ---- lists by place

-- what holds of each place holds of each of the list
pub all_places : {X : Type 0} (P : X → Type 0) (f : ℕ → X) (n : ℕ) → ((i : ℕ) → i < n → P (f i)) → All P (map f (range_with_len 0 n))
all_places P f n each i d within =
    let low : i < n = omega (arith, within, length-map-range_with_len f 0 n) in
    subst P (sym (get_or-map-range_with_len f 0 n i i d low (omega arith))) (each i low)

pairs_places : {X : Type 0} (R : X → X → Type 0) (f : ℕ → X) (n : ℕ) → ((i j : ℕ) → i < j → j < n → R (f i) (f j)) → AllPairs R (map f (range_with_len 0 n))
pairs_places {X} R f n each i j d before within =
    let high : j < n = omega (arith, within, length-map-range_with_len f 0 n) in
    let low : i < n = omega (arith, before, high) in
    subst (λ (x : X). R x (get_or (map f (range_with_len 0 n)) j d)) (sym (get_or-map-range_with_len f 0 n i i d low (omega arith)))
    (subst (R (f i)) (sym (get_or-map-range_with_len f 0 n j j d high (omega arith))) (each i j before high))

-- ---- the instance

pub made_is : (number scenes actors : ℕ) → 1 ≤ scenes → scenes ≤ 200 → actors ≤ 64 → IsInstance (generated number scenes actors)
made_is number scenes actors some few cast =
    let generator = generator_of number in
    let first = behind generator actors in
    let scene_count : length (generated number scenes actors).scenes ≡ scenes = length-map-range_with_len (scene_at first actors) 0 scenes in
    let actor_count : length (generated number scenes actors).actors ≡ actors = length-map-range_with_len (actor_at generator) 0 actors in
    record {
      scene_count = (omega (arith, scene_count, some), omega (arith, scene_count, few));
      actor_count = omega (arith, actor_count, cast);
      scenes = all_places (IsScene (length (generated number scenes actors).actors)) (scene_at first actors) scenes (λ i low. record {
        name = name_fits 115 i (omega (arith, low, few));
        days = (omega (arith, mod_below (word_at (behind first (i * (1 + actors))) 0) 5 (omega arith)), omega (arith, mod_below (word_at (behind first (i * (1 + actors))) 0) 5 (omega arith)));
        cast = subst (λ (n : ℕ). LiesBelow n (cast_of (behind (behind first (i * (1 + actors))) 1) actors)) (sym actor_count) (cast_lies (behind (behind first (i * (1 + actors))) 1) actors);
      });
      actors = all_places IsActor (actor_at generator) actors (λ i low. record {
        name = name_fits 97 i (omega (arith, low, cast));
        rate = omega (arith, mod_below (word_at generator i) 100 (omega arith));
        hold = omega (arith, mod_below (word_at generator i) 100 (omega arith));
      });
      scene_names = pairs_places (λ (a b : SceneData). a.name ≢ b.name) (scene_at first actors) scenes (λ i j before high same.
          let is = name_once 115 i j (omega (arith, before, high, few)) (omega (arith, high, few)) same in omega (arith, before, is));
      actor_names = pairs_places (λ (a b : ActorData). a.name ≢ b.name) (actor_at generator) actors (λ i j before high same.
          let is = name_once 97 i j (omega (arith, before, high, cast)) (omega (arith, high, cast)) same in omega (arith, before, is));
      pairs = fit-none (length (generated number scenes actors).scenes);
    }
