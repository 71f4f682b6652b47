-- The generator behind some words, and lists with one more.
use Rattle.std.proofs.Common.{◌≡◌, ℕ, zero, suc, ◌+◌, ◌*◌, List, [], ◌∷◌, ◌++◌, map, refl, sym, ap, ◌∙◌, arith}
use Rattle.std.specs.List.{range_with_len}
use Rattle.std.proofs.lemmas.List.{map-append}
use Rattle.std.proofs.lemmas.List.FromFn.{map-range_with_len_more}
use Rattle.rand_pcg.specs.Lcg.{Lcg}
use Rattle.rand_pcg.specs.Pcg.{pcg32}
use Rattle.strip_model.specs.declared.scene.Scene.{Scene}
use Rattle.strip_model.specs.declared.scene.Actor.{Actor}
use Rattle.strip_model.specs.Instance.{actor_data, instance_data, scene_data}
use Rattle.strip_commands.specs.Words.{behind, generator_of, word_at}
use Rattle.strip_commands.specs.Generated.{actor_at, generated, scene_at}

-- so many words, and so many more
pub behind-more : (generator : Lcg) (m n : ℕ) → behind (behind generator m) n ≡ behind generator (m + n)
unfolding behind
behind-more generator m zero = ap (behind generator) (let e : m ≡ m + 0 = omega arith in e)
behind-more generator m (suc n) =
    ap (λ (g : Lcg). (pcg32 g).1) (behind-more generator m n)
    ∙ ap (behind generator) (let e : suc (m + n) ≡ m + suc n = omega arith in e)

pub behind-next : (generator : Lcg) (n : ℕ) → (pcg32 (behind generator n)).1 ≡ behind generator (n + 1)
unfolding behind
behind-next generator n = ap (behind generator) (let e : suc n ≡ n + 1 = omega arith in e)

pub behind-none : (generator : Lcg) → behind generator 0 ≡ generator
unfolding behind
behind-none generator = refl

-- a list with one more of what is drawn
pub drawn-more : {X Y : Type 0} (data_of : X → Y) (f : ℕ → Y) (new old : List X) (x : X) (n : ℕ) → new ≡ old ++ x ∷ []
    → map data_of old ≡ map f (range_with_len 0 n) → data_of x ≡ f n → map data_of new ≡ map f (range_with_len 0 (n + 1))
drawn-more {X} {Y} data_of f new old x n is drawn same =
    ap (map data_of) is ∙ map-append data_of old (x ∷ []) ∙ ap (λ (ys : List Y). ys ++ data_of x ∷ []) drawn
    ∙ ap (λ (y : Y). map f (range_with_len 0 n) ++ y ∷ []) same ∙ sym (map-range_with_len_more f 0 n n (omega arith))

-- the word that was drawn and the generator behind it
pub word_drawn : (generator now : Lcg) (n word : ℕ) (after : Lcg) → now ≡ behind generator n → (word, after) ≡ pcg32 now
    → (word ≡ word_at generator n) × (after ≡ behind generator (n + 1))
word_drawn generator now n word after is drawn = (
  ap (λ (p : ℕ × Lcg). p.0) drawn ∙ ap (λ (g : Lcg). (pcg32 g).0) is,
  ap (λ (p : ℕ × Lcg). p.1) drawn ∙ ap (λ (g : Lcg). (pcg32 g).1) is ∙ behind-next generator n,
)

-- a scene takes as many words as there are actors, and one
pub one_scene_more : (n k : ℕ) → (n + 1) * k ≡ n * k + k
one_scene_more n k = omega arith

-- the scenes and the actors that were drawn are those of the instance
pub made : (number scenes actors : ℕ) (words after : Lcg) (drawn_scenes : List Scene) (drawn_actors : List Actor) → words ≡ generator_of number
    → after ≡ behind words actors → map actor_data drawn_actors ≡ map (actor_at words) (range_with_len 0 actors)
    → map scene_data drawn_scenes ≡ map (scene_at after actors) (range_with_len 0 scenes)
    → instance_data drawn_scenes drawn_actors [] ≡ generated number scenes actors
made number scenes actors words after drawn_scenes drawn_actors start later cast film =
    let first = later ∙ ap (λ (g : Lcg). behind g actors) start in
    let of_scenes = film ∙ ap (λ (g : Lcg). map (scene_at g actors) (range_with_len 0 scenes)) first in
    let of_actors = cast ∙ ap (λ (g : Lcg). map (actor_at g) (range_with_len 0 actors)) start in
    λ i. record { scenes = of_scenes i; actors = of_actors i; pairs = [] }
