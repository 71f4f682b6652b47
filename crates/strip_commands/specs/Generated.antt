-- The instance that a number makes, with so many scenes and actors.
use Rattle.std.specs.Prelude.{ℕ, zero, suc, ◌+◌, ◌*◌, ◌%◌, Bool, ◌==◌, List, [], ◌++◌, map, codes, if◌then◌else◌}
use Rattle.std.specs.List.{range_with_len}
use Rattle.std.specs.Fmt.{decimal}
use Rattle.rand_pcg.specs.Lcg.{Lcg}
use Rattle.strip_mask.specs.Set.{with}
use Rattle.strip_model.specs.Data.{ActorData, InstanceData, SceneData}
use Rattle.strip_commands.specs.Words.{behind, generator_of, word_at}

-- a letter, and the number of an actor or a scene, from 1
abbrev pub name_at : List ℕ → ℕ → List ℕ
name_at letter place = letter ++ decimal (place + 1)

-- the rate of an actor for a day of work, which is that for a day of waiting too
abbrev pub rate_at : Lcg → ℕ → ℕ
rate_at generator actor = 1 + word_at generator actor % 100

abbrev pub actor_at : Lcg → ℕ → ActorData
actor_at generator actor =
    record { name = name_at (codes "a") actor; rate = rate_at generator actor; hold = rate_at generator actor }

-- each actor's word says whether he works in a scene
abbrev pub works_in : Lcg → ℕ → Bool
works_in generator actor = word_at generator actor % 3 == 0

-- the set of those of the first actors who work in it
unfoldable pub cast_of : Lcg → ℕ → ℕ
cast_of generator zero = 0
cast_of generator (suc n) = if works_in generator n then with (cast_of generator n) n else cast_of generator n

-- the scene at this place, where the generator's next word is the first scene's: a word for its days, and one for
-- each actor
abbrev pub scene_at : Lcg → ℕ → ℕ → SceneData
scene_at generator actors place =
    let own = behind generator (place * (1 + actors)) in
    record { name = name_at (codes "s") place; days = 1 + word_at own 0 % 5; cast = cast_of (behind own 1) actors }

-- the actors come first, and then the scenes
abbrev pub generated : ℕ → ℕ → ℕ → InstanceData
generated number scenes actors =
    let generator = generator_of number in
    record {
      scenes = map (scene_at (behind generator actors) actors) (range_with_len 0 scenes);
      actors = map (actor_at generator) (range_with_len 0 actors);
      pairs = [];
    }
