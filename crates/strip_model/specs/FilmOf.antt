-- The film of an instance: what is left of it without the names.
use Rattle.std.specs.Prelude.{map}
use Rattle.strip_model.specs.Film.{FilmData}
use Rattle.strip_model.specs.Data.{InstanceData}

abbrev pub film_of : InstanceData → FilmData
film_of inst = record {
  casts = map (λ scene. scene.cast) inst.scenes;
  days = map (λ scene. scene.days) inst.scenes;
  rates = map (λ actor. actor.rate) inst.actors;
  holds = map (λ actor. actor.hold) inst.actors;
  pairs = inst.pairs;
}
