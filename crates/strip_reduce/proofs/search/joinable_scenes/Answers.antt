use Rattle.std.proofs.Common.{length, [], ap, ◌∙◌}
use Rattle.strip_film.specs.Film.{film_data}
use Rattle.strip_reduce.specs.Reduction.{least_two}
use Rattle.strip_reduce.proofs.Searching.{marked_alike}
use Rattle.strip_reduce.proofs.search.joinable_scenes.Goals as goal

pub returns : goal.returns
returns c =
    c.equal_scenes.ensures ∙ ap (least_two (length c.args.casts.now)) (marked_alike (film_data c.args.casts.now [] [] [] c.args.pairs.now) c.paired.result c.paired.ensures)
