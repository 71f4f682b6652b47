-- The tasks of a search.
use Rattle.std.proofs.Common.{ap, sym, ◌∙◌, arith}
use Rattle.strip_film.specs.Film.{all_scenes}
use Rattle.strip_film.specs.Finish.{rest_after}
use Rattle.strip_lines.specs.Parts.{AreTasks}
use Rattle.strip_hand.specs.Search.{AreStarts, SearchData, depth_of}

-- tasks of which different sets remain are along different scenes
pub tasks_apart : (search : SearchData) → AreStarts search → AreTasks (depth_of search) search.tasks
tasks_apart search starts = record {
  long = starts.long;
  apart = λ i j d rising within same.
      starts.apart i j d rising within
      ((starts.paths i d (omega (arith, rising, within))).left ∙ ap (rest_after (all_scenes search.film)) same ∙ sym (starts.paths j d within).left);
}
