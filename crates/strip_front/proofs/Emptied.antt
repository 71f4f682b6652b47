-- The front with nothing in it.
use Rattle.std.proofs.Common.{◌≡◌, ℕ, ◌≤◌, min, Bool, false, Option, None, List, length, replicate, ap, ◌∙◌, arith}
use Rattle.std.proofs.lemmas.List.{length-replicate}
use Rattle.strip_model.specs.declared.kind.Kind.{Kind}
use Rattle.strip_model.specs.Film.{FilmData}
use Rattle.strip_film.specs.Film.{IsFilm}
use Rattle.strip_film.specs.Path.{PathData}
use Rattle.strip_lines.specs.Lines.{rules_of}
use Rattle.strip_front.specs.Front.{AreShorter, IsDepth, IsEmptyFront}
use Rattle.strip_front.specs.Layers.{AreTasksOf}

-- a task may have at least two scenes, or all that there are
pub is_depth : (film : FilmData) (most depth : ℕ) → IsFilm film → 2 ≤ most → most ≤ 4 → depth ≡ min most (length film.casts) → IsDepth film depth
is_depth film most depth is some few same = record {
  some = omega (arith, same, some, is.scene_count.0);
  most = omega (arith, same);
  one = λ one. omega (arith, same, some, one);
  few = omega (arith, same, few);
}

pub empty_front : (kind : Kind) (film : FilmData) (depth : ℕ) (tasks : List PathData) (wanted : List Bool) (paths : List PathData) (lines : List (Option ℕ))
    → IsDepth film depth → AreTasksOf (rules_of kind film) depth tasks → AreShorter (rules_of kind film) depth paths
    → wanted ≡ replicate (length tasks) false → lines ≡ replicate (length paths) None
    → IsEmptyFront (rules_of kind film) (record { depth = depth; tasks = tasks; wanted = wanted; paths = paths; lines = lines })
empty_front kind film depth tasks wanted paths lines fits are shorter unwanted unlined = record {
  front_of = record {
    depth = fits;
    tasks = are;
    wanted = ap (λ bs. length bs) unwanted ∙ length-replicate (length tasks) false;
    paths = shorter;
    lines = ap (λ ls. length ls) unlined ∙ length-replicate (length paths) None;
  };
  wanted = unwanted;
  lines = unlined;
}
