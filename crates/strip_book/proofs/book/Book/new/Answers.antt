use Rattle.std.proofs.Common.{◌∙◌, ap, ℕ, replicate, sym, subst, rules}
use Rattle.strip_film.specs.Film.{IsFilm}
use Rattle.strip_film.specs.Shown.{path_data}
use Rattle.std.specs.Prelude.{map}
use Rattle.strip_book.proofs.Opened.{opens}
use Rattle.strip_book.proofs.book.Book.new.Goals as goal

pub of_words-requires : goal.of_words-requires
of_words-requires c =
    opens (record { film = c.in_ok-copy.field-0; kind = c.args.kind; nodes = c.args.nodes; start = c.args.start; tasks = map path_data c.in_ok-to_vec.field-0.items })
    c.deref.result.now (subst IsFilm (sym c.in_ok-copy.ensures) c.keeps_limits.ensures) c.requires
    (c.deref.ensures.value ∙ c.in_ok-words.ensures.items_if_clones_equal (search rules) ∙ ap (λ (n : ℕ). replicate n 0) c.word_count.ensures)
