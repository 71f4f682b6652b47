-- What is kept of a set.
use Rattle.std.specs.Prelude.{◌≡◌, ◌≤◌, true}
use Rattle.strip_model.specs.declared.kind.Kind.{Kind}
use Rattle.strip_model.specs.Film.{FilmData}
use Rattle.strip_bound.specs.Bounds.{bound}
use Rattle.strip_memo.specs.declared.entry.Entry.{Entry}

-- the entry is true of its set: its value is at most the static bound, and the bound itself where it says so
pub record IsEntry (kind : Kind) (film : FilmData) (entry : Entry) : Type 0 where
  pub most : entry.value ≤ bound kind film entry.set
  pub whole : entry.is_whole ≡ true → entry.value ≡ bound kind film entry.set
