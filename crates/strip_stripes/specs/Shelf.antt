-- Shelves: stripes whose lines are known, so that their entries are true.
use Rattle.std.specs.Prelude.{◌≡◌, ⊤, ℕ, ◌<◌, Option, Some, None, List, length, All}
use Rattle.strip_film.specs.declared.shared.Known.{Known}
use Rattle.strip_film.specs.declared.shared.Line.{Line}
use Rattle.strip_film.specs.declared.shared.Probe.{Probe}
use Rattle.strip_film.specs.declared.shared.Probe.TheVariants.{Hit, Miss}
use Rattle.strip_film.specs.Finish.{IsAtMostFinish}
use Rattle.strip_table.specs.Stripe.{bucket_at}
use Rattle.strip_hand.specs.Hand.{Knows}
use Rattle.strip_book.specs.declared.pass.BookCopy.{BookCopy}
use Rattle.strip_book.specs.View.{ViewData}
use Rattle.strip_book.specs.Pass.{IsCopyOf, KeepsView, TableData, known_lines}

-- the line of each entry stands among these, with a bound at least as great
abbrev pub AreKnown : List Line → List (List Known) → Type 0
AreKnown lines buckets = (number : ℕ) → number < length buckets → All (Knows lines) (bucket_at buckets number)

-- what a shelf's lock keeps: a copy of a pass of this table knows the line of each entry
pub record IsShelf (table : TableData) (copy : BookCopy) (buckets : List (List Known)) : Type 0 where
  pub copy_of : IsCopyOf table copy
  pub entries : AreKnown (known_lines copy) buckets

-- each entry is at most the cost of finishing its set, in the film that this table is of
abbrev pub AreTrue : TableData → List (List Known) → Type 0
AreTrue table buckets =
    (number : ℕ) → number < length buckets
    → All (λ entry. IsAtMostFinish table.search.film entry.set entry.bound) (bucket_at buckets number)

-- the answer to a probe that found this
abbrev pub answer_of : Option Known → Probe
answer_of None = Miss
answer_of (Some known) = Hit known

-- an entry that is answered has the set, and its line is known
abbrev pub IsTold : List Line → ℕ → Probe → Type 0
IsTold lines set Miss = ⊤
IsTold lines set (Hit known) = (known.set ≡ set) × Knows lines known

-- a bound that is answered is at most the cost of finishing the set, in the film that the table is of
abbrev pub IsTrueAnswer : TableData → ℕ → Probe → Type 0
IsTrueAnswer table set Miss = ⊤
IsTrueAnswer table set (Hit known) = IsAtMostFinish table.search.film set known.bound

-- a probe: the pass may learn lines, and knows that of an entry that it is answered
pub record IsProbed (before : ViewData) (set : ℕ) (answer : Probe) (after : ViewData) : Type 0 where
  pub stays : KeepsView before after
  pub entries : after.entries ≡ before.entries
  pub told : IsTold after.lines set answer
