-- The lines of entries stay known, and entries are as true as these.
use Rattle.std.proofs.Common.{◌≡◌, ℕ, ◌<◌, ◌≤◌, List, [], length, slice_set, All, inl, inr, sym, ap, ◌∙◌, subst, arith}
use Rattle.std.proofs.lemmas.Bool.{cases_eq}
use Rattle.std.proofs.lemmas.List.{length-set, get_or-replicate, get_or-set_same, get_or-set_other, length-replicate}
use Rattle.std.proofs.lemmas.List.Elements.{All-weaker}
use Rattle.std.specs.Prelude.{replicate}
use Rattle.strip_film.specs.declared.shared.Known.{Known}
use Rattle.strip_film.specs.declared.shared.Line.{Line}
use Rattle.strip_film.specs.declared.shared.Noted.{Noted}
use Rattle.strip_film.specs.Finish.{EachOnce, IsAtMostFinish, steps_cost}
use Rattle.strip_lines.specs.Lines.{GrowTo, line_at, no_line}
use Rattle.strip_table.specs.Bucket.{Puts}
use Rattle.strip_table.specs.Stripe.{bucket_at}
use Rattle.strip_table.proofs.PutLeaves.{all_after}
use Rattle.strip_hand.specs.Hand.{Knows}
use Rattle.strip_hand.proofs.Grown.{knows_grow}
use Rattle.strip_book.specs.Pass.{TableData}
use Rattle.strip_stripes.specs.Shelf.{AreKnown, AreTrue}

-- empty buckets have no entries
pub none_known : (lines : List Line) (count : ℕ) → AreKnown lines (replicate count [])
none_known lines count number within =
    subst (All (Knows lines)) (sym (get_or-replicate count number [] [] (omega (arith, within, length-replicate {A = List Known} count []))))
    (λ place none below. absurd (omega (arith, below)))

-- where the lines grow and a known one is put into a bucket, those of all entries are known
pub known_put : (lines more : List Line) (buckets : List (List Known)) (place : ℕ) (known : Known) (bucket : List Known) (answer : Noted)
    → place < length buckets → GrowTo lines more → AreKnown lines buckets → Knows more known
    → Puts (bucket_at buckets place) known bucket answer → AreKnown more (slice_set buckets place bucket)
known_put lines more buckets place known bucket answer lt grow are knows puts number within = elim (cases_eq number place) [
  | inl same ↦ subst (All (Knows more))
      (sym (ap (bucket_at (slice_set buckets place bucket)) same ∙ get_or-set_same buckets place bucket [] lt))
      (all_after (Knows more) (bucket_at buckets place) known bucket answer puts knows (still place lt))
  | inr apart ↦ subst (All (Knows more)) (sym (get_or-set_other buckets place number bucket [] apart))
      (still number (omega (arith, within, length-set buckets place bucket)))
]
  where
    still : (other : ℕ) → other < length buckets → All (Knows more) (bucket_at buckets other)
    still other below = All-weaker (Knows lines) (Knows more) (λ entry. knows_grow lines more entry grow) (bucket_at buckets other) (are other below)

pub true_entries : (table : TableData) (lines : List Line) (buckets : List (List Known)) → All (λ (line : Line). IsAtMostFinish table.search.film line.set line.bound) lines
    → AreKnown lines buckets → AreTrue table buckets
true_entries table lines buckets are known number within =
    All-weaker (Knows lines) (λ (entry : Known). IsAtMostFinish table.search.film entry.set entry.bound) true_entry (bucket_at buckets number) (known number within)
  where
    true_entry : (entry : Known) → Knows lines entry → IsAtMostFinish table.search.film entry.set entry.bound
    true_entry entry is scenes each =
        let line : Line = line_at lines entry.line in
        let most : line.bound ≤ steps_cost table.search.film line.set scenes
        = are entry.line no_line is.there scenes (subst (λ (q : ℕ). EachOnce table.search.film q scenes) (sym is.set) each) in
        let same : steps_cost table.search.film line.set scenes ≡ steps_cost table.search.film entry.set scenes
        = ap (λ (q : ℕ). steps_cost table.search.film q scenes) is.set in
        omega (arith, most, same, is.as_great)
