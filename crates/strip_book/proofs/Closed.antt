-- The lines that are read at the end are all lines.
use Rattle.std.proofs.Common.{◌≡◌, ℕ, zero, suc, ◌+◌, ◌<◌, false, List, [], ◌∷◌, ◌++◌, min, length, ext_get_or, IfOk, inl, inr, sym, ap, ◌∙◌, subst, arith}
use Rattle.std.specs.Prelude.{Err, Ok, Result, slice_index}
use Rattle.std.proofs.lemmas.Bool.{cases_eq, cases_lt}
use Rattle.std.proofs.lemmas.List.{get_or_append_left, length-append}
use Rattle.std.proofs.Math.Seq.{get_or-append_seam}
use mathlib.Core.Option.{some, some-ne-none, some-injective}
use lib.ListN.{get_elem?}
use Rattle.atomic_table.specs.Table.{Final, Seen, State}
use Rattle.strip_film.specs.declared.path.Path.{Path}
use Rattle.strip_film.specs.declared.shared.Line.{Line}
use Rattle.strip_lines.specs.Lines.{line_at, no_line}
use Rattle.strip_hand.specs.Search.{SearchData}
use Rattle.strip_book.specs.View.{ViewData}
use Rattle.strip_book.specs.Words.{bound_word, count_word, set_word}
use Rattle.strip_book.specs.Rule.{IsBook, IsWritten, full_weight}
use Rattle.strip_book.specs.Pass.{AreAll}
use Rattle.strip_book.proofs.Views.{alone}
use Rattle.strip_book.proofs.RuleKept.{learnt, never_writes}
use Rattle.strip_book.proofs.Told.{owns_all}

-- an element that stands at a place
pub read_at : (words : List ℕ) (i n : ℕ) → get_elem? words i ≡ some n → slice_index words i ≡ n
read_at [] i n at = absurd (some-ne-none n (sym at))
read_at (x ∷ xs) zero n at = some-injective x n at
read_at (x ∷ xs) (suc i) n at = read_at xs i n at

-- the line that stands in the words of a number
abbrev pub line_in : List ℕ → ℕ → Line
line_in words number = record { set = slice_index words (set_word number); bound = slice_index words (bound_word number) }

module _ (search : SearchData) (s : State Path ViewData) (k : IsBook search s) (id : ℕ) (me : ViewData) (at : get_elem? s.views id ≡ some me) (idle : me.writing ≡ false)
    (whole : me.weight ≡ full_weight) where
  heavy : 0 < me.weight
  heavy = omega (arith, whole)

  -- no view writes
  none_writes : (number : ℕ) → IsWritten s.views number → ⊥
  none_writes number by = elim (cases_eq (by.1).weight 0) [
    | inl light ↦ never_writes (by.1).writing ((k.fits by.0 by.1 by.2).light light).0 by.3
    | inr some_ ↦ (
        let same : by.1 ≡ me = alone s.views id by.0 me by.1 at (k.whole ∙ sym whole) by.2 (omega (arith, some_)) in
        never_writes me.writing idle (ap (λ (u : ViewData). u.writing) (sym same) ∙ by.3))
  ]

  stands : (number : ℕ) → number < length k.lines → line_at k.lines number ≡ line_in s.words number
  stands number lt = elim (k.places number lt) [
    | inl there ↦ λ i. record { set = sym there.0 i; bound = sym there.1 i }
    | inr by ↦ absurd (none_writes number by)
  ]

  -- lines that were read from the words are all lines
  pub read : (lines : List Line) → length lines ≡ min (slice_index s.words count_word) search.nodes → ((number : ℕ) → number < length lines → line_at lines number ≡ line_in s.words number)
      → lines ≡ k.lines
  read lines count each =
      let long : length lines ≡ length k.lines = omega (arith, count, k.head, k.long) in
      ext_get_or no_line lines k.lines long (λ number lt. each number lt ∙ sym (stands number (omega (arith, lt, long))))

  pub all : AreAll me k.lines
  all =
      let learns = learnt search s k id me at heavy in
      let owns = owns_all search s k id me at heavy whole in
      record {
        justified = learns.justified;
        few = learns.few;
        grow = learns.knew;
        numbers = owns.numbers;
        sets = owns.sets;
      }

-- what is read where a table is closed with a pass of full weight
pub closes : (search : SearchData) (id : ℕ) (me : ViewData) (words : List ℕ) (xs : List Path) → Final (Seen (IsBook search) id me) words xs → me.writing ≡ false
    → me.weight ≡ full_weight → (lines : List Line) → length lines ≡ min (slice_index words count_word) search.nodes
    → ((number : ℕ) → number < length lines → line_at lines number ≡ line_in words number) → AreAll me lines
closes search id me words xs final idle whole lines count each =
    let s : State Path ViewData = final.0 in
    let k : IsBook search s = final.1.0 in
    let at : get_elem? s.views id ≡ some me = final.1.1 in
    let same : s.words ≡ words = final.2 in
    let here : lines ≡ k.lines
    = read search s k id me at idle whole lines (count ∙ ap (λ (ws : List ℕ). min (slice_index ws count_word) search.nodes) (sym same))
    (λ number lt. each number lt ∙ ap (λ (ws : List ℕ). line_in ws number) (sym same)) in
    subst (AreAll me) (sym here) (all search s k id me at idle whole)

-- one line more that was read
module _ (words : List ℕ) (lines more : List Line) (number q b : ℕ) (long : length lines ≡ number)
    (each : (place : ℕ) → place < number → line_at lines place ≡ line_in words place) (set_read : slice_index words (set_word number) ≡ q)
    (bound_read : slice_index words (bound_word number) ≡ b) (pushed : more ≡ lines ++ record { set = q; bound = b } ∷ []) where
  pub longer_read : length more ≡ number + 1
  longer_read = ap (λ (ls : List Line). length ls) pushed ∙ length-append lines (record { set = q; bound = b } ∷ []) ∙ omega (arith, long)

  pub each_read : (place : ℕ) → place < number + 1 → line_at more place ≡ line_in words place
  each_read place lt = ap (λ (ls : List Line). line_at ls place) pushed ∙ elim (cases_lt place number) [
    | inl before ↦ get_or_append_left lines (record { set = q; bound = b } ∷ []) no_line place (omega (arith, before, long)) ∙ each place before
    | inr last ↦ (
        let same : place ≡ number = omega (arith, lt, last) in
        ap (line_at (lines ++ record { set = q; bound = b } ∷ [])) (same ∙ sym long) ∙ get_or-append_seam lines (record { set = q; bound = b }) [] no_line
        ∙ (λ i. record { set = sym set_read i; bound = sym bound_read i }) ∙ ap (line_in words) (sym same))
  ]

-- what follows from two facts of an answer
pub if_both : {A E : Type 0} (P Q R : A → Type 0) → ((a : A) → P a → Q a → R a) → (answer : Result A E) → IfOk answer P → IfOk answer Q → IfOk answer R
if_both P Q R both (Ok a) first second = both a first second
if_both P Q R both (Err e) first second = tt
