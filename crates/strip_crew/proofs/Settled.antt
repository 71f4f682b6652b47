-- Passes that are settled.
use Rattle.std.proofs.Common.{◌≡◌, ℕ, suc, ◌+◌, ◌<◌, ◌≤◌, Bool, true, false, cond, eqb, Option, Some, None, List, [], ◌∷◌, length, inl, inr, refl, sym, ap, ◌∙◌, subst, arith}
use Rattle.std.specs.Prelude.{All, IsSome}
use Rattle.std.specs.Option.{unwrap_or}
use Rattle.std.proofs.lemmas.Bool.{cases_Bool, cond-true, lt-ltb}
use Rattle.strip_mask.proofs.Lists.{count, count-cons}
use Rattle.strip_film.specs.Film.{IsFilm}
use Rattle.strip_film.specs.Path.{PathData}
use Rattle.strip_film.specs.declared.shared.Line.{Line}
use Rattle.strip_lines.specs.Parts.{AreCounted}
use Rattle.strip_hand.specs.Hand.{IsHand, IsRecord, RecordData, no_path_yet}
use Rattle.strip_hand.specs.Search.{SearchData, depth_of, search_rules}
use Rattle.strip_least.specs.declared.view.View.{View as LeastView}
use Rattle.strip_least.specs.Rule.{full_weight, once_below}
use Rattle.strip_least.specs.Steps.{HasSettled}
use Rattle.strip_book.specs.View.{AreApart, EntryData, ViewData, last_in, last_of, number_in, number_of_record, parts_of, record_at}
use Rattle.strip_book.specs.Rule.{IsEntry, candidates_at, lines_of, number_of, total}
use Rattle.strip_book.specs.Pass.{Settles, TableData, known}
use Rattle.strip_book.specs.Steps.{OwnsAll}
use Rattle.strip_least.specs.declared.least.Least.{Least}
use Rattle.strip_least.specs.declared.pass.LeastPass.{LeastPass}
use Rattle.strip_least.specs.Pass.{known as known_least}
use Rattle.strip_book.specs.declared.book.Book.{Book}
use Rattle.strip_book.specs.declared.pass.BookPass.{BookPass}
use Rattle.strip_steal.specs.Taker.{handed_in, pool_shares, taken_in}
use Rattle.strip_crew.specs.declared.source.Source.{Source}
use Rattle.strip_crew.specs.declared.source.Source.TheVariants.{Counter, Gathers, Takes}
use Rattle.strip_crew.specs.Source.{IsSource, taken_by}
use Rattle.strip_crew.specs.Hub.{GoTogether, IsHub, hand_of}
use Rattle.strip_crew.specs.Sources.{Bears, NoneLeft}
use Rattle.strip_worker.specs.Closed.{AreCountedBy, HasAll}
use Rattle.strip_worker.specs.Team.{GoesOn}

-- a part that stands among those of the entries has a record
pub some_at : (part : ℕ) (entries : List EntryData) → 0 < count part (parts_of entries) → IsSome (record_at part entries)
some_at part [] some_ = absurd (omega (arith, some_))
some_at part (entry ∷ entries) some_ =
    let more = count-cons part entry.part (parts_of entries) in
    let kept : RecordData = record { last = entry.last; number = entry.number } in
    elim (cases_Bool (eqb entry.part part)) [
      | inl here ↦ subst IsSome (sym (ap (λ (b : Bool). cond b (Some kept) (record_at part entries)) here)) refl
      | inr apart ↦ (
          let nothing : cond {A = ℕ} (eqb entry.part part) 1 0 ≡ 0 = ap (λ (b : Bool). cond {A = ℕ} b 1 0) apart in
          subst IsSome (sym (ap (λ (b : Bool). cond b (Some kept) (record_at part entries)) apart))
          (some_at part entries (omega (arith, more, some_, nothing))))
    ]

last_is : (kept : Option RecordData) → last_of kept ≡ (unwrap_or kept no_path_yet).last
last_is None = refl
last_is (Some kept) = refl

number_is : (kept : Option RecordData) → number_of_record kept ≡ (unwrap_or kept no_path_yet).number
number_is None = refl
number_is (Some kept) = refl

-- where no part is left, the counter and the source gave each part
pub all_given : (source : Source) (parts : ℕ) (claims : List ℕ) (ended : Bool) → IsSource source parts claims → Bears full_weight source → NoneLeft source ended
    → (ended ≡ true → (part : ℕ) → count part claims ≡ once_below part parts) → (part : ℕ) → count part claims + count part (taken_by source) ≡ once_below part parts
all_given Counter parts claims ended given bears left each part = omega (arith, each left part)
all_given (Gathers gatherer) parts claims ended given bears left each part =
    let front : count part claims ≡ once_below part 1 = given.front part in
    let taken : count part (taken_in (pool_shares gatherer.pool)) ≡ count part (handed_in (pool_shares gatherer.pool)) = left bears part in
    let tasks : count part (handed_in (pool_shares gatherer.pool)) + once_below part 1 ≡ once_below part parts = given.tasks part in
    omega (arith, front, taken, tasks)
all_given (Takes taker) parts claims ended given bears left each part = absurd (omega (arith, bears))

-- what holds of every hand holds of passes that go together
pub limits_of : (table : TableData) (least : Least) (book : Book) (source : Source) (told : LeastPass) (lines : BookPass)
    → ((search : SearchData) (entries : List EntryData) (part : ℕ) (kept : RecordData) → All (IsEntry search) entries → record_at part entries ≡ Some kept
    → IsRecord search part kept)
    → IsHub table least book source told lines → IsHand (hand_of source (known_least told) (known lines) None None)
limits_of table least book source told lines law hub = record {
  film = hub.search.film;
  tasks = hub.search.tasks;
  told = omega (arith, hub.together.no_dearer, hub.together.start);
  few = hub.book_pass.few;
  lines = hub.book_pass.justified;
  records = λ part entry is. law (known lines).search (known lines).entries part entry hub.book_pass.entries is;
}

-- lines that are all of the entries of passes are counted by them
pub counted_by : (source : Source) (told : LeastView) (view : ViewData) (lines : List Line) → GoTogether source told view
    → ((search : SearchData) (entries : List EntryData) (lines : List Line) → IsFilm search.film → All (IsEntry search) entries → AreApart entries
    → total number_of entries ≡ length lines → ((set : ℕ) → lines_of set lines ≤ total (candidates_at search set) entries)
    → AreCounted (search_rules search) search.start (depth_of search) search.tasks lines (last_in entries) (number_in entries))
    → IsFilm view.search.film → All (IsEntry view.search) view.entries → total number_of view.entries ≡ length lines
    → ((set : ℕ) → lines_of set lines ≤ total (candidates_at view.search set) view.entries) → AreCountedBy (hand_of source told view None None) lines
counted_by source told view lines together law film each numbers sets =
    let by_entries = law view.search view.entries lines film each together.once numbers sets in
    subst (λ (last : ℕ → Option PathData). AreCounted (search_rules view.search) view.search.start (depth_of view.search) view.search.tasks lines last
    (λ part. (unwrap_or (record_at part view.entries) no_path_yet).number)) (λ i part. last_is (record_at part view.entries) i)
    (subst (λ (number : ℕ → ℕ). AreCounted (search_rules view.search) view.search.start (depth_of view.search) view.search.tasks lines (last_in view.entries) number)
    (λ i part. number_is (record_at part view.entries) i) by_entries)

module _ (source : Source) (told after : LeastView) (lines more : ViewData) (together : GoTogether source told lines) (settled : HasSettled told after.told after) (settles : Settles lines more) where
  pub settled_together : GoTogether source after more
  settled_together = record {
    film = ap (λ (v : LeastView). v.film) settled.only ∙ together.film ∙ ap (λ (search : SearchData). search.film) (sym settles.stays.search);
    start = ap (λ (v : LeastView). v.start) settled.only ∙ together.start ∙ ap (λ (search : SearchData). search.start) (sym settles.stays.search);
    parts = ap (λ (v : LeastView). v.parts) settled.only ∙ together.parts ∙ ap (λ (search : SearchData). suc (length search.tasks)) (sym settles.stays.search);
    no_dearer = subst (λ (start : ℕ). after.told ≤ start) (sym (ap (λ (v : LeastView). v.start) settled.only)) settled.tells.no_dearer;
    begun = λ part. (
        let entries : count part (parts_of more.entries) ≡ count part (parts_of lines.entries) = ap (λ (entries : List EntryData). count part (parts_of entries)) settles.entries in
        let claims : count part after.claims ≡ count part told.claims = ap (λ (v : LeastView). count part v.claims) settled.only in
        let begun : count part (parts_of lines.entries) ≡ count part told.claims + count part (taken_by source) = together.begun part in
        omega (arith, entries, claims, begun));
    once = λ part. subst (λ (entries : List EntryData). count part (parts_of entries) ≤ 1) (sym settles.entries) (together.once part);
    given = subst (λ (v : LeastView). IsSource source v.parts v.claims) (sym settled.only) together.given;
  }

  pub goes_on : GoesOn (hand_of source told lines None None) (hand_of source after more None None)
  goes_on = record {
    search = settles.stays.search;
    told = settled.tells.no_more;
    grow = settles.stays.grow;
    records = λ part entry is. ap (record_at part) settles.entries ∙ is;
  }

  -- where no part is left, they have a record of each part
  pub has_all : Bears full_weight source → NoneLeft source told.ended → (told.ended ≡ true → (part : ℕ) → count part told.claims ≡ once_below part told.parts)
      → HasAll (hand_of source after more None None)
  has_all bears left each part within =
      let within_parts : part < told.parts
      = subst (λ (n : ℕ). part < n) (sym (together.parts ∙ ap (λ (search : SearchData). suc (length search.tasks)) (sym settles.stays.search))) within in
      let one : once_below part told.parts ≡ 1 = cond-true (Rattle.std.proofs.Common.ltb part told.parts) 1 0 (lt-ltb part told.parts within_parts) in
      let entries : count part (parts_of more.entries) ≡ count part (parts_of lines.entries) = ap (λ (entries : List EntryData). count part (parts_of entries)) settles.entries in
      let begun : count part (parts_of lines.entries) ≡ count part told.claims + count part (taken_by source) = together.begun part in
      some_at part more.entries (omega (arith, entries, begun, all_given source told.parts told.claims told.ended together.given bears left each part, one))

  pub counts : ((search : SearchData) (entries : List EntryData) (lines : List Line) → IsFilm search.film → All (IsEntry search) entries → AreApart entries
      → total number_of entries ≡ length lines → ((set : ℕ) → lines_of set lines ≤ total (candidates_at search set) entries)
      → AreCounted (search_rules search) search.start (depth_of search) search.tasks lines (last_in entries) (number_in entries))
      → IsFilm more.search.film → All (IsEntry more.search) more.entries → OwnsAll more → AreCountedBy (hand_of source after more None None) more.lines
  counts law film each owns = counted_by source after more more.lines settled_together law film each owns.numbers owns.sets
