-- Lines that are all of some entries, counted by parts.
use Rattle.std.proofs.Common.{◌≡◌, ℕ, suc, ◌+◌, ◌<◌, ◌≤◌, Bool, false, cond, eqb, Option, Some, None, List, [], ◌∷◌, All, length, refl, ap, ◌∙◌, arith, inl, inr}
use Rattle.std.proofs.lemmas.Bool.{cases_Bool, eq-eqb, ne_eqb}
use Rattle.std.proofs.lemmas.List.Elements.{All-head, All-tail}
use Rattle.strip_mask.specs.Sums.{sum_below}
use Rattle.strip_mask.proofs.Lists.{count, count-cons, count_here}
use Rattle.strip_mask.proofs.Sums.{sum_below-none, sum_below-point}
use Rattle.strip_film.specs.declared.shared.Line.{Line}
use Rattle.strip_film.specs.Film.{IsFilm}
use Rattle.strip_lines.specs.Parts.{AreCounted, IsShare, inside}
use Rattle.strip_lines.specs.Paths.{is_candidate, leaving, number_up_to}
use Rattle.strip_lines.proofs.Enumerated.{counted_none}
use Rattle.strip_hand.specs.Hand.{IsRecord, RecordData}
use Rattle.strip_hand.specs.Search.{SearchData, depth_of, search_rules}
use Rattle.strip_book.specs.View.{AreApart, EntryData, last_in, last_of, number_in, number_of_record, parts_of, record_at}
use Rattle.strip_book.specs.Rule.{IsEntry, candidates_at, lines_of, number_of, total}
use Rattle.strip_book.proofs.Entries.{each_at, entry_of}

-- a part that no entry has
pub none_at : (part : ℕ) (entries : List EntryData) → count part (parts_of entries) ≡ 0 → record_at part entries ≡ None
none_at part [] none = refl
none_at part (entry ∷ entries) none =
    let more = count-cons part entry.part (parts_of entries) in
    elim (cases_Bool (eqb entry.part part)) [
      | inl here ↦ absurd (let one : cond {A = ℕ} (eqb entry.part part) 1 0 ≡ 1 = ap (λ (b : Bool). cond {A = ℕ} b 1 0) here in omega (arith, more, one, none))
      | inr apart ↦ ap (λ (b : Bool). cond b (Some (record { last = entry.last; number = entry.number })) (record_at part entries)) apart
          ∙ none_at part entries (omega (arith, more, none))
    ]

-- a sum over parts of what their records give is a total over the entries
module _ (f : EntryData → ℕ) (of : ℕ → Option RecordData → ℕ) (nothing : (part : ℕ) → of part None ≡ 0)
    (one : (part : ℕ) (kept : RecordData) → of part (Some kept) ≡ f (entry_of part kept)) (n : ℕ) where
  pub by_parts : (entries : List EntryData) → All (λ entry. entry.part < n) entries → AreApart entries → sum_below n (λ part. of part (record_at part entries)) ≡ total f entries
  by_parts [] below apart = sum_below-none n (λ part. of part None) (λ part lt. nothing part)
  by_parts (entry ∷ entries) below apart =
      let kept : RecordData = record { last = entry.last; number = entry.number } in
      let rest : sum_below n (λ part. of part (record_at part entries)) ≡ total f entries
      = by_parts entries (All-tail (λ e. e.part < n) entry entries below)
      (λ part. (let more = count-cons part entry.part (parts_of entries) in let most = apart part in omega (arith, more, most))) in
      let none : record_at entry.part entries ≡ None
      = none_at entry.part entries (let here = count_here entry.part (parts_of entries) in let most = apart entry.part in omega (arith, here, most)) in
      let first : record_at entry.part (entry ∷ entries) ≡ Some kept
      = ap (λ (b : Bool). cond b (Some kept) (record_at entry.part entries)) (eq-eqb entry.part entry.part refl) in
      let point : sum_below n (λ part. of part (record_at part (entry ∷ entries))) + of entry.part (record_at entry.part entries)
      ≡ sum_below n (λ part. of part (record_at part entries)) + of entry.part (record_at entry.part (entry ∷ entries))
      = sum_below-point n entry.part (λ part. of part (record_at part (entry ∷ entries))) (λ part. of part (record_at part entries))
      (All-head (λ e. e.part < n) entry entries below)
      (λ other less far. ap (λ (b : Bool). of other (cond b (Some kept) (record_at other entries))) (ne_eqb entry.part other (λ e. far e))) in
      let was : of entry.part (record_at entry.part entries) ≡ 0 = ap (of entry.part) none ∙ nothing entry.part in
      let new : of entry.part (record_at entry.part (entry ∷ entries)) ≡ f entry = ap (of entry.part) first ∙ one entry.part kept in
      omega (arith, point, rest, was, new)

pub record_is : (search : SearchData) (entries : List EntryData) (part : ℕ) (kept : RecordData) → All (IsEntry search) entries → record_at part entries ≡ Some kept
    → IsRecord search part kept
record_is search entries part kept each is = each_at part (IsEntry search) entries kept is each

share_is : (search : SearchData) (entries : List EntryData) (part : ℕ) → All (IsEntry search) entries → (kept : Option RecordData) → record_at part entries ≡ kept
    → IsShare (search_rules search) search.start (depth_of search) search.tasks part (last_of kept) (number_of_record kept)
share_is search entries part each None is = omega arith
share_is search entries part each (Some kept) is = (record_is search entries part kept each is).share

module _ (search : SearchData) (film : IsFilm search.film) (entries : List EntryData) (lines : List Line) (each : All (IsEntry search) entries) (apart : AreApart entries)
    (numbers : total number_of entries ≡ length lines) (sets : (q : ℕ) → lines_of q lines ≤ total (candidates_at search q) entries) where
  below : All (λ entry. entry.part < suc (length search.tasks)) entries
  below k d lt = (each k d lt).known

  -- the candidates of a set in a part up to the last path of a record
  abbrev up_to_last : ℕ → ℕ → Option RecordData → ℕ
  up_to_last q part kept =
      number_up_to (search_rules search) (last_of kept) (inside (depth_of search) search.tasks part (leaving q (is_candidate (search_rules search) search.start)))

  pub counted : AreCounted (search_rules search) search.start (depth_of search) search.tasks lines (last_in entries) (number_in entries)
  counted = record {
    shares = λ part lt. share_is search entries part each (record_at part entries) refl;
    total = by_parts number_of (λ part kept. number_of_record kept) (λ part. refl) (λ part kept. refl) (suc (length search.tasks)) entries below apart ∙ numbers;
    sets = λ q. (
        let all : sum_below (suc (length search.tasks)) (λ part. up_to_last q part (record_at part entries)) ≡ total (candidates_at search q) entries
        = by_parts (candidates_at search q) (up_to_last q) (λ part. counted_none search.film film (λ path. false) (λ path unfinished. refl)) (λ part kept. refl)
        (suc (length search.tasks)) entries below apart in
        omega (arith, sets q, all));
  }
