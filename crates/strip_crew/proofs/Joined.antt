-- Passes that are split and joined.
use Rattle.std.proofs.Common.{◌≡◌, ℕ, suc, ◌+◌, ◌≤◌, ◌⊎◌, Bool, true, false, cond, eqb, min, Option, Some, None, List, [], ◌∷◌, ◌++◌, inl, inr, refl, sym, ap, ◌∙◌, subst, arith, length}
use Rattle.std.specs.Prelude.{IsSome}
use Rattle.std.proofs.lemmas.Bool.{cases_Bool, cases_lt}
use Rattle.std.proofs.lemmas.List.{map-append}
use Rattle.strip_mask.proofs.Lists.{count, count-append}
use Rattle.strip_hand.specs.Hand.{RecordData}
use Rattle.strip_hand.specs.Search.{SearchData}
use Rattle.strip_least.specs.declared.view.View.{View as LeastView}
use Rattle.strip_least.specs.Steps.{AreOnce, joined as least_joined, lightened as least_lightened, split_off as least_split_off}
use Rattle.strip_book.specs.View.{EntryData, ViewData, parts_of, record_at}
use Rattle.strip_book.specs.Pass.{Joins}
use Rattle.strip_book.specs.Steps.{lightened, split_off}
use Rattle.strip_worker.specs.Team.{TakesOver}
use Rattle.strip_crew.specs.declared.source.Source.{Source}
use Rattle.strip_crew.specs.Source.{IsSource, taken_by}
use Rattle.strip_crew.specs.Hub.{GoTogether, hand_of}
use Rattle.strip_crew.specs.Sources.{JoinsSource, Splits}

module _ (source part after : Source) (told : LeastView) (lines : ViewData) (together : GoTogether source told lines) (splits : Splits source part after) where
  -- with less weight, passes go together as before
  pub light_together : GoTogether after (least_lightened told) (lightened lines)
  light_together = record {
    film = together.film;
    start = together.start;
    parts = together.parts;
    no_dearer = together.no_dearer;
    begun = λ number. omega (arith, together.begun number, splits.same number);
    once = together.once;
    given = splits.given told.parts told.claims together.given;
  }

  -- and so do those that were split off, which have nothing
  pub fresh_together : GoTogether part (least_split_off told) (split_off lines)
  fresh_together = record {
    film = together.film;
    start = together.start;
    parts = together.parts;
    no_dearer = together.no_dearer;
    begun = λ number. omega (arith, splits.unused number);
    once = λ number. omega arith;
    given = splits.fresh told.parts told.claims together.given;
  }

-- ---- the record of a part among two lists of entries

abbrev record_of : EntryData → RecordData
record_of entry = record { last = entry.last; number = entry.number }

record_here : (part : ℕ) (entry : EntryData) (entries : List EntryData) → eqb entry.part part ≡ true → record_at part (entry ∷ entries) ≡ Some (record_of entry)
record_here part entry entries here = ap (λ (b : Bool). cond b (Some (record_of entry)) (record_at part entries)) here

record_behind : (part : ℕ) (entry : EntryData) (entries : List EntryData) → eqb entry.part part ≡ false → record_at part (entry ∷ entries) ≡ record_at part entries
record_behind part entry entries apart = ap (λ (b : Bool). cond b (Some (record_of entry)) (record_at part entries)) apart

-- what stands in the first stands in both
pub at_first : (part : ℕ) (first second : List EntryData) (kept : RecordData) → record_at part first ≡ Some kept → record_at part (first ++ second) ≡ Some kept
at_first part [] second kept is = absurd (let never : None ≡ Some kept = is in cc)
at_first part (entry ∷ first) second kept is = elim (cases_Bool (eqb entry.part part)) [
  | inl here ↦ record_here part entry (first ++ second) here ∙ sym (record_here part entry first here) ∙ is
  | inr apart ↦ record_behind part entry (first ++ second) apart ∙ at_first part first second kept (sym (record_behind part entry first apart) ∙ is)
]

-- what doesn't stand in the first stands in both as in the second
pub at_second : (part : ℕ) (first second : List EntryData) → record_at part first ≡ None → record_at part (first ++ second) ≡ record_at part second
at_second part [] second none = refl
at_second part (entry ∷ first) second none = elim (cases_Bool (eqb entry.part part)) [
  | inl here ↦ absurd (let never : Some (record_of entry) ≡ None = sym (record_here part entry first here) ∙ none in cc)
  | inr apart ↦ record_behind part entry (first ++ second) apart ∙ at_second part first second (sym (record_behind part entry first apart) ∙ none)
]

-- what stands in both stands in one of them
in_either : (part : ℕ) (first second : List EntryData) (found : Option RecordData) → record_at part first ≡ found → IsSome (record_at part (first ++ second))
    → IsSome (record_at part first) ⊎ IsSome (record_at part second)
in_either part first second None is some_ = inr (subst IsSome (at_second part first second is) some_)
in_either part first second (Some kept) is some_ = inl (subst IsSome (sym is) refl)

-- ---- one takes over from two

module _ (absent : (entries : List EntryData) (part : ℕ) → count part (parts_of entries) ≡ 0 → record_at part entries ≡ None)
    (source other_source both_source : Source) (told other_told both_told : LeastView) (lines other both : ViewData)
    (together : GoTogether source told lines) (other_together : GoTogether other_source other_told other) (joins : Joins lines other both)
    (told_is : both_told ≡ least_joined told other_told) (once : AreOnce both_told.claims) (sources : JoinsSource source other_source both_source)
    (same : lines.search ≡ other.search) where
  other_given : IsSource other_source told.parts other_told.claims
  other_given =
      subst (λ (parts : ℕ). IsSource other_source parts other_told.claims)
      (other_together.parts ∙ ap (λ (search : SearchData). suc (length search.tasks)) (sym same) ∙ sym together.parts) other_together.given

  all_begun : (part : ℕ) → count part (parts_of both.entries) ≡ count part (parts_of lines.entries) + count part (parts_of other.entries)
  all_begun part =
      ap (λ (entries : List EntryData). count part (parts_of entries)) joins.entries
      ∙ ap (count part) (map-append (λ (entry : EntryData). entry.part) lines.entries other.entries)
      ∙ count-append part (parts_of lines.entries) (parts_of other.entries)

  all_claims : (part : ℕ) → count part both_told.claims ≡ count part told.claims + count part other_told.claims
  all_claims part = ap (λ (v : LeastView). count part v.claims) told_is ∙ count-append part told.claims other_told.claims

  all_once : (part : ℕ) → count part both_told.claims + count part (taken_by both_source) ≤ 1
  all_once part =
      let claims : both_told.claims ≡ told.claims ++ other_told.claims = ap (λ (v : LeastView). v.claims) told_is in
      subst (λ (numbers : List ℕ). count part numbers + count part (taken_by both_source) ≤ 1) (sym claims)
      (sources.once told.parts told.claims other_told.claims together.given other_given
      (λ number. subst (λ (numbers : List ℕ). count number numbers ≤ 1) claims (once number)) part)

  both_once : (part : ℕ) → count part (parts_of lines.entries) + count part (parts_of other.entries) ≤ 1
  both_once part =
      let one : count part (parts_of lines.entries) ≡ count part told.claims + count part (taken_by source) = together.begun part in
      let two : count part (parts_of other.entries) ≡ count part other_told.claims + count part (taken_by other_source) = other_together.begun part in
      let taken : count part (taken_by both_source) ≡ count part (taken_by source) + count part (taken_by other_source) = sources.taken part in
      omega (arith, one, two, taken, all_once part, all_claims part)

  pub joined_together : GoTogether both_source both_told both
  joined_together = record {
    film = ap (λ (v : LeastView). v.film) told_is ∙ together.film ∙ ap (λ (search : SearchData). search.film) (sym joins.search);
    start = ap (λ (v : LeastView). v.start) told_is ∙ together.start ∙ ap (λ (search : SearchData). search.start) (sym joins.search);
    parts = ap (λ (v : LeastView). v.parts) told_is ∙ together.parts ∙ ap (λ (search : SearchData). suc (length search.tasks)) (sym joins.search);
    no_dearer = subst (λ (v : LeastView). v.told ≤ v.start) (sym told_is) (omega (arith, together.no_dearer));
    begun = λ part. (
        let one : count part (parts_of lines.entries) ≡ count part told.claims + count part (taken_by source) = together.begun part in
        let two : count part (parts_of other.entries) ≡ count part other_told.claims + count part (taken_by other_source) = other_together.begun part in
        let taken : count part (taken_by both_source) ≡ count part (taken_by source) + count part (taken_by other_source) = sources.taken part in
        omega (arith, one, two, taken, all_claims part, all_begun part));
    once = λ part. omega (arith, all_begun part, both_once part);
    given = subst (λ (parts : ℕ). IsSource both_source parts both_told.claims) (sym (ap (λ (v : LeastView). v.parts) told_is))
        (subst (λ (claims : List ℕ). IsSource both_source told.parts claims) (sym (ap (λ (v : LeastView). v.claims) told_is))
        (sources.given told.parts told.claims other_told.claims together.given other_given));
  }

  -- a part that the second has a record of has none in the first
  none_in_first : (part : ℕ) (kept : RecordData) → record_at part other.entries ≡ Some kept → record_at part lines.entries ≡ None
  none_in_first part kept is = elim (cases_lt 0 (count part (parts_of other.entries))) [
    | inl some_ ↦ absent lines.entries part (omega (arith, some_, both_once part))
    | inr none ↦ absurd (let never : None ≡ Some kept = sym (absent other.entries part (omega (arith, none))) ∙ is in cc)
  ]

  pub takes_over : length both.lines ≤ both.search.nodes
      → TakesOver (hand_of source told lines None None) (hand_of other_source other_told other None None) (hand_of both_source both_told both None None)
  takes_over few = record {
    first = record {
      search = joins.search;
      told = (let least : both_told.told ≡ min told.told other_told.told = ap (λ (v : LeastView). v.told) told_is in omega (arith, least));
      grow = joins.grow;
      records = λ part entry is. ap (record_at part) joins.entries ∙ at_first part lines.entries other.entries entry is;
    };
    second = record {
      search = joins.search ∙ same;
      told = (let least : both_told.told ≡ min told.told other_told.told = ap (λ (v : LeastView). v.told) told_is in omega (arith, least));
      grow = joins.others;
      records = λ part entry is. ap (record_at part) joins.entries ∙ at_second part lines.entries other.entries (none_in_first part entry is) ∙ is;
    };
    few = few;
    records = λ part some_.
        in_either part lines.entries other.entries (record_at part lines.entries) refl (subst IsSome (ap (record_at part) joins.entries) some_);
  }
