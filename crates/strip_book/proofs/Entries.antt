-- Entries of parts, and what changes where a path is enlisted or a part is begun.
use Rattle.std.proofs.Common.{◌≡◌, ◌≢◌, ℕ, ◌+◌, Bool, true, false, cond, eqb, Option, Some, None, List, [], ◌∷◌, ◌++◌, All, inl, inr, refl, sym, ap, ◌∙◌, subst, arith}
use Rattle.std.proofs.lemmas.Bool.{cases_Bool, eq-eqb, eqb-true, ne_eqb}
use Rattle.std.proofs.lemmas.List.Elements.{All-cons, All-head, All-tail}
use Rattle.strip_film.specs.Path.{PathData}
use Rattle.strip_hand.specs.Hand.{RecordData, no_path_yet}
use Rattle.strip_book.specs.View.{EntryData, enlisted, new_entry, parts_of, record_at, with_path}
use Rattle.strip_book.specs.Rule.{total}

-- what holds in both cases of a test holds
by_test : (b : Bool) (P : Bool → Type 0) → (b ≡ true → P true) → (b ≡ false → P false) → P b
by_test true P first second = first refl
by_test false P first second = second refl

-- the entry of a part with a record
abbrev pub entry_of : ℕ → RecordData → EntryData
entry_of part kept = record { part = part; last = kept.last; number = kept.number }

abbrev pub longer : RecordData → PathData → RecordData
longer kept path = record { last = Some path; number = kept.number + 1 }

-- an entry whose part and record are these
is_entry_of : (part : ℕ) (entry : EntryData) (kept : RecordData) → eqb entry.part part ≡ true → Some (record { last = entry.last; number = entry.number }) ≡ Some kept
    → entry ≡ entry_of part kept
is_entry_of part entry kept here is =
    let number : entry.part ≡ part = eqb-true entry.part part here in
    let same : record { last = entry.last; number = entry.number } ≡ kept = cc in
    λ i. record { part = number i; last = (same i).last; number = (same i).number }

-- some entry of a part has its record
pub each_at : (part : ℕ) (P : EntryData → Type 0) (entries : List EntryData) (kept : RecordData) → record_at part entries ≡ Some kept → All P entries → P (entry_of part kept)
each_at part P [] kept is each = absurd (let never : None ≡ Some kept = is in cc)
each_at part P (entry ∷ entries) kept is each =
    by_test (eqb entry.part part)
    (λ b. cond b (Some (record { last = entry.last; number = entry.number })) (record_at part entries) ≡ Some kept → P (entry_of part kept))
    (λ here same. subst P (is_entry_of part entry kept here same) (All-head P entry entries each))
    (λ apart same. each_at part P entries kept same (All-tail P entry entries each))
    is

module _ (part : ℕ) (path : PathData) where
  -- the first entry of the part is another one then, so that a total changes by what it adds
  pub total-enlisted : (f : EntryData → ℕ) (entries : List EntryData) (kept : RecordData) → record_at part entries ≡ Some kept
      → total f (enlisted part path entries) + f (entry_of part kept) ≡ total f entries + f (entry_of part (longer kept path))
  total-enlisted f [] kept is = absurd (let never : None ≡ Some kept = is in cc)
  total-enlisted f (entry ∷ entries) kept is =
      by_test (eqb entry.part part)
      (λ b. cond b (Some (record { last = entry.last; number = entry.number })) (record_at part entries) ≡ Some kept
      → total f (cond b (with_path entry path ∷ entries) (entry ∷ enlisted part path entries)) + f (entry_of part kept) ≡ f entry + total f entries + f (entry_of part (longer kept path)))
      (λ here same. (
      let one : entry ≡ entry_of part kept = is_entry_of part entry kept here same in
      let was : f entry ≡ f (entry_of part kept) = ap f one in
      let new : f (with_path entry path) ≡ f (entry_of part (longer kept path)) = ap (λ (e : EntryData). f (with_path e path)) one in
      omega (arith, was, new)))
      (λ apart same. (let rest = total-enlisted f entries kept same in omega (arith, rest)))
      is

  pub each-enlisted : (P : EntryData → Type 0) (entries : List EntryData) (kept : RecordData) → record_at part entries ≡ Some kept → All P entries
      → P (entry_of part (longer kept path)) → All P (enlisted part path entries)
  each-enlisted P [] kept is each new = each
  each-enlisted P (entry ∷ entries) kept is each new =
      by_test (eqb entry.part part)
      (λ b. cond b (Some (record { last = entry.last; number = entry.number })) (record_at part entries) ≡ Some kept
      → All P (cond b (with_path entry path ∷ entries) (entry ∷ enlisted part path entries)))
      (λ here same. (
      let one : entry ≡ entry_of part kept = is_entry_of part entry kept here same in
      All-cons P (with_path entry path) entries (subst P (sym (ap (λ (e : EntryData). with_path e path) one)) new) (All-tail P entry entries each)))
      (λ apart same. All-cons P entry (enlisted part path entries) (All-head P entry entries each) (each-enlisted P entries kept same (All-tail P entry entries each) new))
      is

  pub enlisted-here : (entries : List EntryData) (kept : RecordData) → record_at part entries ≡ Some kept
      → record_at part (enlisted part path entries) ≡ Some (longer kept path)
  enlisted-here [] kept is = absurd (let never : None ≡ Some kept = is in cc)
  enlisted-here (entry ∷ entries) kept is = elim (cases_Bool (eqb entry.part part)) [
    | inl here ↦ (
        let same : Some (record { last = entry.last; number = entry.number }) ≡ Some kept
        = sym (ap (λ (b : Bool). cond b (Some (record { last = entry.last; number = entry.number })) (record_at part entries)) here) ∙ is in
        let one : entry ≡ entry_of part kept = is_entry_of part entry kept here same in
        ap (λ (b : Bool). record_at part (cond b (with_path entry path ∷ entries) (entry ∷ enlisted part path entries))) here
        ∙ ap (λ (b : Bool). cond b (Some (record { last = Some path; number = entry.number + 1 })) (record_at part entries)) here
        ∙ ap (λ (e : EntryData). Some (record { last = Some path; number = e.number + 1 })) one)
    | inr apart ↦ (
        let same : record_at part entries ≡ Some kept
        = sym (ap (λ (b : Bool). cond b (Some (record { last = entry.last; number = entry.number })) (record_at part entries)) apart) ∙ is in
        ap (λ (b : Bool). record_at part (cond b (with_path entry path ∷ entries) (entry ∷ enlisted part path entries))) apart
        ∙ ap (λ (b : Bool). cond b (Some (record { last = entry.last; number = entry.number })) (record_at part (enlisted part path entries))) apart
        ∙ enlisted-here entries kept same)
  ]

  pub enlisted-there : (other : ℕ) (entries : List EntryData) → other ≢ part → record_at other (enlisted part path entries) ≡ record_at other entries
  enlisted-there other [] far = refl
  enlisted-there other (entry ∷ entries) far = elim (cases_Bool (eqb entry.part part)) [
    | inl here ↦ (
        let fails : eqb entry.part other ≡ false = ne_eqb entry.part other (λ same. far (sym same ∙ eqb-true entry.part part here)) in
        ap (λ (b : Bool). record_at other (cond b (with_path entry path ∷ entries) (entry ∷ enlisted part path entries))) here
        ∙ ap (λ (b : Bool). cond b (Some (record { last = Some path; number = entry.number + 1 })) (record_at other entries)) fails
        ∙ sym (ap (λ (b : Bool). cond b (Some (record { last = entry.last; number = entry.number })) (record_at other entries)) fails))
    | inr apart ↦
        ap (λ (b : Bool). record_at other (cond b (with_path entry path ∷ entries) (entry ∷ enlisted part path entries))) apart
        ∙ ap (λ (r : Option RecordData). cond (eqb entry.part other) (Some (record { last = entry.last; number = entry.number })) r) (enlisted-there other entries far)
  ]

  -- the parts stay in their order
  pub enlisted-parts : (entries : List EntryData) → parts_of (enlisted part path entries) ≡ parts_of entries
  enlisted-parts [] = refl
  enlisted-parts (entry ∷ entries) =
      by_test (eqb entry.part part)
      (λ b. parts_of (cond b (with_path entry path ∷ entries) (entry ∷ enlisted part path entries)) ≡ entry.part ∷ parts_of entries)
      (λ here. refl)
      (λ apart. ap (λ (parts : List ℕ). entry.part ∷ parts) (enlisted-parts entries))

-- ---- a part that is begun

module _ (part : ℕ) where
  pub begun-here : (entries : List EntryData) → record_at part entries ≡ None → record_at part (entries ++ new_entry part ∷ []) ≡ Some no_path_yet
  begun-here [] none = ap (λ (b : Bool). cond b (Some no_path_yet) None) (eq-eqb part part refl)
  begun-here (entry ∷ entries) none =
      by_test (eqb entry.part part)
      (λ b. cond b (Some (record { last = entry.last; number = entry.number })) (record_at part entries) ≡ None
      → cond b (Some (record { last = entry.last; number = entry.number })) (record_at part (entries ++ new_entry part ∷ [])) ≡ Some no_path_yet)
      (λ here same. absurd (let never : Some (record { last = entry.last; number = entry.number }) ≡ None = same in cc))
      (λ apart same. begun-here entries same)
      none

  pub begun-there : (other : ℕ) (entries : List EntryData) → other ≢ part → record_at other (entries ++ new_entry part ∷ []) ≡ record_at other entries
  begun-there other [] far = ap (λ (b : Bool). cond b (Some no_path_yet) None) (ne_eqb part other (λ same. far (sym same)))
  begun-there other (entry ∷ entries) far =
      ap (λ (r : Option RecordData). cond (eqb entry.part other) (Some (record { last = entry.last; number = entry.number })) r) (begun-there other entries far)
