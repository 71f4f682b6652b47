-- What is found in a bucket after a put.
use Rattle.std.proofs.Common.{◌≡◌, ◌≢◌, ◌↔◌, ℕ, zero, suc, ◌+◌, ◌<◌, ◌≤◌, ◌==◌, ◌⊎◌, cond, List, [], ◌∷◌}
use Rattle.std.proofs.Common.{◌++◌, length, length-set, slice_index_or, slice_set, Option, Some, None, Contains, ap, sym, refl, inl, inr, ◌∙◌, arith}
use Rattle.std.specs.List.{remove, slice_get}
use Rattle.std.specs.Option.{option_or}
use Rattle.std.proofs.lemmas.Bool.{cases_eq, cases_lt, cond-false, ne_eqb}
use Rattle.std.proofs.lemmas.List.{get_or-set_other, get_or-set_same, get_or_push, length_push}
use Rattle.std.proofs.lemmas.List.Edits.{get_or-remove_above, get_or-remove_below, length-remove}
use Rattle.std.proofs.lemmas.List.Elements.{All-contains, All-contains_itself, All-weaker}
use Rattle.std.proofs.lemmas.List.Folds.{find-append, find_past}
use Rattle.std.proofs.lemmas.Option.{get_or_from_slice_get, slice_get_within, slice_get-get_or}
use Rattle.strip_film.specs.declared.shared.Known.{Known}
use Rattle.strip_film.specs.declared.shared.Noted.{Noted}
use Rattle.strip_film.specs.declared.shared.Noted.TheVariants.{Fresh, Raised, Stays, Evicted}
use Rattle.strip_table.specs.Home.{bucket_of}
use Rattle.strip_table.specs.Bucket.{Puts, find_in}
use Rattle.strip_table.specs.Stripe.{bucket_at, home}
use Rattle.strip_table.proofs.Found.{Lacks, Once, found_from_place, found_is, none_from_lacks}
use Rattle.strip_table.proofs.PutLeaves.{all_after, once_after}

-- what is found are the entries
pub found_iff : (bucket : List Known) (set : ℕ) (entry : Known) → Once bucket → (find_in bucket set ≡ Some entry) ↔ (Contains bucket entry × (entry.set ≡ set))
found_iff bucket set entry once = (there, here)
  where
    there : find_in bucket set ≡ Some entry → Contains bucket entry × (entry.set ≡ set)
    there found =
        let is = found_is bucket set entry found in
        ((is.1.0, slice_get_within bucket is.1.0 entry is.1.1, get_or_from_slice_get bucket is.1.0 entry entry is.1.1), is.0)

    here : Contains bucket entry × (entry.set ≡ set) → find_in bucket set ≡ Some entry
    here is =
        ap (find_in bucket) (sym is.1)
        ∙ found_from_place bucket is.0.0 entry once (slice_get-get_or bucket is.0.0 entry is.0.1 ∙ ap Some is.0.2)

-- an entry after a put was there before, or is the new line
pub entries_after : (bucket after : List Known) (known entry : Known) (answer : Noted) → Puts bucket known after answer → Contains after entry
    → (entry ≡ known) ⊎ Contains bucket entry
entries_after bucket after known entry answer puts stands =
    All-contains (λ (e : Known). (e ≡ known) ⊎ Contains bucket e) after entry
    (all_after (λ (e : Known). (e ≡ known) ⊎ Contains bucket e) bucket known after answer puts (inl refl)
    (All-weaker (Contains bucket) (λ (e : Known). (e ≡ known) ⊎ Contains bucket e) (λ e is. inr is) bucket (All-contains_itself bucket)))
    stands

-- where the new line stands
set_there : (bucket : List Known) (place : ℕ) (known : Known) → place < length bucket → slice_get (slice_set bucket place known) place ≡ Some known
set_there bucket place known within =
    slice_get-get_or (slice_set bucket place known) place known (omega (arith, length-set bucket place known)) ∙ ap Some (get_or-set_same bucket place known known within)

pushed_there : (bucket : List Known) (known : Known) → slice_get (bucket ++ known ∷ []) (length bucket) ≡ Some known
pushed_there bucket known =
    slice_get-get_or (bucket ++ known ∷ []) (length bucket) known (omega (arith, length_push bucket known)) ∙ ap Some (get_or_push bucket known known (length bucket) refl)

-- a line that stands in a bucket after a put is what is found of its set
there_after : (bucket after : List Known) (place : ℕ) (known : Known) (answer : Noted) → Once bucket → Puts bucket known after answer
    → slice_get after place ≡ Some known
    → (entry : Known) × (find_in after known.set ≡ Some entry) × (known.bound ≤ entry.bound) × ((entry ≡ known) ⊎ (find_in bucket known.set ≡ Some entry))
there_after bucket after place known answer once puts there =
    (known, found_from_place after place known (once_after bucket known after answer once puts) there, omega arith, inl refl)

pub known_after : (bucket after : List Known) (known : Known) (answer : Noted) → Once bucket → Puts bucket known after answer
    → (entry : Known) × (find_in after known.set ≡ Some entry) × (known.bound ≤ entry.bound) × ((entry ≡ known) ⊎ (find_in bucket known.set ≡ Some entry))
known_after bucket after known (Stays bound) once puts =
    (puts.entry, ap (λ (b : List Known). find_in b known.set) puts.same ∙ puts.found, puts.as_great, inr puts.found)
known_after bucket after known Raised once puts =
    let there = set_there bucket puts.place known (slice_get_within bucket puts.place puts.entry puts.stands) in
    there_after bucket after puts.place known Raised once puts (ap (λ (b : List Known). slice_get b puts.place) puts.written ∙ there)
known_after bucket after known Fresh once puts =
    there_after bucket after (length bucket) known Fresh once puts
    (ap (λ (b : List Known). slice_get b (length bucket)) puts.added ∙ pushed_there bucket known)
known_after bucket after known (Evicted set bound) once puts =
    let left = remove bucket puts.place in
    there_after bucket after (length left) known (Evicted set bound) once puts
    (ap (λ (b : List Known). slice_get b (length left)) puts.replaced ∙ pushed_there left known)

-- a further entry of another set changes nothing for a set
find_push : (bucket : List Known) (known : Known) (set : ℕ) → known.set ≢ set → find_in (bucket ++ known ∷ []) set ≡ find_in bucket set
find_push bucket known set apart =
    find-append (λ entry. entry.set == set) bucket (known ∷ [])
    ∙ ap (option_or (find_in bucket set)) (cond-false (known.set == set) (Some known) None (ne_eqb known.set set apart)) ∙ or_none (find_in bucket set)
  where
    or_none : (o : Option Known) → option_or o None ≡ o
    or_none None = refl
    or_none (Some entry) = refl

-- nor does an entry of another set that is taken out
find_remove : (bucket : List Known) (place : ℕ) (left : Known) (set : ℕ) → slice_get bucket place ≡ Some left → left.set ≢ set
    → find_in (remove bucket place) set ≡ find_in bucket set
find_remove [] place left set at apart = absurd (cc)
find_remove (x ∷ bucket) zero left set at apart =
    let same : x.set ≢ set = λ e. apart (ap (λ (o : Option Known). set_or o) (sym at) ∙ e) in
    sym (cond-false (x.set == set) (Some x) (find_in bucket set) (ne_eqb x.set set same))
  where
    set_or : Option Known → ℕ
    set_or None = 0
    set_or (Some entry) = entry.set
find_remove (x ∷ bucket) (suc place) left set at apart =
    ap (λ (o : Option Known). cond (x.set == set) (Some x) o) (find_remove bucket place left set at apart)

-- no other entry has the set of one that is taken out
lacks_removed : (bucket : List Known) (place : ℕ) (left : Known) → Once bucket → slice_get bucket place ≡ Some left → Lacks (remove bucket place) left.set
lacks_removed bucket place left once at k d within =
    let stood = slice_get_within bucket place left at in
    let there : slice_index_or bucket place d ≡ left = get_or_from_slice_get bucket place left d at in
    elim (cases_lt k place) [
      | inl lt ↦ (
          let here = get_or-remove_below bucket place d k lt stood in
          λ same. once k place d lt stood (ap (λ (e : Known). e.set) (sym here) ∙ same ∙ ap (λ (e : Known). e.set) (sym there)))
      | inr le ↦ (
          let here = get_or-remove_above bucket place d k le stood in
          λ same. once place (k + 1) d (omega arith) (omega (arith, length-remove bucket place stood))
          (ap (λ (e : Known). e.set) there ∙ sym same ∙ ap (λ (e : Known). e.set) here))
    ]

pub others_after : (bucket after : List Known) (known : Known) (answer : Noted) (set : ℕ) → Once bucket → length bucket ≤ 4 → Puts bucket known after answer → set ≢ known.set
    → (find_in after set ≡ find_in bucket set)
    ⊎ ((length bucket ≡ 4) × (find_in after set ≡ None) × ((entry : Known) × (find_in bucket set ≡ Some entry) × (answer ≡ Evicted set entry.bound)))
others_after bucket after known (Stays bound) set once few puts apart = inl (ap (λ (b : List Known). find_in b set) puts.same)
others_after bucket after known Raised set once few puts apart =
    let old : slice_index_or bucket puts.place puts.entry ≡ puts.entry = get_or_from_slice_get bucket puts.place puts.entry puts.entry puts.stands in
    let of_known : (slice_index_or bucket puts.place puts.entry).set ≡ known.set = ap (λ (e : Known). e.set) old ∙ (found_is bucket known.set puts.entry puts.found).0 in
    inl (ap (λ (b : List Known). find_in b set) puts.written
    ∙ find_past (λ entry. entry.set == set) bucket puts.place known puts.entry (ne_eqb _ set (λ e. apart (sym e ∙ of_known))) (ne_eqb known.set set (λ e. apart (sym e))))
others_after bucket after known Fresh set once few puts apart =
    inl (ap (λ (b : List Known). find_in b set) puts.added ∙ find_push bucket known set (λ e. apart (sym e)))
others_after bucket after known (Evicted gone bound) set once few puts apart =
    let shown = ap (λ (b : List Known). find_in b set) puts.replaced in
    elim (cases_eq puts.left.set set) [
      | inl same ↦ (
          let lacks = lacks_removed bucket puts.place puts.left once puts.fewest.stands in
          let none = none_from_lacks (remove bucket puts.place) puts.left.set lacks in
          inr (
            omega (arith, puts.full),
            shown ∙ find_push (remove bucket puts.place) known set (λ e. apart (sym e)) ∙ ap (find_in (remove bucket puts.place)) (sym same) ∙ none,
            (
              puts.left,
              ap (find_in bucket) (sym same) ∙ found_from_place bucket puts.place puts.left once puts.fewest.stands,
              λ i. Evicted ((puts.told_set ∙ same) i) (puts.told_bound i),
            ),
          ))
      | inr other ↦ inl (shown ∙ find_push (remove bucket puts.place) known set (λ e. apart (sym e))
          ∙ find_remove bucket puts.place puts.left set puts.fewest.stands other)
    ]

-- and in other buckets
pub other_homes : (stripe new : List (List Known)) (known set : ℕ) → new ≡ slice_set stripe (bucket_of known (length stripe)) (home new known)
    → bucket_of set (length stripe) ≢ bucket_of known (length stripe) → home new set ≡ home stripe set
other_homes stripe new known set is apart =
    let long : length new ≡ length stripe = ap length is ∙ length-set stripe (bucket_of known (length stripe)) (home new known) in
    (λ i. bucket_at (is i) (bucket_of set (long i))) ∙ get_or-set_other stripe (bucket_of known (length stripe)) (bucket_of set (length stripe)) (home new known) [] apart
