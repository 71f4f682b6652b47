-- What a write at the places makes of a bucket.
use Rattle.std.proofs.Common.{◌≡◌, ℕ, zero, suc, ◌+◌, ◌<◌, ◌≤◌, ◌==◌, List, [], ◌∷◌, ◌++◌, length, take, slice_index, slice_set, Some, None, ap, sym, refl, ◌∙◌, arith}
use Rattle.std.specs.List.{position, remove, slice_get}
use Rattle.std.proofs.lemmas.List.{length_push, take_all, take_more_set}
use Rattle.std.proofs.lemmas.List.Edits.{length-remove}
use Rattle.std.proofs.lemmas.Option.{same_Some, slice_get_within}
use Rattle.strip_mask.specs.Set.{size}
use Rattle.strip_film.specs.declared.shared.Known.{Known}
use Rattle.strip_table.specs.Bucket.{IsAdded, IsEvicted, IsKept, IsRaised}
use Rattle.strip_table.specs.Shown.{entries_of}
use Rattle.strip_table.proofs.Places.{entry, found_at, length-entries_of, length-used, not_found, used_at}

-- a write within the first ones
take-set_within : {X : Type 0} (n : ℕ) (xs : List X) (i : ℕ) (y : X) → take n (slice_set xs i y) ≡ slice_set (take n xs) i y
take-set_within zero xs i y = refl
take-set_within (suc n) [] i y = refl
take-set_within (suc n) (x ∷ xs) zero y = refl
take-set_within {X} (suc n) (x ∷ xs) (suc i) y = ap (λ (more : List X). x ∷ more) (take-set_within n xs i y)

module _ (sets bounds lines : List ℕ) (eb : length bounds ≡ length sets) (el : length lines ≡ length sets) (known : Known) where
  pub made_kept : (count place : ℕ) → count ≤ length sets → position (λ other. other == known.set) (take count sets) ≡ Some place
      → known.bound ≤ slice_index bounds place
      → IsKept (take count (entries_of sets bounds lines)) known (take count (entries_of sets bounds lines)) (slice_index bounds place)
  made_kept count place few found great = record {
    entry = entry known.set (slice_index bounds place) (slice_index lines place);
    found = (found_at sets bounds lines count known.set place eb el few found).0;
    as_great = great;
    told = refl;
    same = refl;
  }

  pub made_raised : (count place : ℕ) (after : List Known) → count ≤ length sets → position (λ other. other == known.set) (take count sets) ≡ Some place
      → slice_index bounds place < known.bound → after ≡ slice_set (entries_of sets bounds lines) place known
      → IsRaised (take count (entries_of sets bounds lines)) known (take count after)
  made_raised count place after few found less written = record {
    entry = entry known.set (slice_index bounds place) (slice_index lines place);
    found = (found_at sets bounds lines count known.set place eb el few found).0;
    less = less;
    place = place;
    stands = (found_at sets bounds lines count known.set place eb el few found).1;
    written = ap (take count) written ∙ take-set_within count (entries_of sets bounds lines) place known;
  }

  pub made_added : (count : ℕ) (after : List Known) → length sets ≡ 4 → count < 4 → position (λ other. other == known.set) (take count sets) ≡ None
      → after ≡ slice_set (entries_of sets bounds lines) count known
      → IsAdded (take count (entries_of sets bounds lines)) known (take (count + 1) after)
  made_added count after four room none written = record {
    none = not_found sets bounds lines count known.set none;
    room = omega (arith, length-used sets bounds lines count eb el (omega arith));
    added = ap (take (count + 1)) written ∙ take_more_set (entries_of sets bounds lines) count known (omega (arith, length-entries_of sets bounds lines eb el));
  }

  -- which entry stands at a place
  which : (count k : ℕ) (other : Known) → count ≤ length sets → slice_get (take count (entries_of sets bounds lines)) k ≡ Some other
      → (k < count) × (other.set ≡ slice_index sets k)
  which count k other few at =
      let within : k < count = omega (arith, slice_get_within (take count (entries_of sets bounds lines)) k other at, length-used sets bounds lines count eb el few) in
      let is : entry (slice_index sets k) (slice_index bounds k) (slice_index lines k) ≡ other =
      same_Some _ other (sym (used_at sets bounds lines count k eb el (omega arith) within) ∙ at) in
      (within, ap (λ (known : Known). known.set) (sym is))

  pub made_evicted : (place : ℕ) (after : List Known) → length sets ≡ 4 → position (λ other. other == known.set) sets ≡ None
      → place < 4 → ((k : ℕ) → k < 4 → size (slice_index sets place) ≤ size (slice_index sets k))
      → ((k : ℕ) → k < place → size (slice_index sets place) < size (slice_index sets k))
      → after ≡ remove (entries_of sets bounds lines) place ++ known ∷ []
      → IsEvicted (take 4 (entries_of sets bounds lines)) known (take 4 after) (slice_index sets place) (slice_index bounds place)
  made_evicted place after four none within fewest first replaced =
      let all : length (entries_of sets bounds lines) ≡ 4 = length-entries_of sets bounds lines eb el ∙ four in
      let whole : take 4 (entries_of sets bounds lines) ≡ entries_of sets bounds lines = take_all 4 (entries_of sets bounds lines) (omega arith) in
      let long : length after ≤ 4 = omega (
        arith,
        ap length replaced,
        length_push (remove (entries_of sets bounds lines) place) known,
        length-remove (entries_of sets bounds lines) place (omega arith),
      ) in
      let at_place = used_at sets bounds lines 4 place eb el (omega arith) within in
      record {
        none = not_found sets bounds lines 4 known.set (ap (position (λ other. other == known.set)) (take_all 4 sets (omega arith)) ∙ none);
        full = omega (arith, ap length whole);
        place = place;
        left = entry (slice_index sets place) (slice_index bounds place) (slice_index lines place);
        fewest = record {
          stands = at_place;
          fewest = λ k other at. rw (which 4 k other (omega arith) at).1 (fewest k (which 4 k other (omega arith) at).0);
          first = λ k other at lt. rw (which 4 k other (omega arith) at).1 (first k lt);
        };
        told_set = refl;
        told_bound = refl;
        replaced = take_all 4 after long ∙ replaced ∙ ap (λ (entries : List Known). remove entries place ++ known ∷ []) (sym whole);
      }
