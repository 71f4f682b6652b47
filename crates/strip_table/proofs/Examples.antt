-- Worked rows: the hash by long multiplication, and one bucket by hand. Sets 1 and 4 have one scene, 3 and 6 two, and 7 three.
use Rattle.std.proofs.Common.{◌≡◌, ℕ, zero, suc, ◌<◌, ◌≤◌, [], ◌∷◌, List, Some, None, refl, arith}
use Rattle.std.specs.List.{slice_get}
use Rattle.strip_mask.specs.Set.{has, members, numbers_below, size}
use Rattle.strip_film.specs.declared.shared.Known.{Known}
use Rattle.strip_film.specs.declared.shared.Noted.TheVariants.{Fresh, Raised, Stays, Evicted}
use Rattle.strip_table.specs.Home.{bucket_of, hash, stripe_of}
use Rattle.strip_table.specs.Bucket.{HasFewest, Puts, find_in}

stripes : (stripe_of 1 ≡ 9) × (stripe_of 2 ≡ 3) × (stripe_of 16 ≡ 14) × (stripe_of 18446744073709551615 ≡ 6)
unfolding hash stripe_of
stripes = (refl, refl, refl, refl)

buckets : (bucket_of 1 2 ≡ 1) × (bucket_of 23 2 ≡ 0) × (bucket_of 2 3 ≡ 2) × (bucket_of 4 3 ≡ 1) × (bucket_of 18446744073709551615 65536 ≡ 25704)
unfolding hash bucket_of
buckets = (refl, refl, refl, refl, refl)

-- a line with its number, set and bound
abbrev row : ℕ → ℕ → ℕ → Known
row line set bound = record { line = line; set = set; bound = bound }

abbrev three : List Known
three = row 0 3 5 ∷ row 1 1 2 ∷ row 2 4 2 ∷ []

abbrev four : List Known
four = row 0 3 5 ∷ row 1 1 2 ∷ row 2 4 2 ∷ row 3 6 7 ∷ []

abbrev without_1 : List Known
without_1 = row 0 3 5 ∷ row 2 4 2 ∷ row 3 6 7 ∷ row 4 7 13 ∷ []

-- a free place
fresh : Puts three (row 3 6 7) four Fresh
fresh = record { none = refl; room = omega arith; added = refl }

sizes : (size 1 ≡ 1) × (size 3 ≡ 2) × (size 4 ≡ 1) × (size 6 ≡ 2)
unfolding has members numbers_below size
sizes = (refl, refl, refl, refl)

-- of the sets 1 and 4 the first leaves
leaves : HasFewest four 1 (row 1 1 2)
leaves = record { stands = refl; fewest = fewest; first = first }
  where
    fewest : (k : ℕ) (other : Known) → slice_get four k ≡ Some other → size 1 ≤ size other.set
    fewest zero other at = (let same : row 0 3 5 ≡ other = cc in rw (← same) (omega (arith, sizes.0, sizes.1)))
    fewest (suc zero) other at = (let same : row 1 1 2 ≡ other = cc in rw (← same) (omega arith))
    fewest (suc (suc zero)) other at = (let same : row 2 4 2 ≡ other = cc in rw (← same) (omega (arith, sizes.0, sizes.2)))
    fewest (suc (suc (suc zero))) other at = (let same : row 3 6 7 ≡ other = cc in rw (← same) (omega (arith, sizes.0, sizes.3)))
    fewest (suc (suc (suc (suc k)))) other at = absurd (cc)

    first : (k : ℕ) (other : Known) → slice_get four k ≡ Some other → k < 1 → size 1 < size other.set
    first zero other at lt = (let same : row 0 3 5 ≡ other = cc in rw (← same) (omega (arith, sizes.0, sizes.1)))
    first (suc k) other at lt = absurd (omega arith)

evicted : Puts four (row 4 7 13) without_1 (Evicted 1 2)
evicted = record {
  none = refl;
  full = omega arith;
  place = 1;
  left = row 1 1 2;
  fewest = leaves;
  told_set = refl;
  told_bound = refl;
  replaced = refl;
}

-- a lesser bound of a set that has one, and a greater one
stays : Puts without_1 (row 5 4 1) without_1 (Stays 2)
stays = record { entry = row 2 4 2; found = refl; as_great = omega arith; told = refl; same = refl }

raised : Puts without_1 (row 6 4 6) (row 0 3 5 ∷ row 6 4 6 ∷ row 3 6 7 ∷ row 4 7 13 ∷ []) Raised
raised = record { entry = row 2 4 2; found = refl; less = omega arith; place = 1; stands = refl; written = refl }

found : (find_in without_1 7 ≡ Some (row 4 7 13)) × (find_in without_1 1 ≡ None)
found = (refl, refl)
