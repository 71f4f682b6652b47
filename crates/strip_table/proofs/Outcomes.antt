-- What a put makes of a bucket is one thing, and what is found afterwards.
use Rattle.std.proofs.Common.{◌≡◌, ℕ, zero, suc, ◌<◌, ◌≤◌, List, [], ◌∷◌, ◌++◌, length, slice_set, Option, Some, None, ap, sym, refl, inl, inr, ◌∙◌, arith}
use Rattle.std.specs.List.{remove, slice_get}
use Rattle.std.proofs.lemmas.Bool.{cases_lt}
use Rattle.std.proofs.lemmas.Option.{same_Some}
use Rattle.strip_mask.specs.Set.{size}
use Rattle.strip_film.specs.declared.shared.Known.{Known}
use Rattle.strip_film.specs.declared.shared.Noted.{Noted}
use Rattle.strip_film.specs.declared.shared.Noted.TheVariants.{Fresh, Raised, Stays, Evicted}
use Rattle.strip_table.specs.Bucket.{HasFewest, Puts, find_in}
use Rattle.strip_table.proofs.Found.{Once, found_is, one_place}

never : {o : Option Known} {entry : Known} → o ≡ Some entry → o ≡ None → ⊥
never found none = cc

-- one entry alone
fewest_alone : (x : Known) → HasFewest (x ∷ []) 0 x
fewest_alone x = record { stands = refl; fewest = fewest; first = λ k other at lt. absurd (omega arith) }
  where
    fewest : (k : ℕ) (other : Known) → slice_get (x ∷ []) k ≡ Some other → size x.set ≤ size other.set
    fewest zero other at = (let same : x ≡ other = same_Some x other at in rw same (omega arith))
    fewest (suc k) other at = absurd (cc)

-- a further entry in front, which has as few as the fewest
fewest_first : (x : Known) (rest : List Known) (place : ℕ) (entry : Known) → HasFewest rest place entry → size x.set ≤ size entry.set → HasFewest (x ∷ rest) 0 x
fewest_first x rest place entry is le = record { stands = refl; fewest = fewest; first = λ k other at lt. absurd (omega arith) }
  where
    fewest : (k : ℕ) (other : Known) → slice_get (x ∷ rest) k ≡ Some other → size x.set ≤ size other.set
    fewest zero other at = (let same : x ≡ other = same_Some x other at in rw same (omega arith))
    fewest (suc k) other at = omega (arith, is.fewest k other at)

-- or has more
fewest_later : (x : Known) (rest : List Known) (place : ℕ) (entry : Known) → HasFewest rest place entry → size entry.set < size x.set → HasFewest (x ∷ rest) (suc place) entry
fewest_later x rest place entry is lt = record { stands = is.stands; fewest = fewest; first = first }
  where
    fewest : (k : ℕ) (other : Known) → slice_get (x ∷ rest) k ≡ Some other → size entry.set ≤ size other.set
    fewest zero other at = (let same : x ≡ other = same_Some x other at in rw (← same) (omega arith))
    fewest (suc k) other at = is.fewest k other at

    first : (k : ℕ) (other : Known) → slice_get (x ∷ rest) k ≡ Some other → k < suc place → size entry.set < size other.set
    first zero other at below = (let same : x ≡ other = same_Some x other at in rw (← same) lt)
    first (suc k) other at below = is.first k other at (omega arith)

-- some entry has the fewest
some_fewest : (bucket : List Known) → 0 < length bucket → (place : ℕ) × (entry : Known) × HasFewest bucket place entry
some_fewest [] some = absurd (omega arith)
some_fewest (x ∷ []) some = (0, x, fewest_alone x)
some_fewest (x ∷ y ∷ rest) some =
    let later = some_fewest (y ∷ rest) (omega arith) in
    elim (cases_lt (size later.1.set) (size x.set)) [
      | inl lt ↦ (suc later.0, later.1, fewest_later x (y ∷ rest) later.0 later.1 later.2 lt)
      | inr le ↦ (0, x, fewest_first x (y ∷ rest) later.0 later.1 later.2 le)
    ]

-- a put makes something of a bucket
pub some_outcome : (bucket : List Known) (known : Known) → (after : List Known) × (answer : Noted) × Puts bucket known after answer
some_outcome bucket known = by_found (find_in bucket known.set) refl
  where
    by_found : (found : Option Known) → find_in bucket known.set ≡ found → (after : List Known) × (answer : Noted) × Puts bucket known after answer
    by_found None none = elim (cases_lt (length bucket) 4) [
      | inl room ↦ (bucket ++ known ∷ [], Fresh, record { none = none; room = room; added = refl })
      | inr full ↦ (
          let fewest = some_fewest bucket (omega arith) in (
            remove bucket fewest.0 ++ known ∷ [],
            Evicted fewest.1.set fewest.1.bound,
            record {
              none = none;
              full = full;
              place = fewest.0;
              left = fewest.1;
              fewest = fewest.2;
              told_set = refl;
              told_bound = refl;
              replaced = refl;
            },
          ))
    ]
    by_found (Some entry) found = elim (cases_lt entry.bound known.bound) [
      | inl less ↦ (
          let at = (found_is bucket known.set entry found).1 in
          (slice_set bucket at.0 known, Raised, record { entry = entry; found = found; less = less; place = at.0; stands = at.1; written = refl }))
      | inr great ↦ (bucket, Stays entry.bound, record { entry = entry; found = found; as_great = great; told = refl; same = refl })
    ]

-- two entries that have the fewest, each the first, are one
one_fewest : (bucket : List Known) (i j : ℕ) (one other : Known) → HasFewest bucket i one → HasFewest bucket j other → (i ≡ j) × (one ≡ other)
one_fewest bucket i j one other here there =
    let same : i ≡ j = elim (cases_lt i j) [
      | inl lt ↦ absurd (omega (arith, there.first i one here.stands lt, here.fewest j other there.stands))
      | inr le ↦ elim (cases_lt j i) [
        | inl lt ↦ absurd (omega (arith, here.first j other there.stands lt, there.fewest i one here.stands))
        | inr more ↦ omega arith
      ]
    ] in
    (same, same_Some one other (sym here.stands ∙ ap (slice_get bucket) same ∙ there.stands))

-- and just one thing
pub one_outcome : (bucket : List Known) (known : Known) (after other : List Known) (answer given : Noted) → Once bucket
    → Puts bucket known after answer → Puts bucket known other given → (after ≡ other) × (answer ≡ given)
one_outcome bucket known after other (Stays a) (Stays b) once p q =
    let same : p.entry ≡ q.entry = same_Some p.entry q.entry (sym p.found ∙ q.found) in
    (p.same ∙ sym q.same, ap Stays (p.told ∙ ap (λ (k : Known). k.bound) same ∙ sym q.told))
one_outcome bucket known after other (Stays a) Raised once p q =
    let same : p.entry ≡ q.entry = same_Some p.entry q.entry (sym p.found ∙ q.found) in
    absurd (omega (arith, p.as_great, q.less, ap (λ (k : Known). k.bound) same))
one_outcome bucket known after other (Stays a) Fresh once p q = absurd (never p.found q.none)
one_outcome bucket known after other (Stays a) (Evicted set bound) once p q = absurd (never p.found q.none)
one_outcome bucket known after other Raised (Stays b) once p q =
    let same : p.entry ≡ q.entry = same_Some p.entry q.entry (sym p.found ∙ q.found) in
    absurd (omega (arith, q.as_great, p.less, ap (λ (k : Known). k.bound) same))
one_outcome bucket known after other Raised Raised once p q =
    let same : p.entry ≡ q.entry = same_Some p.entry q.entry (sym p.found ∙ q.found) in
    let place : p.place ≡ q.place = one_place bucket p.place q.place p.entry q.entry once p.stands q.stands (ap (λ (k : Known). k.set) same) in
    (p.written ∙ ap (λ (i : ℕ). slice_set bucket i known) place ∙ sym q.written, refl)
one_outcome bucket known after other Raised Fresh once p q = absurd (never p.found q.none)
one_outcome bucket known after other Raised (Evicted set bound) once p q = absurd (never p.found q.none)
one_outcome bucket known after other Fresh (Stays b) once p q = absurd (never q.found p.none)
one_outcome bucket known after other Fresh Raised once p q = absurd (never q.found p.none)
one_outcome bucket known after other Fresh Fresh once p q = (p.added ∙ sym q.added, refl)
one_outcome bucket known after other Fresh (Evicted set bound) once p q = absurd (omega (arith, p.room, q.full))
one_outcome bucket known after other (Evicted set bound) (Stays b) once p q = absurd (never q.found p.none)
one_outcome bucket known after other (Evicted set bound) Raised once p q = absurd (never q.found p.none)
one_outcome bucket known after other (Evicted set bound) Fresh once p q = absurd (omega (arith, q.room, p.full))
one_outcome bucket known after other (Evicted s b) (Evicted t c) once p q =
    let same = one_fewest bucket p.place q.place p.left q.left p.fewest q.fewest in (
      p.replaced ∙ ap (λ (i : ℕ). remove bucket i ++ known ∷ []) same.0 ∙ sym q.replaced,
      λ i. Evicted ((p.told_set ∙ ap (λ (k : Known). k.set) same.1 ∙ sym q.told_set) i) ((p.told_bound ∙ ap (λ (k : Known). k.bound) same.1 ∙ sym q.told_bound) i),
    )
