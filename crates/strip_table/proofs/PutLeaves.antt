-- A put leaves a bucket.
use Rattle.std.proofs.Common.{◌≡◌, ◌≢◌, ℕ, suc, ◌<◌, ◌≤◌, List, [], ◌∷◌, ◌++◌, length, length-set}
use Rattle.std.proofs.Common.{slice_index_or, slice_set, take, drop, Some, All, ap, sym, subst, inl, inr, ◌∙◌, arith}
use Rattle.std.specs.List.{remove, slice_get}
use Rattle.std.proofs.lemmas.Bool.{cases_eq}
use Rattle.std.proofs.lemmas.List.{get_or-set_other, get_or-set_same, length_push}
use Rattle.std.proofs.lemmas.List.Edits.{length-remove}
use Rattle.std.proofs.lemmas.List.Elements.{All-append, All-drop, All-push, All-set, All-take}
use Rattle.std.proofs.lemmas.List.Quantifiers.{all_pairs_push, all_pairs_remove}
use Rattle.std.proofs.lemmas.Option.{get_or_from_slice_get, slice_get_within}
use Rattle.strip_film.specs.declared.shared.Known.{Known}
use Rattle.strip_film.specs.declared.shared.Noted.{Noted}
use Rattle.strip_film.specs.declared.shared.Noted.TheVariants.{Fresh, Raised, Stays, Evicted}
use Rattle.strip_table.specs.Home.{bucket_of}
use Rattle.strip_table.specs.Bucket.{IsBucket, Puts}
use Rattle.strip_table.proofs.Found.{Lacks, Once, found_is, lacks_from_none}

-- what holds of each entry holds of each that is left
pub All-remove : (P : Known → Type 0) (bucket : List Known) (place : ℕ) → All P bucket → All P (remove bucket place)
All-remove P bucket place all = All-append P (take place bucket) (drop (suc place) bucket) (All-take P place bucket all) (All-drop P (suc place) bucket all)

-- an entry of the same set in the place of another
pub Once-set : (bucket : List Known) (place : ℕ) (old known : Known) → Once bucket → slice_get bucket place ≡ Some old → known.set ≡ old.set → Once (slice_set bucket place known)
Once-set bucket place old known once here same i j d lt within =
    let long : length (slice_set bucket place known) ≡ length bucket = length-set bucket place known in
    let at_i = sets_stay i (omega arith) in
    let at_j = sets_stay j (omega arith) in
    λ equal. once i j d lt (omega arith) (sym at_i ∙ equal ∙ at_j)
  where
    sets_stay : (k : ℕ) → k < length bucket → (slice_index_or (slice_set bucket place known) k d).set ≡ (slice_index_or bucket k d).set
    sets_stay k within = elim (cases_eq k place) [
      | inl is ↦ (
          let new : slice_index_or (slice_set bucket place known) k d ≡ known = rw is (get_or-set_same bucket place known d (slice_get_within bucket place old here)) in
          let was : slice_index_or bucket k d ≡ old = rw is (get_or_from_slice_get bucket place old d here) in
          ap (λ (e : Known). e.set) new ∙ same ∙ ap (λ (e : Known). e.set) (sym was))
      | inr isnt ↦ ap (λ (e : Known). e.set) (get_or-set_other bucket place k known d isnt)
    ]

-- a further entry of a set that the bucket lacks
pub Once-push : (bucket : List Known) (known : Known) → Once bucket → Lacks bucket known.set → Once (bucket ++ known ∷ [])
Once-push bucket known once lacks = all_pairs_push (λ (one other : Known). one.set ≢ other.set) bucket known once lacks

pub Once-remove : (bucket : List Known) (place : ℕ) → place < length bucket → Once bucket → Once (remove bucket place)
Once-remove bucket place within once = all_pairs_remove (λ (one other : Known). one.set ≢ other.set) bucket place within once

-- no set stands twice after a put
pub once_after : (bucket : List Known) (known : Known) (after : List Known) (answer : Noted) → Once bucket → Puts bucket known after answer → Once after
once_after bucket known after (Stays bound) once puts = subst Once (sym puts.same) once
once_after bucket known after Raised once puts =
    subst Once (sym puts.written) (Once-set bucket puts.place puts.entry known once puts.stands (sym (found_is bucket known.set puts.entry puts.found).0))
once_after bucket known after Fresh once puts = subst Once (sym puts.added) (Once-push bucket known once (lacks_from_none bucket known.set puts.none))
once_after bucket known after (Evicted set bound) once puts =
    let within = slice_get_within bucket puts.place puts.left puts.fewest.stands in
    subst Once (sym puts.replaced) (Once-push (remove bucket puts.place) known (Once-remove bucket puts.place within once)
    (All-remove (λ (entry : Known). entry.set ≢ known.set) bucket puts.place (lacks_from_none bucket known.set puts.none)))

-- what holds of each entry and of the new line holds of each entry after a put
pub all_after : (P : Known → Type 0) (bucket : List Known) (known : Known) (after : List Known) (answer : Noted)
    → Puts bucket known after answer → P known → All P bucket → All P after
all_after P bucket known after (Stays bound) puts new all = subst (All P) (sym puts.same) all
all_after P bucket known after Raised puts new all = subst (All P) (sym puts.written) (All-set P bucket puts.place known new all)
all_after P bucket known after Fresh puts new all = subst (All P) (sym puts.added) (All-push P bucket known all new)
all_after P bucket known after (Evicted set bound) puts new all =
    subst (All P) (sym puts.replaced) (All-push P (remove bucket puts.place) known (All-remove P bucket puts.place all) new)

few_after : (bucket : List Known) (known : Known) (after : List Known) (answer : Noted) → Puts bucket known after answer → length bucket ≤ 4 → length after ≤ 4
few_after bucket known after (Stays bound) puts few = omega (arith, ap length puts.same)
few_after bucket known after Raised puts few = omega (arith, ap length puts.written, length-set bucket puts.place known)
few_after bucket known after Fresh puts few = omega (arith, ap length puts.added, length_push bucket known, puts.room)
few_after bucket known after (Evicted set bound) puts few =
    let within = slice_get_within bucket puts.place puts.left puts.fewest.stands in
    omega (arith, ap length puts.replaced, length_push (remove bucket puts.place) known, length-remove bucket puts.place within)

pub bucket_after : (buckets number : ℕ) (bucket : List Known) (known : Known) (after : List Known) (answer : Noted)
    → IsBucket buckets number bucket → bucket_of known.set buckets ≡ number → Puts bucket known after answer → IsBucket buckets number after
bucket_after buckets number bucket known after answer is own puts = record {
  few = few_after bucket known after answer puts is.few;
  once = once_after bucket known after answer is.once puts;
  own = all_after (λ (entry : Known). bucket_of entry.set buckets ≡ number) bucket known after answer puts own is.own;
}
