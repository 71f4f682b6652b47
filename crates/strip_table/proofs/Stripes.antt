-- A stripe from the parts that it is laid out in.
use Rattle.std.proofs.Common.{◌≡◌, ℕ, zero, suc, ◌<◌, ◌≤◌, ◌^◌, List, [], ◌∷◌, length, length-set, replicate, slice_index_or, slice_set, ap, sym, refl, inl, inr, ◌∙◌, arith}
use Rattle.std.proofs.lemmas.Bool.{cases_eq}
use Rattle.std.proofs.lemmas.List.{get_or-set_other, get_or-set_same, get_or-replicate, length-replicate}
use Rattle.std.proofs.lemmas.List.Elements.{All-nil, All-replicate, All-set}
use Rattle.strip_film.specs.declared.shared.Known.{Known}
use Rattle.strip_film.specs.declared.shared.Noted.{Noted}
use Rattle.strip_table.specs.declared.slot.Slot.{Slot}
use Rattle.strip_table.specs.Home.{bucket_of}
use Rattle.strip_table.specs.Bucket.{IsBucket, Puts}
use Rattle.strip_table.specs.Stripe.{IsStripe, bucket_at, home}
use Rattle.strip_table.specs.Shown.{IsLaidOut, stripe_data, used}
use Rattle.strip_table.proofs.PutLeaves.{bucket_after}

pub length-stripe_data : (slots : List Slot) (lines : List (List ℕ)) (counts : List ℕ) → length lines ≡ length slots → length counts ≡ length slots
    → length (stripe_data slots lines counts) ≡ length slots
length-stripe_data [] lines counts el ec = refl
length-stripe_data (s ∷ slots) [] counts el ec = absurd (cc)
length-stripe_data (s ∷ slots) (l ∷ lines) [] el ec = absurd (cc)
length-stripe_data (s ∷ slots) (l ∷ lines) (c ∷ counts) el ec = ap suc (length-stripe_data slots lines counts (omega arith) (omega arith))

-- as many buckets are seen as there are slots
pub count_seen : (slots : List Slot) (lines : List (List ℕ)) (counts : List ℕ) (seen : List (List Known)) → IsLaidOut slots lines counts
    → stripe_data slots lines counts ≡ seen → length seen ≡ length slots
count_seen slots lines counts seen is view = ap length (sym view) ∙ length-stripe_data slots lines counts is.line_count is.count_count

-- the bucket of a number, from the parts that were read there
pub bucket_read : (slots : List Slot) (lines : List (List ℕ)) (counts : List ℕ) (number : ℕ) (slot : Slot) (line : List ℕ) (count : ℕ)
    → length lines ≡ length slots → length counts ≡ length slots → number < length slots
    → slot ≡ slice_index_or slots number slot → line ≡ slice_index_or lines number line → count ≡ slice_index_or counts number count
    → bucket_at (stripe_data slots lines counts) number ≡ used slot line count
bucket_read [] lines counts number slot line count el ec within es er en = absurd (omega arith)
bucket_read (s ∷ slots) [] counts number slot line count el ec within es er en = absurd (cc)
bucket_read (s ∷ slots) (l ∷ lines) [] number slot line count el ec within es er en = absurd (cc)
bucket_read (s ∷ slots) (l ∷ lines) (c ∷ counts) zero slot line count el ec within es er en =
    λ i. used (sym es i) (sym er i) (sym en i)
bucket_read (s ∷ slots) (l ∷ lines) (c ∷ counts) (suc number) slot line count el ec within es er en =
    bucket_read slots lines counts number slot line count (omega arith) (omega arith) (omega arith) es er en

-- the parts of one number written
pub stripe_data-set : (slots : List Slot) (lines : List (List ℕ)) (counts : List ℕ) (number : ℕ) (slot : Slot) (line : List ℕ) (count : ℕ)
    → stripe_data (slice_set slots number slot) (slice_set lines number line) (slice_set counts number count)
    ≡ slice_set (stripe_data slots lines counts) number (used slot line count)
stripe_data-set [] lines counts number slot line count = refl
stripe_data-set (s ∷ slots) [] counts zero slot line count = refl
stripe_data-set (s ∷ slots) [] counts (suc number) slot line count = refl
stripe_data-set (s ∷ slots) (l ∷ lines) [] zero slot line count = refl
stripe_data-set (s ∷ slots) (l ∷ lines) [] (suc number) slot line count = refl
stripe_data-set (s ∷ slots) (l ∷ lines) (c ∷ counts) zero slot line count = refl
stripe_data-set (s ∷ slots) (l ∷ lines) (c ∷ counts) (suc number) slot line count =
    ap (λ (more : List (List Known)). used s l c ∷ more) (stripe_data-set slots lines counts number slot line count)

-- a stripe with another bucket of this number
pub IsStripe-set : (stripe : List (List Known)) (number : ℕ) (bucket : List Known) → IsStripe stripe → number < length stripe
    → IsBucket (length stripe) number bucket → IsStripe (slice_set stripe number bucket)
IsStripe-set stripe number bucket is within new =
    let long : length (slice_set stripe number bucket) ≡ length stripe = length-set stripe number bucket in
    record {
      some = rw long is.some;
      count = rw long is.count;
      buckets = rw long each;
    }
  where
    each : (other : ℕ) → other < length stripe → IsBucket (length stripe) other (bucket_at (slice_set stripe number bucket) other)
    each other lt = elim (cases_eq other number) [
      | inl same ↦ (
          let here : bucket_at (slice_set stripe number bucket) other ≡ bucket = rw same (get_or-set_same stripe number bucket [] within) in
          rw here (rw same new))
      | inr apart ↦ (
          let there : bucket_at (slice_set stripe number bucket) other ≡ bucket_at stripe other = get_or-set_other stripe number other bucket [] apart in
          rw there (is.buckets other lt))
    ]

-- a put into the bucket of a number, as it is laid out
pub laid_out_after : (slots : List Slot) (lines : List (List ℕ)) (counts : List ℕ) (number : ℕ) (slot : Slot) (line : List ℕ) (count : ℕ) (known : Known) (answer : Noted)
    → IsLaidOut slots lines counts → number < length slots → number ≡ bucket_of known.set (length slots) → count ≤ 4
    → Puts (bucket_at (stripe_data slots lines counts) number) known (used slot line count) answer
    → IsLaidOut (slice_set slots number slot) (slice_set lines number line) (slice_set counts number count)
laid_out_after slots lines counts number slot line count known answer is within own few puts =
    let long : length (stripe_data slots lines counts) ≡ length slots = length-stripe_data slots lines counts is.line_count is.count_count in
    let new = bucket_after (length (stripe_data slots lines counts)) number (bucket_at (stripe_data slots lines counts) number) known (used slot line count) answer
    (is.stripe.buckets number (omega arith)) (ap (λ (n : ℕ). bucket_of known.set n) long ∙ sym own) puts in
    record {
      line_count = length-set lines number line ∙ is.line_count ∙ sym (length-set slots number slot);
      count_count = length-set counts number count ∙ is.count_count ∙ sym (length-set slots number slot);
      few = All-set (λ (c : ℕ). c ≤ 4) counts number count few is.few;
      stripe = rw (stripe_data-set slots lines counts number slot line count)
          (IsStripe-set (stripe_data slots lines counts) number (used slot line count) is.stripe (omega arith) new);
    }

-- and as it is seen
pub seen_after : (stripe new : List (List Known)) (number : ℕ) (known : Known) (after : List Known) (answer : Noted)
    → new ≡ slice_set stripe number after → number < length stripe → number ≡ bucket_of known.set (length stripe)
    → Puts (bucket_at stripe number) known after answer
    → Puts (home stripe known.set) known (home new known.set) answer
    × (new ≡ slice_set stripe (bucket_of known.set (length stripe)) (home new known.set))
seen_after stripe new number known after answer is within own puts =
    let long : length new ≡ length stripe = ap length is ∙ length-set stripe number after in
    let here : home new known.set ≡ after = (λ i. bucket_at (is i) (bucket_of known.set (long i)))
    ∙ ap (bucket_at (slice_set stripe number after)) (sym own) ∙ get_or-set_same stripe number after [] within in
    let there : home stripe known.set ≡ bucket_at stripe number = ap (bucket_at stripe) (sym own) in
    (rw (here, there) puts, is ∙ (λ i. slice_set stripe (own i) (sym here i)))

-- empty buckets
stripe_data-replicate : (n : ℕ) (slot : Slot) (line : List ℕ) → stripe_data (replicate n slot) (replicate n line) (replicate n 0) ≡ replicate n []
stripe_data-replicate zero slot line = refl
stripe_data-replicate (suc n) slot line = ap (λ (more : List (List Known)). [] ∷ more) (stripe_data-replicate n slot line)

pub laid_out_empty : (n : ℕ) (slot : Slot) (line : List ℕ) → 0 < n → n < 2 ^ 32 → IsLaidOut (replicate n slot) (replicate n line) (replicate n 0)
laid_out_empty n slot line some few = record {
  line_count = length-replicate n line ∙ sym (length-replicate n slot);
  count_count = length-replicate n 0 ∙ sym (length-replicate n slot);
  few = All-replicate (λ (c : ℕ). c ≤ 4) n 0 (omega arith);
  stripe = rw (stripe_data-replicate n slot line) (record {
    some = rw (length-replicate n empty) some;
    count = rw (length-replicate n empty) few;
    buckets = each;
  });
}
  where
    empty : List Known
    empty = []

    each : (number : ℕ) → number < length (replicate n empty) → IsBucket (length (replicate n empty)) number (bucket_at (replicate n empty) number)
    each number within = rw (get_or-replicate n number empty empty (omega (arith, length-replicate n empty))) (record {
      few = omega arith;
      once = λ i j d lt past. absurd (omega arith);
      own = All-nil (λ (entry : Known). bucket_of entry.set (length (replicate n empty)) ≡ number);
    })

pub seen_empty : (n : ℕ) (slots : List Slot) (lines : List (List ℕ)) (counts : List ℕ) (slot : Slot) (line : List ℕ)
    → slots ≡ replicate n slot → lines ≡ replicate n line → counts ≡ replicate n 0 → stripe_data slots lines counts ≡ replicate n []
seen_empty n slots lines counts slot line es el ec = (λ i. stripe_data (es i) (el i) (ec i)) ∙ stripe_data-replicate n slot line
