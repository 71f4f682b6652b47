-- Numbers of scenes, counted at the places of who works in them and summed up below each set of places.
use Rattle.std.proofs.Common.{◌≡◌, ℕ, zero, suc, ◌+◌, ◌^◌, ◌<◌, ◌≤◌, ◌==◌, Bool, true, false, ◌&&◌, cond, List, [], ◌∷◌, ◌++◌, sum_by, slice_index, refl, sym, ap, ◌∙◌, arith}
use Rattle.std.proofs.lemmas.Bool.{eq-eqb, eqb-true, false≢true, false_from_ne_true}
use Rattle.std.proofs.lemmas.List.Sums.{sum_by-append, sum_by-cons, sum_by-le-sum_by}
use Rattle.strip_mask.specs.Set.{IsSet, full, has, members, minus, sum_over, with}
use Rattle.strip_mask.proofs.ByMembers.{below_width, empty_from, has_from_minus}
use Rattle.strip_mask.proofs.Below.{has_full}
use Rattle.strip_mask.proofs.Members.{members_is}
use Rattle.strip_mask.proofs.Sums.{sum_below-ext}
use Rattle.strip_mask.proofs.Totals.{sum_over_is, sum_kept}
use Rattle.strip_mask.proofs.Turns.{turn_fits, turns_sum}
use Rattle.strip_group.specs.Group.{GroupData}
use Rattle.strip_group.specs.Places.{pick}
use Rattle.strip_sets.specs.Laws.{MoreInEachAbove}
use Rattle.strip_sets.specs.Numbers.{counted, sum_within}
use Rattle.strip_arrivals.specs.Arrivals.{is_without}
use Rattle.strip_arrivals.specs.Company.{IsCrew, open_with}
use Rattle.strip_arrivals.specs.declared.crew.Crew.{Crew}
use Rattle.strip_arrivals.proofs.ByPlace.{lies_in}
use Rattle.strip_sets.proofs.Sets.{with_small, wider_top}
use Rattle.strip_sets.proofs.Parts.{within_agree}
use Rattle.strip_arrivals.proofs.Chosen.{has_chosen}

-- ---- sums over subsets

-- of nothing
pub within_none : (n : ℕ) (f : ℕ → ℕ) (set : ℕ) → ((s : ℕ) → s < 2 ^ n → f s ≡ 0) → sum_within n f set ≡ 0
within_none zero f set none = none 0 (omega arith)
within_none (suc n) f set none =
    let low : sum_within n f set ≡ 0 = within_none n f set (λ s lt. none s (wider_top n s lt)) in
    let high : sum_within n (λ part. f (with part n)) set ≡ 0
    = within_none n (λ part. f (with part n)) set (λ s lt. none (with s n) (with_small (suc n) s n (wider_top n s lt) (omega arith))) in
    (λ i. low i + cond {A = ℕ} (has set n) (high i) 0) ∙ nothing (has set n)
  where
    nothing : (b : Bool) → 0 + cond {A = ℕ} b 0 0 ≡ 0
    nothing true = refl
    nothing false = refl

-- a number is within the sum of all
within_full : MoreInEachAbove → (n : ℕ) (f : ℕ → ℕ) (set : ℕ) → set < 2 ^ n → f set ≤ sum_within n f (full n)
within_full law n f set lt =
    let others : ℕ → ℕ = λ other. cond {A = ℕ} (other == set) 0 (f other) in
    let same : sum_within n f (full n) ≡ sum_within n (λ other. others other + counted (other == set) (f set)) (full n)
    = within_agree n f (λ other. others other + counted (other == set) (f set)) (full n) (λ other _. split (other == set) other (λ is. eqb-true other set is)) in
    let part : (minus set (full n) == 0) ≡ true = eq-eqb (minus set (full n)) 0 (empty_from (minus set (full n)) (λ i. false_from_ne_true (has (minus set (full n)) i) (λ there. (
    let parts = has_from_minus set (full n) i there in
    false≢true (sym parts.1 ∙ has_full n i (below_width set n i lt parts.0)))))) in
    omega (arith, same, law n others set (f set) (full n) lt, ap (λ b. counted b (f set)) part)
  where
    split : (b : Bool) (other : ℕ) → (b ≡ true → other ≡ set) → f other ≡ cond {A = ℕ} b 0 (f other) + counted b (f set)
    split true other is = (let same : f other ≡ f set = ap f (is refl) in omega (arith, same))
    split false other is = omega arith

-- ---- scenes

module _ (casts numbers : List ℕ) where
  -- what a scene adds to the sum of a set of places
  abbrev pub part_of : ℕ → ℕ → ℕ
  part_of places scene = counted (minus (slice_index casts scene) places == 0) (slice_index numbers scene)

  -- all of it counts at most
  parts_most : (places : ℕ) (scenes : List ℕ) → sum_by (part_of places) scenes ≤ sum_by (slice_index numbers) scenes
  parts_most places scenes = sum_by-le-sum_by (part_of places) (slice_index numbers) scenes (λ scene. at_most (minus (slice_index casts scene) places == 0) (slice_index numbers scene))
    where
      at_most : (b : Bool) (n : ℕ) → counted b n ≤ n
      at_most true n = omega arith
      at_most false n = omega arith

  module _ (law : MoreInEachAbove) (count : ℕ) (small : (scene : ℕ) → slice_index casts scene < 2 ^ count) (sums : ℕ → ℕ) (done : List ℕ)
      (so_far : (places : ℕ) → sum_within count sums places ≡ sum_by (part_of places) done) where
    -- there is room for the number of the next scene
    pub counts_fit : (scenes scene most : ℕ) (rest later : List ℕ) → done ++ rest ≡ members scenes → rest ≡ scene ∷ later → sum_over numbers scenes ≤ most
        → sums (slice_index casts scene) + slice_index numbers scene ≤ most
    counts_fit scenes scene most rest later turns here fits = omega (
      arith,
      within_full law count sums (slice_index casts scene) (small scene),
      so_far (full count),
      parts_most (full count) done,
      turn_fits numbers scenes scene done rest later turns here,
      fits,
    )

    -- with its number
    pub counts_more : (scene : ℕ) (more : ℕ → ℕ) → ((other : ℕ) → other < 2 ^ count → more other ≡ sums other + counted (other == slice_index casts scene) (slice_index numbers scene))
        → (places : ℕ) → sum_within count more places ≡ sum_by (part_of places) (done ++ scene ∷ [])
    counts_more scene more is places =
        let added : ℕ → ℕ = λ other. sums other + counted (other == slice_index casts scene) (slice_index numbers scene) in
        let one : sum_by (part_of places) (scene ∷ []) ≡ part_of places scene = sum_by-cons (part_of places) scene [] ∙ last (part_of places scene) in
        omega (
          arith,
          within_agree count more added places is,
          law count sums (slice_index casts scene) (slice_index numbers scene) places (small scene),
          so_far places,
          sum_by-append (part_of places) done (scene ∷ []),
          one,
        )
      where
        last : (n : ℕ) → n + 0 ≡ n
        last n = omega arith

    -- at the end there is room for all
    pub counts_most : (scenes most : ℕ) (rest : List ℕ) → done ++ rest ≡ members scenes → rest ≡ [] → sum_over numbers scenes ≤ most → sum_within count sums (full count) ≤ most
    counts_most scenes most rest turns none fits = omega (arith, so_far (full count), parts_most (full count) done, turns_sum numbers scenes done rest turns none, fits)

-- ---- a crew

module _ (count : ℕ) (film : GroupData) (crew : Crew) (known : IsCrew count film crew) (small : IsSet crew.group.0) where
  -- all scenes of a set are counted
  pub counts_are : (numbers : List ℕ) (scenes : ℕ) (done : List ℕ) → done ≡ members scenes → ((scene : ℕ) → has scenes scene ≡ true → has crew.set.0 scene ≡ true)
      → (places : ℕ) → sum_by (part_of crew.casts numbers places) done ≡ sum_over numbers (open_with film crew.group.0 places scenes)
  counts_are numbers scenes done all within places =
      let out : ℕ = minus crew.group.0 (pick crew.group.0 places) in
      ap (sum_by (part_of crew.casts numbers places)) (all ∙ members_is scenes)
      ∙ sum_kept (part_of crew.casts numbers places) (has scenes) 64
      ∙ sum_below-ext 64 (λ scene. cond {A = ℕ} (has scenes scene) (part_of crew.casts numbers places scene) 0)
      (λ scene. cond {A = ℕ} (has (open_with film crew.group.0 places scenes) scene) (slice_index numbers scene) 0) (λ scene lt.
      one (has scenes scene) (minus (slice_index crew.casts scene) places == 0) (is_without film out scene) (slice_index numbers scene)
      (λ there. lies_in count film crew known small scene places (within scene there))
      ∙ ap (λ (b : Bool). cond {A = ℕ} b (slice_index numbers scene) 0) (sym (has_chosen (is_without film out) scenes scene (λ _. lt))))
      ∙ sym (sum_over_is numbers (open_with film crew.group.0 places scenes))
    where
      one : (a b c : Bool) (n : ℕ) → (a ≡ true → b ≡ c) → cond {A = ℕ} a (counted b n) 0 ≡ cond {A = ℕ} (a && c) n 0
      one true b c n same = ap (λ (t : Bool). cond {A = ℕ} t n 0) (same refl)
      one false b c n same = refl
