-- The stripe of a set, as a list of stripes has it.
use Rattle.std.proofs.Common.{◌≡◌, ℕ, ◌<◌, Some, List, [], length, get_or, set, sym, ap, ◌∙◌, subst, arith}
use Rattle.std.proofs.lemmas.List.{get_or_read_under, get_or-set_same}
use Rattle.strip_film.specs.declared.shared.Known.{Known}
use Rattle.strip_film.specs.declared.shared.Noted.{Noted}
use Rattle.strip_table.specs.Home.{bucket_of, stripe_of}
use Rattle.strip_table.specs.Bucket.{Puts}
use Rattle.strip_table.specs.Stripe.{home}
use Rattle.strip_world.specs.Steps.{IsNoted}
use Rattle.strip_world.specs.World.{WorkerData, WorldData, home_stripe, worker_at}

module _ (stripes : List (List (List Known))) (number q : ℕ) (count : length stripes ≡ 16) (is : number ≡ stripe_of q) (below : number < 16) where
  -- what was read at the number of the set's stripe
  pub stripe_read : (stripe : List (List Known)) → stripe ≡ get_or stripes number stripe → stripe ≡ get_or stripes (stripe_of q) []
  stripe_read stripe read = get_or_read_under stripes number 16 stripe [] read below (sym count) ∙ ap (λ (i : ℕ). get_or stripes i []) is

  -- and what stands there once it was written
  pub stripe_written : (stripe : List (List Known)) → stripe ≡ get_or (set stripes number stripe) (stripe_of q) []
  stripe_written stripe =
      sym (get_or-set_same stripes number stripe [] (omega (arith, below, count))) ∙ ap (λ (i : ℕ). get_or (set stripes number stripe) i []) is

-- a put into the set's stripe, beside the worker's note, is a note of the world
pub noted : (world : WorldData) (who number : ℕ) (known : Known) (answer : Noted) (workers : List WorkerData) (old new : List (List Known))
    → length world.stripes ≡ 16 → number ≡ stripe_of known.set → number < 16 → old ≡ get_or world.stripes number old
    → Puts (home old known.set) known (home new known.set) answer
    → new ≡ set old (bucket_of known.set (length old)) (home new known.set)
    → workers ≡ set world.workers who (record (worker_at world who) { note = Some known })
    → IsNoted world who known (record world { stripes = set world.stripes number new; workers = workers }) answer
noted world who number known answer workers old new count same below read puts others written =
    let q : ℕ = known.set in
    let was : old ≡ home_stripe world q = stripe_read world.stripes number q count same below old read in
    let is : new ≡ get_or (set world.stripes number new) (stripe_of q) [] = stripe_written world.stripes number q count same below new in
    record {
      puts = subst (λ (s : List (List Known)). Puts (home s q) known (home (get_or (set world.stripes number new) (stripe_of q) []) q) answer) was
          (subst (λ (s : List (List Known)). Puts (home old q) known (home s q) answer) is puts);
      table = ap (λ (i : ℕ). set world.stripes i new) same
          ∙ ap (set world.stripes (stripe_of q)) (others ∙ ap (λ (s : List (List Known)). set s (bucket_of q (length s)) (home new q)) was
          ∙ ap (λ (s : List (List Known)). set (home_stripe world q) (bucket_of q (length (home_stripe world q))) (home s q)) is);
      others = λ i. record world { stripes = set world.stripes number new; workers = written i };
    }
