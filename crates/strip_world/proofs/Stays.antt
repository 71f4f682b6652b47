-- What of a sound world stays where another part of it changes: entries where lines grow, and claims where no part changes.
use Rattle.std.proofs.Common.{◌≡◌, ℕ, ◌<◌, ◌≤◌, true, List, length, sym, ap, ◌∙◌, subst, arith}
use Rattle.std.proofs.lemmas.List.Elements.{All-weaker}
use Rattle.strip_film.specs.declared.shared.Known.{Known}
use Rattle.strip_film.specs.Path.{IsPath}
use Rattle.strip_lines.specs.Lines.{GrowTo}
use Rattle.strip_lines.specs.Parts.{lies_in}
use Rattle.strip_table.specs.Stripe.{bucket_at}
use Rattle.strip_hand.specs.Search.{SearchData, depth_of}
use Rattle.strip_hand.proofs.Grown.{knows_grow}
use Rattle.strip_world.specs.World.{PartData, WorldData, part_at}
use Rattle.strip_hand.specs.Hand.{Knows}
use Rattle.strip_world.specs.Sound.{IsClaimed, IsStripeOf}

pub stripe_grows : (world after : WorldData) (number : ℕ) (buckets : List (List Known)) → after.buckets ≡ world.buckets → GrowTo world.lines after.lines
    → IsStripeOf world number buckets → IsStripeOf after number buckets
stripe_grows world after number buckets same grow is = record {
  stripe = is.stripe;
  count = is.count ∙ sym same;
  own = is.own;
  entries = λ bucket lt.
      All-weaker (Knows world.lines) (Knows after.lines) (λ entry. knows_grow world.lines after.lines entry grow) (bucket_at buckets bucket) (is.entries bucket lt);
}

-- a claim stays where the part does and was claimed as it is
pub claim_stays : (world after : WorldData) (part : ℕ) → after.search ≡ world.search → length world.workers ≤ length after.workers
    → (part < after.next → part < world.next) → (after.next ≤ part → world.next ≤ part) → part_at after part ≡ part_at world part
    → IsClaimed world part → IsClaimed after part
claim_stays world after part search workers below above same is = record {
  claimer = λ lt. (let was = is.claimer (below lt) in (was.0, omega (arith, was.1, workers), ap (λ (p : PartData). p.claimer) same ∙ was.2));
  free = λ le. (let was = is.free (above le) in (
    ap (λ (p : PartData). p.claimer) same ∙ was.0,
    ap (λ (p : PartData). p.last) same ∙ was.1,
    ap (λ (p : PartData). p.number) same ∙ was.2,
  ));
  last = λ path at. subst (λ (s : SearchData). lies_in (depth_of s) s.tasks part path ≡ true) (sym search)
      (is.last path (ap (λ (p : PartData). p.last) (sym same) ∙ at));
  own = λ path at. subst (λ (s : SearchData). IsPath s.film path) (sym search) (is.own path (ap (λ (p : PartData). p.last) (sym same) ∙ at));
}
