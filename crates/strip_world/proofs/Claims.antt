-- A sound world stays sound where a worker claims the next part.
use Rattle.std.proofs.Common.{◌≡◌, ◌≢◌, ℕ, ◌+◌, ◌<◌, ltb, Option, Some, length, slice_set, inl, inr, refl, sym, ap, ◌∙◌, subst, arith}
use Rattle.std.proofs.lemmas.Bool.{cases_eq, cond_both, ltb-true}
use Rattle.std.proofs.lemmas.List.{length-set, get_or-set_same, get_or-set_other}
use Rattle.strip_film.specs.Path.{PathData}
use Rattle.strip_lines.proofs.Grown.{grow_self}
use Rattle.strip_lines.specs.Parts.{AreCounted}
use Rattle.strip_hand.specs.Search.{depth_of, search_rules}
use Rattle.strip_world.specs.World.{PartData, WorldData, no_part, part_at, stripe_at}
use Rattle.strip_world.specs.Sound.{IsClaimed, IsSound}
use Rattle.strip_world.specs.Steps.{claimed}
use Rattle.strip_world.proofs.Stays.{claim_stays, stripe_grows}

module _ (world : WorldData) (who : ℕ) (lt : who < length world.workers) (sound : IsSound world) where
  module _ (left : world.next < length world.parts) where
    abbrev mine : PartData
    mine = record (part_at world world.next) { claimer = Some who }

    -- the world in which the next part is the worker's
    abbrev taken : WorldData
    taken = record world { next = world.next + 1; parts = slice_set world.parts world.next mine }

    part_here : part_at taken world.next ≡ mine
    part_here = get_or-set_same world.parts world.next mine no_part left

    part_there : (part : ℕ) → part ≢ world.next → part_at taken part ≡ part_at world part
    part_there part apart = get_or-set_other world.parts world.next part mine no_part apart

    claim_here : IsClaimed taken world.next
    claim_here = record {
      claimer = λ below. (who, lt, ap (λ (p : PartData). p.claimer) part_here);
      free = λ above. absurd (omega (arith, above));
      last = λ path at. (sound.parts world.next left).last path (ap (λ (p : PartData). p.last) (sym part_here) ∙ at);
      own = λ path at. (sound.parts world.next left).own path (ap (λ (p : PartData). p.last) (sym part_here) ∙ at);
    }

    claims : (part : ℕ) → part < length world.parts → IsClaimed taken part
    claims part within = elim (cases_eq part world.next) [
      | inl same ↦ subst (IsClaimed taken) (sym same) claim_here
      | inr apart ↦ claim_stays world taken part refl (omega arith) (λ below. omega (arith, below, apart)) (λ above. omega (arith, above))
          (part_there part apart) (sound.parts part within)
    ]

    -- no part's last path and number change
    lasts : (part : ℕ) → (part_at world part).last ≡ (part_at taken part).last
    lasts part = elim (cases_eq part world.next) [
      | inl same ↦ ap (λ (p : ℕ). (part_at world p).last) same ∙ ap (λ (p : PartData). p.last) (sym part_here) ∙ ap (λ (p : ℕ). (part_at taken p).last) (sym same)
      | inr apart ↦ ap (λ (p : PartData). p.last) (sym (part_there part apart))
    ]

    numbers : (part : ℕ) → (part_at world part).number ≡ (part_at taken part).number
    numbers part = elim (cases_eq part world.next) [
      | inl same ↦ ap (λ (p : ℕ). (part_at world p).number) same ∙ ap (λ (p : PartData). p.number) (sym part_here) ∙ ap (λ (p : ℕ). (part_at taken p).number) (sym same)
      | inr apart ↦ ap (λ (p : PartData). p.number) (sym (part_there part apart))
    ]

    counts : AreCounted (search_rules world.search) world.search.start (depth_of world.search) world.search.tasks world.lines
        (λ part. (part_at taken part).last) (λ part. (part_at taken part).number)
    counts =
        subst (λ (last : ℕ → Option PathData). AreCounted (search_rules world.search) world.search.start (depth_of world.search) world.search.tasks world.lines
        last (λ part. (part_at taken part).number)) (λ i part. lasts part i)
        (subst (λ (number : ℕ → ℕ). AreCounted (search_rules world.search) world.search.start (depth_of world.search) world.search.tasks world.lines
        (λ part. (part_at world part).last) number) (λ i part. numbers part i) sound.counts)

    long : length (slice_set world.parts world.next mine) ≡ length world.parts
    long = length-set world.parts world.next mine

    sound_taken : IsSound taken
    sound_taken = record {
      film = sound.film;
      tasks = sound.tasks;
      workers = sound.workers;
      least = record { who = sound.least.who; one = sound.least.one; best = sound.least.best };
      few = sound.few;
      lines = sound.lines;
      stripe_count = sound.stripe_count;
      stripes = λ number within. stripe_grows world taken number (stripe_at world number) refl (grow_self world.lines) (sound.stripes number within);
      part_count = long ∙ sound.part_count;
      next = omega (arith, left, long);
      parts = λ part within. claims part (omega (arith, within, long));
      counts = counts;
    }

  pub sound_claimed : IsSound (claimed world who)
  sound_claimed =
      cond_both (ltb world.next (length world.parts)) _ world IsSound (λ is. sound_taken (ltb-true world.next (length world.parts) is)) (λ is. sound)
