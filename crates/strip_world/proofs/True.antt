-- What a sound world says is true, and its lines are few.
use Rattle.std.proofs.Common.{◌≡◌, ℕ, ◌+◌, ◌<◌, ◌≤◌, eqb, length, count_by, Contains, All, sym, ap, ◌∙◌, subst, arith}
use Rattle.std.proofs.lemmas.List.Elements.{All-contains}
use Rattle.strip_hand.proofs.Apart.{tasks_apart}
use Rattle.strip_model.specs.Pay.{IsOptimum}
use Rattle.strip_film.specs.declared.shared.Known.{Known}
use Rattle.strip_film.specs.declared.shared.Line.{Line}
use Rattle.strip_film.specs.Film.{all_scenes}
use Rattle.strip_film.specs.Finish.{EachOnce, IsAtMostFinish, IsFinish, steps_cost}
use Rattle.strip_film.specs.Path.{PathData, IsComplete}
use Rattle.strip_film.specs.Rules.{BeginLeast, BoundsFinish}
use Rattle.strip_film.proofs.Optimum.{finish_from_optimum}
use Rattle.strip_lines.specs.Lines.{line_at, no_line}
use Rattle.strip_lines.proofs.Justified.{lines_are_true}
use Rattle.strip_lines.specs.Paths.{candidate_count, leaving_count}
use Rattle.strip_lines.proofs.Shares.{lines_few, lines_room, lines_ways}
use Rattle.strip_table.specs.Stripe.{bucket_at}
use Rattle.strip_hand.specs.Search.{depth_of, search_rules}
use Rattle.strip_world.specs.World.{WorldData, no_worker, part_at, stripe_at, worker_at}
use Rattle.strip_world.specs.Allowed.{WorkerMayEnlist}
use Rattle.strip_hand.specs.Hand.{Knows}
use Rattle.strip_world.specs.Sound.{IsSound}
use Rattle.strip_world.proofs.Lines.{is_candidate_of_start, part_within}

-- ---- lines, entries and the least cost

module _ (world : WorldData) (sound : IsSound world) where
  module _ (bounds : BoundsFinish (search_rules world.search)) (begin : BeginLeast (search_rules world.search)) where
    pub true_lines : All (λ line. IsAtMostFinish world.search.film line.set line.bound) world.lines
    true_lines = lines_are_true (search_rules world.search) world.lines sound.film bounds begin sound.lines

    -- an entry is as true as its line
    true_entry : (entry : Known) → Knows world.lines entry → IsAtMostFinish world.search.film entry.set entry.bound
    true_entry entry is scenes each =
        let line : Line = line_at world.lines entry.line in
        let most : line.bound ≤ steps_cost world.search.film line.set scenes
        = true_lines entry.line no_line is.there scenes (subst (λ (q : ℕ). EachOnce world.search.film q scenes) (sym is.set) each) in
        let same : steps_cost world.search.film line.set scenes ≡ steps_cost world.search.film entry.set scenes
        = ap (λ (q : ℕ). steps_cost world.search.film q scenes) is.set in
        omega (arith, most, same, is.as_great)

    pub true_entries : (stripe bucket : ℕ) (entry : Known) → stripe < 16 → bucket < length (stripe_at world stripe)
        → Contains (bucket_at (stripe_at world stripe) bucket) entry → IsAtMostFinish world.search.film entry.set entry.bound
    true_entries stripe bucket entry below within stands =
        true_entry entry
        (All-contains (Knows world.lines) (bucket_at (stripe_at world stripe) bucket) entry ((sound.stripes stripe below).entries bucket within) stands)

  -- the least cost is what some order pays
  pub least_is_paid : (pay : ℕ) → IsOptimum world.search.film pay → pay ≤ world.least
  least_is_paid pay optimum =
      let complete : IsComplete world.search.film (worker_at world sound.least.who).best = (sound.workers sound.least.who no_worker sound.least.one).complete in
      let finish : IsFinish world.search.film (all_scenes world.search.film) pay = finish_from_optimum world.search.film sound.film pay optimum in
      let most = finish.least (worker_at world sound.least.who).best.scenes (complete.0.remained, sym complete.0.left ∙ complete.1) in
      omega (arith, most, complete.0.steps, sound.least.best)

-- ---- counts

module _ (world : WorldData) (sound : IsSound world) where
  pub most_lines : length world.lines ≤ candidate_count (search_rules world.search) world.search.start
  most_lines =
      lines_few (search_rules world.search) world.search.start (depth_of world.search) world.search.tasks sound.film (tasks_apart world.search sound.tasks) world.lines
      (λ part. (part_at world part).last) (λ part. (part_at world part).number) sound.counts

  pub most_of_set : (set : ℕ) → count_by (λ line. eqb line.set set) world.lines ≤ leaving_count (search_rules world.search) world.search.start set
  most_of_set =
      lines_ways (search_rules world.search) world.search.start (depth_of world.search) world.search.tasks sound.film (tasks_apart world.search sound.tasks) world.lines
      (λ part. (part_at world part).last) (λ part. (part_at world part).number) sound.counts

  pub room_for_more : (who part : ℕ) (path : PathData) → who < length world.workers → WorkerMayEnlist world who part path
      → length world.lines + 1 ≤ candidate_count (search_rules world.search) world.search.start
  room_for_more who part path lt may =
      lines_room (search_rules world.search) world.search.start (depth_of world.search) world.search.tasks sound.film (tasks_apart world.search sound.tasks) world.lines
      (λ p. (part_at world p).last) (λ p. (part_at world p).number) sound.counts part path (part_within world who part path lt sound may)
      (may.is_open.0, may.some) may.later may.lies (is_candidate_of_start world who part path lt sound may)
