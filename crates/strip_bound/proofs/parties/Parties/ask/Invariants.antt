use Rattle.std.proofs.Common.{◌≡◌, ℕ, suc, ◌+◌, ◌<◌, ◌≤◌, ◌⊎◌, length, slice_index}
use Rattle.strip_bound.specs.Bounds.{greatest_below}
use Rattle.strip_bound.specs.Parties.{AreParties}
use Rattle.strip_bound.proofs.parties.Parties.ask.Given as goal

-- either as much as is needed is known, or the parties so far were asked, and the others weren't
abbrev pub invariant-loop-place : goal.invariant-loop-place
invariant-loop-place l = record {
  parties : AreParties l.here.film.now l.here.q.0 l.fn.self.many l.self;
  need : l.self.need ≡ l.fn.self.need;
  more : l.self.asked ≡ l.count + 1;
  asked : (l.self.need ≤ l.self.extra) ⊎ (
      ((place : ℕ) → place < l.place → slice_index l.self.values place ≡ greatest_below l.here.film.now l.here.q.0 l.fn.self.many (suc l.count) place)
      × ((place : ℕ) → l.place ≤ place → place < l.self.number → slice_index l.self.values place ≡ greatest_below l.here.film.now l.here.q.0 l.fn.self.many l.fn.self.asked place)
      );
}
