use Rattle.std.proofs.Common.{rules, ◌≡◌, ℕ, ◌∙◌, sym, ap}
use Rattle.strip_mask.specs.Set.{IsSet, full, size, sum_over}
use Rattle.strip_group.proofs.Places.{pick-full}
use Rattle.strip_arrivals.proofs.ByPlace.{sum_by_place}
use Rattle.strip_arrivals.proofs.table.ArrivalsTable.crew.Goals as goal

pub returns-clause-crew : goal.returns-clause-crew
returns-clause-crew c = λ count fits.
    let small : IsSet c.args.group.0 = search rules in
    let by_place : (places : ℕ) → sum_over c.holds_of.result places ≡ _
    = sum_by_place c.args.group.0 small c.args.self.now.holds c.holds_of.result c.holds_of.ensures.holds c.holds_of.ensures.none in
    record {
      casts_long = c.casts_of.ensures.long;
      casts = c.casts_of.ensures.casts;
      lies = c.casts_of.ensures.lies;
      holds_long = c.holds_of.ensures.long;
      holds = c.holds_of.ensures.holds;
      no_holds = c.holds_of.ensures.none;
      rates = λ places lt. by_place places;
      rate = c.rate.ensures.same ∙ sym (by_place (full (size c.args.group.0)) ∙ ap (sum_over c.args.self.now.holds) (pick-full c.args.group.0 small));
      fits = fits;
    }
