use Rattle.std.proofs.Common.{◌≡◌, ◌<◌, ◌+◌, ◌^◌, ℕ, List, ◌∷◌, [], sym, subst, ap, ◌∙◌, arith}
use Rattle.strip_mask.specs.Set.{meet, minus, sum_over, with}
use Rattle.strip_group.specs.Group.{GroupData}
use Rattle.strip_group.specs.Places.{pick}
use Rattle.strip_sets.specs.Numbers.{number}
use Rattle.strip_arrivals.specs.Arrivals.{at_first, mates}
use Rattle.strip_arrivals.specs.Company.{AreBoth, AreCounted, ArePair, IsStage, just}
use Rattle.strip_arrivals.specs.Gross.{IsGross}
use Rattle.strip_arrivals.specs.declared.party.Both.{Both}
use Rattle.strip_arrivals.specs.declared.party.Newcomer.{Newcomer}
use Rattle.strip_arrivals.specs.declared.party.Party.{Party}
use Rattle.strip_arrivals.proofs.AtOnce.{either_comes}
use Rattle.strip_arrivals.proofs.Masks.{pair_turned, two_turned}
use Rattle.strip_arrivals.proofs.Stages.{stage_alone}
use Rattle.strip_arrivals.proofs.table.ArrivalsTable.gross_with_two.Goals as goal

-- the two newcomers are those whose tables were made
same_pair : (newcomers one other made made_too : ℕ) → made ≡ one → made_too ≡ other → ArePair newcomers one other → ArePair newcomers made made_too
same_pair newcomers one other made made_too is is_too pair =
    subst (λ (s : ℕ). ArePair newcomers s made_too) (sym is) (subst (λ (s : ℕ). ArePair newcomers one s) (sym is_too) pair)

-- which of the two is named first doesn't matter
both_turned : {B : Type 0} (value : List B → ℕ → ℕ) (count : ℕ) (film : GroupData) (party : Party B) (both : Both B) (one other : Newcomer B)
    → AreBoth value count film party one other both → AreBoth value count film party other one both
both_turned value count film party both one other are =
    let set : ℕ = party.crew.now.set.0 in
    let group : ℕ = party.crew.now.group.0 in
    let newcomers : ℕ = party.newcomers.0 in
    record {
      sized = are.sized;
      days = are.days;
      are_days = subst (λ (s : ℕ). AreCounted film group count film.days (just film newcomers s set) are.days) (two_turned one.actor other.actor) are.are_days;
      all = λ places lt. (let sum = are.all places lt in omega (arith, sum));
      are_mates = subst (λ (s : ℕ). (places : ℕ) → places < 2 ^ count → value both.mates.now places ≡ sum_over film.holds (meet (minus group (pick group places)) (mates film set s)))
          (two_turned other.actor one.actor) are.are_mates;
    }

pub arrived-one-requires-clause-stage : goal.arrived-one-requires-clause-stage
arrived-one-requires-clause-stage g c =
    let newcomers : ℕ = c.args.party.now.newcomers.0 in
    subst (λ (gone : ℕ). IsStage newcomers 0 (c.args.one ∷ []) gone) (sym c.with.ensures) (stage_alone newcomers c.args.one c.args.other c.requires.pair)

pub arrived-other-requires-clause-stage : goal.arrived-other-requires-clause-stage
arrived-other-requires-clause-stage g c =
    let newcomers : ℕ = c.args.party.now.newcomers.0 in
    let gone : c.with-gone.result.0 ≡ with 0 c.args.one = c.with-gone.ensures ∙ ap (with 0) c.arrived-one.ensures.actor in
    subst (λ (s : ℕ). IsStage newcomers 0 (c.args.other ∷ []) s) (sym gone)
    (stage_alone newcomers c.args.other c.args.one (pair_turned newcomers c.args.one c.args.other c.requires.pair))

pub gross_of_both-other_first-requires-clause-both : goal.gross_of_both-other_first-requires-clause-both
gross_of_both-other_first-requires-clause-both g c =
    both_turned (number g.B.BySet.value g.B.BySet.places) (c.args.party.now.higher + g.B.BySet.places) c.args.self.now c.args.party.now c.both-both.result
    c.arrived-one.result.newcomer c.arrived-other.result.newcomer c.both-both.ensures

pub returns : goal.returns
returns g c =
    let film : GroupData = c.args.self.now in
    let set : ℕ = c.args.party.now.crew.now.set.0 in
    let group : ℕ = c.args.party.now.crew.now.group.0 in
    let newcomers : ℕ = c.args.party.now.newcomers.0 in
    let one : ℕ = c.arrived-one.result.newcomer.actor in
    let other : ℕ = c.arrived-other.result.newcomer.actor in
    subst (λ (gross : ℕ). IsGross film set group (at_first newcomers) gross) (sym c.min.ensures)
    (either_comes film set group newcomers c.requires.party.company one other c.gross_of_both-one_first.result c.gross_of_both-other_first.result
    (same_pair newcomers c.args.one c.args.other one other c.arrived-one.ensures.actor c.arrived-other.ensures.actor c.requires.pair)
    c.gross_of_both-one_first.ensures.gross c.gross_of_both-other_first.ensures.gross)
