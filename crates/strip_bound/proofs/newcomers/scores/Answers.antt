use Rattle.std.proofs.Common.{◌≡◌, ℕ, ◌<◌, List, Contains, length, slice_index, slice_set, refl, inl, inr, ap, sym, subst, ◌∙◌, arith, append_assoc}
use Rattle.std.proofs.lemmas.Bool.{cases_eq}
use Rattle.std.proofs.lemmas.List.{get_or-set_other, get_or-set_same, length-set}
use Rattle.std.proofs.lemmas.List.Elements.{Contains-push_cases}
use Rattle.strip_mask.specs.Iter.{rest_of}
use Rattle.strip_mask.specs.Set.{IsSet}
use Rattle.strip_mask.proofs.Below.{is_set_below}
use Rattle.strip_mask.proofs.Lists.{contains_none}
use Rattle.strip_mask.proofs.Members.{Contains-members}
use Rattle.strip_mask.proofs.Turns.{turn_below, turn_member, turns_all}
use Rattle.strip_bound.specs.Bounds.{score}
use Rattle.strip_bound.proofs.newcomers.scores.Goals as goal

pub loop-newcomer-init : goal.loop-newcomer-init
loop-newcomer-init c = record {
  long = refl;
  so_far = λ newcomer none. absurd (contains_none newcomer none);
  turns = ap rest_of c.into_iter-newcomer-iterator.ensures.into_iter_gives ∙ c.iter-newcomer-items.ensures.left;
}

pub score-requires-clause-known : goal.score-requires-clause-known
score-requires-clause-known c = c.requires.newcomers c.in-Some.newcomer (turn_member c.args.newcomers.0 c.in-Some.newcomer c.loop-newcomer.yielded
    (rest_of c.loop-newcomer.newcomer-iterator) (rest_of c.next.new.self) c.loop-newcomer.invariant.turns c.in-Some.ensures.steps)

pub bounds-scores-newcomer : goal.bounds-scores-newcomer
bounds-scores-newcomer c = turn_below c.args.newcomers.0 c.in-Some.newcomer c.loop-newcomer.yielded
    (rest_of c.loop-newcomer.newcomer-iterator) (rest_of c.next.new.self) c.loop-newcomer.invariant.turns c.in-Some.ensures.steps

pub loop-newcomer-preserved : goal.loop-newcomer-preserved
loop-newcomer-preserved c =
    let before : List ℕ = c.loop-newcomer.scores in
    let at : ℕ = c.in-Some.newcomer in
    let below : at < 64 = turn_below c.args.newcomers.0 at c.loop-newcomer.yielded
    (rest_of c.loop-newcomer.newcomer-iterator) (rest_of c.next.new.self) c.loop-newcomer.invariant.turns c.in-Some.ensures.steps in
    let within : at < length before = omega (arith, below, c.loop-newcomer.invariant.long) in
    let scored : ℕ → ℕ = score c.args.film.now c.args.q.0 c.args.group.0 in
    let here : slice_index (slice_set before at c.score.result) at ≡ scored at = get_or-set_same before at c.score.result 0 within ∙ c.score.ensures in
    record {
      long = length-set before at c.score.result ∙ c.loop-newcomer.invariant.long;
      so_far = λ newcomer there. elim (cases_eq newcomer at) [
        | inl same ↦ ap (slice_index (slice_set before at c.score.result)) same ∙ here ∙ ap scored (sym same)
        | inr other ↦ get_or-set_other before at newcomer c.score.result 0 other ∙ elim (Contains-push_cases c.loop-newcomer.yielded at newcomer there) [
          | inl early ↦ c.loop-newcomer.invariant.so_far newcomer early
          | inr last ↦ absurd (other (sym last))
        ]
      ];
      turns = rw append_assoc (rw (← c.in-Some.ensures.steps) c.loop-newcomer.invariant.turns);
    }

pub returns-clause-scores : goal.returns-clause-scores
returns-clause-scores c newcomer there =
    let is : IsSet c.args.newcomers.0 = is_set_below (length c.args.film.now.rates) c.args.newcomers.0 c.keeps_limits.ensures.actor_count c.requires.newcomers in
    c.loop-newcomer.invariant.so_far newcomer (subst (λ (xs : List ℕ). Contains xs newcomer)
    (sym (turns_all c.args.newcomers.0 c.loop-newcomer.yielded (rest_of c.loop-newcomer.newcomer-iterator) c.loop-newcomer.invariant.turns c.in-None.ensures.steps.0))
    (Contains-members c.args.newcomers.0 newcomer is there))
