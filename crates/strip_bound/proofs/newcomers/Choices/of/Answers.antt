use Rattle.std.proofs.Common.{◌≡◌, ℕ, suc, ◌+◌, ◌*◌, ◌<◌, List, All, true, drop, slice_index, slice_set, take, inl, inr, ap, sym, subst, ◌∙◌, arith}
use Rattle.std.proofs.lemmas.Bool.{cases_eq}
use Rattle.std.proofs.lemmas.List.{get_or-set_other, get_or-set_same, length-set}
use Rattle.strip_mask.specs.Set.{has, minus}
use Rattle.strip_bound.specs.Bounds.{chosen, group_at, left_at, newcomers_at, set_of}
use Rattle.strip_bound.proofs.Coming.{take_again}
use Rattle.strip_bound.proofs.Party.{chosen_small, group_known, left_known, located_small}
use Rattle.strip_bound.proofs.newcomers.Choices.of.Goals as goal

pub set_from-group-requires-clause-listed : goal.set_from-group-requires-clause-listed
set_from-group-requires-clause-listed c = subst (All (λ actor. actor < 64)) (sym c.args.here.now.located)
    (located_small c.args.here.now.film.now c.args.here.now.q.0 c.keeps_limits.ensures c.args.here.now.lies)

pub chosen-chosen-requires-clause-group : goal.chosen-chosen-requires-clause-group
chosen-chosen-requires-clause-group c i there =
    let many : ℕ = c.args.parties.now.many in
    let place : ℕ = c.loop-place.place in
    let group_is : c.set_from-group.result.0 ≡ group_at c.args.here.now.film.now c.args.here.now.q.0 many place
    = c.set_from-group.ensures ∙ ap (λ (xs : List ℕ). set_of (take many (drop (place * many) xs))) c.args.here.now.located in
    group_known c.args.here.now.film.now c.args.here.now.q.0 c.keeps_limits.ensures c.args.here.now.lies many place i (subst (λ (set : ℕ). has set i ≡ true) group_is there)

pub chosen-chosen-requires-clause-newcomers : goal.chosen-chosen-requires-clause-newcomers
chosen-chosen-requires-clause-newcomers c i there = left_known c.args.here.now.film.now c.args.here.now.q.0 c.keeps_limits.ensures c.args.here.now.lies c.args.parties.now.many c.loop-place.place i
    (subst (λ (set : ℕ). has set i ≡ true) c.loop-place.invariant.left there)

pub set_from-both-requires-clause-listed : goal.set_from-both-requires-clause-listed
set_from-both-requires-clause-listed c =
    let many : ℕ = c.args.parties.now.many in
    let place : ℕ = c.loop-place.place in
    let group_is : c.set_from-group.result.0 ≡ group_at c.args.here.now.film.now c.args.here.now.q.0 many place
    = c.set_from-group.ensures ∙ ap (λ (xs : List ℕ). set_of (take many (drop (place * many) xs))) c.args.here.now.located in
    let those : c.chosen-chosen.result.items ≡ chosen c.args.here.now.film.now c.args.here.now.q.0 (group_at c.args.here.now.film.now c.args.here.now.q.0 many place) (left_at c.args.here.now.film.now c.args.here.now.q.0 many place)
    = c.chosen-chosen.ensures ∙ (λ i. chosen c.args.here.now.film.now c.args.here.now.q.0 (group_is i) (c.loop-place.invariant.left i)) in
    subst (All (λ actor. actor < 64)) (sym (c.deref.ensures.0 ∙ those)) (chosen_small c.args.here.now.film.now c.args.here.now.q.0 c.keeps_limits.ensures c.args.here.now.lies many place)

pub set_from-requires-clause-listed : goal.set_from-requires-clause-listed
set_from-requires-clause-listed c =
    let many : ℕ = c.args.parties.now.many in
    let place : ℕ = c.loop-place.place in
    let group_is : c.set_from-group.result.0 ≡ group_at c.args.here.now.film.now c.args.here.now.q.0 many place
    = c.set_from-group.ensures ∙ ap (λ (xs : List ℕ). set_of (take many (drop (place * many) xs))) c.args.here.now.located in
    let those : c.chosen-chosen.result.items ≡ chosen c.args.here.now.film.now c.args.here.now.q.0 (group_at c.args.here.now.film.now c.args.here.now.q.0 many place) (left_at c.args.here.now.film.now c.args.here.now.q.0 many place)
    = c.chosen-chosen.ensures ∙ (λ i. chosen c.args.here.now.film.now c.args.here.now.q.0 (group_is i) (c.loop-place.invariant.left i)) in
    subst (All (λ actor. actor < 64)) (sym (c.deref-in-loop-place.ensures.0 ∙ those)) (chosen_small c.args.here.now.film.now c.args.here.now.q.0 c.keeps_limits.ensures c.args.here.now.lies many place)

pub loop-place-preserved : goal.loop-place-preserved
loop-place-preserved c =
    let film = c.args.here.now.film.now in
    let q : ℕ = c.args.here.now.q.0 in
    let many : ℕ = c.args.parties.now.many in
    let place : ℕ = c.loop-place.place in
    let group_is : c.set_from-group.result.0 ≡ group_at c.args.here.now.film.now c.args.here.now.q.0 many place
    = c.set_from-group.ensures ∙ ap (λ (xs : List ℕ). set_of (take many (drop (place * many) xs))) c.args.here.now.located in
    let those : c.chosen-chosen.result.items ≡ chosen c.args.here.now.film.now c.args.here.now.q.0 (group_at c.args.here.now.film.now c.args.here.now.q.0 many place) (left_at c.args.here.now.film.now c.args.here.now.q.0 many place)
    = c.chosen-chosen.ensures ∙ (λ i. chosen c.args.here.now.film.now c.args.here.now.q.0 (group_is i) (c.loop-place.invariant.left i)) in
    let firsts : List ℕ = c.loop-place.choices.first in
    let boths : List ℕ = c.loop-place.choices.both in
    let within : place < 10 = omega (arith, c.loop-place-test.true, c.requires.parties.few) in
    let one : c.set_from.result.0 ≡ newcomers_at film q many 1 place
    = c.set_from.ensures ∙ ap (λ (xs : List ℕ). set_of (take 1 xs)) (c.deref-in-loop-place.ensures.0 ∙ those) in
    let two : c.set_from-both.result.0 ≡ newcomers_at film q many 2 place
    = c.set_from-both.ensures ∙ ap (λ (xs : List ℕ). set_of (take 2 xs)) (c.deref.ensures.0 ∙ those) in
    let all : newcomers_at film q many 2 place ≡ set_of (chosen film q (group_at film q many place) (left_at film q many place)) = ap set_of (take_again 2 _) in
    let more : suc place ≡ place + 1 = omega arith in
    record {
      left = c.minus-left.ensures ∙ (λ i. minus (c.loop-place.invariant.left i) ((two ∙ all) i)) ∙ ap (left_at film q many) more;
      firsts = length-set firsts place c.set_from.result.0 ∙ c.loop-place.invariant.firsts;
      boths = length-set boths place c.set_from-both.result.0 ∙ c.loop-place.invariant.boths;
      first = λ other less. elim (cases_eq other place) [
        | inl same ↦ ap (slice_index (slice_set firsts place c.set_from.result.0)) same ∙ get_or-set_same firsts place c.set_from.result.0 0
            (omega (arith, within, c.loop-place.invariant.firsts)) ∙ one ∙ ap (newcomers_at film q many 1) (sym same)
        | inr differs ↦ get_or-set_other firsts place other c.set_from.result.0 0 differs ∙ c.loop-place.invariant.first other (omega (arith, less, differs))
      ];
      both = λ other less. elim (cases_eq other place) [
        | inl same ↦ ap (slice_index (slice_set boths place c.set_from-both.result.0)) same ∙ get_or-set_same boths place c.set_from-both.result.0 0
            (omega (arith, within, c.loop-place.invariant.boths)) ∙ two ∙ ap (newcomers_at film q many 2) (sym same)
        | inr differs ↦ get_or-set_other boths place other c.set_from-both.result.0 0 differs ∙ c.loop-place.invariant.both other (omega (arith, less, differs))
      ];
    }
