use Rattle.std.proofs.Common.{rules, ◌≡◌, ℕ, true, List, Contains, slice_index, sym, ap, ◌∙◌, subst, inl, inr, append_assoc}
use Rattle.std.proofs.lemmas.Bool.{or_left, or_right}
use Rattle.strip_mask.specs.Iter.{rest_of}
use Rattle.strip_mask.specs.Set.{has}
use Rattle.strip_mask.proofs.ByMembers.{has-union, has_from_union, empty_has}
use Rattle.strip_mask.proofs.Members.{Contains-members, has_from_members}
use Rattle.strip_mask.proofs.Turns.{turn_below, turns_all}
use Rattle.strip_arrivals.proofs.ByPlace.{listed_before, listed_last, listed_more}
use Rattle.strip_mask.proofs.Lists.{contains_none}
use Rattle.strip_arrivals.proofs.crew.works_in.Goals as goal

pub loop-scene-init : goal.loop-scene-init
loop-scene-init c = record {
  some = λ place there. absurd (empty_has place there);
  all = λ scene place listed there. absurd (contains_none scene listed);
  turns = ap rest_of c.into_iter-scene-iterator.ensures.into_iter_gives ∙ c.iter-scene-items.ensures.left;
}

pub bounds-casts-scene : goal.bounds-casts-scene
bounds-casts-scene c = turn_below c.args.scenes.0 c.in-Some.scene c.loop-scene.yielded (rest_of c.loop-scene.scene-iterator) (rest_of c.next.new.self) c.loop-scene.invariant.turns c.in-Some.ensures.steps

pub loop-scene-preserved : goal.loop-scene-preserved
loop-scene-preserved c =
    let before : ℕ = c.loop-scene.places.0 in
    let cast : ℕ = slice_index c.args.casts.now c.in-Some.scene in
    record {
      some = λ place there. elim (has_from_union before cast place (ap (λ (s : ℕ). has s place) (sym c.union-places.ensures) ∙ there)) [
        | inl earlier ↦ (let found = c.loop-scene.invariant.some place earlier in (found.0, listed_before c.loop-scene.yielded c.in-Some.scene found.0 found.1, found.2))
        | inr here ↦ (c.in-Some.scene, listed_last c.loop-scene.yielded c.in-Some.scene, here)
      ];
      all = λ scene place listed there. ap (λ (s : ℕ). has s place) c.union-places.ensures ∙ has-union before cast place ∙ elim (listed_more c.loop-scene.yielded c.in-Some.scene scene listed) [
        | inl earlier ↦ or_left (has before place) (has cast place) (c.loop-scene.invariant.all scene place earlier there)
        | inr is ↦ or_right (has before place) (has cast place) (subst (λ (k : ℕ). has (slice_index c.args.casts.now k) place ≡ true) (sym is) there)
      ];
      turns = rw append_assoc (rw (← c.in-Some.ensures.steps) c.loop-scene.invariant.turns);
    }

pub returns-clause-some : goal.returns-clause-some
returns-clause-some c = λ place there.
    let all = turns_all c.args.scenes.0 c.loop-scene.yielded (rest_of c.loop-scene.scene-iterator) c.loop-scene.invariant.turns c.in-None.ensures.steps.0 in
    let found = c.loop-scene.invariant.some place there in
    (found.0, has_from_members c.args.scenes.0 found.0 (subst (λ (xs : List ℕ). Contains xs found.0) all found.1), found.2)

pub returns-clause-all : goal.returns-clause-all
returns-clause-all c = λ scene place there works.
    let all = turns_all c.args.scenes.0 c.loop-scene.yielded (rest_of c.loop-scene.scene-iterator) c.loop-scene.invariant.turns c.in-None.ensures.steps.0 in
    c.loop-scene.invariant.all scene place (subst (λ (xs : List ℕ). Contains xs scene) (sym all) (Contains-members c.args.scenes.0 scene (search rules) there)) works
