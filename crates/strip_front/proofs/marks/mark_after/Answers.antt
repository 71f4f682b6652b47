use Rattle.std.proofs.Common.{◌≡◌, ◌≢◌, ℕ, List, Contains, append_assoc, sym, ap, subst}
use Rattle.std.specs.List.{AllPairs}
use Rattle.strip_mask.specs.Iter.{rest_of}
use Rattle.strip_mask.specs.Set.{members}
use Rattle.strip_mask.proofs.Turns.{turn_below, turns_all}
use Rattle.strip_mask.proofs.Members.{Contains-members, has_from_members}
use Rattle.strip_rule.proofs.Firsts.{firsts_set}
use Rattle.strip_front.specs.Front.{task_at}
use Rattle.strip_front.specs.Marked.{MarksMore}
use Rattle.strip_rule.specs.Rule.{open_firsts}
use Rattle.strip_front.specs.Front.{FrontData}
use Rattle.strip_front.specs.Shown.{front_data}
use Rattle.strip_front.proofs.Asked.{leaves_all, leaves_more}
use Rattle.strip_front.proofs.marks.mark_after.Goals as goal

pub without-requires : goal.without-requires
without-requires c =
    turn_below (open_firsts c.args.film.now c.args.rest.0) c.in-Some.scene c.loop-scene.yielded (rest_of c.loop-scene.scene-iterator) (rest_of c.next.new.self)
    c.loop-scene.invariant.turns c.in-Some.ensures.steps

pub ask_for-requires-clause-apart : goal.ask_for-requires-clause-apart
ask_for-requires-clause-apart c =
    subst (AllPairs (λ a b. a.rest ≢ b.rest)) (sym (ap (λ (f : FrontData). f.tasks) c.loop-scene.invariant.marks.only)) c.requires.apart

pub loop-scene-preserved : goal.loop-scene-preserved
loop-scene-preserved c = record {
  marks = leaves_more (front_data c.args.front.now) (front_data c.loop-scene.front) (front_data c.ask_for.new.front) c.args.rest.0 c.loop-scene.yielded c.in-Some.scene
      c.loop-scene.invariant.marks
      (subst (λ (q : ℕ). MarksMore (front_data c.loop-scene.front) (front_data c.ask_for.new.front) (λ task. (task_at (front_data c.loop-scene.front) task).rest ≡ q))
      c.without.ensures c.ask_for.ensures);
  turns = rw append_assoc (rw (← c.in-Some.ensures.steps) c.loop-scene.invariant.turns);
}

all_turns : (c : goal.In-None) → c.loop-scene.yielded ≡ members (open_firsts c.args.film.now c.args.rest.0)
all_turns c = turns_all (open_firsts c.args.film.now c.args.rest.0) c.loop-scene.yielded (rest_of c.loop-scene.scene-iterator) c.loop-scene.invariant.turns c.in-None.ensures.steps.0

pub returns : goal.returns
returns c =
    leaves_all c.args.film.now (front_data c.args.front.now) (front_data c.loop-scene.front) c.args.rest.0 c.loop-scene.yielded
    (λ scene. (
      (λ there. has_from_members (open_firsts c.args.film.now c.args.rest.0) scene
          (subst (λ (xs : List ℕ). Contains xs scene) (all_turns c) there)),
      (λ member. subst (λ (xs : List ℕ). Contains xs scene) (sym (all_turns c))
          (Contains-members (open_firsts c.args.film.now c.args.rest.0) scene (firsts_set c.args.film.now c.args.rest.0 c.keeps_limits.ensures c.requires.lies) member)),
    ))
    c.loop-scene.invariant.marks
