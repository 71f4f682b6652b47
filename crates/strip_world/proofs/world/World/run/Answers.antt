use Rattle.std.proofs.Common.{◌≡◌, ℕ, IsTrue, length, refl, sym, subst, arith}
use Rattle.strip_hand.specs.Search.{GoesBy, SearchData}
use Rattle.strip_world.proofs.Steps.{search_stays}
use Rattle.strip_world.proofs.Runs.{Took, ran_all, ran_to, took_next}
use Rattle.strip_world.proofs.world.World.run.Goals as goal

pub loop-count-init : goal.loop-count-init
loop-count-init g c = record { took = refl; sound = c.requires.sound; search = c.requires.search }

pub allows-requires-clause-sound : goal.allows-requires-clause-sound
allows-requires-clause-sound g c = c.loop-count.invariant.sound

pub returns-then-not-allows-clause-runs : goal.returns-then-not-allows-clause-runs
returns-then-not-allows-clause-runs g c =
    ran_to c.loop-count.count c.args.self.now c.args.events.now c.loop-count.self c.index-events-count.result c.loop-count.invariant.took c.loop-count-test.true c.index-events-count.is
    (λ allowed. absurd (let told = subst IsTrue c.if-not-allows.true (c.allows.ensures.1 allowed) in cc))

pub returns-then-not-allows-clause-sound : goal.returns-then-not-allows-clause-sound
returns-then-not-allows-clause-sound g c = c.loop-count.invariant.sound

pub step-requires-clause-sound : goal.step-requires-clause-sound
step-requires-clause-sound g c = c.loop-count.invariant.sound

pub loop-count-preserved : goal.loop-count-preserved
loop-count-preserved g c = record {
  took = took_next c.loop-count.count c.args.self.now c.args.events.now c.loop-count.self c.step.new.self c.index-events-count.result c.step.result c.loop-count.invariant.took
      c.loop-count-test.true c.index-events-count.is (c.allows.ensures.0 c.if-not-allows.false) c.step.ensures.steps;
  sound = c.step.ensures.sound;
  search = subst (λ (search : SearchData). GoesBy g.B.Bounds.kind g.B.Bounds.film search)
      (sym (search_stays c.loop-count.self c.step.new.self c.index-events-count.result c.step.result c.step.ensures.steps)) c.loop-count.invariant.search;
}

pub returns-clause-runs : goal.returns-clause-runs
returns-clause-runs g c =
    ran_all c.args.self.now c.args.events.now c.loop-count.self
    (subst (λ (n : ℕ). Took c.args.self.now c.args.events.now n c.loop-count.self) (let all : c.loop-count.count ≡ length c.args.events.now = omega (arith, c.loop-count-test.false, c.loop-count.auto.count-end) in all) c.loop-count.invariant.took)

pub returns-clause-sound : goal.returns-clause-sound
returns-clause-sound g c = c.loop-count.invariant.sound

pub returns-then-not-allows-clause-entries : goal.returns-then-not-allows-clause-entries
returns-then-not-allows-clause-entries g c = λ stripe bucket entry lt within there.
    c.a_sound_world_is_true.ensures.entries c.loop-count.self stripe bucket entry c.loop-count.invariant.sound lt within there

pub returns-then-not-allows-clause-least : goal.returns-then-not-allows-clause-least
returns-then-not-allows-clause-least g c = λ pay best. c.a_sound_world_is_true.ensures.least c.loop-count.self pay c.loop-count.invariant.sound best

pub returns-clause-entries : goal.returns-clause-entries
returns-clause-entries g c = λ stripe bucket entry lt within there.
    c.a_sound_world_is_true.ensures.entries c.loop-count.self stripe bucket entry c.loop-count.invariant.sound lt within there

pub returns-clause-least : goal.returns-clause-least
returns-clause-least g c = λ pay best. c.a_sound_world_is_true.ensures.least c.loop-count.self pay c.loop-count.invariant.sound best
