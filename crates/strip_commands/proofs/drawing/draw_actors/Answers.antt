use Rattle.std.proofs.Common.{◌+◌, ◌%◌, map, sym, ap, ◌∙◌}
use Rattle.strip_model.specs.Instance.{actor_data}
use Rattle.strip_commands.specs.Generated.{actor_at}
use Rattle.strip_commands.proofs.Drawn.{behind-none, drawn-more, word_drawn}
use Rattle.strip_commands.proofs.drawing.draw_actors.Goals as goal

pub loop-actor-init : goal.loop-actor-init
loop-actor-init c = record { behind = sym (behind-none c.args.words.now); drawn = ap (map actor_data) c.new-drawn.ensures.items }

pub loop-actor-preserved : goal.loop-actor-preserved
loop-actor-preserved c =
    let n = c.loop-actor.actor in
    let word = word_drawn c.args.words.now c.loop-actor.words n c.next_word.result c.next_word.new.self c.loop-actor.invariant.behind c.next_word.ensures in
    record {
      behind = word.1;
      drawn = drawn-more actor_data (actor_at c.args.words.now) c.push.new.self.items c.loop-actor.drawn.items _ n c.in_ok-push.ensures.items
          c.loop-actor.invariant.drawn (λ i. record { name = c.in_ok-name.ensures i; rate = 1 + (c.from.ensures ∙ word.0) i % 100; hold = 1 + (c.from.ensures ∙ word.0) i % 100 });
    }
