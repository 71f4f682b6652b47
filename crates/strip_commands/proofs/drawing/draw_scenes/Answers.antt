use Rattle.std.proofs.Common.{◌≡◌, ◌+◌, ◌*◌, ◌%◌, map, sym, ap, ◌∙◌, arith}
use Rattle.rand_pcg.specs.Lcg.{Lcg}
use Rattle.strip_model.specs.Instance.{scene_data}
use Rattle.strip_commands.specs.Words.{behind}
use Rattle.strip_commands.specs.Generated.{cast_of, scene_at}
use Rattle.strip_commands.proofs.Drawn.{behind-more, behind-none, drawn-more, one_scene_more, word_drawn}
use Rattle.strip_commands.proofs.drawing.draw_scenes.Goals as goal

pub loop-scene-init : goal.loop-scene-init
loop-scene-init c = record { behind = sym (ap (behind c.args.words.now) (let e : 0 * (1 + c.args.actors) ≡ 0 = omega arith in e) ∙ behind-none c.args.words.now); drawn = ap (map scene_data) c.new-drawn.ensures.items }

pub loop-scene-preserved : goal.loop-scene-preserved
loop-scene-preserved c =
    let n = c.loop-scene.scene in
    let actors = c.args.actors in
    let own = behind c.args.words.now (n * (1 + actors)) in
    let word = word_drawn own c.loop-scene.words 0 c.next_word.result c.next_word.new.self (c.loop-scene.invariant.behind ∙ sym (behind-none own)) c.next_word.ensures in
    record {
      behind = c.draw_cast-cast.ensures.behind ∙ ap (λ (g : Lcg). behind g actors) word.1 ∙ behind-more own 1 actors
          ∙ behind-more c.args.words.now (n * (1 + actors)) (1 + actors) ∙ ap (behind c.args.words.now) (sym (one_scene_more n (1 + actors)));
      drawn = drawn-more scene_data (scene_at c.args.words.now actors) c.push.new.self.items c.loop-scene.drawn.items _ n c.in_ok-push.ensures.items
          c.loop-scene.invariant.drawn (λ i. record {
            name = c.in_ok-name.ensures i;
            days = 1 + (c.from.ensures ∙ word.0) i % 5;
            cast = (c.draw_cast-cast.ensures.cast ∙ ap (λ (g : Lcg). cast_of g actors) word.1) i;
          });
    }
