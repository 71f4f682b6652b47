use Rattle.std.proofs.Common.{◌%◌, ℕ, sym, ap, ◌∙◌}
use Rattle.strip_commands.proofs.Drawn.{behind-none, word_drawn}
use Rattle.std.proofs.lemmas.Bool.{eq-eqb, ne_eqb}
use Rattle.strip_mask.specs.declared.mask.Mask.{Mask}
use Rattle.strip_commands.proofs.Casts.{cast-none, cast-with, cast-without}
use Rattle.strip_commands.proofs.drawing.draw_cast.Goals.{then-next_word-eq0, else-next_word-eq0}
use Rattle.strip_commands.proofs.drawing.draw_cast.Goals as goal

pub loop-actor-init : goal.loop-actor-init
loop-actor-init c = record { behind = sym (behind-none c.args.words.now); cast = sym (cast-none c.args.words.now) }

pub loop-actor-preserved : goal.loop-actor-preserved
loop-actor-preserved c =
    let n = c.loop-actor.actor in
    let word = word_drawn c.args.words.now c.loop-actor.words n c.next_word.result c.next_word.new.self c.loop-actor.invariant.behind c.next_word.ensures in
    record {
      behind = word.1;
      cast = elim c.if-next_word-eq0.branch [
        | then-next_word-eq0 w ↦ cast-with c.args.words.now n c.loop-actor.cast.0 c.if-next_word-eq0.cast.0
            (eq-eqb _ 0 (ap (λ (x : ℕ). x % 3) (sym word.0) ∙ w.if-next_word-eq0.true)) c.loop-actor.invariant.cast (ap (λ (m : Mask). m.0) w.cast-is ∙ w.with-cast.ensures)
        | else-next_word-eq0 w ↦ cast-without c.args.words.now n c.loop-actor.cast.0 c.if-next_word-eq0.cast.0
            (ne_eqb _ 0 (λ is. w.if-next_word-eq0.false (ap (λ (x : ℕ). x % 3) word.0 ∙ is))) c.loop-actor.invariant.cast (ap (λ (m : Mask). m.0) w.cast-is)
      ];
    }
