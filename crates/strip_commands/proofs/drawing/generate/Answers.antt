use Rattle.std.proofs.Common.{true≢false, sym, subst, ◌∙◌}
use Rattle.strip_model.specs.Data.{IsInstance}
use Rattle.strip_commands.proofs.Limits.{made_is}
use Rattle.strip_commands.proofs.Drawn.{made}
use Rattle.strip_commands.proofs.drawing.generate.Goals as goal

pub unreachable-requires : goal.unreachable-requires
unreachable-requires c =
    let same = made c.args.number c.args.scenes c.args.actors c.new-words.result c.draw_actors.new.words _ _ c.new-words.ensures
    c.in_ok-drawn_actors.ensures.behind c.in_ok-drawn_actors.ensures.drawn c.in_ok-drawn_scenes.ensures in
    true≢false (sym (c.in-None.ensures.limits.1 (subst IsInstance (sym same) (made_is c.args.number c.args.scenes c.args.actors c.requires.scenes.0 c.requires.scenes.1 c.requires.actors))))

pub returns : goal.returns
returns c =
    c.in-Some.ensures.same ∙ made c.args.number c.args.scenes c.args.actors c.new-words.result c.draw_actors.new.words _ _ c.new-words.ensures
    c.in_ok-drawn_actors.ensures.behind c.in_ok-drawn_actors.ensures.drawn c.in_ok-drawn_scenes.ensures
