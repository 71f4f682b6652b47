use Rattle.std.proofs.Common.{ℕ, List, [], ◌∷◌, ◌++◌, map, Vec, Global, ap, ◌∙◌}
use Rattle.std.proofs.lemmas.List.{map_push}
use Rattle.strip_reduce.proofs.Begun.{singles_more, singles_none}
use Rattle.strip_reduce.proofs.start.single_scenes.Goals as goal

pub loop-scene-init : goal.loop-scene-init
loop-scene-init c = ap (map (λ (list : Vec ℕ Global). list.items)) c.new-members.ensures.items ∙ singles_none

pub loop-scene-preserved : goal.loop-scene-preserved
loop-scene-preserved c =
    ap (map (λ (list : Vec ℕ Global). list.items)) c.in_ok-push-2.ensures.items
    ∙ map_push (λ (list : Vec ℕ Global). list.items) c.loop-scene.members.items c.push.new.self
    ∙ ap (λ (list : List ℕ). map (λ (list : Vec ℕ Global). list.items) c.loop-scene.members.items ++ list ∷ [])
    (c.in_ok-push.ensures.items ∙ ap (λ (list : List ℕ). list ++ c.loop-scene.scene ∷ []) c.new-list.ensures.items)
    ∙ singles_more (map (λ (list : Vec ℕ Global). list.items) c.loop-scene.members.items) c.loop-scene.scene c.loop-scene.invariant
