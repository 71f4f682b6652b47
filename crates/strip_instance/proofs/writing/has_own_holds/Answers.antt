use Rattle.std.proofs.Common.{◌≡◌, List, [], ◌∷◌, ◌||◌, not, eqb, map, refl, ap, ◌∙◌, rules, tests}
use Rattle.std.specs.List.{list_any}
use Rattle.std.proofs.lemmas.Iterator.{YieldsList-from_slice}
use Rattle.std.proofs.lemmas.Iterator.Search.{any_from_yields_List}
use Rattle.strip_model.specs.declared.scene.Actor.{Actor}
use Rattle.strip_model.specs.Instance.{actor_data}
use Rattle.strip_instance.specs.Canonical.{has_own_holds}
use Rattle.strip_instance.proofs.writing.has_own_holds.Goals as goal

-- the test over the actors as the code has them
own_holds-map : (actors : List Actor) → list_any (λ (actor : Actor). not (eqb actor.hold actor.rate)) actors ≡ has_own_holds (map actor_data actors)
own_holds-map [] = refl
own_holds-map (actor ∷ actors) = ap (λ b. not (eqb actor.hold actor.rate) || b) (own_holds-map actors)

pub returns : goal.returns
returns c =
    any_from_yields_List (λ (actor : Actor). not (eqb actor.hold actor.rate)) _ _ _ c.any.ensures.ran (YieldsList-from_slice c.args.actors.now cc) (λ x b q k. search (rules, tests))
    ∙ own_holds-map c.args.actors.now
