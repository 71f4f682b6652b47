-- What is done one after the other.
use Rattle.std.proofs.Common.{◌≡◌, ℕ, ◌<◌, ◌+◌, ◌++◌, ◌∷◌, [], List, Option, Some, None, String, Global, length, take, get_or, refl, sym, subst, ap, ◌∙◌}
use Rattle.std.proofs.lemmas.List.{take_more}
use Rattle.stripboard_cases.specs.declared.case.Action.{Action}
use Rattle.stripboard_cases.specs.declared.case.Action.TheVariants.{Give, Run}
use Rattle.stripboard_cases.specs.declared.case.Given.{Given}
use Rattle.stripboard_cases.specs.declared.case.Held.{Held}
use Rattle.stripboard_cases.specs.AtHand.{AreApart, IsGiven}
use Rattle.stripboard_cases.specs.Runs.{InTurn, IsDone, IsKept}
use Rattle.stripboard_cases.proofs.Hands.{apart_now}

turn_push : {A : Type 0} (R : A → List Held → List Held → Type 0) (xs : List A) (x : A) (first now next : List Held) → InTurn R xs first now → R x now next → InTurn R (xs ++ x ∷ []) first next
turn_push R [] x first now next are is = (next, subst (λ (files : List Held). R x files next) are is, refl)
turn_push R (y ∷ ys) x first now next are is = (are.0, are.1, turn_push R ys x are.0 now next are.2 is)

pub turn_more : {A : Type 0} (R : A → List Held → List Held → Type 0) (xs : List A) (i : ℕ) (x : A) (first now next : List Held) → i < length xs → x ≡ get_or xs i x
    → InTurn R (take i xs) first now → R x now next → InTurn R (take (i + 1) xs) first next
turn_more {A = A} R xs i x first now next within is are does =
    subst (λ (list : List A). InTurn R list first next) (ap (λ (y : A). take i xs ++ y ∷ []) is ∙ sym (take_more xs i x within)) (turn_push R (take i xs) x first now next are does)

apart_turns : {A : Type 0} (R : A → List Held → List Held → Type 0) → ((x : A) (before after : List Held) → AreApart before → R x before after → AreApart after)
    → (xs : List A) (before after : List Held) → AreApart before → InTurn R xs before after → AreApart after
apart_turns R keeps [] before after apart are = subst AreApart (sym are) apart
apart_turns R keeps (x ∷ xs) before after apart are = apart_turns R keeps xs are.0 after (keeps x before are.0 apart are.1) are.2

apart_given : (given : Given) (before after : List Held) → AreApart before → IsGiven given before after → AreApart after
apart_given given before after apart is = apart_now _ is.bytes before after apart is.now

apart_kept : (name : Option (String Global)) (printed : List ℕ) (before after : List Held) → AreApart before → IsKept name printed before after → AreApart after
apart_kept None printed before after apart is = subst AreApart (sym is) apart
apart_kept (Some name) printed before after apart is = apart_now _ printed before after apart is

apart_done : (action : Action) (before after : List Held) → AreApart before → IsDone action before after → AreApart after
apart_done (Give given) before after apart is = apart_given given before after apart is
apart_done (Run step) before after apart is = apart_kept step.keep is.printed before after apart is.kept

pub apart_all_given : (all : List Given) (before after : List Held) → AreApart before → InTurn IsGiven all before after → AreApart after
apart_all_given = apart_turns IsGiven apart_given

pub apart_all_done : (all : List Action) (before after : List Held) → AreApart before → InTurn IsDone all before after → AreApart after
apart_all_done = apart_turns IsDone apart_done
