-- What each allowed event keeps: a sound world, the search, the least cost or less, and the lines or more.
use Rattle.std.proofs.Common.{◌≡◌, ℕ, ◌≤◌, eqb, ltb, List, length, refl, sym, ap, ◌∙◌, subst, arith}
use Rattle.std.proofs.lemmas.Bool.{cond_both}
use Rattle.strip_film.specs.declared.shared.Line.{Line}
use Rattle.strip_film.specs.Shown.{path_data}
use Rattle.strip_lines.specs.Lines.{GrowTo}
use Rattle.strip_lines.proofs.Grown.{added-grows, grow_self, raised-grows}
use Rattle.strip_world.specs.declared.event.Event.{Event}
use Rattle.strip_world.specs.declared.event.Event.TheVariants.{Look, Offer, Claim, Enlist, Raise, Probe as Ask, Note}
use Rattle.strip_world.specs.declared.event.Reply.{Reply}
use Rattle.strip_world.specs.World.{WorldData}
use Rattle.strip_world.specs.Allowed.{IsAllowed}
use Rattle.strip_world.specs.Steps.{Steps, claimed, enlisted, new_line}
use Rattle.strip_world.specs.Sound.{IsSound}
use Rattle.strip_world.proofs.Workers.{sound_looked, sound_probed, sound_offered}
use Rattle.strip_world.proofs.Claims.{sound_claimed}
use Rattle.strip_world.proofs.Lines.{sound_enlisted, sound_raised}
use Rattle.strip_world.proofs.Table.{sound_noted}

pub sound_after : (world after : WorldData) (event : Event) (reply : Reply) → IsSound world → IsAllowed world event → Steps world event after reply
    → IsSound after
sound_after world after (Look who) reply sound may steps = subst IsSound (sym steps.0) (sound_looked world who may.worker sound)
sound_after world after (Offer who path) reply sound may steps =
    subst IsSound (sym steps.0) (sound_offered world who may.worker sound (path_data path) may.fitting)
sound_after world after (Claim who) reply sound may steps = subst IsSound (sym steps.0) (sound_claimed world who may.worker sound)
sound_after world after (Enlist who task path) reply sound may steps =
    subst IsSound (sym steps.0) (sound_enlisted world who task (path_data path) may.worker sound may.fitting)
sound_after world after (Raise who line bound) reply sound may steps = subst IsSound (sym steps.0) (sound_raised world line bound sound may.fitting)
sound_after world after (Ask who set) reply sound may steps = subst IsSound (sym steps.0) (sound_probed world who may.worker sound set)
sound_after world after (Note who known) reply sound may steps =
    sound_noted world who known after steps.0 may.worker sound may.fitting steps.1

-- ---- what was seen

-- what a claim and an enlistment leave
claim_keeps : (world : WorldData) (who : ℕ) (P : WorldData → Type 0)
    → ((taken : WorldData) → taken.search ≡ world.search → taken.least ≡ world.least → taken.lines ≡ world.lines → P taken) → P (claimed world who)
claim_keeps world who P each = cond_both (ltb world.next (length world.parts)) _ world P (λ left. each _ refl refl refl) (λ none. each world refl refl refl)

pub search_stays : (world after : WorldData) (event : Event) (reply : Reply) → Steps world event after reply → after.search ≡ world.search
search_stays world after (Look who) reply steps = ap (λ (w : WorldData). w.search) steps.0
search_stays world after (Offer who path) reply steps = ap (λ (w : WorldData). w.search) steps.0
search_stays world after (Claim who) reply steps =
    ap (λ (w : WorldData). w.search) steps.0 ∙ claim_keeps world who (λ w. w.search ≡ world.search) (λ taken search least lines. search)
search_stays world after (Enlist who task path) reply steps =
    ap (λ (w : WorldData). w.search) steps.0
    ∙ cond_both (eqb (length world.lines) world.search.nodes) world _ (λ (w : WorldData). w.search ≡ world.search) (λ full. refl) (λ room. refl)
search_stays world after (Raise who line bound) reply steps = ap (λ (w : WorldData). w.search) steps.0
search_stays world after (Ask who set) reply steps = ap (λ (w : WorldData). w.search) steps.0
search_stays world after (Note who known) reply steps = ap (λ (w : WorldData). w.search) steps.1.others

pub least_falls : (world after : WorldData) (event : Event) (reply : Reply) → Steps world event after reply → after.least ≤ world.least
least_falls world after (Look who) reply steps = omega (arith, ap (λ (w : WorldData). w.least) steps.0)
least_falls world after (Offer who path) reply steps = omega (arith, ap (λ (w : WorldData). w.least) steps.0)
least_falls world after (Claim who) reply steps =
    let same : after.least ≡ world.least
    = ap (λ (w : WorldData). w.least) steps.0 ∙ claim_keeps world who (λ w. w.least ≡ world.least) (λ taken search least lines. least) in
    omega (arith, same)
least_falls world after (Enlist who task path) reply steps =
    let same : after.least ≡ world.least
    = ap (λ (w : WorldData). w.least) steps.0
    ∙ cond_both (eqb (length world.lines) world.search.nodes) world _ (λ (w : WorldData). w.least ≡ world.least) (λ full. refl) (λ room. refl) in
    omega (arith, same)
least_falls world after (Raise who line bound) reply steps = omega (arith, ap (λ (w : WorldData). w.least) steps.0)
least_falls world after (Ask who set) reply steps = omega (arith, ap (λ (w : WorldData). w.least) steps.0)
least_falls world after (Note who known) reply steps = omega (arith, ap (λ (w : WorldData). w.least) steps.1.others)

-- lines that are others by an equation
grow_as : (lines more after : List Line) → after ≡ more → GrowTo lines more → GrowTo lines after
grow_as lines more after same grow = subst (GrowTo lines) (sym same) grow

pub lines_grow : (world after : WorldData) (event : Event) (reply : Reply) → IsAllowed world event → Steps world event after reply
    → GrowTo world.lines after.lines
lines_grow world after (Look who) reply may steps = grow_as world.lines world.lines after.lines (ap (λ (w : WorldData). w.lines) steps.0) (grow_self world.lines)
lines_grow world after (Offer who path) reply may steps =
    grow_as world.lines world.lines after.lines (ap (λ (w : WorldData). w.lines) steps.0) (grow_self world.lines)
lines_grow world after (Claim who) reply may steps =
    grow_as world.lines world.lines after.lines
    (ap (λ (w : WorldData). w.lines) steps.0 ∙ claim_keeps world who (λ w. w.lines ≡ world.lines) (λ taken search least lines. lines)) (grow_self world.lines)
lines_grow world after (Enlist who task path) reply may steps =
    grow_as world.lines (enlisted world task (path_data path)).lines after.lines (ap (λ (w : WorldData). w.lines) steps.0)
    (cond_both (eqb (length world.lines) world.search.nodes) world _ (λ (w : WorldData). GrowTo world.lines w.lines) (λ full. grow_self world.lines)
    (λ room. added-grows world.lines (new_line world (path_data path))))
lines_grow world after (Raise who line bound) reply may steps =
    grow_as world.lines _ after.lines (ap (λ (w : WorldData). w.lines) steps.0) (raised-grows world.lines line bound may.fitting.known)
lines_grow world after (Ask who set) reply may steps =
    grow_as world.lines world.lines after.lines (ap (λ (w : WorldData). w.lines) steps.0) (grow_self world.lines)
lines_grow world after (Note who known) reply may steps =
    grow_as world.lines world.lines after.lines (ap (λ (w : WorldData). w.lines) steps.1.others) (grow_self world.lines)
