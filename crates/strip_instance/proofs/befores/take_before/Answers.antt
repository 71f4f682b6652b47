use Rattle.std.proofs.Common.{◌≡◌, ◌<◌, ◌≤◌, List, [], length, map, Contains, Option, Some, inr, sym, ap, ◌∙◌, subst, arith}
use Rattle.std.specs.List.{list_any}
use Rattle.std.proofs.lemmas.Bool.{cond-true, cond-false, false≢true}
use Rattle.std.proofs.lemmas.List.{length-map}
use Rattle.strip_model.specs.Data.{SceneData}
use Rattle.strip_model.specs.Instance.{scene_data}
use Rattle.strip_model.specs.declared.scene.Scene.{Scene}
use Rattle.strip_model.specs.Pairs.{FitPairs, Leads}
use Rattle.strip_model.specs.declared.pair.Pair.{Pair}
use Rattle.strip_model.proofs.Lists.{any_from}
use Rattle.strip_text.specs.Checks.{first_fault}
use Rattle.strip_text.specs.Rows.{Row, is_empty_row}
use Rattle.strip_instance.specs.Befores.{joined, said_pair, same_pair, shortest_way}
use Rattle.strip_instance.specs.Faults.{pair_checks, way_checks}
use Rattle.strip_instance.specs.Shown.{names_of}
use Rattle.strip_instance.proofs.pairs.Fit.{joined_new, row_passes, stands_forward}
use Rattle.strip_instance.proofs.pairs.Ways.{same_pair-refl}
use Rattle.strip_instance.proofs.pairs.SaidPairs.{empty_says_none, said-known}
use Rattle.strip_instance.proofs.befores.take_before.Goals as goal

-- the scenes of a pair that a row says are two of at most 200
low : (scenes : List Scene) (row : Row) (pair : Pair) → length scenes ≤ 200 → said_pair (names_of scenes) row ≡ Some pair → (pair.first < 200) × (pair.then < 200)
low scenes row pair few said =
    let known = said-known (names_of scenes) row pair said in
    let count : length (names_of scenes) ≡ length scenes = length-map (map scene_data scenes) (λ (scene : SceneData). scene.name) ∙ length-map scenes scene_data in
    (omega (arith, count, known.0), omega (arith, count, known.1))

pub returns-then-is_empty-clause-makes : goal.returns-then-is_empty-clause-makes
returns-then-is_empty-clause-makes c =
    ap first_fault (cond-true (is_empty_row c.args.row.now) [] _ (sym c.is_empty.ensures ∙ c.if-is_empty.true))

pub returns-then-is_empty-clause-pairs : goal.returns-then-is_empty-clause-pairs
returns-then-is_empty-clause-pairs c =
    ap (joined c.args.pairs.now.items) (sym (empty_says_none (names_of c.args.scenes.now) c.args.row.now (sym c.is_empty.ensures ∙ c.if-is_empty.true)))

pub pair_of-requires : goal.pair_of-requires
pair_of-requires c = c.requires.few

pub stands-requires-clause-first : goal.stands-requires-clause-first
stands-requires-clause-first c = (low c.args.scenes.now c.args.row.now c.in-Some.pair c.requires.few (sym c.in-Some.ensures)).0

pub stands-requires-clause-then : goal.stands-requires-clause-then
stands-requires-clause-then c = (low c.args.scenes.now c.args.row.now c.in-Some.pair c.requires.few (sym c.in-Some.ensures)).1

pub returns-in_default-clause-makes : goal.returns-in_default-clause-makes
returns-in_default-clause-makes c =
    inr (ap first_fault (cond-false (is_empty_row c.args.row.now) [] _ (sym c.is_empty.ensures ∙ c.if-is_empty.false))
    ∙ ap (λ (said : Option Pair). first_fault (pair_checks (names_of c.args.scenes.now) c.args.pairs.now.items c.args.number said)) (sym c.in_default.ensures))

pub returns-then-stands-clause-makes : goal.returns-then-stands-clause-makes
returns-then-stands-clause-makes c =
    let pairs = c.args.pairs.now.items in
    let names = names_of c.args.scenes.now in
    let there : Contains pairs c.in-Some.pair = (c.stands.ensures pairs c.requires.known).0 c.if-stands.true in
    row_passes names pairs c.args.number c.args.row.now c.in-Some.pair c.requires.fit (sym c.is_empty.ensures ∙ c.if-is_empty.false) (sym c.in-Some.ensures)
    (stands_forward _ pairs c.in-Some.pair c.requires.fit there)

pub returns-then-stands-clause-pairs : goal.returns-then-stands-clause-pairs
returns-then-stands-clause-pairs c =
    let pairs = c.args.pairs.now.items in
    let pair = c.in-Some.pair in
    let there : Contains pairs pair = (c.stands.ensures pairs c.requires.known).0 c.if-stands.true in
    sym (cond-true (list_any (same_pair pair) pairs) pairs _ (any_from (same_pair pair) pairs pair there (same_pair-refl pair))) ∙ ap (joined pairs) c.in-Some.ensures

pub leads-requires-clause-from : goal.leads-requires-clause-from
leads-requires-clause-from c = (low c.args.scenes.now c.args.row.now c.in-Some.pair c.requires.few (sym c.in-Some.ensures)).1

pub leads-requires-clause-to : goal.leads-requires-clause-to
leads-requires-clause-to c = (low c.args.scenes.now c.args.row.now c.in-Some.pair c.requires.few (sym c.in-Some.ensures)).0

pub cycle-requires-clause-few : goal.cycle-requires-clause-few
cycle-requires-clause-few c = c.requires.few

pub cycle-requires-clause-fit : goal.cycle-requires-clause-fit
cycle-requires-clause-fit c = subst (FitPairs (length (names_of c.args.scenes.now))) (sym c.deref.ensures.value) c.requires.fit

pub cycle-requires-clause-known : goal.cycle-requires-clause-known
cycle-requires-clause-known c = said-known (names_of c.args.scenes.now) c.args.row.now c.in-Some.pair (sym c.in-Some.ensures)

pub cycle-requires-clause-leads : goal.cycle-requires-clause-leads
cycle-requires-clause-leads c =
    let pair = c.in-Some.pair in
    subst (λ (pairs : List Pair). Leads pairs pair.then pair.first) (sym c.deref.ensures.value) ((c.leads.ensures c.args.pairs.now.items c.requires.known).0 c.if-leads.true)

pub returns-then-leads-clause-makes : goal.returns-then-leads-clause-makes
returns-then-leads-clause-makes c =
    let pairs = c.args.pairs.now.items in
    let names = names_of c.args.scenes.now in
    let pair = c.in-Some.pair in
    let number = c.args.number in
    inr (ap first_fault (cond-false (is_empty_row c.args.row.now) [] _ (sym c.is_empty.ensures ∙ c.if-is_empty.false))
    ∙ ap (λ (said : Option Pair). first_fault (pair_checks names pairs number said)) (sym c.in-Some.ensures)
    ∙ ap (λ (list : List Pair). first_fault (way_checks names number (shortest_way (length names) list pair.then pair.first))) (sym c.deref.ensures.value)
    ∙ ap first_fault c.in_ok-cycle.ensures)

pub add-requires-clause-first : goal.add-requires-clause-first
add-requires-clause-first c = (low c.args.scenes.now c.args.row.now c.in-Some.pair c.requires.few (sym c.in-Some.ensures)).0

pub add-requires-clause-then : goal.add-requires-clause-then
add-requires-clause-then c = (low c.args.scenes.now c.args.row.now c.in-Some.pair c.requires.few (sym c.in-Some.ensures)).1

pub returns-clause-makes : goal.returns-clause-makes
returns-clause-makes c =
    let pairs = c.args.pairs.now.items in
    row_passes (names_of c.args.scenes.now) pairs c.args.number c.args.row.now c.in-Some.pair c.requires.fit (sym c.is_empty.ensures ∙ c.if-is_empty.false)
    (sym c.in-Some.ensures) (λ leads. false≢true (sym c.if-leads.false ∙ (c.leads.ensures pairs c.requires.known).1 leads))

pub returns-clause-pairs : goal.returns-clause-pairs
returns-clause-pairs c =
    let pairs = c.args.pairs.now.items in
    c.in_ok-push.ensures.items
    ∙ sym (joined_new pairs _ c.in-Some.pair (sym c.in-Some.ensures) (λ there. false≢true (sym c.if-stands.false ∙ (c.stands.ensures pairs c.requires.known).1 there)))
