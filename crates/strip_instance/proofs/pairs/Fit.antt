-- The pairs that rows without a fault say can be kept together.
use Rattle.std.proofs.Common.{◌≡◌, ◌≢◌, ◌<◌, ◌≤◌, ◌+◌, ℕ, zero, suc, Bool, true, false, List, [], ◌∷◌, ◌++◌, length, get_or, take, map, slice_index, All, Contains, Option, None, Some, refl, sym, ap, ◌∙◌, subst, inl, inr, arith, add-one}
use Rattle.std.specs.List.{list_any}
use Rattle.std.proofs.lemmas.Bool.{cases_Bool, cond-true, cond-false, false≢true}
use Rattle.std.specs.String.{string_bytes}
use Rattle.std.proofs.lemmas.List.{get_or-map, length-map, map-append, take_more}
use Rattle.strip_model.specs.declared.pair.Pair.{Pair}
use Rattle.strip_model.specs.Pairs.{FitPairs, IsChain, IsKnownPair, Leads}
use Rattle.strip_model.proofs.Fits.{fit-push, fit-none}
use Rattle.strip_model.proofs.Lists.{any_from, any_is}
use Rattle.strip_instance.specs.Ways.{IsShortestWay, IsWay}
use Rattle.strip_model.specs.declared.scene.Scene.{Scene}
use Rattle.strip_model.specs.Data.{SceneData}
use Rattle.strip_model.specs.Instance.{scene_data}
use Rattle.strip_text.specs.Field.{Field}
use Rattle.strip_text.specs.Rows.{Row, field_of, is_empty_row, row_of}
use Rattle.strip_text.specs.Checks.{below, check, first_fault}
use Rattle.strip_text.proofs.Held.{Hold}
use Rattle.strip_text.proofs.Passed.{held-below, held-fewer}
use Rattle.strip_instance.specs.Fault.{Cycle}
use Rattle.strip_instance.specs.Befores.{joined, pairs_of, said_pair, same_pair, shortest_way}
use Rattle.strip_instance.specs.Faults.{before_checks, later_checks, pair_checks, way_checks}
use Rattle.strip_instance.specs.Shown.{names_of}
use Rattle.strip_instance.proofs.pairs.Ways.{IsStepped, found_shortest, joined_known, no_answer, same_pair-refl, same_pair-true, shortest_found, stepped-joined}
use Rattle.strip_instance.proofs.pairs.SaidPairs.{empty_says_none, pairs_of-push, said-known}

-- a way that is found leads from the one scene to the other
steps_lead : (n : ℕ) (pairs : List Pair) (known : All (IsKnownPair n) pairs) (steps from to : ℕ) (way : List ℕ) → from ≢ to
    → IsStepped n pairs known steps from to way → Leads pairs from to
steps_lead n pairs known zero from to way apart is = absurd (apart is.0)
steps_lead n pairs known (suc steps) from to way apart is =
    let joined = stepped-joined n pairs known steps from to way is in
    (joined.between, joined.chain)

pub found_leads : (n : ℕ) (pairs : List Pair) (from to : ℕ) (way : List ℕ) → FitPairs n pairs → from ≢ to
    → shortest_way n pairs from to ≡ Some way → Leads pairs from to
found_leads n pairs from to way fit apart is =
    let found = shortest_found n pairs fit.known from to way is in
    steps_lead n pairs fit.known found.steps from to way apart found.leads

-- so where no pairs lead there, none is found
pub none_found : (n : ℕ) (pairs : List Pair) (from to : ℕ) (found : Option (List ℕ)) → FitPairs n pairs → from ≢ to → (Leads pairs from to → ⊥)
    → shortest_way n pairs from to ≡ found → found ≡ None
none_found n pairs from to None fit apart never is = refl
none_found n pairs from to (Some way) fit apart never is = absurd (never (found_leads n pairs from to way fit apart is))

-- and where pairs lead there, one is
pub one_found : (n : ℕ) (pairs : List Pair) (from to : ℕ) (found : Option (List ℕ)) → FitPairs n pairs → Leads pairs from to
    → shortest_way n pairs from to ≡ found → (way : List ℕ) × (found ≡ Some way)
one_found n pairs from to None fit leads is = absurd (no_answer n pairs fit.known from to leads.0 fit.no_cycle is leads.1)
one_found n pairs from to (Some way) fit leads is = (way, refl)

-- no way back where none is a fault
not_back : (names : List Field) (pairs : List Pair) (number : ℕ) (pair : Pair) (found : Option (List ℕ)) → FitPairs (length names) pairs
    → shortest_way (length names) pairs pair.then pair.first ≡ found → first_fault (way_checks names number found) ≡ None
    → Leads pairs pair.then pair.first → ⊥
not_back names pairs number pair None fit is none leads = no_answer (length names) pairs fit.known pair.then pair.first leads.0 fit.no_cycle is leads.1
not_back names pairs number pair (Some way) fit is none leads = cc

-- a pair that isn't found isn't one of them
absent : (pairs : List Pair) (pair : Pair) → list_any (same_pair pair) pairs ≡ false → Contains pairs pair → ⊥
absent pairs pair none there = false≢true (sym none ∙ any_from (same_pair pair) pairs pair there (same_pair-refl pair))

-- one pair more
fit_said : (names : List Field) (pairs : List Pair) (number : ℕ) (row : Row) (said : Option Pair) → FitPairs (length names) pairs → said_pair names row ≡ said
    → first_fault (pair_checks names pairs number said) ≡ None → FitPairs (length names) (joined pairs said)
fit_said names pairs number row None fit is none = fit
fit_said names pairs number row (Some pair) fit is none = elim (cases_Bool (list_any (same_pair pair) pairs)) [
  | inl there ↦ subst (FitPairs (length names)) (sym (cond-true (list_any (same_pair pair) pairs) pairs (pairs ++ pair ∷ []) there)) fit
  | inr new ↦ subst (FitPairs (length names)) (sym (cond-false (list_any (same_pair pair) pairs) pairs (pairs ++ pair ∷ []) new))
      (fit-push (length names) pairs pair fit (said-known names row pair is) (absent pairs pair new)
      (not_back names pairs number pair (shortest_way (length names) pairs pair.then pair.first) fit refl none))
]

pub fit_next : (names : List Field) (pairs : List Pair) (number : ℕ) (row : Row) → FitPairs (length names) pairs
    → first_fault (before_checks names pairs number row) ≡ None → FitPairs (length names) (joined pairs (said_pair names row))
fit_next names pairs number row fit none = elim (cases_Bool (is_empty_row row)) [
  | inl empty ↦ subst (λ (said : Option Pair). FitPairs (length names) (joined pairs said)) (sym (empty_says_none names row empty)) fit
  | inr told ↦ fit_said names pairs number row (said_pair names row) fit refl
      (sym (ap first_fault (cond-false (is_empty_row row) [] (pair_checks names pairs number (said_pair names row)) told)) ∙ none)
]

-- the pairs of one row more
pub pairs_of-next : (names : List Field) (rows : List Row) (k : ℕ) → k < length rows
    → pairs_of names (take (k + 1) rows) ≡ joined (pairs_of names (take k rows)) (said_pair names (row_of rows k))
pairs_of-next names rows k within =
    ap (pairs_of names) (take_more rows k [] within) ∙ pairs_of-push names (take k rows) (get_or rows k []) (said_pair names (get_or rows k [])) refl

-- the pairs of the first rows, none of which has a fault
pub fit_taken : (names : List Field) (first : ℕ) (rows : List Row) (k : ℕ) → k ≤ length rows → Hold (below k (later_checks names first rows))
    → FitPairs (length names) (pairs_of names (take k rows))
fit_taken names first rows zero within hold = fit-none (length names)
fit_taken names first rows (suc k) within hold =
    let before = fit_taken names first rows k (omega arith) (held-fewer k (later_checks names first rows) hold) in
    let here = held-below (suc k) (later_checks names first rows) k (omega arith) hold in
    subst (FitPairs (length names)) (sym (ap (λ i. pairs_of names (take i rows)) (sym (add-one k)) ∙ pairs_of-next names rows k (omega arith)))
    (fit_next names (pairs_of names (take k rows)) (first + k) (row_of rows k) before here.none)

-- ---- what the code finds

-- a row that says a pair to which no way leads back passes
pub row_passes : (names : List Field) (pairs : List Pair) (number : ℕ) (row : Row) (pair : Pair) → FitPairs (length names) pairs
    → is_empty_row row ≡ false → said_pair names row ≡ Some pair → (Leads pairs pair.then pair.first → ⊥)
    → first_fault (before_checks names pairs number row) ≡ None
row_passes names pairs number row pair fit told said never =
    let known : IsKnownPair (length names) pair = said-known names row pair said in
    let none : shortest_way (length names) pairs pair.then pair.first ≡ None
    = none_found (length names) pairs pair.then pair.first (shortest_way (length names) pairs pair.then pair.first) fit (λ same. known.2 (sym same)) never refl in
    ap first_fault (cond-false (is_empty_row row) [] (pair_checks names pairs number (said_pair names row)) told)
    ∙ ap (λ (other : Option Pair). first_fault (pair_checks names pairs number other)) said
    ∙ ap (λ (found : Option (List ℕ)). first_fault (way_checks names number found)) none

-- no way leads back along a pair that stands
pub stands_forward : (n : ℕ) (pairs : List Pair) (pair : Pair) → FitPairs n pairs → Contains pairs pair → Leads pairs pair.then pair.first → ⊥
stands_forward n pairs pair fit there leads =
    fit.no_cycle (record { scene = pair.first; between = pair.then ∷ leads.0; returns = (there, leads.1) })

-- a pair that isn't one of them is put behind them
pub joined_new : (pairs : List Pair) (said : Option Pair) (pair : Pair) → said ≡ Some pair → (Contains pairs pair → ⊥) → joined pairs said ≡ pairs ++ pair ∷ []
joined_new pairs said pair is new =
    ap (joined pairs) is ∙ cond-false (list_any (same_pair pair) pairs) pairs (pairs ++ pair ∷ []) (none (list_any (same_pair pair) pairs) refl)
  where
    none : (b : Bool) → list_any (same_pair pair) pairs ≡ b → b ≡ false
    none true some =
        let found = any_is (same_pair pair) pairs some in
        absurd (new (subst (Contains pairs) (sym (same_pair-true pair found.0 found.2)) found.1))
    none false some = refl

-- the fault of a pair to whose first scene pairs lead back, by the shortest of these ways
pub cycle_is : (names : List Field) (pairs : List Pair) (number : ℕ) (pair : Pair) (way : List ℕ) → FitPairs (length names) pairs
    → IsKnownPair (length names) pair → Leads pairs pair.then pair.first → IsShortestWay pairs pair.then pair.first way
    → ((list : List Pair) (from to : ℕ) (a b : List ℕ) → IsShortestWay list from to a → IsShortestWay list from to b → a ≡ b)
    → way_checks names number (shortest_way (length names) pairs pair.then pair.first) ≡ check false (Cycle number way (map (field_of names) way)) ∷ []
cycle_is names pairs number pair way fit known leads shortest once =
    let n = length names in
    let found = one_found n pairs pair.then pair.first (shortest_way n pairs pair.then pair.first) fit leads refl in
    let its = found_shortest n pairs fit.known pair.then pair.first found.0 (λ same. known.2 (sym same)) found.1 in
    let same : found.0 ≡ way = once pairs pair.then pair.first found.0 way its shortest in
    ap (way_checks names number) (found.1 ∙ ap Some same)

-- the scenes of a way are known
pub way_known : (n : ℕ) (pairs : List Pair) (from to : ℕ) (way : List ℕ) → All (IsKnownPair n) pairs → IsWay pairs from to way → All (λ scene. scene < n) way
way_known n pairs from to way known is =
    subst (λ (scenes : List ℕ). All (λ scene. scene < n) scenes) (sym is.ends)
    (joined_known n pairs known from to is.between (subst (IsChain pairs) is.ends is.chain))

-- the name of one scene more
pub names_more : (scenes : List Scene) (numbers : List ℕ) (k : ℕ) (scene : Scene) → k < length numbers → slice_index numbers k < length scenes
    → scene ≡ get_or scenes (slice_index numbers k) scene
    → map (field_of (names_of scenes)) (take (k + 1) numbers) ≡ map (field_of (names_of scenes)) (take k numbers) ++ string_bytes scene.name ∷ []
names_more scenes numbers k scene within known is =
    let number = slice_index numbers k in
    let seen = map scene_data scenes in
    let name : field_of (names_of scenes) number ≡ string_bytes scene.name
    = get_or-map (λ (other : SceneData). other.name) seen number (scene_data scene) [] (omega (arith, known, length-map scenes scene_data))
    ∙ ap (λ (other : SceneData). other.name) (get_or-map scene_data scenes number scene (scene_data scene) known)
    ∙ ap (λ (other : Scene). string_bytes other.name) (sym is) in
    ap (map (field_of (names_of scenes))) (take_more numbers k 0 within)
    ∙ map-append (field_of (names_of scenes)) (take k numbers) (number ∷ [])
    ∙ ap (λ (field : Field). map (field_of (names_of scenes)) (take k numbers) ++ field ∷ []) name
