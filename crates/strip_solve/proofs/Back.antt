-- From the end of the classes' search to the film's plan.
use Rattle.std.proofs.Common.{if◌then◌else◌, nat_lt, reverse, slice_index, Bool, ◌-◌, ◌≡◌, ◌≢◌, ◌⊎◌, ℕ, ◌+◌, ◌*◌, ◌^◌, ◌<◌, ◌≤◌, ◌==◌, true, min, Option, None, Some, Vec, Global, IfSome, List, [], ◌∷◌, ◌++◌, length, count_by, take, drop, inl, inr, ap, sym, subst, ◌∙◌, arith}
use Rattle.std.proofs.Math.Seq.{take-append_seam}
use Rattle.std.proofs.lemmas.Bool.{cases_Bool}
use Rattle.std.proofs.lemmas.Bool.Decides.{nat_tests}
use Rattle.std.proofs.lemmas.List.Elements.{All-nil}
use Rattle.strip_model.specs.declared.kind.Kind.{Kind}
use Rattle.strip_model.specs.declared.pair.Pair.{Pair}
use Rattle.strip_model.specs.Film.{FilmData}
use Rattle.strip_model.specs.Order.{IsKeptOrder, IsOrder, Keeps, KeepsPair}
use Rattle.strip_model.specs.Pay.{IsLeast, IsOptimum, pay_of}
use Rattle.strip_film.specs.Path.{PathData}
use Rattle.strip_film.specs.declared.shared.Line.{Line}
use Rattle.strip_film.specs.Film.{all_scenes}
use Rattle.strip_lines.specs.Lines.{AreJustified, known, rules_of}
use Rattle.strip_lines.specs.Paths.{factorial, candidate_count}
use Rattle.strip_reduce.specs.Law.{StandsFor}
use Rattle.strip_reduce.specs.Oriented.{oriented}
use Rattle.strip_reduce.specs.Reduction.{reduced}
use Rattle.strip_reduce.specs.State.{State}
use Rattle.strip_lines.specs.Ended.{EndedData, IsEnded}
use Rattle.strip_proof.specs.declared.plan.Status.{Status}
use Rattle.strip_proof.specs.declared.plan.Status.TheVariants.{Optimal, Bounded}
use Rattle.strip_proof.specs.Plan.{PlanData}
use Rattle.strip_check.specs.Accepted.{class_rules}
use Rattle.strip_solve.specs.Solved.{AreRows, Closes, IsOfClasses, IsSolved, IsStart, IsVaried, RanOut}
use Rattle.strip_solve.specs.declared.own.Own.{Own}
use Rattle.strip_solve.specs.Own.{IsOwn, or_own, own_cost, own_order}
use Rattle.strip_solve.specs.Searched.{IsFound, IsProofOf, IsRows, IsStatusOf, IsTrimmed}
use Rattle.strip_trim.proofs.Counted.{no_longer, no_more_of}
use Rattle.strip_trim.proofs.Known.{justified, known_whole}

-- without pairs every order keeps them
pub kept_without_pairs : (film : FilmData) (order : List ℕ) → film.pairs ≡ [] → IsOrder (length film.casts) order → IsKeptOrder film order
kept_without_pairs film order none is = record {
  is_order = is;
  keeps = subst (λ (pairs : List Pair). Keeps pairs order) (sym none) (All-nil (KeepsPair order));
}

-- a list without elements is empty
pub none_there : (pairs all : List Pair) → true ≡ (length pairs == 0) → pairs ≡ all → all ≡ []
none_there [] all empty same = sym same
none_there (pair ∷ pairs) all empty same = absurd (let none : length (pair ∷ pairs) ≡ 0 = grind (arith, nat_tests) in omega (arith, none))

-- as many elements written over a list's
pub written_over : (len : ℕ) (now old : List ℕ) → len ≡ length old → length now ≡ length old → take len (now ++ drop (length now) old) ≡ now
written_over len now old all same =
    ap (λ (n : ℕ). take n (now ++ drop (length now) old)) (all ∙ sym same) ∙ take-append_seam now (drop (length now) old)

-- the status tells whether the bound is a cost
abbrev pub Tells : ℕ → ℕ → Status → Type 0
Tells bound cost Optimal = bound ≡ cost
Tells bound cost Bounded = bound ≢ cost

-- every film has an optimum
abbrev pub HasOptimum : FilmData → Type 0
HasOptimum film = (cost : ℕ) × IsOptimum film cost

module _ (kind : Kind) (film : FilmData) (most : ℕ) (start varied : PathData) (ended : EndedData) (stands : StandsFor film (reduced film))
    (is_start : IsStart (reduced film).film start) (is_varied : IsVaried (reduced film).film start varied)
    (is : IsEnded kind (reduced film).film varied most ended)
    (optimum : HasOptimum (reduced film).film) (orders : candidate_count (class_rules kind film) varied.paid ≤ 2 * factorial (length (reduced film).film.casts)) where
  abbrev state : State
  state = reduced film

  -- no order of the classes pays less than the cost that the bound is at most
  bound_below : ended.bound ≤ ended.cost
  bound_below = omega (arith, is.true_bound ended.order is.order, is.cost)

  least : IsLeast film (ended.bound + state.apart)
  least order kept =
      let below : ended.bound ≤ optimum.0 = omega (arith, is.true_bound optimum.1.attained.0 optimum.1.attained.1, optimum.1.attained.2) in
      omega (arith, below, ((stands.optimum optimum.0).0 optimum.1).least order kept)

  -- the lines that prove the bound are as good as those that were held, and no more
  rows_justified : (s : Status) (lines : List Line) → AreRows (class_rules kind film) s ended.lines lines → AreJustified (class_rules kind film) lines
  rows_justified Optimal lines rows = justified (class_rules kind film) ended.lines lines rows is.lines
  rows_justified Bounded lines rows = subst (AreJustified (class_rules kind film)) (sym rows) is.lines

  rows_known : (s : Status) (lines : List Line) → AreRows (class_rules kind film) s ended.lines lines
      → known (class_rules kind film) lines (all_scenes state.film) ≡ known (class_rules kind film) ended.lines (all_scenes state.film)
  rows_known Optimal lines rows = known_whole (class_rules kind film) ended.lines lines rows
  rows_known Bounded lines rows = ap (λ (ls : List Line). known (class_rules kind film) ls (all_scenes state.film)) rows

  rows_few : (s : Status) (lines : List Line) → AreRows (class_rules kind film) s ended.lines lines → length lines ≤ length ended.lines
  rows_few Optimal lines rows = no_longer (class_rules kind film) ended.lines lines rows
  rows_few Bounded lines rows = omega (arith, ap length rows)

  rows_each : (s : Status) (lines : List Line) → AreRows (class_rules kind film) s ended.lines lines → (set : ℕ)
      → count_by (λ line. line.set == set) lines ≤ count_by (λ line. line.set == set) ended.lines
  rows_each Optimal lines rows set = no_more_of (class_rules kind film) ended.lines lines rows (λ line. line.set == set)
  rows_each Bounded lines rows set = omega (arith, ap (count_by (λ line. line.set == set)) rows)

  -- an order of the film's scenes, which is one of the classes or that of the rows, and its cost
  module _ (order : List ℕ) (cost : ℕ) (kept : IsKeptOrder film order) (is_cost : cost ≡ pay_of film order) (no_more : cost ≤ ended.cost + state.apart)
      (of : IsOfClasses film order ⊎ (order ≡ own_order film)) (own : IsKeptOrder film (own_order film) → cost ≤ pay_of film (own_order film))
      (status : Status) (tells : Tells (ended.bound + state.apart) cost status) (lines : List Line)
      (rows : AreRows (class_rules kind film) status ended.lines lines) where
    abbrev plan : PlanData
    plan = record {
      status = status;
      kind = kind;
      cost = cost;
      bound = ended.bound + state.apart;
      held = ended.held;
      order = order;
      lines = lines;
    }

    ran_out : ended.bound + state.apart ≢ cost → RanOut kind film most varied plan
    ran_out apart = elim (cases_Bool ended.spent) [
      | inl spent ↦ (let out = is.spent spent in record {
        below = omega (arith, least order kept, is_cost, apart);
        full = out.full;
        fewer = out.fewer;
        orders = omega (arith, out.fewer, orders);
        ahead_reached = omega (arith, out.reaches);
      })
      | inr unspent ↦ absurd (apart (omega (arith, is.closed unspent, least order kept, is_cost, no_more)))
    ]

    closes : (s : Status) → Tells (ended.bound + state.apart) cost s → Closes kind film most varied plan s
    closes Optimal same = same
    closes Bounded apart = ran_out apart

    pub solved : IsSolved kind film most plan
    solved = record {
      same_kind = λ i. kind;
      order = kept;
      of_classes = of;
      cost = is_cost;
      bound = least;
      few_lines = is.most;
      start = start;
      is_start = is_start;
      varied = varied;
      is_varied = is_varied;
      no_dearer = omega (arith, is.no_dearer, no_more);
      own = own;
      proof = record {
        found = ended.lines;
        held = is.held;
        rows = rows;
        justified = rows_justified status lines rows;
        reaches = omega (arith, is.bound, rows_known status lines rows);
        few_rows = omega (arith, is.held, rows_few status lines rows);
        candidates = is.candidates;
        sets = λ set. omega (arith, is.sets set, rows_each status lines rows set);
      };
      closes = closes status tells;
    }

  -- what a search told of the lines tells of the cheaper order
  told : (own : Option Own) (cost : ℕ) (trimmed : Option (Vec Line Global)) (status : Status) (lines : List Line)
      → cost ≡ min ended.cost (own_cost own state.apart) + state.apart → IsTrimmed kind state.film (own_cost own state.apart) ended trimmed
      → IsProofOf trimmed ended.lines status lines
      → Tells (ended.bound + state.apart) cost status × AreRows (class_rules kind film) status ended.lines lines
  told own cost (Some rows) status lines costs (same, are) (is, alike) =
      subst (λ (s : Status). Tells (ended.bound + state.apart) cost s × AreRows (class_rules kind film) s ended.lines lines) (sym is)
      (omega (arith, costs, same), subst (λ (ls : List Line). AreRows (class_rules kind film) Optimal ended.lines ls) (sym alike) are)
  told own cost None status lines costs other (is, alike) =
      subst (λ (s : Status). Tells (ended.bound + state.apart) cost s × AreRows (class_rules kind film) s ended.lines lines) (sym is)
      ((λ same. other (omega (arith, costs, same))), alike)

  module _ (own : Option Own) (order : List ℕ) (cost : ℕ) (trimmed : Option (Vec Line Global)) (status : Status) (lines : List Line) (is_own : IsOwn film own)
      (small : ended.cost < 2 ^ 64) (is_trimmed : IsTrimmed kind state.film (own_cost own state.apart) ended trimmed)
      (is_proof : IsProofOf trimmed ended.lines status lines) where
    abbrev the_plan : PlanData
    the_plan = record {
      status = status;
      kind = kind;
      cost = cost;
      bound = ended.bound + state.apart;
      held = ended.held;
      order = order;
      lines = lines;
    }

    -- that of the rows is cheaper
    pub rows_solved : IsRows own (ended.cost + state.apart) order cost → IsSolved kind film most the_plan
    rows_solved rows =
        let its : IsOwn film (Some rows.rows) = subst (IsOwn film) rows.same is_own in
        let same : order ≡ own_order film = rows.taken ∙ its.0 in
        let kept : IsKeptOrder film order = subst (IsKeptOrder film) (sym same) its.1 in
        let pays : cost ≡ pay_of film order = rows.costs ∙ its.2 ∙ ap (pay_of film) (sym same) in
        let costs : cost ≡ min ended.cost (own_cost (Some rows.rows) state.apart) + state.apart
        = omega (arith, rows.costs, rows.cheaper, least order kept, pays) in
        let so = told own cost trimmed status lines (costs ∙ ap (λ (o : Option Own). min ended.cost (own_cost o state.apart) + state.apart) (sym rows.same)) is_trimmed is_proof in
        solved order cost kept pays (omega (arith, rows.costs, rows.cheaper)) (inr same) (λ _. omega (arith, rows.costs, its.2)) status so.0 lines so.1

    -- it is no cheaper
    no_cheaper : (o : Option Own) → IsOwn film o → IfSome o (λ rows. ended.cost + state.apart ≤ rows.cost) → cost ≡ ended.cost + state.apart
        → (cost ≡ min ended.cost (own_cost o state.apart) + state.apart) × (IsKeptOrder film (own_order film) → cost ≤ pay_of film (own_order film))
    no_cheaper None none any same = (omega (arith, small, same), (λ kept. absurd (none kept)))
    no_cheaper (Some rows) its dearer same = (omega (arith, dearer, same), (λ kept. omega (arith, dearer, same, its.2)))

    pub found_solved : IsFound state.film state.members ended.order own (ended.cost + state.apart) order cost → IsSolved kind film most the_plan
    found_solved found =
        let its : IsOrder (length state.film.casts) found.classes = found.kept.is_order in
        let kept : IsKeptOrder film order = subst (IsKeptOrder film) (sym found.stands) (record {
          is_order = stands.order found.classes its;
          keeps = (stands.kept found.classes its).1 found.kept.keeps;
        }) in
        let pays : cost ≡ pay_of film order
        = omega (arith, found.costs, is.cost, found.pays, stands.pay found.classes its, ap (pay_of film) found.stands) in
        let both = no_cheaper own is_own found.no_dearer found.costs in
        let so = told own cost trimmed status lines both.0 is_trimmed is_proof in
        solved order cost kept pays (omega (arith, found.costs)) (inl (record { classes = found.classes; stands = found.stands; turned = found.turned })) both.1 status so.0
        lines so.1

-- the same by the state that the code has
abbrev Solves : Kind → FilmData → ℕ → PathData → PathData → EndedData → Option Own → List ℕ → ℕ → Option (Vec Line Global) → Status → List Line → State → Type 0
Solves kind film most start varied ended own order cost trimmed status lines draft =
    StandsFor film draft → IsStart draft.film start → IsVaried draft.film start varied → IsEnded kind draft.film varied most ended
    → HasOptimum draft.film → candidate_count (rules_of kind draft.film) varied.paid ≤ 2 * factorial (length draft.film.casts)
    → IsOwn film own → ended.cost < 2 ^ 64 → IsTrimmed kind draft.film (own_cost own draft.apart) ended trimmed → IsProofOf trimmed ended.lines status lines
    → IsRows own (ended.cost + draft.apart) order cost ⊎ IsFound draft.film draft.members ended.order own (ended.cost + draft.apart) order cost
    → IsSolved kind film most (record {
      status = status;
      kind = kind;
      cost = cost;
      bound = ended.bound + draft.apart;
      held = ended.held;
      order = order;
      lines = lines;
    })

module _ (kind : Kind) (film : FilmData) (most : ℕ) (start varied : PathData) (ended : EndedData) (own : Option Own) (order : List ℕ) (cost : ℕ)
    (trimmed : Option (Vec Line Global)) (status : Status) (lines : List Line) where
  solves : Solves kind film most start varied ended own order cost trimmed status lines (reduced film)
  solves stands is_start is_varied is optimum orders is_own small is_trimmed is_proof (inl rows) =
      rows_solved kind film most start varied ended stands is_start is_varied is optimum orders own order cost trimmed status lines is_own small is_trimmed is_proof rows
  solves stands is_start is_varied is optimum orders is_own small is_trimmed is_proof (inr found) =
      found_solved kind film most start varied ended stands is_start is_varied is optimum orders own order cost trimmed status lines is_own small is_trimmed is_proof found

  pub solved_by : (draft : State) → draft ≡ reduced film → Solves kind film most start varied ended own order cost trimmed status lines draft
  solved_by draft same = subst (Solves kind film most start varied ended own order cost trimmed status lines) (sym same) solves

-- a plan is optimal where lines are trimmed
pub status_of : (trimmed : Option (Vec Line Global)) (found : List Line) (status : Status) (lines : List Line) → IsProofOf trimmed found status lines → IsStatusOf trimmed status
status_of (Some rows) found status lines is = is.0
status_of None found status lines is = is.0

-- the cheaper order's cost is the lesser one
pub least_cost : (film : FilmData) (members : List (List ℕ)) (found : List ℕ) (own : Option Own) (cost : ℕ) (order : List ℕ) (least : ℕ)
    → IsRows own cost order least ⊎ IsFound film members found own cost order least → least ≡ or_own cost own
least_cost film members found own cost order least (inl rows) =
    (let lesser : least ≡ min cost rows.rows.cost = omega (arith, rows.costs, rows.cheaper) in lesser) ∙ ap (or_own cost) (sym rows.same)
least_cost film members found None cost order least (inr is) = is.costs
least_cost film members found (Some rows) cost order least (inr is) = omega (arith, is.costs, is.no_dearer)

-- what was turned round is as it is chosen
pub turned_once : (order now : List ℕ) → now ≡ oriented order → oriented (reverse order) ≡ now → now ≡ oriented now
turned_once order now is same = elim (cases_Bool (nat_lt (slice_index order (length order - 1)) (slice_index order 0))) [
  | inl later ↦ (let back : now ≡ reverse order = is ∙ ap (λ (b : Bool). if b then reverse order else order) later in
      sym (ap oriented back ∙ same))
  | inr first ↦ (let kept : now ≡ order = is ∙ ap (λ (b : Bool). if b then reverse order else order) first in
      is ∙ ap oriented (sym kept))
]
