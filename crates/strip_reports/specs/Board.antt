-- The page of an instance in an order: a sentence, a warning for each pair that the order breaks, the shooting order, and
-- the actors.
use Rattle.std.specs.Prelude.{ℕ, ◌+◌, ◌-◌, ◌*◌, ◌/◌, ◌==◌, Bool, nat_le, min, max, List, [], ◌∷◌, ◌++◌, length, map, filter, codes, slice_index_or, if◌then◌else◌}
use Rattle.std.specs.List.{flat_map, list_any, range_with_len}
use Rattle.std.specs.Fmt.{decimal}
use Rattle.strip_model.specs.declared.pair.Pair.{Pair}
use Rattle.strip_model.specs.Film.{FilmData}
use Rattle.strip_model.specs.Pay.{from_first, pay_of, works}
use Rattle.strip_model.specs.Data.{InstanceData, scene_name}
use Rattle.strip_model.specs.FilmOf.{film_of}
use Rattle.strip_proof.specs.Plan.{PlanData}
use Rattle.strip_proof.specs.Rows.{status_word}
use Rattle.strip_reports.specs.Days.{days_of, is_held, scene_at}
use Rattle.strip_reports.specs.Sheet.{figures_at}
use Rattle.strip_reports.specs.Html.{CellData, Word, Name, Upright, Number, Works, Held, Empty, Cells, isolated, table_text}
use Rattle.strip_reports.specs.Frame.{page_head, page_end}
use Rattle.strip_reports.specs.Actors.{actors_part}

-- ---- the sentence and the warnings

-- what the order costs, and what the plan claims
abbrev pub summary : InstanceData → PlanData → List ℕ
summary inst plan =
    codes "<p>This order costs " ++ decimal (pay_of (film_of inst) plan.order)
    ++ codes " (scenes: " ++ decimal (length inst.scenes)
    ++ codes ", days: " ++ decimal (days_of (film_of inst) plan.order)
    ++ codes ", actors: " ++ decimal (length inst.actors)
    ++ codes "); its plan claims the bound " ++ decimal plan.bound
    ++ codes " and the status " ++ status_word plan.status
    ++ codes ", which stripcheck checks and this page does not.</p>\n"

-- the order has the pair's first scene behind the other
abbrev pub breaks : List ℕ → Pair → Bool
breaks order pair = list_any (λ scene. scene == pair.first) (from_first (λ scene. scene == pair.then) order)

abbrev pub warning : InstanceData → Pair → List ℕ
warning inst pair =
    codes "<p class=\"warning\">Warning: " ++ isolated (scene_name inst pair.first)
    ++ codes " has to be shot before " ++ isolated (scene_name inst pair.then)
    ++ codes ", but this order has it behind.</p>\n"

abbrev pub warnings : InstanceData → List ℕ → List ℕ
warnings inst order = flat_map (warning inst) (filter (breaks order) inst.pairs)

-- ---- the shooting order, in tables of at most 24 actors each

-- the first actor of each table; there is one table at least
abbrev pub table_starts : ℕ → List ℕ
table_starts actors = map (λ table. table * 24) (range_with_len 0 (max 1 ((actors + 23) / 24)))

-- the actors of the table that begins with this one
abbrev pub columns : ℕ → ℕ → List ℕ
columns actors start = range_with_len start (min 24 (actors - start))

-- the table is the last one, which has the sums
abbrev pub is_last : ℕ → ℕ → Bool
is_last actors start = nat_le actors (start + 24)

abbrev pub actor_name : InstanceData → ℕ → List ℕ
actor_name inst actor = slice_index_or (map (λ its. its.name) inst.actors) actor []

-- what an actor does, by whether he works and whether he is held
abbrev pub mark_of : Bool → Bool → CellData
mark_of works held = if works then Works else if held then Held else Empty

-- what he does in the scene at this place
abbrev pub mark_at : FilmData → List ℕ → ℕ → ℕ → CellData
mark_at film order place actor = mark_of (works film actor (scene_at order place)) (is_held film order place actor)

-- the heads of the columns
abbrev pub order_heads : InstanceData → ℕ → Cells
order_heads inst start =
    (Word (codes "No.") ∷ Word (codes "Scene") ∷ Word (codes "Days") ∷ Word (codes "First") ∷ Word (codes "Last") ∷ [])
    ++ map (λ actor. Upright (actor_name inst actor)) (columns (length inst.actors) start)
    ++ (if is_last (length inst.actors) start
    then Word (codes "Working") ∷ Word (codes "Held") ∷ Word (codes "Pay") ∷ []
    else [])

-- the row of the scene at this place: its place counted from 1, its name, its days, the first and the last of them, what
-- each actor does in it, how many work and are held, and what they get
abbrev pub order_cells : InstanceData → List ℕ → ℕ → ℕ → Cells
order_cells inst order start place =
    let figures = figures_at (film_of inst) order place in
    (Number (place + 1) ∷ Name (scene_name inst (scene_at order place))
    ∷ Number figures.days ∷ Number figures.first ∷ Number figures.last ∷ [])
    ++ map (mark_at (film_of inst) order place) (columns (length inst.actors) start)
    ++ (if is_last (length inst.actors) start
    then Number figures.working ∷ Number figures.holding ∷ Number figures.pay ∷ []
    else [])

-- the total of the last table: all days, and what the order pays
abbrev pub order_total : InstanceData → List ℕ → ℕ → Cells
order_total inst order start =
    (Empty ∷ Word (codes "Total") ∷ Number (days_of (film_of inst) order) ∷ Empty ∷ Empty ∷ [])
    ++ map (λ actor. Empty) (columns (length inst.actors) start)
    ++ (Empty ∷ Empty ∷ Number (pay_of (film_of inst) order) ∷ [])

abbrev pub order_totals : InstanceData → List ℕ → ℕ → List Cells
order_totals inst order start = if is_last (length inst.actors) start then order_total inst order start ∷ [] else []

abbrev pub order_table : InstanceData → List ℕ → ℕ → List ℕ
order_table inst order start =
    table_text (order_heads inst start)
    (map (order_cells inst order start) (range_with_len 0 (length order)))
    (order_totals inst order start)

abbrev pub order_part : InstanceData → List ℕ → List ℕ
order_part inst order =
    codes "<h2>Shooting order</h2>\n" ++ flat_map (order_table inst order) (table_starts (length inst.actors))

-- ---- the page

abbrev pub board_text : InstanceData → PlanData → List ℕ
board_text inst plan =
    page_head ++ summary inst plan ++ warnings inst plan.order ++ order_part inst plan.order
    ++ actors_part inst plan.order ++ page_end
