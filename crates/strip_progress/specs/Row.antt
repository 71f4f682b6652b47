-- The text of a row.
use Rattle.std.specs.Prelude.{ℕ, Option, Some, None, List, ◌++◌, ◌==◌, codes, if◌then◌else◌}
use Rattle.std.specs.Fmt.{decimal}
use Rattle.strip_model.specs.declared.kind.Kind.{Kind}
use Rattle.strip_model.specs.declared.kind.Kind.TheVariants.{Plain, Pairs, Groups, Arrivals}
use Rattle.strip_hand.specs.declared.gate.Limit.{Limit}
use Rattle.strip_hand.specs.declared.gate.Stage.{Stage}
use Rattle.strip_hand.specs.declared.gate.Standing.{Standing}
use Rattle.strip_progress.specs.declared.row.Row.{Row}

-- the word behind so many
abbrev pub workers_word : ℕ → List ℕ
workers_word workers = if workers == 1 then codes "worker" else codes "workers"

-- the word for static bounds of this kind
abbrev pub kind_word : Kind → List ℕ
kind_word Plain = codes "plain"
kind_word Pairs = codes "pairs"
kind_word Groups = codes "groups"
kind_word Arrivals = codes "arrivals"

-- as "cost 104319, 1444 of 20000 lines", or as "cost 104319, bound 85504, 1444 of 20000 lines" if a bound is proved
abbrev pub cost_text : ℕ → Option ℕ → ℕ → ℕ → List ℕ
cost_text cost None lines most =
    codes "cost " ++ (decimal cost ++ (codes ", "
    ++ (decimal lines ++ (codes " of " ++ (decimal most ++ codes " lines")))))
cost_text cost (Some bound) lines most =
    codes "cost " ++ (decimal cost ++ (codes ", bound " ++ (decimal bound ++ (codes ", "
    ++ (decimal lines ++ (codes " of " ++ (decimal most ++ codes " lines")))))))

-- how a search stands, with which each row ends
abbrev pub standing_text : Standing → List ℕ
standing_text standing = cost_text standing.cost standing.bound standing.lines standing.nodes

-- as "31 of 412 tasks begun, by 4 workers: cost 104319, 1444 of 20000 lines"
abbrev pub row_text : Row → List ℕ
row_text row =
    decimal row.begun ++ (codes " of " ++ (decimal row.wanted ++ (codes " tasks begun, by "
    ++ (decimal row.workers ++ (codes " " ++ (workers_word row.workers
    ++ (codes ": " ++ standing_text row.standing)))))))

-- as "limit 5 of 16: cost 104319, bound 85504, 1444 of 20000 lines"
abbrev pub limit_text : Limit → List ℕ
limit_text limit =
    codes "limit " ++ (decimal limit.number ++ (codes " of " ++ (decimal limit.steps
    ++ (codes ": " ++ standing_text limit.standing))))

-- as "search with pairs ended: cost 104319, bound 85504, 50000 of 50000 lines"
abbrev pub stage_text : Stage → List ℕ
stage_text stage =
    codes "search with " ++ (kind_word stage.kind ++ (codes " ended: " ++ standing_text stage.standing))
