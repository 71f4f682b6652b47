-- With which tasks, and with which limits, a row is due.
use Rattle.std.specs.Prelude.{ℕ, zero, suc, ◌+◌, ◌-◌, ◌*◌, ◌/◌, ◌<◌, nat_lt, if◌then◌else◌, min, List, [], ◌∷◌}

-- how many whole fortieths of the tasks that are asked for these are
abbrev pub fortieths : ℕ → ℕ → ℕ
fortieths tasks wanted = tasks * 40 / wanted

-- with this task a further fortieth is begun
abbrev pub IsDue : ℕ → ℕ → Type 0
IsDue begun wanted = fortieths (begun - 1) wanted < fortieths begun wanted

-- with how many of the first tasks a row is due
abbrev pub rows : ℕ → ℕ → ℕ
rows zero wanted = 0
rows (suc before) wanted = (if nat_lt (fortieths before wanted) (fortieths (suc before) wanted) then 1 else 0)
    + rows before wanted

-- how far the limit of this number reaches: one more than its whole fortieths of the steps, so 1 to 41; a number past
-- the last step counts as the last
abbrev pub reached : ℕ → ℕ → ℕ
reached number steps = 1 + fortieths (min number steps) steps

-- a row is due with the limit of this number; `earlier` is how far earlier limits reached, 0 if there are none
abbrev pub IsLimitDue : ℕ → ℕ → ℕ → Type 0
IsLimitDue number steps earlier = earlier < reached number steps

-- with how many limits of these numbers, one after the other, a row is due; `earlier` as above
abbrev pub limit_rows : List ℕ → ℕ → ℕ → ℕ
limit_rows [] steps earlier = 0
limit_rows (number ∷ later) steps earlier =
    if nat_lt earlier (reached number steps)
    then 1 + limit_rows later steps (reached number steps)
    else limit_rows later steps earlier
