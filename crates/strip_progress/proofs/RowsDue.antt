-- How many rows are due.
use Rattle.std.proofs.Common.{◌≡◌, ℕ, zero, suc, ◌+◌, ◌-◌, ◌*◌, ◌/◌, ◌<◌, ◌≤◌, min, List, [], ◌∷◌, arith}
use Rattle.std.proofs.Math.Nat.{div-mul-le_self, lt_of_mul-lt-mul_right, mul-div_right}
use Rattle.std.proofs.lemmas.Nat.{le-div}
use Rattle.strip_progress.specs.Due.{fortieths, IsDue, limit_rows, reached, rows}

-- one task more makes no fewer fortieths
grows : (tasks wanted : ℕ) → 0 < wanted → fortieths tasks wanted ≤ fortieths (suc tasks) wanted
grows tasks wanted some =
    let whole = div-mul-le_self (tasks * 40) wanted in
    le-div (tasks * 40 / wanted) (suc tasks * 40) wanted some (omega (arith, whole))

-- each row is of a fortieth of its own
rows_within : (tasks wanted : ℕ) → 0 < wanted → rows tasks wanted ≤ fortieths tasks wanted
rows_within zero wanted some = omega arith
rows_within (suc before) wanted some =
    let so_far = rows_within before wanted some in
    let more = grows before wanted some in
    grind (arith, so_far, more)

pub at_most_forty : (wanted : ℕ) → 0 < wanted → rows wanted wanted ≤ 40
at_most_forty wanted some =
    let within = rows_within wanted wanted some in
    let all : fortieths wanted wanted ≡ 40 = mul-div_right 40 some in
    omega (arith, within, all)

pub each_of_few : (begun wanted : ℕ) → 0 < begun → 0 < wanted → wanted ≤ 40 → IsDue begun wanted
each_of_few begun wanted one some few =
    let whole = div-mul-le_self ((begun - 1) * 40) wanted in
    le-div (suc ((begun - 1) * 40 / wanted)) (begun * 40) wanted some (omega (arith, whole, one, few))

pub last_of_all : (wanted : ℕ) → 0 < wanted → IsDue wanted wanted
last_of_all wanted some =
    let whole = div-mul-le_self ((wanted - 1) * 40) wanted in
    let all : fortieths wanted wanted ≡ 40 = mul-div_right 40 some in
    let fewer : fortieths (wanted - 1) wanted < 40 = lt_of_mul-lt-mul_right wanted (omega (arith, whole, some)) in
    omega (arith, fewer, all)

-- no limit reaches more than forty fortieths
reached_within : (number steps : ℕ) → 0 < steps → reached number steps ≤ 41
reached_within number steps some =
    let whole = div-mul-le_self (min number steps * 40) steps in
    let below : fortieths (min number steps) steps < 41 = lt_of_mul-lt-mul_right steps (omega (arith, whole, some)) in
    omega (arith, below)

-- each limit with a row reaches farther than all earlier ones did
limits_within : (numbers : List ℕ) (steps earlier : ℕ) → 0 < steps → earlier ≤ 41
    → limit_rows numbers steps earlier + earlier ≤ 41
limits_within [] steps earlier some few = omega (arith, few)
limits_within (number ∷ later) steps earlier some few =
    let told = limits_within later steps (reached number steps) some (reached_within number steps some) in
    let passed_over = limits_within later steps earlier some few in
    grind (arith, told, passed_over)

pub few_of_limits : (numbers : List ℕ) (steps : ℕ) → 0 < steps → limit_rows numbers steps 0 ≤ 41
few_of_limits numbers steps some =
    let within = limits_within numbers steps 0 some (omega arith) in
    omega (arith, within)
