use Rattle.std.proofs.Common.{◌≡◌, ◌+◌, ◌-◌, ◌/◌, ◌%◌, ◌^◌, ◌<◌, ◌≤◌, ℕ, subst, arith}
use Rattle.std.proofs.Math.Pow.{shr_lt}
use Rattle.strip_memo.proofs.drawer.Drawer.place.Goals as goal

-- the top bits of a number of 58
top_bits : (n shift : ℕ) → shift ≤ 58 → n < 2 ^ 58 → n / 2 ^ shift < 2 ^ (58 - shift)
top_bits n shift few fits =
    let all : 58 ≡ 58 - shift + shift = omega arith in
    shr_lt {n = n} (58 - shift) shift (subst (λ (bits : ℕ). n < 2 ^ bits) all fits)

pub returns : goal.returns
returns g c =
    let room = c.self.invariant in
    rw (← c.self.view_is) (omega (arith, room.1, top_bits (c.hash_of.result % 288230376151711744) c.self.inside.shift room.0 (omega arith)))
