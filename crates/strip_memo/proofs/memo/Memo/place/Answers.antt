use Rattle.std.proofs.Common.{◌≡◌, ◌+◌, ◌-◌, ◌*◌, ◌/◌, ◌%◌, ◌^◌, ◌<◌, ℕ, subst, arith}
use Rattle.std.proofs.Math.Pow.{shr_lt}
use Rattle.strip_memo.proofs.memo.Memo.place.Goals as goal

-- the top bits of a number of 64
top_bits : (n shift : ℕ) → shift < 64 → n < 2 ^ 64 → n / 2 ^ shift < 2 ^ (64 - shift)
top_bits n shift few fits =
    let all : 64 ≡ 64 - shift + shift = omega arith in
    shr_lt {n = n} (64 - shift) shift (subst (λ (bits : ℕ). n < 2 ^ bits) all fits)

pub returns : goal.returns
returns g c =
    let room = c.args.self.now.places in
    omega (arith, room.1, top_bits (c.args.q.0 * 11400714819323198485 % 2 ^ 64) c.args.self.now.shift room.0 (omega arith))
