use Rattle.std.proofs.Common.{ℕ, ◌*◌, ◌^◌, ◌≤◌, mul-le-mul_right, arith}
use Rattle.std.proofs.Math.Pow.{pow_mono}
use Rattle.strip_memo.proofs.memo.bits_of.Goals as goal

-- fewer bits take no more room
less : (few most workers : ℕ) → few ≤ most → 17 * 2 ^ most * workers ≤ 2 ^ 27 → 17 * 2 ^ few * workers ≤ 2 ^ 27
less few most workers fewer fits = omega (arith, mul-le-mul_right (17 * workers) (pow_mono fewer), fits)

pub returns-clause-room : goal.returns-clause-room
returns-clause-room c = less c.min.result c.bits_among.result c.args.workers (omega (arith, c.min.ensures)) c.bits_among.ensures.room
