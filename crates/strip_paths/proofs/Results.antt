-- Results that have a value.
use Rattle.std.proofs.Common.{◌≡◌, true, false, Result, Ok, Err}
use Rattle.std.specs.Result.{IsOk, OnOk}

-- what holds where there is a value, where there is one
pub on_ok : {T E : Type 0} (result : Result T E) (P : Type 0) → IsOk result → OnOk result P → P
on_ok (Ok value) P ok holds = holds
on_ok (Err error) P ok holds = absurd (let e : false ≡ true = ok in cc)
