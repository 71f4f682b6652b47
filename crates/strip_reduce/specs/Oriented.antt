-- Of an order and its reverse always the same one.
use Rattle.std.specs.Prelude.{ℕ, ◌-◌, nat_lt, if◌then◌else◌, List, length, reverse, slice_index}

-- the order, turned round where its first number is greater than its last
abbrev pub oriented : List ℕ → List ℕ
oriented order = if nat_lt (slice_index order (length order - 1)) (slice_index order 0) then reverse order else order
