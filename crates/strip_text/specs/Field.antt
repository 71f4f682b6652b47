-- A field of a row, and the blanks at its ends.
use Rattle.std.specs.Prelude.{ℕ, Bool, ◌==◌, ◌||◌, List, [], ◌∷◌, reverse, if◌then◌else◌}

abbrev pub Field : Type 0
Field = List ℕ

-- a space or a tab
abbrev pub is_blank : ℕ → Bool
is_blank byte = (byte == 32) || (byte == 9)

-- from the first byte that is no blank on
abbrev pub without_front_blanks : Field → Field
without_front_blanks [] = []
without_front_blanks (byte ∷ bytes) = if is_blank byte then without_front_blanks bytes else byte ∷ bytes

-- without the blanks at both ends
abbrev pub trimmed : Field → Field
trimmed field = reverse (without_front_blanks (reverse (without_front_blanks field)))
