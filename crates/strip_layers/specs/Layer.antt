-- What is known of the sets of a layer.
use Rattle.std.specs.Prelude.{ℕ, nat_eq, Option, None, Some, List, slice_index_or}
use Rattle.std.specs.List.{position}
use Rattle.strip_layers.specs.declared.layer.Standing.{Standing}

abbrev pub no_standing : Standing
no_standing = record { value = 0; place = None }

-- the standing at a place of the layer
abbrev pub standing_at : List Standing → ℕ → Standing
standing_at standings place = slice_index_or standings place no_standing

abbrev pub value_at : List Standing → Option ℕ → ℕ
value_at standings None = 0
value_at standings (Some place) = (standing_at standings place).value

-- what is known of a set: the value that stands at its place among the sets, or 0
abbrev pub value_in : List ℕ → List Standing → ℕ → ℕ
value_in sets standings set = value_at standings (position (nat_eq set) sets)
