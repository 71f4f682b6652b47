-- What a path promises: how far it may still reach.
use Rattle.std.specs.Prelude.{ℕ}
use Rattle.strip_model.specs.declared.kind.Kind.{Kind}
use Rattle.strip_model.specs.declared.kind.Kind.TheVariants.{Plain, Pairs, Groups, Arrivals}

-- by what a path goes first whose paid with the static bound of what remains is this; where bounds are cheap all
-- are equal
abbrev pub promised : Kind → ℕ → ℕ
promised Plain reach = 0
promised Pairs reach = 0
promised Groups reach = reach
promised Arrivals reach = reach
