-- The order of paths, as the law states it.
use Rattle.std.proofs.Common.{◌≡◌, ◌≢◌, ◌↔◌, ℕ, List, ◌∷◌, ◌++◌}
use Rattle.strip_model.specs.Order.{IsBefore}
use Rattle.strip_film.specs.Finish.{rest_after}
use Rattle.strip_film.specs.Ranks.{IsEarlier, IsSooner}
use Rattle.strip_film.specs.Rules.{Rules, rank}
use Rattle.strip_film.proofs.Ranks.{by_number_earlier, earlier_by_number, earlier_parted, sooner_parted}

pub parted : (rules : Rules) (set s t : ℕ) (begun a b : List ℕ) → s ≢ t
    → IsEarlier rules set (begun ++ s ∷ a) (begun ++ t ∷ b) ↔ IsSooner (rank rules (rest_after set begun)) s t
parted rules set s t begun a b apart = (sooner_parted rules set begun s a t b apart, earlier_parted rules set begun s a t b)

pub by_number : (rules : Rules) (set : ℕ) (a b : List ℕ) → ((paid set : ℕ) → rules.promise paid set ≡ 0)
    → IsEarlier rules set a b ↔ IsBefore a b
by_number rules set a b equal = (earlier_by_number rules equal set a b, by_number_earlier rules equal set a b)
