-- The value is at most the days of the set, each at the hold rates of all.
use Rattle.std.proofs.Common.{◌≡◌, ℕ, ◌+◌, ◌*◌, ◌≤◌, true, false, List, [], ◌∷◌, slice_index, sym, ap, ◌∙◌, arith}
use Rattle.std.proofs.Math.Nat.{mul-le-mul}
use Rattle.strip_mask.specs.Set.{IsSet, has, sum_over, union, without}
use Rattle.strip_mask.proofs.ByMembers.{IsSet-without}
use Rattle.strip_mask.proofs.Totals.{sum_over-without}
use Rattle.strip_group.specs.Group.{GroupData}
use Rattle.strip_arrivals.specs.Arrivals.{arrivals_value}
use Rattle.strip_arrivals.specs.Along.{HasEach, waiting_at, waiting_from}
use Rattle.strip_arrivals.proofs.Along.{value_le}
use Rattle.strip_arrivals.proofs.Each.{list_of}

module _ (film : GroupData) (group newcomers most : ℕ) (low : (actors : ℕ) → sum_over film.holds actors ≤ most) where
  waiting_low : (set came : ℕ) (scenes : List ℕ) → IsSet set → HasEach set scenes → waiting_from film group newcomers came scenes ≤ sum_over film.days set * most
  waiting_low set came [] small none = omega arith
  waiting_low set came (scene ∷ later) small (there, rest) =
      let days : ℕ = slice_index film.days scene in
      let others : ℕ = sum_over film.days (without set scene) in
      let same : days ≤ days = omega arith in
      let here : days * sum_over film.holds (waiting_at film group newcomers came scene later) ≤ days * most
      = mul-le-mul same (low (waiting_at film group newcomers came scene later)) in
      let then : waiting_from film group newcomers (union came (slice_index film.casts scene)) later ≤ others * most
      = waiting_low (without set scene) (union came (slice_index film.casts scene)) later (IsSet-without set scene small) rest in
      let whole : sum_over film.days set * most ≡ others * most + days * most
      = ap (λ (n : ℕ). n * most) (sym (sum_over-without film.days set scene small there)) ∙ spread others days most in
      omega (arith, here, then, whole)
    where
      spread : (a b m : ℕ) → (a + b) * m ≡ a * m + b * m
      spread a b m = omega arith

  pub value_low : (set : ℕ) → IsSet set → IsSet group → IsSet newcomers → ((actor : ℕ) → has newcomers actor ≡ true → has group actor ≡ false)
      → arrivals_value film set group newcomers ≤ sum_over film.days set * most
  value_low set small_set small fits apart =
      let scenes = list_of set small_set in
      let no_more = value_le film set group newcomers small_set small apart scenes.0 fits scenes.1 in
      let at_most = waiting_low set 0 scenes.0 small_set scenes.1 in
      omega (arith, no_more, at_most)
