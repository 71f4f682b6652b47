-- Numbers and values when a place is closed up.
use Rattle.std.proofs.Common.{◌≡◌, ◌≢◌, ℕ, ◌+◌, ◌-◌, ◌<◌, ◌≤◌, List, length, get_or, inl, inr, refl, sym, ap, ◌∙◌, arith}
use Rattle.std.specs.List.{remove}
use Rattle.std.proofs.lemmas.Bool.{cases_lt, le-ltb, lt-ltb}
use Rattle.std.proofs.lemmas.List.{get_or-set_same, get_or-set_other}
use Rattle.std.proofs.lemmas.List.Edits.{get_or-remove_below, get_or-remove_above, length-remove}
use Rattle.strip_mask.specs.Set.{behind_gap}
use Rattle.strip_reduce.specs.Steps.{joined, renumbered}

pub gap_below : (gone place : ℕ) → place < gone → behind_gap gone place ≡ place
gap_below gone place low = rw (lt-ltb place gone low) refl

pub gap_above : (gone place : ℕ) → gone ≤ place → behind_gap gone place ≡ place + 1
gap_above gone place high = rw (le-ltb place gone high) refl

pub gap_other : (gone place : ℕ) → behind_gap gone place ≢ gone
gap_other gone place same = elim (cases_lt place gone) [
  | inl low ↦ omega (arith, low, same, gap_below gone place low)
  | inr high ↦ omega (arith, high, same, gap_above gone place high)
]

pub gap_within : (n gone place : ℕ) → place < n → behind_gap gone place < n + 1
gap_within n gone place within = elim (cases_lt place gone) [
  | inl low ↦ omega (arith, within, gap_below gone place low)
  | inr high ↦ omega (arith, within, gap_above gone place high)
]

pub gap_past : (n gone place : ℕ) → gone ≤ n → n ≤ place → n + 1 ≤ behind_gap gone place
gap_past n gone place within past = omega (arith, gap_above gone place (omega (arith, within, past)), past)

pub renumbered_below : (gone scene : ℕ) → scene ≤ gone → renumbered gone scene ≡ scene
renumbered_below gone scene low = rw (le-ltb gone scene low) refl

pub renumbered_above : (gone scene : ℕ) → gone < scene → renumbered gone scene ≡ scene - 1
renumbered_above gone scene high = rw (lt-ltb gone scene high) refl

-- each number but the one that is gone keeps its own place
pub gap-renumbered : (gone scene : ℕ) → scene ≢ gone → behind_gap gone (renumbered gone scene) ≡ scene
gap-renumbered gone scene other = elim (cases_lt gone scene) [
  | inl high ↦ ap (behind_gap gone) (renumbered_above gone scene high) ∙ gap_above gone (scene - 1) (omega (arith, high)) ∙ omega (arith, high)
  | inr low ↦ ap (behind_gap gone) (renumbered_below gone scene low) ∙ gap_below gone scene (omega (arith, low, other))
]

pub renumbered-gap : (gone place : ℕ) → renumbered gone (behind_gap gone place) ≡ place
renumbered-gap gone place = elim (cases_lt place gone) [
  | inl low ↦ ap (renumbered gone) (gap_below gone place low) ∙ renumbered_below gone place (omega (arith, low))
  | inr high ↦ ap (renumbered gone) (gap_above gone place high) ∙ renumbered_above gone (place + 1) (omega (arith, high)) ∙ omega arith
]

pub renumbered_once : (gone x y : ℕ) → x ≢ gone → y ≢ gone → renumbered gone x ≡ renumbered gone y → x ≡ y
renumbered_once gone x y x_other y_other same = sym (gap-renumbered gone x x_other) ∙ ap (behind_gap gone) same ∙ gap-renumbered gone y y_other

pub renumbered_within : (n gone scene : ℕ) → gone ≤ n → scene ≢ gone → scene < n + 1 → renumbered gone scene < n
renumbered_within n gone scene within other known = elim (cases_lt gone scene) [
  | inl high ↦ omega (arith, renumbered_above gone scene high, known, high)
  | inr low ↦ omega (arith, renumbered_below gone scene low, within, low, other)
]

-- ---- values

module _ {X : Type 0} (values : List X) (gone : ℕ) (known : gone < length values) where
  pub removed-at : (place : ℕ) (d : X) → get_or (remove values gone) place d ≡ get_or values (behind_gap gone place) d
  removed-at place d = elim (cases_lt place gone) [
    | inl low ↦ get_or-remove_below values gone d place low known ∙ ap (λ (i : ℕ). get_or values i d) (sym (gap_below gone place low))
    | inr high ↦ get_or-remove_above values gone d place high known ∙ ap (λ (i : ℕ). get_or values i d) (sym (gap_above gone place high))
  ]

  -- the value for both stands at the first place, and the others close up
  pub joined-here : (a : ℕ) (value d : X) → a < gone → get_or (joined values a gone value) a d ≡ value
  joined-here a value d less = get_or-set_same (remove values gone) a value d (omega (arith, length-remove values gone known, less, known))

  pub joined-elsewhere : (a : ℕ) (value : X) (place : ℕ) (d : X) → place ≢ a → get_or (joined values a gone value) place d ≡ get_or values (behind_gap gone place) d
  joined-elsewhere a value place d other = get_or-set_other (remove values gone) a place value d other ∙ removed-at place d
