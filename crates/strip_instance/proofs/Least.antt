-- The least of the nearer scenes of the pairs that were seen.
use Rattle.std.proofs.Common.{◌≡◌, ℕ, ◌+◌, ◌<◌, ◌≤◌, ◌⊎◌, List, [], ◌∷◌, length, slice_index, get_or, take, Contains, Option, Some, None, MatchOption, sym, ap, subst, arith, inl, inr}
use Rattle.std.proofs.lemmas.List.{take_more}
use Rattle.std.proofs.lemmas.List.Elements.{Contains-append_left, Contains-push, Contains-push_cases}
use Rattle.strip_model.specs.declared.pair.Pair.{Pair}
use Rattle.strip_model.specs.Pairs.{Precedes}
use Rattle.strip_instance.specs.Steps.{Nears, IsLeastNearer}

-- the least one, or that there is none
abbrev pub LeastOf : List Pair → List ℕ → ℕ → Option ℕ → Type 0
LeastOf seen steps scene next = MatchOption next ((other : ℕ) → ¬ Nears seen steps scene other) (IsLeastNearer seen steps scene)

module _ (pairs : List Pair) (steps : List ℕ) (scene i : ℕ) (d : Pair) (within : i < length pairs) where
  cases : (other : ℕ) → Nears (take (i + 1) pairs) steps scene other
      → Nears (take i pairs) steps scene other ⊎ (((get_or pairs i d).first ≡ scene) × ((get_or pairs i d).then ≡ other))
  cases other (there, nearer) =
      elim (Contains-push_cases (take i pairs) (get_or pairs i d) (record { first = scene; then = other })
      (subst (λ (list : List Pair). Precedes list scene other) (take_more pairs i d within) there)) [
        | inl earlier ↦ inl (earlier, nearer)
        | inr same ↦ inr (ap (λ (pair : Pair). pair.first) same, ap (λ (pair : Pair). pair.then) same)
      ]

  still : (other : ℕ) → Nears (take i pairs) steps scene other → Nears (take (i + 1) pairs) steps scene other
  still other (there, nearer) = (
    subst (λ (list : List Pair). Precedes list scene other) (sym (take_more pairs i d within))
        (Contains-append_left (take i pairs) (get_or pairs i d ∷ []) (record { first = scene; then = other }) there),
    nearer,
  )

  module _ (first : (get_or pairs i d).first ≡ scene) (nearer : slice_index steps (get_or pairs i d).then + 1 ≡ slice_index steps scene) where
    this : Nears (take (i + 1) pairs) steps scene (get_or pairs i d).then
    this = (
      subst (λ (x : ℕ). Precedes (take (i + 1) pairs) x (get_or pairs i d).then) first
          (subst (λ (list : List Pair). Contains list (get_or pairs i d)) (sym (take_more pairs i d within)) (Contains-push (take i pairs) (get_or pairs i d))),
      nearer,
    )

    pub least-more : (next : Option ℕ) (made : ℕ) → LeastOf (take i pairs) steps scene next → made ≤ (get_or pairs i d).then
        → MatchOption next (made ≡ (get_or pairs i d).then) (λ least. (made ≤ least) × ((made ≡ (get_or pairs i d).then) ⊎ (made ≡ least)))
        → LeastOf (take (i + 1) pairs) steps scene (Some made)
    least-more None made so_far most among = record {
      nearer = subst (Nears (take (i + 1) pairs) steps scene) (sym among) this;
      least = λ other nears. elim (cases other nears) [
        | inl earlier ↦ absurd (so_far other earlier)
        | inr now ↦ omega (arith, most, now.1)
      ];
    }
    least-more (Some least) made so_far most among = record {
      nearer = elim among.1 [
        | inl now ↦ subst (Nears (take (i + 1) pairs) steps scene) (sym now) this
        | inr earlier ↦ subst (Nears (take (i + 1) pairs) steps scene) (sym earlier) (still least so_far.nearer)
      ];
      least = λ other nears. elim (cases other nears) [
        | inl earlier ↦ omega (arith, among.0, so_far.least other earlier)
        | inr now ↦ omega (arith, most, now.1)
      ];
    }

  module _ (not : ((get_or pairs i d).first ≡ scene) × (slice_index steps (get_or pairs i d).then + 1 ≡ slice_index steps scene) → ⊥) where
    earlier_one : (other : ℕ) → Nears (take (i + 1) pairs) steps scene other → Nears (take i pairs) steps scene other
    earlier_one other nears = elim (cases other nears) [
      | inl earlier ↦ earlier
      | inr now ↦ absurd (not (now.0, subst (λ (x : ℕ). slice_index steps x + 1 ≡ slice_index steps scene) (sym now.1) nears.1))
    ]

    pub least-same : (next : Option ℕ) → LeastOf (take i pairs) steps scene next → LeastOf (take (i + 1) pairs) steps scene next
    least-same None so_far = λ other nears. so_far other (earlier_one other nears)
    least-same (Some least) so_far = record { nearer = still least so_far.nearer; least = λ other nears. so_far.least other (earlier_one other nears) }
