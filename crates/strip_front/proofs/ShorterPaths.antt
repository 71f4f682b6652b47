-- The paths that are shorter than the tasks.
use Rattle.std.proofs.Common.{◌≡◌, ◌≢◌, ℕ, zero, suc, ◌+◌, ◌<◌, ◌≤◌, List, [], length, get_or, Contains, inl, inr, refl, sym, ap, ◌∙◌, subst, arith}
use Rattle.std.specs.List.{AllPairs}
use Rattle.std.proofs.lemmas.Bool.{cases_lt}
use Rattle.std.proofs.lemmas.List.{get_or_default}
use Rattle.std.proofs.lemmas.List.Elements.{All-contains, Contains-get_or}
use Rattle.strip_mask.specs.Set.{size}
use Rattle.strip_mask.proofs.Below.{IsSet-full, size-full}
use Rattle.strip_mask.proofs.Lists.{contains_cases, contains_here, contains_none}
use Rattle.strip_mask.proofs.Sizes.{size-empty}
use Rattle.strip_model.specs.declared.kind.Kind.{Kind}
use Rattle.strip_model.specs.Film.{FilmData}
use Rattle.strip_film.specs.Film.{IsFilm, all_scenes}
use Rattle.strip_film.specs.Path.{IsPath, PathData}
use Rattle.strip_film.specs.Rules.{IsOpen, Rules}
use Rattle.strip_film.proofs.Lists.{AllRemained-from_ready, size-rest_after}
use Rattle.strip_film.proofs.Ranks.{earlier-itself}
use Rattle.strip_lines.specs.Lines.{rules_of}
use Rattle.strip_lines.specs.Paths.{path_along}
use Rattle.strip_front.specs.Front.{AreShorter}
use Rattle.strip_front.specs.Layers.{layer}
use Rattle.strip_front.proofs.Facts.{LayerFacts}
use Rattle.strip_front.proofs.Onward.{AreFollowed, Earlier}

-- of elements no two of which leave the same, one that leaves what another leaves is that one
pub apart_same : (paths : List PathData) (a b : PathData) → AllPairs (λ x y. x.rest ≢ y.rest) paths → Contains paths a → Contains paths b
    → a.rest ≡ b.rest → a ≡ b
apart_same paths a b apart (i, in_a, at_a) (j, in_b, at_b) same = elim (cases_lt i j) [
  | inl less ↦ absurd (apart i j a less in_b (ap (λ (p : PathData). p.rest) at_a ∙ same
      ∙ sym (ap (λ (p : PathData). p.rest) (get_or_default paths j a b in_b ∙ at_b))))
  | inr more ↦ elim (cases_lt j i) [
    | inl less ↦ absurd (apart j i b less in_a (ap (λ (p : PathData). p.rest) at_b ∙ sym same
        ∙ sym (ap (λ (p : PathData). p.rest) (get_or_default paths i b a in_a ∙ at_a))))
    | inr no_more ↦ (let same_place : i ≡ j = omega (arith, more, no_more) in
        sym at_a ∙ ap (λ (k : ℕ). get_or paths k a) same_place ∙ get_or_default paths j a b in_b ∙ at_b)
  ]
]

-- the scenes of a path and those that remain are all
pub counted : (film : FilmData) (path : PathData) → IsFilm film → IsPath film path → length path.scenes + size path.rest ≡ length film.casts
counted film path is of_film =
    ap (λ (q : ℕ). length path.scenes + size q) of_film.left
    ∙ size-rest_after (all_scenes film) path.scenes (IsSet-full (length film.casts) is.scene_count.1)
    (AllRemained-from_ready film (all_scenes film) path.scenes of_film.remained)
    ∙ size-full (length film.casts) is.scene_count.1

-- the empty path is the first
pub first_is_empty : (rules : Rules) (depth : ℕ) (paths : List PathData) → 1 ≤ depth → AreShorter rules depth paths
    → (0 < length paths) × ((d : PathData) → get_or paths 0 d ≡ path_along rules.film [])
first_is_empty rules depth paths some are =
    by_place ((are.same (path_along rules.film [])).1 (omega (arith, some), contains_here (path_along rules.film []) []))
  where
    by_place : Contains paths (path_along rules.film []) → (0 < length paths) × ((d : PathData) → get_or paths 0 d ≡ path_along rules.film [])
    by_place (zero, within, at) = (within, λ d. get_or_default paths 0 d (path_along rules.film []) within ∙ at)
    by_place (suc k, within, at) =
        absurd (subst (λ (p : PathData). Earlier rules (get_or paths 0 (path_along rules.film [])) p) at (are.rise 0 (suc k) (path_along rules.film []) (omega arith) within))

-- it alone is shorter than one scene
pub only_empty : (rules : Rules) → AreShorter rules 1 (layer rules.film 0)
only_empty rules = record {
  same = λ path. (to path, from path);
  rise = λ i j d before within. absurd (omega (arith, before, within));
}
  where
    to : (path : PathData) → Contains (layer rules.film 0) path → (length path.scenes < 1) × Contains (layer rules.film (length path.scenes)) path
    to path there = elim (contains_cases (path_along rules.film []) [] path there) [
      | inl is ↦ subst (λ (p : PathData). (length p.scenes < 1) × Contains (layer rules.film (length p.scenes)) p) is
          (omega arith, contains_here (path_along rules.film []) [])
      | inr none ↦ absurd (contains_none path none)
    ]

    from : (path : PathData) → (length path.scenes < 1) × Contains (layer rules.film (length path.scenes)) path → Contains (layer rules.film 0) path
    from path (short, there) =
        let none : length path.scenes ≡ 0 = omega (arith, short) in
        subst (λ (n : ℕ). Contains (layer rules.film n) path) none there

module _ (kind : Kind) (film : FilmData) (depth : ℕ) (facts : (count : ℕ) → LayerFacts kind film count) (paths : List PathData)
    (are : AreShorter (rules_of kind film) depth paths) where
  module _ (path : PathData) (there : Contains paths path) where
    pub shorter_short : length path.scenes < depth
    shorter_short = ((are.same path).0 there).0

    pub shorter_open : IsOpen (rules_of kind film) path
    shorter_open = All-contains (IsOpen (rules_of kind film)) (layer film (length path.scenes)) path (facts (length path.scenes)).is_open ((are.same path).0 there).1

    pub shorter_rest : IsFilm film → depth ≤ length film.casts → path.rest ≢ 0
    shorter_rest is few none = omega (arith, counted film path is shorter_open.0, ap size none, size-empty, shorter_short, few)

  -- no two leave the same
  pub shorter_apart : IsFilm film → AllPairs (λ a b. a.rest ≢ b.rest) paths
  shorter_apart is i j d less within same =
      let a : PathData = get_or paths i d in
      let b : PathData = get_or paths j d in
      let in_a : Contains paths a = Contains-get_or paths i d (omega (arith, less, within)) in
      let in_b : Contains paths b = Contains-get_or paths j d within in
      let long : length b.scenes ≡ length a.scenes
      = omega (arith, counted film a is (shorter_open a in_a).0, counted film b is (shorter_open b in_b).0, ap size same) in
      let one : a ≡ b = apart_same (layer film (length a.scenes)) a b (facts (length a.scenes)).apart ((are.same a).0 in_a).1
      (subst (λ (n : ℕ). Contains (layer film n) b) long ((are.same b).0 in_b).1) same in
      earlier-itself (rules_of kind film) (all_scenes film) b.scenes (subst (λ (p : PathData). Earlier (rules_of kind film) p b) one (are.rise i j d less within))

  -- for each open path with fewer scenes than a task one leaves the same and paid no more
  pub shorter_least : (path : PathData) → IsOpen (rules_of kind film) path → length path.scenes < depth
      → (other : PathData) × Contains paths other × (other.rest ≡ path.rest) × (other.paid ≤ path.paid)
  shorter_least path open_path short =
      let found = (facts (length path.scenes)).least path open_path refl in
      let long : length found.0.scenes ≡ length path.scenes
      = All-contains (λ p. length p.scenes ≡ length path.scenes) (layer film (length path.scenes)) found.0 (facts (length path.scenes)).long found.1 in (
        found.0,
        (are.same found.0).1 (omega (arith, long, short), subst (λ (n : ℕ). Contains (layer film n) found.0) (sym long) found.1),
        found.2,
        found.3,
      )

  -- with those of the next layer behind them
  pub shorter_next : (before : ℕ) → depth ≡ suc before → (next now : List PathData) → next ≡ layer film depth
      → AreFollowed (rules_of kind film) next depth paths now → AreShorter (rules_of kind film) (depth + 1) now
  shorter_next before one next now is followed = record {
    same = λ path. (to path, from path);
    rise = followed.rise;
  }
    where
      to : (path : PathData) → Contains now path → (length path.scenes < depth + 1) × Contains (layer film (length path.scenes)) path
      to path there = elim (followed.each path there) [
        | inl old ↦ (let was = (are.same path).0 old in (omega (arith, was.0), was.1))
        | inr (shorter, old, long, on) ↦ (let among : Contains (layer film depth) path = subst (λ (xs : List PathData). Contains xs path) is on.among in
            let count : length path.scenes ≡ depth = All-contains (λ p. length p.scenes ≡ depth) (layer film depth) path (facts depth).long among in
            (omega (arith, count), subst (λ (n : ℕ). Contains (layer film n) path) (sym count) among))
      ]

      onward : (path : PathData) → length path.scenes ≡ depth → Contains (layer film (length path.scenes)) path → Contains now path
      onward path count among =
          let there : Contains (layer film depth) path = subst (λ (n : ℕ). Contains (layer film n) path) count among in
          let on = (facts depth).goes_on before one path there in
          let long : length on.0.scenes ≡ before = All-contains (λ p. length p.scenes ≡ before) (layer film before) on.0 (facts before).long on.1 in
          followed.new path (
            on.0,
            (are.same on.0).1 (omega (arith, long, one), subst (λ (n : ℕ). Contains (layer film n) on.0) (sym long) on.1),
            omega (arith, long, one),
            record { among = subst (λ (xs : List PathData). Contains xs path) (sym is) there; by_first = (on.2, on.3, on.4) },
          )

      from : (path : PathData) → (length path.scenes < depth + 1) × Contains (layer film (length path.scenes)) path → Contains now path
      from path (short, among) = elim (cases_lt (length path.scenes) depth) [
        | inl less ↦ followed.kept path ((are.same path).1 (less, among))
        | inr more ↦ onward path (omega (arith, short, more)) among
      ]
