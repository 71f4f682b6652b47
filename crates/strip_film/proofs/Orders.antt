-- Orders as lists that have each number once, and orders that keep the pairs as lists along which each scene was ready.
use Rattle.std.proofs.Common.{◌≡◌, ℕ, ◌<◌, ◌≤◌, Bool, true, false, cond, List, [], ◌∷◌, length, Contains, get_or, inl, inr, refl, sym, ap, ◌∙◌, subst, arith}
use Rattle.std.proofs.lemmas.Bool.{cases_Bool, cases_lt, lt-ltb, le-ltb}
use Rattle.std.proofs.lemmas.Bool.Decides.{eqb_tells}
use Rattle.std.proofs.lemmas.List.Elements.{All-contains, All-contains_itself, All-weaker}
use Rattle.strip_mask.specs.Set.{IsSet, full, has, without}
use Rattle.strip_mask.proofs.ByMembers.{has-empty, has-without_same, has-without_other, has_from_without, IsSet-without, empty_from}
use Rattle.strip_mask.proofs.Below.{has-full, has_full, IsSet-full, LiesBelow-full}
use Rattle.strip_model.specs.declared.pair.Pair.{Pair}
use Rattle.strip_model.specs.Film.{FilmData}
use Rattle.strip_model.specs.Order.{IsOrder, IsKeptOrder, StandsBefore}
use Rattle.strip_model.specs.Pairs.{IsKnownPair, Precedes}
use Rattle.strip_model.proofs.Counts.{count, tie, count-cons, tie-same, tie-other, count-none}
use Rattle.strip_model.proofs.Ahead.{stands_second}
use Rattle.strip_film.specs.Film.{IsFilm, all_scenes}
use Rattle.strip_film.specs.Finish.{EachOnce, Remained}
use Rattle.strip_film.proofs.Lists.{AllOnce, AllOnce-from_ready, has_from_list, list_has}
use Rattle.strip_film.proofs.ByPairs.{ready_is, is_ready}

-- one where the set has the number, and else none
abbrev one_if : Bool → ℕ
one_if b = cond b 1 0

counts_of_each_once : (set : ℕ) (scenes : List ℕ) → IsSet set → AllOnce set scenes → (x : ℕ) → count x scenes ≡ one_if (has set x)
counts_of_each_once set [] is (remained, none) x = sym (ap one_if (ap (λ (q : ℕ). has q x) none ∙ has-empty x))
counts_of_each_once set (s ∷ scenes) is ((there, later), none) x =
    let rest : count x scenes ≡ one_if (has (without set s) x) = counts_of_each_once (without set s) scenes (IsSet-without set s is) (later, none) x in
    elim (eqb_tells s x) [
      | inl same ↦ (let gone : one_if (has (without set s) x) ≡ 0 = ap one_if (subst (λ (i : ℕ). has (without set s) i ≡ false) same.1 (has-without_same set s)) in
          let one : tie s x ≡ 1 = ap one_if same.0 in
          let member : one_if (has set x) ≡ 1 = ap one_if (subst (λ (i : ℕ). has set i ≡ true) same.1 there) in
          omega (arith, count-cons x s scenes))
      | inr other ↦ (let stays : one_if (has (without set s) x) ≡ one_if (has set x) = ap one_if (has-without_other set s x other.1) in
          omega (arith, tie-other s x other.1, count-cons x s scenes))
    ]

each_once_from_counts : (set : ℕ) (scenes : List ℕ) → IsSet set → ((x : ℕ) → count x scenes ≡ one_if (has set x)) → AllOnce set scenes
each_once_from_counts set [] is counts = (tt, empty_from set (λ x. elim (has set x) as (λ b. 0 ≡ one_if b → b ≡ false) [ true ↦ λ e. absurd (omega (arith, e)) | false ↦ λ e. refl ] (counts x)))
each_once_from_counts set (s ∷ scenes) is counts =
    let some : 1 ≤ one_if (has set s) = omega (arith, tie-same s, count-cons s s scenes, counts s) in
    let there : has set s ≡ true = elim (has set s) as (λ b. 1 ≤ one_if b → b ≡ true) [ true ↦ λ e. refl | false ↦ λ e. absurd (omega (arith, e)) ] some in
    let later : AllOnce (without set s) scenes = each_once_from_counts (without set s) scenes (IsSet-without set s is) (λ x. elim (eqb_tells s x) [
      | inl same ↦ (let gone : one_if (has (without set s) x) ≡ 0 = ap one_if (subst (λ (i : ℕ). has (without set s) i ≡ false) same.1 (has-without_same set s)) in
          let one : tie s x ≡ 1 = ap one_if same.0 in
          let member : one_if (has set x) ≡ 1 = ap one_if (subst (λ (i : ℕ). has set i ≡ true) same.1 there) in
          omega (arith, count-cons x s scenes, counts x))
      | inr other ↦ (let stays : one_if (has (without set s) x) ≡ one_if (has set x) = ap one_if (has-without_other set s x other.1) in
          omega (arith, tie-other s x other.1, count-cons x s scenes, counts x))
    ]) in
    ((there, later.0), later.1)

pub IsOrder-from_each_once : (n : ℕ) (order : List ℕ) → n ≤ 64 → AllOnce (full n) order → IsOrder n order
IsOrder-from_each_once n order small each = record {
  known = All-weaker (Contains order) (λ scene. scene < n) (λ x there. LiesBelow-full n x (has_from_list (full n) order x each.0 there)) order (All-contains_itself order);
  once = λ scene lt. counts_of_each_once (full n) order (IsSet-full n small) each scene ∙ ap one_if (has-full n scene ∙ lt-ltb scene n lt);
}

pub AllOnce-from_order : (n : ℕ) (order : List ℕ) → n ≤ 64 → IsOrder n order → AllOnce (full n) order
AllOnce-from_order n order small is = each_once_from_counts (full n) order (IsSet-full n small) (λ x. elim (cases_lt x n) [
  | inl lt ↦ is.once x lt ∙ sym (ap one_if (has-full n x ∙ lt-ltb x n lt))
  | inr past ↦ count-none n x order is.known past ∙ sym (ap one_if (has-full n x ∙ le-ltb x n past))
])

-- ---- the pairs

-- a list of ready scenes keeps each pair of scenes of the set
keeps_pair : (film : FilmData) (set : ℕ) (scenes : List ℕ) (first then : ℕ) → EachOnce film set scenes
    → Precedes film.pairs first then → has set first ≡ true → has set then ≡ true → (first ≡ then → ⊥) → StandsBefore first then scenes
keeps_pair film set [] first then each pair first_in then_in differ =
    absurd (let e : has 0 first ≡ true = subst (λ (q : ℕ). has q first ≡ true) each.1 first_in in let f : has 0 first ≡ false = has-empty first in cc)
keeps_pair film set (s ∷ later) first then each pair first_in then_in differ = elim (eqb_tells s first) [
  | inl same ↦ inl (
    same.1,
    list_has (without set s) later then (AllOnce-from_ready film (without set s) later (each.0.1, each.1))
        (has-without_other set s then (λ equal. differ (sym same.1 ∙ equal)) ∙ then_in),
  )
  | inr other ↦ inr (keeps_pair film (without set s) later first then (each.0.1, each.1) pair
      (has-without_other set s first other.1 ∙ first_in)
      (has-without_other set s then not_next ∙ then_in) differ)
]
  where
    -- the next scene is ready, and the first of the pair is still in the set
    not_next : s ≡ then → ⊥
    not_next equal =
        let e : has set first ≡ false = (ready_is film set s each.0.0).first first (subst (λ (i : ℕ). Precedes film.pairs first i) (sym equal) pair) in
        cc

-- a list that has each scene once and keeps the pairs of the set is one of ready scenes
ready_from_kept : (film : FilmData) (set : ℕ) (scenes : List ℕ) → AllOnce set scenes
    → ((first then : ℕ) → Precedes film.pairs first then → has set first ≡ true → has set then ≡ true → StandsBefore first then scenes)
    → Remained film set scenes
ready_from_kept film set [] each kept = tt
ready_from_kept film set (s ∷ later) each kept = (
  is_ready film set s (record {
    member = each.0.0;
    first = λ earlier pair. elim (cases_Bool (has set earlier)) [
      | inl inside ↦ absurd (not_later (behind earlier (kept earlier s pair inside each.0.0)))
      | inr outside ↦ outside
    ];
  }),
  ready_from_kept film (without set s) later (each.0.1, each.1) rest,
)
  where
    behind : (first : ℕ) → StandsBefore first s (s ∷ later) → Contains later s
    behind first (inl here) = here.1
    behind first (inr there) = stands_second first s later there

    not_later : Contains later s → ⊥
    not_later c =
        let e : has (without set s) s ≡ true = has_from_list (without set s) later s each.0.1 c in
        let f : has (without set s) s ≡ false = has-without_same set s in cc

    rest : (first then : ℕ) → Precedes film.pairs first then → has (without set s) first ≡ true → has (without set s) then ≡ true → StandsBefore first then later
    rest first then pair first_in then_in =
        let first_was = has_from_without set s first first_in in
        let then_was = has_from_without set s then then_in in
        elim (kept first then pair first_was.1 then_was.1) [
          | inl here ↦ absurd (first_was.0 here.0)
          | inr there ↦ there
        ]

module _ (film : FilmData) (is : IsFilm film) (order : List ℕ) where
  pub kept_from_ready : EachOnce film (all_scenes film) order → IsKeptOrder film order
  kept_from_ready each = record {
    is_order = IsOrder-from_each_once (length film.casts) order is.scene_count.1 (AllOnce-from_ready film (all_scenes film) order each);
    keeps = λ place default lt. kept (get_or film.pairs place default) (All-contains_itself film.pairs place default lt);
  }
    where
      kept : (pair : Pair) → Contains film.pairs pair → StandsBefore pair.first pair.then order
      kept pair there =
          let known : IsKnownPair (length film.casts) pair = All-contains (IsKnownPair (length film.casts)) film.pairs pair is.pairs.known there in
          keeps_pair film (all_scenes film) order pair.first pair.then each there
          (has_full (length film.casts) pair.first known.0) (has_full (length film.casts) pair.then known.1) known.2

  pub ready_from_order : IsKeptOrder film order → EachOnce film (all_scenes film) order
  ready_from_order kept =
      let each : AllOnce (all_scenes film) order = AllOnce-from_order (length film.casts) order is.scene_count.1 kept.is_order in (
        ready_from_kept film (all_scenes film) order each (λ first then pair first_in then_in.
            All-contains (λ (p : Pair). StandsBefore p.first p.then order) film.pairs (record { first = first; then = then }) kept.keeps pair),
        each.1,
      )
