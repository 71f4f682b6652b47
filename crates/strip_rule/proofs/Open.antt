-- The open firsts of a set, by scenes; and that one of them begins a least tail.
use Rattle.std.proofs.Common.{◌≡◌, ◌≢◌, ℕ, true, false, List, [], ◌∷◌, length, Contains, inl, inr, subst, arith}
use Rattle.std.proofs.lemmas.Bool.{cases_Bool}
use Rattle.strip_mask.specs.Set.{IsSet, has, members}
use Rattle.strip_mask.proofs.ByMembers.{IsSet-minus}
use Rattle.strip_mask.proofs.Below.{is_set_below}
use Rattle.strip_mask.proofs.Members.{Contains-members}
use Rattle.strip_model.specs.Film.{FilmData}
use Rattle.strip_mask.proofs.Lists.{contains_cases, contains_none}
use Rattle.strip_model.proofs.Lists.{any_from, any_is}
use Rattle.strip_film.specs.Film.{IsFilm, LiesIn}
use Rattle.strip_film.specs.Shoot.{behind, ready}
use Rattle.strip_film.specs.Finish.{BeginsLeast}
use Rattle.strip_film.proofs.Least.{some_begins_least}
use Rattle.strip_rule.specs.Rule.{rules_out, is_ruled_out, open_firsts}
use Rattle.strip_rule.proofs.Left.{left_is, is_left}
use Rattle.strip_rule.proofs.Fits.{ruling_is, never_itself, rules_out-chain}
use Rattle.strip_rule.proofs.Exchange.{exchange}

module _ (film : FilmData) (set : ℕ) where
  pub open_is : (x : ℕ) → has (open_firsts film set) x ≡ true → (has (ready film set) x ≡ true) × (is_ruled_out film set x ≡ false)
  open_is x member = left_is (is_ruled_out film set) (ready film set) x member

  ready_set : IsSet set → IsSet (ready film set)
  ready_set is = IsSet-minus set (behind film.pairs set) is

  pub is_open : (x : ℕ) → IsSet set → has (ready film set) x ≡ true → is_ruled_out film set x ≡ false → has (open_firsts film set) x ≡ true
  is_open x is member free = is_left (is_ruled_out film set) (ready film set) x (ready_set is) member free

  -- a scene that isn't ruled out is one that no scene rules out, and the other way round
  pub free_of : (x : ℕ) → IsSet set → is_ruled_out film set x ≡ false → (first : ℕ) → rules_out film set first x ≡ false
  free_of x is free first = elim (cases_Bool (rules_out film set first x)) [
    | inl rules ↦ absurd (let e : is_ruled_out film set x ≡ true = any_from (λ i. rules_out film set i x) (members (ready film set)) first
        (Contains-members (ready film set) first (ready_set is) (ruling_is film set first x rules).first_ready) rules in cc)
    | inr none ↦ none
  ]

  pub of_free : (x : ℕ) → ((first : ℕ) → Contains (members (ready film set)) first → rules_out film set first x ≡ false) → is_ruled_out film set x ≡ false
  of_free x none = elim (cases_Bool (is_ruled_out film set x)) [
    | inl ruled ↦ absurd (let found = any_is (λ i. rules_out film set i x) (members (ready film set)) ruled in
        let e : rules_out film set found.0 x ≡ true = found.2 in
        let f : rules_out film set found.0 x ≡ false = none found.0 found.1 in cc)
    | inr free ↦ free
  ]

-- ---- one begins a least tail

module _ (film : FilmData) (is : IsFilm film) (set : ℕ) (lies : LiesIn film set) where
  -- where a scene begins one, so does one that rules it out
  begins_before : (first second : ℕ) → rules_out film set first second ≡ true → BeginsLeast film set second → BeginsLeast film set first
  begins_before first second rules (later, each, least) =
      let other = exchange film is set first second later lies rules each in
      (other.0, other.1, λ scenes once. omega (arith, other.2, least scenes once))

  -- the scene is ready and begins a least tail, and none of the list rules it out
  abbrev IsFree : List ℕ → ℕ → Type 0
  IsFree scenes first = (has (ready film set) first ≡ true) × BeginsLeast film set first × ((x : ℕ) → Contains scenes x → rules_out film set x first ≡ false)

  -- by scenes: the next one either rules it out, and then takes its place
  some_free : (scene : ℕ) → has (ready film set) scene ≡ true → BeginsLeast film set scene → (scenes : List ℕ) → (first : ℕ) × IsFree scenes first
  some_free scene member begins [] = (scene, (member, begins, λ x none. absurd (contains_none x none)))
  some_free scene member begins (y ∷ ys) =
      let rest = some_free scene member begins ys in
      elim (cases_Bool (rules_out film set y rest.0)) [
        | inl rules ↦ (
          y,
          (
            (ruling_is film set y rest.0 rules).first_ready,
            begins_before y rest.0 rules rest.1.1,
            λ x there. elim (contains_cases y ys x there) [
              | inl same ↦ subst (λ (i : ℕ). rules_out film set i y ≡ false) same (never_itself film set y)
              | inr among ↦ elim (cases_Bool (rules_out film set x y)) [
                | inl further ↦ absurd (let e : rules_out film set x rest.0 ≡ true = rules_out-chain film set x y rest.0 further rules in
                    let f : rules_out film set x rest.0 ≡ false = rest.1.2 x among in cc)
                | inr none ↦ none
              ]
            ],
          ),
        )
        | inr free ↦ (
          rest.0,
          (
            rest.1.0,
            rest.1.1,
            λ x there. elim (contains_cases y ys x there) [
              | inl same ↦ subst (λ (i : ℕ). rules_out film set i rest.0 ≡ false) same free
              | inr among ↦ rest.1.2 x among
            ],
          ),
        )
      ]

  pub open_begins_least : set ≢ 0 → (scene : ℕ) × (has (open_firsts film set) scene ≡ true) × BeginsLeast film set scene
  open_begins_least some =
      let set_is : IsSet set = is_set_below (length film.casts) set is.scene_count.1 lies in
      let one = some_begins_least film is set set_is some in
      let found = some_free one.0 one.1 one.2 (members (ready film set)) in
      (found.0, is_open film set found.0 set_is found.1.0 (of_free film set found.0 found.1.2), found.1.1)
