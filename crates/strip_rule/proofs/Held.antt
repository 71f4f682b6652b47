-- Only a scene in which all on location work can rule out another.
use Rattle.std.proofs.Common.{◌≡◌, ◌↔◌, ℕ, Bool, true, false, length, slice_index, inl, inr, sym, ◌∙◌, subst}
use Rattle.std.specs.List.{list_any}
use Rattle.std.proofs.lemmas.Bool.{cases_Bool}
use Rattle.strip_mask.specs.Set.{has, members}
use Rattle.strip_mask.proofs.ByMembers.{has-empty, same_has}
use Rattle.strip_mask.proofs.Below.{is_set_below, LiesBelow-minus}
use Rattle.strip_mask.proofs.Members.{Contains-members}
use Rattle.strip_model.specs.Film.{FilmData}
use Rattle.strip_mask.proofs.Agree.{same_test}
use Rattle.strip_model.proofs.Lists.{any_from, any_is}
use Rattle.strip_film.specs.Film.{IsFilm, LiesIn}
use Rattle.strip_film.specs.Shoot.{behind, on_location, ready}
use Rattle.strip_rule.specs.Rule.{is_part, rules_out, is_ruled_out, open_firsts}
use Rattle.strip_rule.proofs.Fits.{is_part_from, ruling_is}
use Rattle.strip_rule.proofs.Open.{open_is, is_open, of_free}

pub ready_lies : (film : FilmData) (set : ℕ) → LiesIn film set → LiesIn film (ready film set)
ready_lies film set lies = LiesBelow-minus (length film.casts) set (behind film.pairs set) lies

-- the set has the ready scenes in which all on location work, and no other
abbrev AreHolders : FilmData → ℕ → ℕ → Type 0
AreHolders film set holders =
    (scene : ℕ) → (has holders scene ≡ true) ↔ ((has (ready film set) scene ≡ true) × (is_part (on_location film set) (slice_index film.casts scene) ≡ true))

module _ (film : FilmData) (set holders : ℕ) (is : IsFilm film) (lies : LiesIn film set) (are : AreHolders film set holders) where
  pub holders_lie : LiesIn film holders
  holders_lie scene member = ready_lies film set lies scene ((are scene).0 member).0

  holds : (first second : ℕ) → rules_out film set first second ≡ true → has holders first ≡ true
  holds first second rules =
      let ruling = ruling_is film set first second rules in
      (are first).1 (ruling.first_ready, is_part_from (on_location film set) (slice_index film.casts first) ruling.fits.located)

  -- so these decide
  ruled_by_holders : (scene : ℕ) → list_any (λ first. rules_out film set first scene) (members holders) ≡ is_ruled_out film set scene
  ruled_by_holders scene = same_test (list_any rules (members holders)) (is_ruled_out film set scene)
      (λ some. let found = any_is rules (members holders) some in
      any_from rules (members (ready film set)) found.0
      (Contains-members (ready film set) found.0 (is_set_below (length film.casts) (ready film set) is.scene_count.1 (ready_lies film set lies))
      (ruling_is film set found.0 scene found.2).first_ready) found.2)
      (λ some. let found = any_is rules (members (ready film set)) some in
      any_from rules (members holders) found.0
      (Contains-members holders found.0 (is_set_below (length film.casts) holders is.scene_count.1 holders_lie) (holds found.0 scene found.2)) found.2)
    where
      rules : ℕ → Bool
      rules first = rules_out film set first scene

  -- the answer of a test that is right wherever the scenes are ready
  pub test_is : (scene : ℕ) (ruled : Bool) → has (ready film set) scene ≡ true
      → (has (ready film set) scene ≡ true → ((first : ℕ) → has holders first ≡ true → has (ready film set) first ≡ true)
      → ruled ≡ list_any (λ first. rules_out film set first scene) (members holders))
      → is_ruled_out film set scene ≡ ruled
  test_is scene ruled member told = sym (told member (λ first there. ((are first).0 there).0) ∙ ruled_by_holders scene)

  -- and where there is none, all ready scenes are open
  pub all_open : holders ≡ 0 → ready film set ≡ open_firsts film set
  all_open none = same_has (ready film set) (open_firsts film set) (λ x. same_test (has (ready film set) x) (has (open_firsts film set) x)
      (λ member. is_open film set x (is_set_below (length film.casts) set is.scene_count.1 lies) member (of_free film set x (λ first there. elim (cases_Bool (rules_out film set first x)) [
        | inl rules ↦ absurd (let e : has 0 first ≡ true = subst (λ (q : ℕ). has q first ≡ true) none (holds first x rules) in
            let f : has 0 first ≡ false = has-empty first in cc)
        | inr free ↦ free
      ])))
      (λ member. (open_is film set x member).0))
