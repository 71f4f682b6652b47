-- Which neighbours of an order can change places, by the pairs.
use Rattle.std.proofs.Common.{◌≡◌, ◌≢◌, ℕ, true, false, List, ◌∷◌, ◌++◌, Contains, inl, inr, sym, ◌∙◌, subst}
use Rattle.std.proofs.lemmas.Bool.Decides.{eqb_tells}
use Rattle.strip_mask.specs.Set.{has, without}
use Rattle.strip_mask.proofs.ByMembers.{has-without_other, has_from_without, without_swap, still_out}
use Rattle.strip_model.specs.Film.{FilmData}
use Rattle.strip_model.specs.Pairs.{Precedes}
use Rattle.strip_film.specs.Film.{all_scenes}
use Rattle.strip_film.specs.Finish.{EachOnce, Remained, rest_after}
use Rattle.strip_film.specs.Shoot.{ready}
use Rattle.strip_film.proofs.ByPairs.{ready_is, is_ready}
use Rattle.strip_film.proofs.Lists.{AllRemained-from_ready, has_from_list, rest_after-parts}
use Rattle.strip_start.proofs.Parts.{AreFirsts-parts, AreFirsts-joined}

-- neighbours that begin a list can change places unless a pair puts the first before the second
turned_first : (film : FilmData) (set first second : ℕ) (behind : List ℕ) → ¬ Precedes film.pairs first second
    → Remained film set (first ∷ second ∷ behind) → Remained film set (second ∷ first ∷ behind)
turned_first film set first second behind free (first_ready, (second_ready, later)) =
    let one = ready_is film set first first_ready in
    let two = ready_is film (without set first) second second_ready in
    let differ : (first ≢ second) × (has set second ≡ true) = has_from_without set first second two.member in (
      is_ready film set second (record {
        member = differ.1;
        first = λ earlier precedes. elim (eqb_tells first earlier) [
          | inl same ↦ absurd (free (subst (λ (i : ℕ). Precedes film.pairs i second) (sym same.1) precedes))
          | inr other ↦ sym (has-without_other set first earlier other.1) ∙ two.first earlier precedes
        ];
      }),
      (
        is_ready film (without set second) first (record {
          member = has-without_other set second first (λ same. differ.0 (sym same)) ∙ one.member;
          first = λ earlier precedes. still_out set second earlier (one.first earlier precedes);
        }),
        subst (λ (q : ℕ). Remained film q behind) (without_swap set first second) later,
      ),
    )

-- so can neighbours anywhere in an order
pub turned_once : (film : FilmData) (before behind : List ℕ) (first second : ℕ) → ¬ Precedes film.pairs first second
    → EachOnce film (all_scenes film) (before ++ first ∷ second ∷ behind) → EachOnce film (all_scenes film) (before ++ second ∷ first ∷ behind)
turned_once film before behind first second free each =
    let all : ℕ = all_scenes film in
    let parts = AreFirsts-parts (ready film) all before (first ∷ second ∷ behind) each.0 in (
      AreFirsts-joined (ready film) all before (second ∷ first ∷ behind) parts.0 (turned_first film (rest_after all before) first second behind free parts.1),
      rest_after-parts all before (second ∷ first ∷ behind)
          ∙ subst (λ (q : ℕ). rest_after q behind ≡ rest_after all (before ++ first ∷ second ∷ behind)) (without_swap (rest_after all before) first second)
          (sym (rest_after-parts all before (first ∷ second ∷ behind)))
          ∙ each.1,
    )

-- in an order that keeps the pairs no scene has one behind it that a pair puts before it
pub never_behind : (film : FilmData) (set : ℕ) (before behind : List ℕ) (first second : ℕ) → Precedes film.pairs first second
    → Contains behind first → Remained film set (before ++ second ∷ behind) → ⊥
never_behind film set before behind first second precedes there remained =
    let parts = AreFirsts-parts (ready film) set before (second ∷ behind) remained in
    let out : has (rest_after set before) first ≡ false = (ready_is film (rest_after set before) second parts.1.0).first first precedes in
    let later : has (without (rest_after set before) second) first ≡ true
    = has_from_list (without (rest_after set before) second) behind first
    (AllRemained-from_ready film (without (rest_after set before) second) behind parts.1.1) there in
    let left : has (rest_after set before) first ≡ true = (has_from_without (rest_after set before) second first later).1 in
    cc
