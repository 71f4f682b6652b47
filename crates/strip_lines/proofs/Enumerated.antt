-- Each path with something remaining is enumerated once, and nothing else is.
use Rattle.std.proofs.Common.{◌≡◌, ◌≢◌, ℕ, zero, suc, ◌+◌, Bool, true, false, cond, eqb, ◌&&◌, List, [], ◌∷◌, length, map, count_by, All, get_or, inl, inr, refl, sym, ap, ◌∙◌, subst, arith}
use Rattle.std.specs.Cmp.Lexicographic.{pointwise}
use Rattle.std.specs.List.{flat_map, sum_by}
use Rattle.std.specs.Prelude.{nat_eq}
use Rattle.std.proofs.lemmas.Bool.{cases_eq, eq-eqb, ne_eqb}
use Rattle.std.proofs.lemmas.List.Elements.{All-append, All-head, All-tail, All-map}
use Rattle.strip_mask.specs.Set.{IsSet, has, without, members, size}
use Rattle.strip_mask.proofs.Below.{LiesBelow-full, is_set_below, size-full}
use Rattle.strip_mask.proofs.ByMembers.{IsSet-without, IsSet-minus}
use Rattle.strip_mask.proofs.Members.{All-members}
use Rattle.strip_mask.proofs.Sizes.{mark, size-without, size-empty, empty_from_size}
use Rattle.strip_model.specs.Film.{FilmData}
use Rattle.strip_film.specs.Film.{IsFilm, all_scenes}
use Rattle.strip_film.specs.Shoot.{behind, ready}
use Rattle.strip_film.specs.Finish.{Remained, rest_after}
use Rattle.strip_film.specs.Path.{PathData}
use Rattle.strip_film.proofs.Lists.{ready_there}
use Rattle.strip_film.proofs.Turned.{count_once}
use Rattle.strip_lines.specs.Paths.{IsUnfinished, lists_from, path_along, number_of}
use Rattle.strip_lines.proofs.Sums.{count-cons, count-map, count-flat_map, count_none}
use Rattle.std.proofs.lemmas.List.Sums.{sum_by-cons}

pub IsSet-ready : (film : FilmData) (set : ℕ) → IsSet set → IsSet (ready film set)
IsSet-ready film set small = IsSet-minus set (behind film.pairs set) small

pub IsSet-all : (film : FilmData) → IsFilm film → IsSet (all_scenes film)
IsSet-all film is = is_set_below (length film.casts) (all_scenes film) is.scene_count.1 (LiesBelow-full (length film.casts))

-- a set of as many scenes as there are numbers below n has one less without one of them
pub one_less : (film : FilmData) (n set scene : ℕ) → IsSet set → size set ≡ suc n → has (ready film set) scene ≡ true → size (without set scene) ≡ n
one_less film n set scene small is there = omega (arith, is, size-without set scene small (ready_there film set scene there))

abbrev same : List ℕ → List ℕ → Bool
same xs ys = pointwise nat_eq xs ys

-- ---- once

-- the lists that begin with a scene, and how often a list is among them
abbrev pub begun : FilmData → ℕ → ℕ → ℕ → List (List ℕ)
begun film n set scene = map (λ later. scene ∷ later) (lists_from film n (without set scene))

abbrev of_first : FilmData → ℕ → ℕ → List ℕ → ℕ → ℕ
of_first film n set scenes x = count_by (same scenes) (begun film n set x)

nothing_first : (x : ℕ) (lists : List (List ℕ)) → count_by (same []) (map (λ later. x ∷ later) lists) ≡ 0
nothing_first x lists = count-map (same []) (λ later. x ∷ later) lists ∙ count_none (λ later. same [] (x ∷ later)) lists (λ k d lt. refl)

other_first : (s x : ℕ) (later : List ℕ) (lists : List (List ℕ)) → x ≢ s → count_by (same (s ∷ later)) (map (λ l. x ∷ l) lists) ≡ 0
other_first s x later lists apart =
    count-map (same (s ∷ later)) (λ l. x ∷ l) lists
    ∙ count_none (λ l. same (s ∷ later) (x ∷ l)) lists (λ k d lt. ap (λ (b : Bool). b && same later (get_or lists k d)) (ne_eqb s x (λ e. apart (sym e))))

same_first : (s : ℕ) (later : List ℕ) (lists : List (List ℕ)) → count_by (same (s ∷ later)) (map (λ l. s ∷ l) lists) ≡ count_by (same later) lists
same_first s later lists =
    count-map (same (s ∷ later)) (λ l. s ∷ l) lists ∙ (λ i. count_by (λ l. eq-eqb s s refl i && same later l) lists)

enumerated_once : (film : FilmData) (n set : ℕ) (scenes : List ℕ) → IsSet set → size set ≡ n → Remained film set scenes → rest_after set scenes ≢ 0
    → count_by (same scenes) (lists_from film n set) ≡ 1
enumerated_once film zero set [] small is remained some = absurd (some (empty_from_size set small is))
enumerated_once film zero set (s ∷ scenes) small is (there, later) some =
    absurd (let e : size (without set s) + 1 ≡ size set = size-without set s small (ready_there film set s there) in omega (arith, e, is))
enumerated_once film (suc n) set [] small is remained some =
    count-cons (same []) [] (flat_map (λ x. map (λ later. x ∷ later) (lists_from film n (without set x))) (members (ready film set)))
    ∙ ap (λ (k : ℕ). 1 + k) (count-flat_map (same []) (λ x. map (λ later. x ∷ later) (lists_from film n (without set x))) (members (ready film set))
    ∙ (λ i. sum_by (λ x. nothing_first x (lists_from film n (without set x)) i) (members (ready film set)))
    ∙ zeros (members (ready film set)))
  where
    zeros : (xs : List ℕ) → sum_by (λ x. 0) xs ≡ 0
    zeros [] = refl
    zeros (x ∷ xs) = (let rest : sum_by (λ y. 0) xs ≡ 0 = zeros xs in omega (arith, sum_by-cons (λ y. 0) x xs, rest))
enumerated_once film (suc n) set (s ∷ scenes) small is (there, later) some =
    let first : count_by (same (s ∷ scenes)) (lists_from film (suc n) set) ≡ 0 + count_by (same (s ∷ scenes)) (flat_map (begun film n set) (members (ready film set)))
    = count-cons (same (s ∷ scenes)) [] (flat_map (begun film n set) (members (ready film set))) in
    let once : count_by (same scenes) (lists_from film n (without set s)) ≡ 1
    = enumerated_once film n (without set s) scenes (IsSet-without set s small) (one_less film n set s small is there) later some in
    let later : count_by (same (s ∷ scenes)) (flat_map (begun film n set) (members (ready film set))) ≡ 1
    = count-flat_map (same (s ∷ scenes)) (begun film n set) (members (ready film set))
    ∙ (λ i. sum_by (λ x. each once x i) (members (ready film set)))
    ∙ count_once (ready film set) s (IsSet-ready film set small) ∙ ap mark there in
    omega (arith, first, later)
  where
    each : count_by (same scenes) (lists_from film n (without set s)) ≡ 1 → (x : ℕ) → of_first film n set (s ∷ scenes) x ≡ cond {A = ℕ} (eqb x s) 1 0
    each once x = elim (cases_eq x s) [
      | inl is_s ↦ subst (λ (y : ℕ). of_first film n set (s ∷ scenes) y ≡ cond {A = ℕ} (eqb y s) 1 0) (sym is_s)
          (same_first s scenes (lists_from film n (without set s))
          ∙ once
          ∙ sym (ap mark (eq-eqb s s refl)))
      | inr apart ↦ other_first s x scenes (lists_from film n (without set x)) apart ∙ sym (ap mark (ne_eqb x s apart))
    ]

-- ---- and nothing else

All-flat_map : {X Y : Type 0} (P : Y → Type 0) (f : X → List Y) (xs : List X) → All (λ x. All P (f x)) xs → All P (flat_map f xs)
All-flat_map P f [] each = λ k d lt. absurd (omega (arith, lt))
All-flat_map P f (x ∷ xs) each =
    All-append P (f x) (flat_map f xs) (All-head (λ y. All P (f y)) x xs each) (All-flat_map P f xs (All-tail (λ y. All P (f y)) x xs each))

abbrev pub GoesOn : FilmData → ℕ → List ℕ → Type 0
GoesOn film set scenes = Remained film set scenes × (rest_after set scenes ≢ 0)

All-cons : {X : Type 0} (P : X → Type 0) (x : X) (xs : List X) → P x → All P xs → All P (x ∷ xs)
All-cons P x xs here rest zero d lt = here
All-cons P x xs here rest (suc k) d lt = rest k d (omega (arith, lt))

pub enumerated_go_on : (film : FilmData) (n set : ℕ) → IsSet set → size set ≡ n → All (GoesOn film set) (lists_from film n set)
enumerated_go_on film zero set small is = λ k d lt. absurd (omega (arith, lt))
enumerated_go_on film (suc n) set small is =
    All-cons (GoesOn film set) [] (flat_map (λ scene. map (λ later. scene ∷ later) (lists_from film n (without set scene))) (members (ready film set)))
    (tt, λ none. omega (arith, is, ap size none ∙ size-empty))
    (All-flat_map (GoesOn film set) (λ scene. map (λ later. scene ∷ later) (lists_from film n (without set scene))) (members (ready film set))
    (All-members (λ x. All (GoesOn film set) (map (λ later. x ∷ later) (lists_from film n (without set x)))) (ready film set)
    (λ x there. All-map (GoesOn film set) (λ later. x ∷ later) (lists_from film n (without set x))
    (λ k d lt. (let on = enumerated_go_on film n (without set x) (IsSet-without set x small) (one_less film n set x small is there) k d lt in ((there, on.0), on.1))))))

module _ (film : FilmData) (is : IsFilm film) where
  abbrev pub lists : List (List ℕ)
  lists = lists_from film (length film.casts) (all_scenes film)

  -- all scenes of the film are as many as it has
  pub size_all : size (all_scenes film) ≡ length film.casts
  size_all = size-full (length film.casts) is.scene_count.1

  pub along_unfinished : (scenes : List ℕ) → GoesOn film (all_scenes film) scenes → IsUnfinished film (path_along film scenes)
  along_unfinished scenes on = (record { remained = on.0; left = refl; steps = refl }, on.1)

  pub all_unfinished : All (λ scenes. IsUnfinished film (path_along film scenes)) lists
  all_unfinished k d lt = along_unfinished (get_or lists k d) (enumerated_go_on film (length film.casts) (all_scenes film) (IsSet-all film is) size_all k d lt)

  pub counted_once : (path : PathData) → IsUnfinished film path → number_of film (λ other. pointwise nat_eq path.scenes other.scenes) ≡ 1
  counted_once path (within, some) =
      enumerated_once film (length film.casts) (all_scenes film) path.scenes (IsSet-all film is) size_all within.remained
      (λ none. some (within.left ∙ none))

  pub counted_none : (test : PathData → Bool) → ((path : PathData) → IsUnfinished film path → test path ≡ false) → number_of film test ≡ 0
  counted_none test fails = count_none (λ scenes. test (path_along film scenes)) lists (λ k d lt. fails (path_along film (get_or lists k d)) (all_unfinished k d lt))
