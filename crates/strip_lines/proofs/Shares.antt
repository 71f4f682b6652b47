-- No path lies in two parts, so the shares of the parts add up.
use Rattle.std.proofs.Common.{◌≡◌, ◌≢◌, ℕ, zero, suc, ◌+◌, ◌<◌, ◌≤◌, Bool, true, false, cond, eqb, ltb, Option, List, [], ◌∷◌, ◌++◌, length, take, get_or, count_by, inl, inr, refl, sym, ap, ◌∙◌, subst, arith}
use Rattle.std.specs.Cmp.Lexicographic.{bytes_decides}
use Rattle.std.specs.List.{starts_with}
use Rattle.std.specs.Prelude.{nat_eq}
use Rattle.std.proofs.lemmas.Bool.{cases_Bool, cases_lt, cases_eq, ltb-true, lt-ltb, and_parts, and_from}
use Rattle.std.proofs.lemmas.List.{length-append, length-take}
use Rattle.std.proofs.lemmas.List.Sums.{sum_by-append}
use Rattle.strip_mask.specs.Sums.{sum_below}
use Rattle.strip_mask.proofs.Sizes.{mark}
use Rattle.strip_mask.proofs.Sums.{sum_below-none, sum_below_mono, sum_below-point}
use Rattle.strip_film.specs.declared.shared.Line.{Line}
use Rattle.strip_film.specs.Film.{IsFilm, all_scenes}
use Rattle.strip_film.specs.Path.{PathData, IsPath}
use Rattle.strip_mask.specs.Set.{has, without}
use Rattle.strip_film.specs.Finish.{AreFirsts}
use Rattle.strip_film.specs.Rules.{IsOpen, Rules}
use Rattle.strip_lines.specs.Paths.{ComesAfter, IsUnfinished, are_firsts, candidate_count, is_candidate, leaving, number_of, number_up_to, up_to, leaving_count}
use Rattle.strip_lines.specs.Parts.{AreCounted, AreTasks, Enlists, inside, lies_in, no_task}
use Rattle.strip_lines.proofs.Sums.{count_parts, one_of}
use Rattle.strip_lines.proofs.Enumerated.{all_unfinished, counted_once, lists}
use Rattle.strip_lines.proofs.Later.{at, counts_more, counts_stay, not_up_to, same_as, same_there, up_to_passes}

-- ---- parts

module _ (depth : ℕ) (tasks : List PathData) (are : AreTasks depth tasks) where
  begins : (path task : PathData) → starts_with nat_eq path.scenes task.scenes ≡ true → task.scenes ≡ take (length task.scenes) path.scenes
  begins path task is = (bytes_decides task.scenes (take (length task.scenes) path.scenes)).0 is

  long_at : (i : ℕ) → i < length tasks → length (get_or tasks i no_task).scenes ≡ depth
  long_at i lt = are.long i no_task lt

  -- one who begins with a task isn't shorter
  not_short : (path : PathData) (i : ℕ) → i < length tasks → lies_in depth tasks (suc i) path ≡ true → depth ≤ length path.scenes
  not_short path i lt is =
      let task : PathData = get_or tasks i no_task in
      let cut : length task.scenes ≡ length (take (length task.scenes) path.scenes) = ap length (begins path task is) in
      omega (arith, cut, long_at i lt, length-take (length task.scenes) path.scenes)

  same_task : (path : PathData) (i j : ℕ) → i < length tasks → j < length tasks → lies_in depth tasks (suc i) path ≡ true → lies_in depth tasks (suc j) path ≡ true
      → (get_or tasks i no_task).scenes ≡ (get_or tasks j no_task).scenes
  same_task path i j lt less first second =
      begins path (get_or tasks i no_task) first
      ∙ ap (λ (n : ℕ). take n path.scenes) (long_at i lt ∙ sym (long_at j less))
      ∙ sym (begins path (get_or tasks j no_task) second)

  pub one_part : (path : PathData) (i j : ℕ) → i < suc (length tasks) → j < suc (length tasks) → lies_in depth tasks i path ≡ true → lies_in depth tasks j path ≡ true → i ≡ j
  one_part path zero zero lt less first second = refl
  one_part path zero (suc j) lt less first second =
      absurd (let short : length path.scenes < depth = ltb-true (length path.scenes) depth first in
      omega (arith, short, not_short path j (omega (arith, less)) second))
  one_part path (suc i) zero lt less first second =
      absurd (let short : length path.scenes < depth = ltb-true (length path.scenes) depth second in
      omega (arith, short, not_short path i (omega (arith, lt)) first))
  one_part path (suc i) (suc j) lt less first second = elim (cases_lt i j) [
    | inl rising ↦ absurd (apart_at i j rising (omega (arith, less)) (same_task path i j (omega (arith, lt)) (omega (arith, less)) first second))
    | inr more ↦ elim (cases_lt j i) [
      | inl falling ↦ absurd (apart_at j i falling (omega (arith, lt)) (same_task path j i (omega (arith, less)) (omega (arith, lt)) second first))
      | inr ge ↦ omega (arith, more, ge)
    ]
  ]
    where
      apart_at : (a b : ℕ) → a < b → b < length tasks → (get_or tasks a no_task).scenes ≢ (get_or tasks b no_task).scenes
      apart_at a b rising within = are.apart a b no_task rising within

  module _ (rules : Rules) (is : IsFilm rules.film) (last : ℕ → Option PathData) (test : PathData → Bool) where
    abbrev in_part : ℕ → List ℕ → Bool
    in_part part scenes = up_to rules (last part) (inside depth tasks part test) (at rules is scenes)

    parts_of : (scenes : List ℕ) (part : ℕ) → in_part part scenes ≡ true → (lies_in depth tasks part (at rules is scenes) ≡ true) × (test (at rules is scenes) ≡ true)
    parts_of scenes part there =
        and_parts (lies_in depth tasks part (at rules is scenes)) (test (at rules is scenes)) (up_to_passes rules is (last part) (inside depth tasks part test) (at rules is scenes) there)

    at_most : (scenes : List ℕ) → sum_below (suc (length tasks)) (λ part. mark (in_part part scenes)) ≤ mark (test (at rules is scenes))
    at_most scenes =
        one_of (suc (length tasks)) (λ part. in_part part scenes) (test (at rules is scenes))
        (λ part lt there. (parts_of scenes part there).1)
        (λ i j lt less first second. one_part (at rules is scenes) i j lt less (parts_of scenes i first).0 (parts_of scenes j second).0)

    pub parts_most : sum_below (suc (length tasks)) (λ part. number_up_to rules (last part) (inside depth tasks part test)) ≤ number_of rules.film test
    parts_most =
        let all : sum_below (suc (length tasks)) (λ part. count_by (in_part part) (lists rules.film is)) + count_by (λ scenes. false) (lists rules.film is) ≤ count_by (λ scenes. test (at rules is scenes)) (lists rules.film is)
        = count_parts (suc (length tasks)) in_part (λ scenes. false) (λ scenes. test (at rules is scenes)) (lists rules.film is)
        (λ k d lt. (let here = at_most (get_or (lists rules.film is) k d) in omega (arith, here))) in
        omega (arith, all)

    module _ (part : ℕ) (next : PathData) (lt : part < suc (length tasks)) (unfinished : IsUnfinished rules.film next) (after : ComesAfter rules (last part) next)
        (lies : lies_in depth tasks part next ≡ true) (passes : test next ≡ true) where
      -- the next path is in no part yet
      not_yet : (other : ℕ) → other < suc (length tasks) → up_to rules (last other) (inside depth tasks other test) next ≡ true → ⊥
      not_yet other less there =
          let both = and_parts (lies_in depth tasks other next) (test next) (up_to_passes rules is (last other) (inside depth tasks other test) next there) in
          let same : other ≡ part = one_part next other part less lt both.0 lies in
          not_up_to rules (last part) (inside depth tasks part test) next after
          (subst (λ (i : ℕ). up_to rules (last i) (inside depth tasks i test) next ≡ true) same there)

      room_at : (scenes : List ℕ) → IsUnfinished rules.film (at rules is scenes)
          → sum_below (suc (length tasks)) (λ other. mark (in_part other scenes)) + mark (same_as rules is next scenes) ≤ mark (test (at rules is scenes))
      room_at scenes here = elim (cases_Bool (same_as rules is next scenes)) [
        | inl same ↦ (let tie = same_there rules is next scenes unfinished here same in
            let whole : mark (test (at rules is scenes)) ≡ 1 = ap mark (ap test tie ∙ passes) in
            let none : sum_below (suc (length tasks)) (λ other. mark (in_part other scenes)) ≡ 0
            = sum_below-none (suc (length tasks)) (λ other. mark (in_part other scenes)) (λ other less. elim (cases_Bool (in_part other scenes)) [
              | inl there ↦ absurd (not_yet other less (subst (λ (p : PathData). up_to rules (last other) (inside depth tasks other test) p ≡ true) tie there))
              | inr fails ↦ ap mark fails
            ]) in
            omega (arith, none, whole, ap mark same))
        | inr apart ↦ omega (arith, at_most scenes, ap mark apart)
      ]

      pub parts_room : sum_below (suc (length tasks)) (λ other. number_up_to rules (last other) (inside depth tasks other test)) + 1 ≤ number_of rules.film test
      parts_room =
          let all : sum_below (suc (length tasks)) (λ other. count_by (in_part other) (lists rules.film is)) + count_by (same_as rules is next) (lists rules.film is) ≤ count_by (λ scenes. test (at rules is scenes)) (lists rules.film is)
          = count_parts (suc (length tasks)) in_part (same_as rules is next) (λ scenes. test (at rules is scenes)) (lists rules.film is)
          (λ k d less. room_at (get_or (lists rules.film is) k d) (all_unfinished rules.film is k d less)) in
          omega (arith, all, counted_once rules.film is next unfinished)

-- ---- lines that are counted

module _ (rules : Rules) (cost depth : ℕ) (tasks : List PathData) where
  abbrev of_part : ℕ → PathData → Bool
  of_part part path = inside depth tasks part (is_candidate rules cost) path

  abbrev of_set : ℕ → ℕ → PathData → Bool
  of_set set part path = inside depth tasks part (leaving set (is_candidate rules cost)) path

  pub counted_none : (last : ℕ → Option PathData) → AreCounted rules cost depth tasks [] last (λ part. 0)
  counted_none last = record {
    shares = λ part lt. omega arith;
    total = sum_below-none (suc (length tasks)) (λ part. 0) (λ part lt. refl);
    sets = λ set. omega arith;
  }

  module _ (is : IsFilm rules.film) (part : ℕ) (lt : part < suc (length tasks)) (last last_then : ℕ → Option PathData) (number number_then : ℕ → ℕ) (next : PathData)
      (unfinished : IsUnfinished rules.film next) (after : ComesAfter rules (last part) next) (lies : lies_in depth tasks part next ≡ true)
      (candidate : is_candidate rules cost next ≡ true) (enlists : Enlists part next last last_then number number_then) where
    -- what is counted of another part stays
    other_stays : (other : ℕ) (test : PathData → Bool) → other ≢ part → number_up_to rules (last_then other) test ≡ number_up_to rules (last other) test
    other_stays other test apart = ap (λ (l : Option PathData). number_up_to rules l test) (enlists.last_stay other apart)

    part_grows : (test : PathData → Bool) → test next ≡ true → number_up_to rules (last part) test + 1 ≤ number_up_to rules (last_then part) test
    part_grows test passes =
        subst (λ (l : Option PathData). number_up_to rules (last part) test + 1 ≤ number_up_to rules l test) (sym enlists.last_path)
        (counts_more rules is (last part) next test after unfinished passes)

    part_stays : (test : PathData → Bool) → number_up_to rules (last part) test ≤ number_up_to rules (last_then part) test
    part_stays test =
        subst (λ (l : Option PathData). number_up_to rules (last part) test ≤ number_up_to rules l test) (sym enlists.last_path)
        (counts_stay rules is (last part) next test after)

    shares_then : (lines : List Line) → AreCounted rules cost depth tasks lines last number → (other : ℕ) → other < suc (length tasks)
        → number_then other ≤ number_up_to rules (last_then other) (of_part other)
    shares_then lines counted other less = elim (cases_eq other part) [
      | inl same ↦ subst (λ (i : ℕ). number_then i ≤ number_up_to rules (last_then i) (of_part i)) (sym same)
          (omega (arith, enlists.one_more, counted.shares part lt, part_grows (of_part part) (and_from (lies_in depth tasks part next) (is_candidate rules cost next) lies candidate)))
      | inr apart ↦ omega (arith, enlists.number_stay other apart, counted.shares other less, other_stays other (of_part other) apart)
    ]

    -- the candidates of a set up to the last paths
    abbrev up_to_lasts : (ℕ → Option PathData) → ℕ → ℕ → ℕ
    up_to_lasts lasts set other = number_up_to rules (lasts other) (of_set set other)

    sets_grow : (set : ℕ) → up_to_lasts last set part + mark (eqb next.rest set) ≤ up_to_lasts last_then set part
    sets_grow set = elim (cases_Bool (eqb next.rest set)) [
      | inl same ↦ omega (
        arith,
        ap mark same,
        part_grows (of_set set part)
            (and_from (lies_in depth tasks part next) (leaving set (is_candidate rules cost) next) lies (and_from (eqb next.rest set) (is_candidate rules cost next) same candidate)),
      )
      | inr apart ↦ omega (arith, ap mark apart, part_stays (of_set set part))
    ]

    pub counted_then : (lines : List Line) (line : Line) → line.set ≡ next.rest → AreCounted rules cost depth tasks lines last number
        → AreCounted rules cost depth tasks (lines ++ line ∷ []) last_then number_then
    counted_then lines line same counted = record {
      shares = shares_then lines counted;
      total = (let point : sum_below (suc (length tasks)) number_then + number part ≡ sum_below (suc (length tasks)) number + number_then part
          = sum_below-point (suc (length tasks)) part number_then number lt (λ other less apart. enlists.number_stay other (λ e. apart (sym e))) in
          omega (arith, point, enlists.one_more, counted.total, length-append lines (line ∷ [])));
      sets = λ set. (let point : sum_below (suc (length tasks)) (up_to_lasts last_then set) + up_to_lasts last set part ≡ sum_below (suc (length tasks)) (up_to_lasts last set) + up_to_lasts last_then set part
          = sum_below-point (suc (length tasks)) part (up_to_lasts last_then set) (up_to_lasts last set) lt (λ other less apart. other_stays other (of_set set other) (λ e. apart (sym e))) in
          let more : count_by (λ l. eqb l.set set) (lines ++ line ∷ []) ≡ count_by (λ l. eqb l.set set) lines + (0 + mark (eqb line.set set))
          = sum_by-append (λ l. cond {A = ℕ} (eqb l.set set) 1 0) lines (line ∷ []) in
          let mine : mark (eqb line.set set) ≡ mark (eqb next.rest set) = ap (λ (q : ℕ). mark (eqb q set)) same in
          omega (arith, point, more, mine, counted.sets set, sets_grow set));
    }

  module _ (is : IsFilm rules.film) (are : AreTasks depth tasks) (lines : List Line) (last : ℕ → Option PathData) (number : ℕ → ℕ)
      (counted : AreCounted rules cost depth tasks lines last number) where
    shares_sum : length lines ≤ sum_below (suc (length tasks)) (λ part. number_up_to rules (last part) (of_part part))
    shares_sum = omega (arith, counted.total, sum_below_mono (suc (length tasks)) number (λ part. number_up_to rules (last part) (of_part part)) counted.shares)

    pub lines_few : length lines ≤ candidate_count rules cost
    lines_few = omega (arith, shares_sum, parts_most depth tasks are rules is last (is_candidate rules cost))

    pub lines_ways : (set : ℕ) → count_by (λ line. eqb line.set set) lines ≤ leaving_count rules cost set
    lines_ways set = omega (arith, counted.sets set, parts_most depth tasks are rules is last (leaving set (is_candidate rules cost)))

    pub lines_room : (part : ℕ) (next : PathData) → part < suc (length tasks) → IsUnfinished rules.film next → ComesAfter rules (last part) next
        → lies_in depth tasks part next ≡ true → is_candidate rules cost next ≡ true → length lines + 1 ≤ candidate_count rules cost
    lines_room part next lt unfinished after lies candidate =
        omega (arith, shares_sum, parts_room depth tasks are rules is last (is_candidate rules cost) part next lt unfinished after lies candidate)

-- ---- candidates

pub open_from : (firsts : ℕ → ℕ) (set : ℕ) (scenes : List ℕ) → are_firsts firsts set scenes ≡ true → AreFirsts firsts set scenes
open_from firsts set [] is = tt
open_from firsts set (s ∷ scenes) is =
    let both = and_parts (has (firsts set) s) (are_firsts firsts (without set s) scenes) is in (both.0, open_from firsts (without set s) scenes both.1)

pub from_open : (firsts : ℕ → ℕ) (set : ℕ) (scenes : List ℕ) → AreFirsts firsts set scenes → are_firsts firsts set scenes ≡ true
from_open firsts set [] are = refl
from_open firsts set (s ∷ scenes) are =
    and_from (has (firsts set) s) (are_firsts firsts (without set s) scenes) are.0 (from_open firsts (without set s) scenes are.1)

pub candidate_is : (rules : Rules) (cost : ℕ) (path : PathData) → IsPath rules.film path → is_candidate rules cost path ≡ true
    → IsOpen rules path × (path.paid + rules.bound path.rest < cost)
candidate_is rules cost path within is =
    let both = and_parts (are_firsts rules.firsts (all_scenes rules.film) path.scenes) (ltb (path.paid + rules.bound path.rest) cost) is in
    ((within, open_from rules.firsts (all_scenes rules.film) path.scenes both.0), ltb-true (path.paid + rules.bound path.rest) cost both.1)

pub is_candidate_from : (rules : Rules) (cost : ℕ) (path : PathData) → IsOpen rules path × (path.paid + rules.bound path.rest < cost) → is_candidate rules cost path ≡ true
is_candidate_from rules cost path (open_path, less) =
    and_from (are_firsts rules.firsts (all_scenes rules.film) path.scenes) (ltb (path.paid + rules.bound path.rest) cost)
    (from_open rules.firsts (all_scenes rules.film) path.scenes open_path.1) (lt-ltb (path.paid + rules.bound path.rest) cost less)
