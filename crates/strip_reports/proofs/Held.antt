-- What an actor does along a list of crews, day by day, and along an order, scene by scene.
use Rattle.std.proofs.Common.{◌≡◌, ℕ, zero, suc, ◌+◌, ◌*◌, ◌<◌, Bool, true, false, cond, not, ◌&&◌, ◌||◌, List, [], ◌∷◌, ◌++◌, All, length, replicate, count_by, sum_by, refl, sym, ap, ◌∙◌, arith}
use Rattle.std.specs.List.{flat_map, list_any, range_with_len}
use Rattle.std.proofs.Math.Seq.{drop-append-add, get_or-append_seam, take-append_seam}
use Rattle.std.proofs.lemmas.List.{append_assoc, length-append}
use Rattle.std.proofs.lemmas.List.Elements.{All-head, All-tail}
use Rattle.std.proofs.lemmas.List.Folds.{list_any-append}
use Rattle.std.proofs.lemmas.List.Sums.{sum_by-cons}
use Rattle.std.proofs.Math.Bool.{or-false, or-true}
use Rattle.strip_mask.specs.Set.{has}
use Rattle.strip_model.proofs.Walk.{paid_after}
use Rattle.strip_reports.specs.Days.{hold_days, waits_on}

-- the days without work after an earlier and before a later one with work; `begun` says whether there was one before the list
abbrev pub held : (ℕ → Bool) → Bool → List ℕ → ℕ
held q begun [] = 0
held q begun (x ∷ later) = cond {A = ℕ} (not (q x) && (begun && list_any q later)) 1 0 + held q (begun || q x) later

-- the same over scenes of some days each
abbrev pub waited : (ℕ → Bool) → (ℕ → ℕ) → Bool → List ℕ → ℕ
waited p days begun [] = 0
waited p days begun (x ∷ later) = cond {A = ℕ} (not (p x) && (begun && list_any p later)) (days x) 0 + waited p days (begun || p x) later

plus_none : (n : ℕ) → 0 + n ≡ n
plus_none n = omega arith

count-cons : (p : ℕ → Bool) (x : ℕ) (xs : List ℕ) → count_by p (x ∷ xs) ≡ cond {A = ℕ} (p x) 1 0 + count_by p xs
count-cons p x xs = sum_by-cons (λ y. cond {A = ℕ} (p y) 1 0) x xs

-- ---- by places and day by day

waits_here : (actor : ℕ) (front : List ℕ) (x : ℕ) (later : List ℕ)
    → waits_on (front ++ x ∷ later) actor (length front)
    ≡ (not (has x actor) && (list_any (λ crew. has crew actor) front && list_any (λ crew. has crew actor) later))
waits_here actor front x later =
    λ i. not (has (get_or-append_seam front x later 0 i) actor)
    && (list_any (λ crew. has crew actor) (take-append_seam front (x ∷ later) i) && list_any (λ crew. has crew actor) (drop-append-add front (x ∷ later) 1 i))

by_places : (actor : ℕ) (front later : List ℕ)
    → count_by (waits_on (front ++ later) actor) (range_with_len (length front) (length later))
    ≡ held (λ crew. has crew actor) (list_any (λ crew. has crew actor) front) later
by_places actor front [] = refl
by_places actor front (x ∷ later) =
    let q : ℕ → Bool = λ crew. has crew actor in
    let moved : (front ++ x ∷ []) ++ later ≡ front ++ x ∷ later = append_assoc front (x ∷ []) later in
    let longer : length (front ++ x ∷ []) ≡ length front + 1 = length-append front (x ∷ []) in
    let begun : list_any q (front ++ x ∷ []) ≡ (list_any q front || q x) = list_any-append q front (x ∷ []) ∙ ap (λ (b : Bool). list_any q front || b) (or-false (q x)) in
    let rest : count_by (waits_on (front ++ x ∷ later) actor) (range_with_len (length front + 1) (length later)) ≡ held q (list_any q front || q x) later
    = (λ i. count_by (waits_on (sym moved i) actor) (range_with_len (sym longer i) (length later))) ∙ by_places actor (front ++ x ∷ []) later
    ∙ ap (λ (b : Bool). held q b later) begun in
    count-cons (waits_on (front ++ x ∷ later) actor) (length front) (range_with_len (length front + 1) (length later))
    ∙ (λ i. cond {A = ℕ} (waits_here actor front x later i) 1 0 + rest i)

pub held_days : (crews : List ℕ) (actor : ℕ) → hold_days crews actor ≡ held (λ crew. has crew actor) false crews
held_days crews actor = by_places actor [] crews

-- ---- the days of one scene

any_scene : (q : ℕ → Bool) (n x : ℕ) (later : List ℕ) → list_any q (replicate (suc n) x ++ later) ≡ (q x || list_any q later)
any_scene q zero x later = refl
any_scene q (suc n) x later = ap (λ (b : Bool). q x || b) (any_scene q n x later) ∙ twice (q x) (list_any q later)
  where
    twice : (a b : Bool) → (a || (a || b)) ≡ (a || b)
    twice true b = refl
    twice false b = refl

count_scene : (q : ℕ → Bool) (n x : ℕ) (later : List ℕ) → count_by q (replicate n x ++ later) ≡ cond {A = ℕ} (q x) n 0 + count_by q later
count_scene q zero x later = by_test (q x)
  where
    by_test : (b : Bool) → count_by q later ≡ cond {A = ℕ} b 0 0 + count_by q later
    by_test true = omega arith
    by_test false = omega arith
count_scene q (suc n) x later = count-cons q x (replicate n x ++ later) ∙ by_test (q x) (count_scene q n x later)
  where
    by_test : (b : Bool) → count_by q (replicate n x ++ later) ≡ cond {A = ℕ} b n 0 + count_by q later
        → cond {A = ℕ} b 1 0 + count_by q (replicate n x ++ later) ≡ cond {A = ℕ} b (suc n) 0 + count_by q later
    by_test true rest = omega (arith, rest)
    by_test false rest = omega (arith, rest)

-- days with work, when some were before
held_worked : (q : ℕ → Bool) (n x : ℕ) (later : List ℕ) (begun : Bool) → q x ≡ true → held q begun (replicate (suc n) x ++ later) ≡ held q true later
held_worked q zero x later begun works =
    ap (λ (b : Bool). cond {A = ℕ} (not b && (begun && list_any q later)) 1 0 + held q (begun || b) later) works
    ∙ plus_none (held q (begun || true) later) ∙ ap (λ (b : Bool). held q b later) (or-true begun)
held_worked q (suc n) x later begun works =
    ap (λ (b : Bool). cond {A = ℕ} (not b && (begun && list_any q (replicate (suc n) x ++ later))) 1 0 + held q (begun || q x) (replicate (suc n) x ++ later)) works
    ∙ plus_none (held q (begun || q x) (replicate (suc n) x ++ later)) ∙ held_worked q n x later (begun || q x) works

held_idle : (q : ℕ → Bool) (n x : ℕ) (later : List ℕ) (begun : Bool) → q x ≡ false
    → held q begun (replicate n x ++ later) ≡ cond {A = ℕ} (begun && list_any q later) n 0 + held q begun later
held_idle q zero x later begun idle = by_test (begun && list_any q later)
  where
    by_test : (b : Bool) → held q begun later ≡ cond {A = ℕ} b 0 0 + held q begun later
    by_test true = omega arith
    by_test false = omega arith
held_idle q (suc n) x later begun idle =
    (λ i. cond {A = ℕ} (not (idle i) && (begun && none i)) 1 0 + held q (same i) (replicate n x ++ later))
    ∙ by_test (begun && list_any q later) (held_idle q n x later begun idle)
  where
    any_idle : (n : ℕ) → list_any q (replicate n x ++ later) ≡ list_any q later
    any_idle zero = refl
    any_idle (suc n) = ap (λ (b : Bool). b || list_any q (replicate n x ++ later)) idle ∙ any_idle n

    none : list_any q (replicate n x ++ later) ≡ list_any q later
    none = any_idle n

    same : (begun || q x) ≡ begun
    same = ap (λ (b : Bool). begun || b) idle ∙ or-false begun

    by_test : (b : Bool) → held q begun (replicate n x ++ later) ≡ cond {A = ℕ} b n 0 + held q begun later
        → cond {A = ℕ} b 1 0 + held q begun (replicate n x ++ later) ≡ cond {A = ℕ} b (suc n) 0 + held q begun later
    by_test true rest = omega (arith, rest)
    by_test false rest = omega (arith, rest)

held_scene : (q : ℕ → Bool) (n x : ℕ) (later : List ℕ) (begun works : Bool) → q x ≡ works
    → held q begun (replicate (suc n) x ++ later) ≡ cond {A = ℕ} (not works && (begun && list_any q later)) (suc n) 0 + held q (begun || works) later
held_scene q n x later begun true is =
    held_worked q n x later begun is ∙ ap (λ (b : Bool). held q b later) (sym (or-true begun))
    ∙ sym (plus_none (held q (begun || true) later))
held_scene q n x later begun false is =
    held_idle q (suc n) x later begun is ∙ ap (λ (b : Bool). cond {A = ℕ} (begun && list_any q later) (suc n) 0 + held q b later) (sym (or-false begun))

-- ---- the days of a list of scenes

module _ (q : ℕ → Bool) (days casts : ℕ → ℕ) where
  abbrev pub all_days : List ℕ → List ℕ
  all_days scenes = flat_map (λ scene. replicate (days scene) (casts scene)) scenes

  pub worked_days : (scenes : List ℕ) → count_by q (all_days scenes) ≡ sum_by (λ scene. cond {A = ℕ} (q (casts scene)) (days scene) 0) scenes
  worked_days [] = refl
  worked_days (scene ∷ later) =
      count_scene q (days scene) (casts scene) (all_days later)
      ∙ ap (λ (n : ℕ). cond {A = ℕ} (q (casts scene)) (days scene) 0 + n) (worked_days later)
      ∙ sym (sum_by-cons (λ scene. cond {A = ℕ} (q (casts scene)) (days scene) 0) scene later)

  pub any_days : (scenes : List ℕ) → All (λ scene. 0 < days scene) scenes → list_any q (all_days scenes) ≡ list_any (λ scene. q (casts scene)) scenes
  any_days [] some = refl
  any_days (scene ∷ later) some = by_days (days scene) (All-head (λ scene. 0 < days scene) scene later some)
      ∙ ap (λ (b : Bool). q (casts scene) || b) (any_days later (All-tail (λ scene. 0 < days scene) scene later some))
    where
      by_days : (n : ℕ) → 0 < n → list_any q (replicate n (casts scene) ++ all_days later) ≡ (q (casts scene) || list_any q (all_days later))
      by_days zero none = absurd (omega (arith, none))
      by_days (suc n) lt = any_scene q n (casts scene) (all_days later)

  pub waited_days : (begun : Bool) (scenes : List ℕ) → All (λ scene. 0 < days scene) scenes
      → held q begun (all_days scenes) ≡ waited (λ scene. q (casts scene)) days begun scenes
  waited_days begun [] some = refl
  waited_days begun (scene ∷ later) some =
      let rest : All (λ scene. 0 < days scene) later = All-tail (λ scene. 0 < days scene) scene later some in
      by_days (days scene) (All-head (λ scene. 0 < days scene) scene later some)
      ∙ (λ i. cond {A = ℕ} (not (q (casts scene)) && (begun && any_days later rest i)) (days scene) 0
      + waited_days (begun || q (casts scene)) later rest i)
    where
      by_days : (n : ℕ) → 0 < n → held q begun (replicate n (casts scene) ++ all_days later)
          ≡ cond {A = ℕ} (not (q (casts scene)) && (begun && list_any q (all_days later))) n 0 + held q (begun || q (casts scene)) (all_days later)
      by_days zero none = absurd (omega (arith, none))
      by_days (suc n) lt = held_scene q n (casts scene) (all_days later) begun (q (casts scene)) refl

-- ---- what is paid for them

module _ (p : ℕ → Bool) (days : ℕ → ℕ) (rate hold : ℕ) where
  by_test : (d more work wait : ℕ) (works others : Bool) → more ≡ rate * work + hold * wait
      → cond {A = ℕ} (works || others) (d * cond {A = ℕ} works rate hold) 0 + more
      ≡ rate * (cond {A = ℕ} works d 0 + work) + hold * (cond {A = ℕ} (not works && others) d 0 + wait)
  by_test d more work wait true others rest = rw rest (grind arith)
  by_test d more work wait false true rest = rw rest (grind arith)
  by_test d more work wait false false rest = rw rest (grind arith)

  pub paid_days : (called : Bool) (scenes : List ℕ)
      → paid_after called p (λ scene. days scene * cond {A = ℕ} (p scene) rate hold) scenes
      ≡ rate * sum_by (λ scene. cond {A = ℕ} (p scene) (days scene) 0) scenes + hold * waited p days called scenes
  paid_days called [] = grind arith
  paid_days called (scene ∷ later) =
      by_test (days scene) _ (sum_by (λ scene. cond {A = ℕ} (p scene) (days scene) 0) later) (waited p days (called || p scene) later)
      (p scene) (called && list_any p later) (paid_days (called || p scene) later)
      ∙ ap (λ (n : ℕ). rate * n + hold * waited p days called (scene ∷ later)) (sym (sum_by-cons (λ scene. cond {A = ℕ} (p scene) (days scene) 0) scene later))
