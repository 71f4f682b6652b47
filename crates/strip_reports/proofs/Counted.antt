-- What an actor does on a day, told by how many days he has worked on so far.
use Rattle.std.proofs.Common.{◌≡◌, ℕ, zero, suc, ◌+◌, ◌<◌, ◌≤◌, Bool, true, false, cond, not, ◌&&◌, ◌||◌, ltb, List, [], ◌∷◌, ◌++◌, length, get_or, take, drop, count_by, refl, sym, ap, ◌∙◌, arith}
use Rattle.std.specs.List.{list_any, range_with_len}
use Rattle.std.proofs.lemmas.Bool.Decides.{nat_tests}
use Rattle.std.proofs.lemmas.List.{take_more}
use Rattle.std.proofs.lemmas.List.FromFn.{length-range_with_len}
use Rattle.std.proofs.lemmas.List.Sums.{count_by-le-length, sum_by-cons, sum_by-append, sum_by-take-drop}
use Rattle.strip_mask.specs.Set.{has}
use Rattle.strip_reports.specs.Days.{code, comes_back, day_code, has_begun, waits_on, work_days, works_on}

pub count_push : (p : ℕ → Bool) (xs : List ℕ) (x : ℕ) → count_by p (xs ++ x ∷ []) ≡ count_by p xs + cond {A = ℕ} (p x) 1 0
count_push p xs x = sum_by-append (λ y. cond (p y) 1 0) xs (x ∷ []) ∙ omega (arith, sum_by-cons (λ y. cond (p y) 1 0) x [])

pub count_next : (p : ℕ → Bool) (xs : List ℕ) (i d : ℕ) → i < length xs
    → count_by p (take (i + 1) xs) ≡ count_by p (take i xs) + cond {A = ℕ} (p (get_or xs i d)) 1 0
count_next p xs i d lt = ap (count_by p) (take_more xs i d lt) ∙ count_push p (take i xs) (get_or xs i d)

range_push : (a n : ℕ) → range_with_len a (suc n) ≡ range_with_len a n ++ (a + n) ∷ []
range_push a zero = ap (λ (b : ℕ). b ∷ []) (omega arith)
range_push a (suc n) = ap (λ (list : List ℕ). a ∷ list) (range_push (a + 1) n ∙ ap (λ (b : ℕ). range_with_len (a + 1) n ++ b ∷ []) (omega arith))

pub count_range : (p : ℕ → Bool) (n : ℕ) → count_by p (range_with_len 0 (n + 1)) ≡ count_by p (range_with_len 0 n) + cond {A = ℕ} (p n) 1 0
count_range p n =
    let one : n + 1 ≡ suc n = omega arith in
    ap (λ k. count_by p (range_with_len 0 k)) one ∙ ap (count_by p) (range_push 0 n)
    ∙ ap (λ (k : ℕ). count_by p (range_with_len 0 n ++ k ∷ [])) (omega arith) ∙ count_push p (range_with_len 0 n) n

-- a number that passes is one that is counted
pub any_counted : (p : ℕ → Bool) (xs : List ℕ) → list_any p xs ≡ ltb 0 (count_by p xs)
any_counted p [] = refl
any_counted p (x ∷ xs) = by_test (p x) (any_counted p xs) ∙ sym (ap (ltb 0) (sum_by-cons (λ y. cond (p y) 1 0) x xs))
  where
    by_test : (b : Bool) → list_any p xs ≡ ltb 0 (count_by p xs) → (b || list_any p xs) ≡ ltb 0 (cond {A = ℕ} b 1 0 + count_by p xs)
    by_test true rest = grind (arith, nat_tests)
    by_test false rest = rest ∙ ap (ltb 0) (omega arith)

above : (some more all : ℕ) → some + more ≡ all → ltb 0 more ≡ ltb some all
above some more all is = grind (arith, nat_tests)

pub later_counted : (p : ℕ → Bool) (xs : List ℕ) (i : ℕ) → list_any p (drop i xs) ≡ ltb (count_by p (take i xs)) (count_by p xs)
later_counted p xs i =
    any_counted p (drop i xs) ∙ above (count_by p (take i xs)) (count_by p (drop i xs)) (count_by p xs) (sum_by-take-drop (λ y. cond (p y) 1 0) xs i)

-- ---- by the days that he has worked on so far, and all of them

pub next_done : (crews : List ℕ) (actor k done : ℕ) (works : Bool) → k < length crews → works ≡ works_on crews actor k → done ≡ work_days (take k crews) actor
    → done + cond {A = ℕ} works 1 0 ≡ work_days (take (k + 1) crews) actor
next_done crews actor k done works lt is so_far =
    (λ i. so_far i + cond {A = ℕ} (is i) 1 0) ∙ sym (count_next (λ crew. has crew actor) crews k 0 lt)

pub begun_told : (crews : List ℕ) (actor k done : ℕ) → done ≡ work_days (take k crews) actor → ltb 0 done ≡ has_begun crews actor k
begun_told crews actor k done so_far = ap (ltb 0) so_far ∙ sym (any_counted (λ crew. has crew actor) (take k crews))

pub back_told : (crews : List ℕ) (actor k next work : ℕ) → next ≡ work_days (take (k + 1) crews) actor → work ≡ work_days crews actor
    → ltb next work ≡ comes_back crews actor k
back_told crews actor k next work so_far whole = (λ i. ltb (so_far i) (whole i)) ∙ sym (later_counted (λ crew. has crew actor) crews (k + 1))

pub waits_told : (crews : List ℕ) (actor k done work : ℕ) (works : Bool) → k < length crews → works ≡ works_on crews actor k
    → done ≡ work_days (take k crews) actor → work ≡ work_days crews actor
    → (not works && (ltb 0 done && ltb done work)) ≡ waits_on crews actor k
waits_told crews actor k done work true lt is so_far whole = ap (λ (b : Bool). not b && (has_begun crews actor k && comes_back crews actor k)) is
waits_told crews actor k done work false lt is so_far whole =
    let same : done ≡ work_days (take (k + 1) crews) actor = omega (arith, next_done crews actor k done false lt is so_far) in
    (λ i. ltb 0 done && back_told crews actor k done work same whole i)
    ∙ (λ i. begun_told crews actor k done so_far i && comes_back crews actor k)
    ∙ ap (λ (b : Bool). not b && (has_begun crews actor k && comes_back crews actor k)) is

pub hold_next : (crews : List ℕ) (actor k hold : ℕ) (waits : Bool) → waits ≡ waits_on crews actor k
    → hold ≡ count_by (waits_on crews actor) (range_with_len 0 k)
    → hold + cond {A = ℕ} waits 1 0 ≡ count_by (waits_on crews actor) (range_with_len 0 (k + 1))
hold_next crews actor k hold waits is so_far =
    (λ i. so_far i + cond {A = ℕ} (is i) 1 0) ∙ sym (count_range (waits_on crews actor) k)

pub code_told : (crews : List ℕ) (actor k done next work : ℕ) (works : Bool) → works ≡ works_on crews actor k
    → done ≡ work_days (take k crews) actor → next ≡ work_days (take (k + 1) crews) actor → work ≡ work_days crews actor
    → code works (ltb 0 done) (ltb next work) ≡ day_code crews actor k
code_told crews actor k done next work works is so_far then whole =
    λ i. code (is i) (begun_told crews actor k done so_far i) (back_told crews actor k next work then whole i)

-- ---- no more than there are days

pub few_holds : (crews : List ℕ) (actor k : ℕ) → count_by (waits_on crews actor) (range_with_len 0 k) ≤ k
few_holds crews actor k = omega (arith, count_by-le-length (waits_on crews actor) (range_with_len 0 k), length-range_with_len 0 k)
