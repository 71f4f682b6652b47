-- How many paths with something remaining there are.
use Rattle.std.proofs.Common.{◌≡◌, ℕ, zero, suc, ◌+◌, ◌*◌, ◌≤◌, Bool, true, List, [], ◌∷◌, length, count_by, All, refl, ap, ◌∙◌, arith}
use Rattle.std.specs.List.{flat_map, sum_by}
use Rattle.std.proofs.Math.Nat.{mul-add, mul-le-mul}
use Rattle.std.proofs.lemmas.List.{length-map}
use Rattle.std.proofs.lemmas.List.Concat.{length-flat_map}
use Rattle.std.proofs.lemmas.List.Sums.{sum_by-le, count_by-le-length}
use Rattle.strip_mask.specs.Set.{IsSet, without, members, size}
use Rattle.strip_mask.proofs.ByMembers.{IsSet-without}
use Rattle.strip_mask.proofs.Members.{All-members}
use Rattle.strip_mask.proofs.Sizes.{length-members, size_mono}
use Rattle.strip_model.specs.Film.{FilmData}
use Rattle.strip_film.specs.Film.{IsFilm, all_scenes}
use Rattle.strip_film.specs.Shoot.{ready}
use Rattle.strip_film.specs.Path.{PathData}
use Rattle.strip_film.proofs.ByPairs.{ready-no_pairs}
use Rattle.strip_film.proofs.Lists.{ready_there}
use Rattle.strip_lines.specs.Paths.{lists_from, number_of, path_along, path_count, factorial}
use Rattle.strip_lines.proofs.Sums.{count-cons, sum_by-same}
use Rattle.strip_lines.proofs.Enumerated.{IsSet-all, begun, one_less, size_all}

-- the lists, by their first scenes
by_first : (film : FilmData) (n set : ℕ) → length (lists_from film (suc n) set) ≡ 1 + sum_by (λ scene. length (lists_from film n (without set scene))) (members (ready film set))
by_first film n set =
    let later : length (flat_map (begun film n set) (members (ready film set))) ≡ sum_by (λ scene. length (lists_from film n (without set scene))) (members (ready film set))
    = length-flat_map (begun film n set) (members (ready film set))
    ∙ (λ i. sum_by (λ scene. length-map (lists_from film n (without set scene)) (λ l. scene ∷ l) i) (members (ready film set))) in
    omega (arith, later)

pub length_most : (film : FilmData) (n set : ℕ) → IsSet set → size set ≡ n → length (lists_from film n set) ≤ path_count n
length_most film zero set small is = omega arith
length_most film (suc n) set small is =
    let each : All (λ scene. length (lists_from film n (without set scene)) ≤ path_count n) (members (ready film set))
    = All-members (λ scene. length (lists_from film n (without set scene)) ≤ path_count n) (ready film set)
    (λ scene there. length_most film n (without set scene) (IsSet-without set scene small) (one_less film n set scene small is there)) in
    let sum : sum_by (λ scene. length (lists_from film n (without set scene))) (members (ready film set)) ≤ length (members (ready film set)) * path_count n
    = sum_by-le (λ scene. length (lists_from film n (without set scene))) (path_count n) (members (ready film set)) each in
    let fewer : length (members (ready film set)) ≤ suc n
    = omega (arith, length-members (ready film set), size_mono (ready film set) set (λ i there. ready_there film set i there), is) in
    let product : length (members (ready film set)) * path_count n ≤ suc n * path_count n = mul-le-mul fewer (let le : path_count n ≤ path_count n = omega arith in le) in
    omega (arith, by_first film n set, sum, product)

pub length_all : (film : FilmData) (n set : ℕ) → film.pairs ≡ [] → IsSet set → size set ≡ n → length (lists_from film n set) ≡ path_count n
length_all film zero set free small is = refl
length_all film (suc n) set free small is =
    let each : All (λ scene. length (lists_from film n (without set scene)) ≡ path_count n) (members (ready film set))
    = All-members (λ scene. length (lists_from film n (without set scene)) ≡ path_count n) (ready film set)
    (λ scene there. length_all film n (without set scene) free (IsSet-without set scene small) (one_less film n set scene small is there)) in
    let whole : length (members (ready film set)) ≡ suc n = ap (λ (q : ℕ). length (members q)) (ready-no_pairs film set free) ∙ length-members set ∙ is in
    by_first film n set
    ∙ ap (λ (k : ℕ). 1 + k) (sum_by-same (λ scene. length (lists_from film n (without set scene))) (path_count n) (members (ready film set)) each
    ∙ ap (λ (k : ℕ). k * path_count n) whole)

count_all : {X : Type 0} (xs : List X) → count_by (λ x. true) xs ≡ length xs
count_all [] = refl
count_all (x ∷ xs) = (let rest : count_by (λ y. true) xs ≡ length xs = count_all xs in omega (arith, count-cons (λ y. true) x xs, rest))

pub number_most : (film : FilmData) (test : PathData → Bool) → IsFilm film → number_of film test ≤ path_count (length film.casts)
number_most film test is =
    omega (
      arith,
      count_by-le-length (λ scenes. test (path_along film scenes)) (lists_from film (length film.casts) (all_scenes film)),
      length_most film (length film.casts) (all_scenes film) (IsSet-all film is) (size_all film is),
    )

pub number_all : (film : FilmData) → IsFilm film → film.pairs ≡ [] → number_of film (λ path. true) ≡ path_count (length film.casts)
number_all film is free =
    count_all (lists_from film (length film.casts) (all_scenes film)) ∙ length_all film (length film.casts) (all_scenes film) free (IsSet-all film is) (size_all film is)

-- one more is at most twice the orders, from one scene on
one_more : (n : ℕ) → path_count (suc n) + 1 ≤ 2 * factorial (suc n)
one_more zero = omega arith
one_more (suc n) =
    let before : path_count (suc n) + 1 ≤ 2 * factorial (suc n) = one_more n in
    let times : suc (suc n) * (path_count (suc n) + 1) ≤ suc (suc n) * (2 * factorial (suc n)) = mul-le-mul (let le : suc (suc n) ≤ suc (suc n) = omega arith in le) before in
    spread (path_count (suc n)) (factorial (suc n)) (suc (suc n)) (omega arith) times
  where
    spread : (p f x : ℕ) → 2 ≤ x → x * (p + 1) ≤ x * (2 * f) → (1 + x * p) + 1 ≤ 2 * (x * f)
    spread p f x two le =
        let left : x * (p + 1) ≡ x * p + x * 1 = mul-add x p 1 in
        let twice : 2 * f ≡ f + f = omega arith in
        let right : x * (2 * f) ≡ x * f + x * f = ap (λ (y : ℕ). x * y) twice ∙ mul-add x f f in
        omega (arith, two, le, left, right)

pub few_orders : (n : ℕ) → path_count n ≤ 2 * factorial n
few_orders zero = omega arith
few_orders (suc n) = (let more : path_count (suc n) + 1 ≤ 2 * factorial (suc n) = one_more n in omega (arith, more))
