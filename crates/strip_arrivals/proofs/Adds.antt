-- The waiting of two groups and their newcomers is that of all of them together.
use Rattle.std.proofs.Common.{◌≡◌, ℕ, ◌+◌, ◌*◌, Bool, true, false, not, ◌&&◌, ◌||◌, List, [], ◌∷◌, slice_index, refl, sym, ap, ◌∙◌, inl, inr, arith}
use Rattle.std.proofs.lemmas.Bool.{or_left, or_right, false≢true, false_from_ne_true}
use Rattle.strip_mask.specs.Set.{has, meet, sum_over, union}
use Rattle.strip_mask.proofs.ByMembers.{has-meet, has-minus, has-union, has_from_meet, has_from_minus, has_from_union, same_has}
use Rattle.strip_mask.proofs.Totals.{sum_over-union}
use Rattle.strip_group.specs.Group.{GroupData}
use Rattle.strip_arrivals.specs.Arrivals.{cast_of}
use Rattle.strip_arrivals.specs.Along.{waiting, waiting_at, waiting_from}

together : (a b c d k : Bool) → ((a || b) || ((c || d) && k)) ≡ ((a || (c && k)) || (b || (d && k)))
together true b c d k = refl
together false b false d k = refl
together false true true d true = refl
together false true true d false = refl
together false false true d true = refl
together false false true true false = refl
together false false true false false = refl

-- what is common to both is common to each
spread : (x y l p : Bool) → (((x || y) && l) && not p) ≡ (((x && l) && not p) || ((y && l) && not p))
spread true true true true = refl
spread true true true false = refl
spread true true false p = refl
spread true false true true = refl
spread true false true false = refl
spread true false false p = refl
spread false y l p = refl

module _ (film : GroupData) (a b c d : ℕ) (apart : (actor : ℕ) → has (union a c) actor ≡ true → has (union b d) actor ≡ false) where
  -- one is of the group or a newcomer where he waits
  is_one : (group newcomers came scene i : ℕ) (later : List ℕ) → has (waiting_at film group newcomers came scene later) i ≡ true → has (union group newcomers) i ≡ true
  is_one group newcomers came scene i later there =
      let outer = has_from_minus (meet (union group (meet newcomers came)) (cast_of film later)) (slice_index film.casts scene) i there in
      let one = (has_from_meet (union group (meet newcomers came)) (cast_of film later) i outer.0).0 in
      has-union group newcomers i ∙ elim (has_from_union group (meet newcomers came) i one) [
        | inl first ↦ or_left (has group i) (has newcomers i) first
        | inr second ↦ or_right (has group i) (has newcomers i) (has_from_meet newcomers came i second).0
      ]

  has-waiting : (group newcomers came scene i : ℕ) (later : List ℕ) → has (waiting_at film group newcomers came scene later) i
      ≡ (((has group i || (has newcomers i && has came i)) && has (cast_of film later) i) && not (has (slice_index film.casts scene) i))
  has-waiting group newcomers came scene i later =
      has-minus (meet (union group (meet newcomers came)) (cast_of film later)) (slice_index film.casts scene) i
      ∙ ap (λ x. x && not (has (slice_index film.casts scene) i)) (has-meet (union group (meet newcomers came)) (cast_of film later) i
      ∙ ap (λ x. x && has (cast_of film later) i) (has-union group (meet newcomers came) i ∙ ap (λ x. has group i || x) (has-meet newcomers came i)))

  both_wait : (came scene : ℕ) (later : List ℕ) → waiting_at film (union a b) (union c d) came scene later
      ≡ union (waiting_at film a c came scene later) (waiting_at film b d came scene later)
  both_wait came scene later = same_has (waiting_at film (union a b) (union c d) came scene later)
      (union (waiting_at film a c came scene later) (waiting_at film b d came scene later)) (λ i.
      let cast : Bool = has (cast_of film later) i in
      let works : Bool = has (slice_index film.casts scene) i in
      has-waiting (union a b) (union c d) came scene i later
      ∙ ap (λ x. ((x || (has (union c d) i && has came i)) && cast) && not works) (has-union a b i)
      ∙ ap (λ x. (((has a i || has b i) || (x && has came i)) && cast) && not works) (has-union c d i)
      ∙ ap (λ x. (x && cast) && not works) (together (has a i) (has b i) (has c i) (has d i) (has came i))
      ∙ spread (has a i || (has c i && has came i)) (has b i || (has d i && has came i)) cast works
      ∙ sym (has-union (waiting_at film a c came scene later) (waiting_at film b d came scene later) i
      ∙ ap (λ x. x || has (waiting_at film b d came scene later) i) (has-waiting a c came scene i later)
      ∙ ap (λ x. (((has a i || (has c i && has came i)) && cast) && not works) || x) (has-waiting b d came scene i later)))

  from_adds : (came : ℕ) (scenes : List ℕ) → waiting_from film (union a b) (union c d) came scenes ≡ waiting_from film a c came scenes + waiting_from film b d came scenes
  from_adds came [] = omega arith
  from_adds came (scene ∷ later) =
      let days : ℕ = slice_index film.days scene in
      let first : ℕ = waiting_at film a c came scene later in
      let second : ℕ = waiting_at film b d came scene later in
      let now : sum_over film.holds (waiting_at film (union a b) (union c d) came scene later) ≡ sum_over film.holds first + sum_over film.holds second
      = ap (sum_over film.holds) (both_wait came scene later) ∙ sum_over-union film.holds first second (λ i there. false_from_ne_true (has second i) (λ also.
      false≢true (sym (apart i (is_one a c came scene i later there)) ∙ is_one b d came scene i later also))) in
      let paid : days * sum_over film.holds (waiting_at film (union a b) (union c d) came scene later) ≡ days * sum_over film.holds first + days * sum_over film.holds second
      = ap (λ (n : ℕ). days * n) now ∙ grind arith in
      omega (arith, paid, from_adds (union came (slice_index film.casts scene)) later)

  pub waiting_adds : (scenes : List ℕ) → waiting film (union a b) (union c d) scenes ≡ waiting film a c scenes + waiting film b d scenes
  waiting_adds scenes = from_adds 0 scenes
