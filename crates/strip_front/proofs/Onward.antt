-- The paths of a layer that go on from a path, as they are found; and the shorter paths with those of the next layer behind them.
use Rattle.std.proofs.Common.{◌≡◌, ◌≢◌, ◌↔◌, ℕ, zero, suc, ◌+◌, ◌<◌, ◌≤◌, ◌⊎◌, true, Some, List, [], ◌∷◌, ◌++◌, length, get_or, map, take, All, Contains, append_assoc, inl, inr, refl, sym, ap, ◌∙◌, subst, arith}
use Rattle.std.specs.List.{AllPairs}
use Rattle.std.proofs.lemmas.Bool.Decides.{eqb_tells}
use Rattle.std.proofs.lemmas.List.{map-append, take_more}
use Rattle.std.proofs.lemmas.List.Elements.{All-append, Contains-append_cases, Contains-append_left, Contains-append_right, Contains-get_or, Contains-push, Contains-push_cases}
use Rattle.std.proofs.lemmas.List.Kept.{AllPairs-cons}
use Rattle.std.proofs.lemmas.List.Quantifiers.{all_pairs_push}
use Rattle.strip_mask.specs.Set.{has, without}
use Rattle.strip_mask.proofs.ByMembers.{empty_has, has_from_without, has-without_other}
use Rattle.strip_mask.proofs.Lists.{contains_here, contains_later, contains_none}
use Rattle.strip_film.specs.Film.{all_scenes}
use Rattle.strip_film.specs.Finish.{rest_after}
use Rattle.strip_film.specs.Path.{PathData, extended}
use Rattle.strip_film.specs.Ranks.{IsEarlier, IsSooner}
use Rattle.strip_film.specs.Rules.{Rules, rank}
use Rattle.strip_film.specs.Turns.{GoBy, TakesNext, TurnsData}
use Rattle.strip_film.proofs.Ranks.{earlier_longer, earlier_parted, earlier_trans}
use Rattle.strip_front.specs.Onward.{AreOnward, GoesOn}

-- ---- lists

pub pairs_head : {X : Type 0} (R : X → X → Type 0) (x : X) (xs : List X) → AllPairs R (x ∷ xs) → All (R x) xs
pairs_head R x xs pairs k d within = pairs 0 (suc k) d (omega arith) (omega (arith, within))

pub pairs_tail : {X : Type 0} (R : X → X → Type 0) (x : X) (xs : List X) → AllPairs R (x ∷ xs) → AllPairs R xs
pairs_tail R x xs pairs i j d before within = pairs (suc i) (suc j) d (omega (arith, before)) (omega (arith, within))

pub pairs_append : {X : Type 0} (R : X → X → Type 0) (xs ys : List X) → AllPairs R xs → AllPairs R ys
    → ((x y : X) → Contains xs x → Contains ys y → R x y) → AllPairs R (xs ++ ys)
pairs_append R [] ys left right across = right
pairs_append R (x ∷ xs) ys left right across =
    AllPairs-cons R x (xs ++ ys)
    (All-append (R x) xs ys (pairs_head R x xs left) (λ k d within. across x (get_or ys k d) (contains_here x xs) (Contains-get_or ys k d within)))
    (pairs_append R xs ys (pairs_tail R x xs left) right (λ y z there. across y z (contains_later x xs y there)))

-- what stands before a place has the relation to what stands there
pub pairs_before : {X : Type 0} (R : X → X → Type 0) (xs : List X) (place : ℕ) (d x : X) → AllPairs R xs → place < length xs
    → Contains (take place xs) x → R x (get_or xs place d)
pairs_before R [] place d x pairs within there = absurd (omega (arith, within))
pairs_before R (y ∷ ys) zero d x pairs within there = absurd (contains_none x there)
pairs_before R (y ∷ ys) (suc place) d x pairs within (zero, inside, at) =
    subst (λ z. R z (get_or ys place d)) at (pairs_head R y ys pairs place d (omega (arith, within)))
pairs_before R (y ∷ ys) (suc place) d x pairs within (suc k, inside, at) =
    pairs_before R ys place d x (pairs_tail R y ys pairs) (omega (arith, within)) (k, omega (arith, inside), at)

-- one more behind a list
pub pushed_one : {X Y : Type 0} (f : X → Y) (now later : List X) (x : X) → later ≡ now ++ x ∷ [] → map f later ≡ map f now ++ f x ∷ []
pushed_one f now later x became = ap (map f) became ∙ map-append f now (x ∷ [])

-- and behind what was pushed
pub pushed_more : {X Y : Type 0} (f : X → Y) (now later : List X) (x : X) (old found : List Y) (y : Y) → later ≡ now ++ x ∷ [] → map f now ≡ old ++ found → f x ≡ y
    → map f later ≡ old ++ (found ++ y ∷ [])
pushed_more f now later x old found y became so_far is =
    pushed_one f now later x became ∙ ap (λ ys. ys ++ f x ∷ []) so_far ∙ append_assoc old found (f x ∷ []) ∙ ap (λ z. old ++ (found ++ z ∷ [])) is

module _ (rules : Rules) where
  abbrev pub Earlier : PathData → PathData → Type 0
  Earlier a b = IsEarlier rules (all_scenes rules.film) a.scenes b.scenes

  -- where one list comes before another that is no longer, so does what goes on from it
  pub earlier_onward : (set : ℕ) (xs ys more : List ℕ) → IsEarlier rules set xs ys → length ys ≤ length xs → IsEarlier rules set (xs ++ more) ys
  earlier_onward set xs [] more earlier few = absurd earlier
  earlier_onward set [] (y ∷ ys) more earlier few = absurd (omega (arith, few))
  earlier_onward set (x ∷ xs) (y ∷ ys) more (inl sooner) few = inl sooner
  earlier_onward set (x ∷ xs) (y ∷ ys) more (inr (same, rest)) few = inr (same, earlier_onward (without set x) xs ys more rest (omega (arith, few)))

  -- ---- the paths that go on from one

  module _ (layer : List PathData) (shorter : PathData) where
    -- these go on from the path, with the scenes that have had their turn, and come before those with the others
    pub record AreFound (left : ℕ) (found : List PathData) : Type 0 where
      pub each : (path : PathData) → Contains found path → GoesOn rules layer shorter path
      pub all : (path : PathData) → GoesOn rules layer shorter path → Contains found path ⊎ ((scene : ℕ) × (has left scene ≡ true) × (path ≡ extended rules.film shorter scene))
      pub rise : AllPairs Earlier found
      pub before : (path : PathData) (scene : ℕ) → Contains found path → has left scene ≡ true → Earlier path (extended rules.film shorter scene)

    pub found_none : AreFound (rules.firsts shorter.rest) []
    found_none = record {
      each = λ path there. absurd (contains_none path there);
      all = λ path on. inr on.by_first;
      rise = λ i j d before within. absurd (omega (arith, within));
      before = λ path scene there. absurd (contains_none path there);
    }

    pub found_all : (found : List PathData) (left : ℕ) → left ≡ 0 → AreFound left found → AreOnward rules layer shorter found
    found_all found left none are = record {
      same = λ path. (
        are.each path,
        λ on. elim (are.all path on) [
          | inl there ↦ there
          | inr waits ↦ absurd (empty_has waits.0 (ap (λ (q : ℕ). has q waits.0) (sym none) ∙ waits.1))
        ],
      );
      rise = are.rise;
    }

    -- the scenes that wait are firsts, by their ranks
    pub record AreWaiting (turns : TurnsData) : Type 0 where
      pub among : (scene : ℕ) → has turns.left scene ≡ true → has (rules.firsts shorter.rest) scene ≡ true
      pub ranks : GoBy (rank rules shorter.rest) turns

    pub wait_first : (turns : TurnsData) (rest : ℕ) → rest ≡ shorter.rest → turns.left ≡ rules.firsts rest → GoBy (rank rules rest) turns → AreWaiting turns
    wait_first turns rest same left ranks = record {
      among = λ scene waits. ap (λ (q : ℕ). has q scene) (sym (left ∙ ap rules.firsts same)) ∙ waits;
      ranks = subst (λ (q : ℕ). GoBy (rank rules q) turns) same ranks;
    }

    pub found_first : (turns : TurnsData) (rest : ℕ) → rest ≡ shorter.rest → turns.left ≡ rules.firsts rest → AreFound turns.left []
    found_first turns rest same left = subst (λ (q : ℕ). AreFound q []) (sym (left ∙ ap rules.firsts same)) found_none

    module _ (turns next : TurnsData) (scene : ℕ) (found : List PathData) (wait : AreWaiting turns) (takes : TakesNext turns next (Some scene))
        (are : AreFound turns.left found) where
      -- the others that wait did so before, and are others
      waited : (other : ℕ) → has next.left other ≡ true → (scene ≢ other) × (has turns.left other ≡ true)
      waited other waits = has_from_without turns.left scene other (ap (λ (q : ℕ). has q other) (sym takes.1) ∙ waits)

      still : (other : ℕ) → scene ≢ other → has turns.left other ≡ true → has next.left other ≡ true
      still other apart waits = ap (λ (q : ℕ). has q other) takes.1 ∙ has-without_other turns.left scene other apart ∙ waits

      pub wait_still : AreWaiting next
      wait_still = record {
        among = λ other waits. wait.among other (waited other waits).1;
        ranks = λ one other here there sooner. wait.ranks one other (waited one here).1 (waited other there).1
            (subst (λ (ranks : ℕ → ℕ). IsSooner ranks one other) takes.2 sooner);
      }

      -- a scene whose path isn't one of the layer
      pub found_past : (Contains layer (extended rules.film shorter scene) → ⊥) → AreFound next.left found
      found_past none = record {
        each = are.each;
        all = λ path on. elim (are.all path on) [
          | inl there ↦ inl there
          | inr (other, waits, is) ↦ elim (eqb_tells scene other) [
            | inl same ↦ absurd (none (subst (Contains layer) (is ∙ ap (extended rules.film shorter) (sym same.1)) on.among))
            | inr apart ↦ inr (other, still other apart.1 waits, is)
          ]
        ];
        rise = are.rise;
        before = λ path other there waits. are.before path other there (waited other waits).1;
      }

      -- one whose path is
      pub found_one : shorter.rest ≡ rest_after (all_scenes rules.film) shorter.scenes → Contains layer (extended rules.film shorter scene)
          → AreFound next.left (found ++ extended rules.film shorter scene ∷ [])
      found_one left some = record {
        each = λ path there. elim (Contains-push_cases found (extended rules.film shorter scene) path there) [
          | inl earlier ↦ are.each path earlier
          | inr same ↦ subst (GoesOn rules layer shorter) same (record { among = some; by_first = (scene, wait.among scene takes.0.waits, refl) })
        ];
        all = λ path on. elim (are.all path on) [
          | inl there ↦ inl (Contains-append_left found (extended rules.film shorter scene ∷ []) path there)
          | inr (other, waits, is) ↦ elim (eqb_tells scene other) [
            | inl same ↦ inl (subst (Contains (found ++ extended rules.film shorter scene ∷ [])) (ap (extended rules.film shorter) same.1 ∙ sym is) (Contains-push found (extended rules.film shorter scene)))
            | inr apart ↦ inr (other, still other apart.1 waits, is)
          ]
        ];
        rise = all_pairs_push Earlier found (extended rules.film shorter scene) are.rise
            (λ k d within. are.before (get_or found k d) scene (Contains-get_or found k d within) takes.0.waits);
        before = λ path other there waits. elim (Contains-push_cases found (extended rules.film shorter scene) path there) [
          | inl earlier ↦ are.before path other earlier (waited other waits).1
          | inr same ↦ subst (λ (p : PathData). Earlier p (extended rules.film shorter other)) same
              (earlier_parted rules (all_scenes rules.film) shorter.scenes scene [] other [] (sooner other waits))
        ];
      }
        where
          sooner : (other : ℕ) → has next.left other ≡ true → IsSooner (rank rules (rest_after (all_scenes rules.film) shorter.scenes)) scene other
          sooner other waits =
              let was = waited other waits in
              subst (λ (q : ℕ). IsSooner (rank rules q) scene other) left
              (wait.ranks scene other takes.0.waits was.1 (takes.0.first other was.1 (λ same. was.0 (sym same))))

  -- ---- paths, each with those of the next layer behind it

  module _ (layer : List PathData) (count : ℕ) where
    -- the path goes on from one of these that has one scene less than the layer
    abbrev pub Follows : List PathData → PathData → Type 0
    Follows seen path = (shorter : PathData) × Contains seen shorter × (length shorter.scenes + 1 ≡ count) × GoesOn rules layer shorter path

    pub record AreFollowed (seen paths : List PathData) : Type 0 where
      pub each : (path : PathData) → Contains paths path → Contains seen path ⊎ Follows seen path
      pub kept : (path : PathData) → Contains seen path → Contains paths path
      pub new : (path : PathData) → Follows seen path → Contains paths path
      pub rise : AllPairs Earlier paths

    pub followed_none : AreFollowed [] []
    followed_none = record {
      each = λ path there. absurd (contains_none path there);
      kept = λ path there. there;
      new = λ path follows. absurd (contains_none follows.0 follows.1);
      rise = λ i j d before within. absurd (omega (arith, within));
    }

    module _ (seen paths more : List PathData) (shorter : PathData) (are : AreFollowed seen paths) (short : length shorter.scenes < count)
        (later : (path : PathData) → Contains seen path → Earlier path shorter)
        (same : (path : PathData) → Contains more path ↔ ((length shorter.scenes + 1 ≡ count) × GoesOn rules layer shorter path)) (rise : AllPairs Earlier more) where
      abbrev now : List PathData
      now = (paths ++ shorter ∷ []) ++ more

      all_earlier : (path : PathData) → Contains paths path → Earlier path shorter
      all_earlier path there = elim (are.each path there) [
        | inl before ↦ later path before
        | inr (other, before, long, on) ↦ subst (λ (p : PathData). Earlier p shorter) (sym on.by_first.2)
            (earlier_onward (all_scenes rules.film) other.scenes shorter.scenes (on.by_first.0 ∷ []) (later other before) (omega (arith, long, short)))
      ]

      goes_later : (path : PathData) → Contains more path → Earlier shorter path
      goes_later path there =
          let by = ((same path).0 there).1.by_first in
          subst (Earlier shorter) (sym by.2) (earlier_longer rules (all_scenes rules.film) shorter.scenes by.0 [])

      pub followed_more : AreFollowed (seen ++ shorter ∷ []) now
      followed_more = record {
        each = λ path there. elim (Contains-append_cases (paths ++ shorter ∷ []) more path there) [
          | inl first ↦ elim (Contains-push_cases paths shorter path first) [
            | inl before ↦ elim (are.each path before) [
              | inl old ↦ inl (Contains-append_left seen (shorter ∷ []) path old)
              | inr (other, old, long, on) ↦ inr (other, Contains-append_left seen (shorter ∷ []) other old, long, on)
            ]
            | inr it ↦ inl (subst (Contains (seen ++ shorter ∷ [])) it (Contains-push seen shorter))
          ]
          | inr last ↦ (let goes = (same path).0 last in inr (shorter, Contains-push seen shorter, goes.0, goes.1))
        ];
        kept = λ path there. elim (Contains-push_cases seen shorter path there) [
          | inl old ↦ Contains-append_left (paths ++ shorter ∷ []) more path (Contains-append_left paths (shorter ∷ []) path (are.kept path old))
          | inr it ↦ Contains-append_left (paths ++ shorter ∷ []) more path (subst (Contains (paths ++ shorter ∷ [])) it (Contains-push paths shorter))
        ];
        new = λ path follows. elim (Contains-push_cases seen shorter follows.0 follows.1) [
          | inl old ↦ Contains-append_left (paths ++ shorter ∷ []) more path
              (Contains-append_left paths (shorter ∷ []) path (are.new path (follows.0, old, follows.2, follows.3)))
          | inr it ↦ Contains-append_right (paths ++ shorter ∷ []) more path ((same path).1 (
            subst (λ (p : PathData). length p.scenes + 1 ≡ count) (sym it) follows.2,
            subst (λ (p : PathData). GoesOn rules layer p path) (sym it) follows.3,
          ))
        ];
        rise = pairs_append Earlier (paths ++ shorter ∷ []) more
            (all_pairs_push Earlier paths shorter are.rise (λ k d within. all_earlier (get_or paths k d) (Contains-get_or paths k d within))) rise
            (λ x y before last. elim (Contains-push_cases paths shorter x before) [
              | inl earlier ↦ earlier_trans rules (all_scenes rules.film) x.scenes shorter.scenes y.scenes (all_earlier x earlier) (goes_later y last)
              | inr it ↦ subst (λ (p : PathData). Earlier p y) it (goes_later y last)
            ]);
      }

    -- a turn over the paths in their order
    pub followed_turn : (all : List PathData) (place : ℕ) (shorter : PathData) (paths more later : List PathData) → AllPairs Earlier all → place < length all
        → get_or all place shorter ≡ shorter → length shorter.scenes < count → AreFollowed (take place all) paths
        → ((path : PathData) → Contains more path ↔ ((length shorter.scenes + 1 ≡ count) × GoesOn rules layer shorter path)) → AllPairs Earlier more
        → later ≡ (paths ++ shorter ∷ []) ++ more → AreFollowed (take (place + 1) all) later
    followed_turn all place shorter paths more later rising within at short are same rise became =
        subst (λ (seen : List PathData). AreFollowed seen later) (sym (take_more all place shorter within ∙ ap (λ (p : PathData). take place all ++ p ∷ []) at))
        (subst (AreFollowed (take place all ++ shorter ∷ [])) (sym became)
        (followed_more (take place all) paths more shorter are short
        (λ path there. subst (Earlier path) at (pairs_before Earlier all place shorter path rising within there)) same rise))
