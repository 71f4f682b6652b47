-- A state on the way along a list: what holds of it, and that each step along the list keeps it.
use Rattle.std.proofs.Common.{◌≡◌, ◌≢◌, ℕ, ◌⊎◌, Bool, true, false, not, cond, eqb, List, [], ◌∷◌, ◌++◌, filter, slice_index, sym, ap, ◌∙◌, subst, inl, inr, append_assoc, append-nil}
use Rattle.std.proofs.lemmas.Bool.{cases_Bool, false≢true, eq-eqb, ne_eqb, false_from_ne_true, not_from_false, or_left, or_right, and_from}
use Rattle.std.proofs.lemmas.Bool.Decides.{eqb_tells}
use Rattle.std.proofs.lemmas.List.Elements.{Contains-append_cases, filter-append}
use Rattle.strip_mask.specs.Set.{IsSet, has, meet, union, without}
use Rattle.strip_mask.proofs.ByMembers.{has-meet, has-minus, has-union, has-with, has-without_other, has_from_union, has_from_with, has_from_without, empty_has}
use Rattle.strip_group.specs.Group.{GroupData}
use Rattle.strip_arrivals.specs.Arrivals.{StateData, actors_of, after, cast_of, comes, goes, leaves, mates}
use Rattle.strip_arrivals.specs.Along.{HasEach, waiting_at}
use Rattle.strip_mask.proofs.Lists.{contains_cases, contains_none}
use Rattle.strip_arrivals.proofs.Lists.{contains_from_filter}
use Rattle.strip_arrivals.proofs.Casts.{each_cast, has_listed, has_mates, listed_filter, listed_has, mates_has}
use Rattle.strip_arrivals.proofs.Price.{AreWaiting}

module _ (film : GroupData) (set group newcomers : ℕ) where
  -- who works in the first scene of a list
  abbrev pub next_cast : List ℕ → ℕ
  next_cast [] = 0
  next_cast (scene ∷ later) = slice_index film.casts scene

  -- the scene is of the set and was shot
  abbrev pub WasShot : ℕ → ℕ → Type 0
  WasShot rest scene = (has set scene ≡ true) × (has rest scene ≡ false)

  -- the scenes of `rest` remain, in the order of a list, and those who have worked so far are `came`; who waits at a scene that was
  -- shot is `waiters` of it
  pub record IsOnTheWay (waiters : ℕ → ℕ) (came rest : ℕ) (scenes : List ℕ) (state : StateData) : Type 0 where
    pub each : HasEach rest scenes
    pub left_group : (actor : ℕ) → has state.left actor ≡ true → has group actor ≡ true
    pub are_coming : (actor : ℕ) → has state.coming actor ≡ true → (has newcomers actor ≡ true) × (has came actor ≡ false)
    pub are_here : (actor : ℕ) → has (actors_of state.here) actor ≡ true → has newcomers actor ≡ true
    pub have_come : (actor : ℕ) → has (actors_of state.here) actor ≡ true → has (cast_of film scenes) actor ≡ true
        → has (union came (next_cast scenes)) actor ≡ true
    pub worked : (scene actor : ℕ) → WasShot rest scene → has (slice_index film.casts scene) actor ≡ true → has came actor ≡ true
    pub wait : (scene actor : ℕ) → WasShot rest scene → has group actor ≡ true → has (slice_index film.casts scene) actor ≡ false
        → has (cast_of film scenes) actor ≡ true → has (waiters scene) actor ≡ true
    pub priced : (scene : ℕ) → WasShot rest scene → AreWaiting film set group state scene (waiters scene)

  module _ (waiters : ℕ → ℕ) (came rest : ℕ) (scenes : List ℕ) (state : StateData) (way : IsOnTheWay waiters came rest scenes state) where
    -- one of the group leaves
    pub leaving : (actor : ℕ) → has group actor ≡ true → IsOnTheWay waiters came rest scenes (after state (leaves actor))
    leaving actor member = record {
      each = way.each;
      left_group = λ i there. elim (has_from_with state.left actor i there) [
        | inl same ↦ subst (λ k. has group k ≡ true) same member
        | inr before ↦ way.left_group i before
      ];
      are_coming = way.are_coming;
      are_here = way.are_here;
      have_come = way.have_come;
      worked = way.worked;
      wait = way.wait;
      priced = λ scene shot. (let waiting = way.priced scene shot in record {
        stay = λ i known stays idle. waiting.stay i known (false_from_ne_true (has state.left i) (λ gone.
            false≢true (sym stays ∙ has-with state.left actor i ∙ or_right (eqb actor i) (has state.left i) gone))) idle;
        early = waiting.early;
        later = waiting.later;
        are_here = waiting.are_here;
        came = waiting.came;
        not_yet = waiting.not_yet;
        kept = waiting.kept;
      });
    }

    -- who passes of fewer
    fewer_mates : (p : ℕ → Bool) (actors : List ℕ) (actor : ℕ) → IsSet set → has (mates film set (actors_of (filter p actors))) actor ≡ true
        → has (mates film set (actors_of actors)) actor ≡ true
    fewer_mates p actors actor small there =
        let found = mates_has film set (filter p actors) actor there in
        has_mates film set actors found.0 found.3.0 actor small found.1 (contains_from_filter p actors found.3.0 found.3.1).0 found.3.2 found.2

    -- a newcomer goes
    pub going : (actor : ℕ) → IsSet set → IsOnTheWay waiters came rest scenes (after state (goes actor))
    going actor small =
        let other : ℕ → Bool = λ i. not (eqb i actor) in record {
          each = way.each;
          left_group = way.left_group;
          are_coming = way.are_coming;
          are_here = λ i there. way.are_here i (listed_filter other state.here i there);
          have_come = λ i there due. way.have_come i (listed_filter other state.here i there) due;
          worked = way.worked;
          wait = way.wait;
          priced = λ scene shot. (let waiting = way.priced scene shot in record {
            stay = waiting.stay;
            early = filter other waiting.early;
            later = filter other waiting.later;
            are_here = ap (filter other) waiting.are_here ∙ filter-append other waiting.early waiting.later;
            came = λ i there idle. waiting.came i (listed_filter other waiting.early i there) idle;
            not_yet = λ i there works. waiting.not_yet i (listed_filter other waiting.later i there) works;
            kept = λ i known with_one idle. waiting.kept i known (fewer_mates other waiting.later i small with_one) idle;
          });
        }

    -- a newcomer comes, before the next scene, in which he works, or at the end
    pub coming : (actor : ℕ) → IsSet set → has state.coming actor ≡ true → (has (cast_of film scenes) actor ≡ true → has (next_cast scenes) actor ≡ true)
        → IsOnTheWay waiters came rest scenes (after state (comes actor))
    coming actor small expected next =
        let new : has newcomers actor ≡ true = (way.are_coming actor expected).0 in
        let unseen : has came actor ≡ false = (way.are_coming actor expected).1 in
        let either : (xs : List ℕ) (i : ℕ) → has (actors_of (xs ++ actor ∷ [])) i ≡ true → (has (actors_of xs) i ≡ true) ⊎ (actor ≡ i)
        = λ xs i there. elim (Contains-append_cases xs (actor ∷ []) i (listed_has (xs ++ actor ∷ []) i there)) [
          | inl before ↦ inl (has_listed xs i before)
          | inr last ↦ elim (contains_cases actor [] i last) [ inl same ↦ inr same | inr none ↦ absurd (contains_none i none) ]
        ] in record {
          each = way.each;
          left_group = way.left_group;
          are_coming = λ i there. way.are_coming i (has_from_without state.coming actor i there).1;
          are_here = λ i there. elim (either state.here i there) [
            | inl before ↦ way.are_here i before
            | inr same ↦ subst (λ k. has newcomers k ≡ true) same new
          ];
          have_come = λ i there due. elim (either state.here i there) [
            | inl before ↦ way.have_come i before due
            | inr same ↦ has-union came (next_cast scenes) i ∙ or_right (has came i) (has (next_cast scenes) i)
                (subst (λ k. has (next_cast scenes) k ≡ true) same (next (subst (λ k. has (cast_of film scenes) k ≡ true) (sym same) due)))
          ];
          worked = way.worked;
          wait = way.wait;
          priced = λ scene shot. (let waiting = way.priced scene shot in record {
            stay = waiting.stay;
            early = waiting.early;
            later = waiting.later ++ actor ∷ [];
            are_here = ap (λ (xs : List ℕ). xs ++ actor ∷ []) waiting.are_here ∙ append_assoc waiting.early waiting.later (actor ∷ []);
            came = waiting.came;
            not_yet = λ i there works. elim (either waiting.later i there) [
              | inl before ↦ waiting.not_yet i before works
              | inr same ↦ false≢true (sym unseen ∙ way.worked scene actor shot (subst (λ k. has (slice_index film.casts scene) k ≡ true) (sym same) works))
            ];
            kept = λ i known with_one idle. (let found = mates_has film set (waiting.later ++ actor ∷ []) i with_one in
                elim (either waiting.later found.3.0 (has_listed (waiting.later ++ actor ∷ []) found.3.0 found.3.1)) [
                  | inl before ↦ waiting.kept i known (has_mates film set waiting.later found.0 found.3.0 i small found.1 (listed_has waiting.later found.3.0 before)
                      found.3.2 found.2) idle
                  | inr same ↦ elim (cases_Bool (has rest found.0)) [
                    | inl remains ↦ way.wait scene i shot known idle (each_cast film rest scenes found.0 i way.each remains found.2)
                    | inr done ↦ absurd (false≢true (sym unseen ∙ way.worked found.0 actor (found.1, done)
                        (subst (λ k. has (slice_index film.casts found.0) k ≡ true) (sym same) found.3.2)))
                  ]
                ]);
          });
        }

  -- who waits at each scene, once a scene was shot
  abbrev pub waiters_with : (ℕ → ℕ) → ℕ → ℕ → List ℕ → ℕ → ℕ
  waiters_with waiters came scene later other = cond {A = ℕ} (eqb scene other) (waiting_at film group newcomers came scene later) (waiters other)

  -- the next scene is shot, where all who are finished have left or are gone, and nobody who works in it is still to come
  pub shooting : (waiters : ℕ → ℕ) (came rest scene : ℕ) (later : List ℕ) (state : StateData) → IsOnTheWay waiters came rest (scene ∷ later) state
      → ((actor : ℕ) → has group actor ≡ true → has state.left actor ≡ false → has (cast_of film (scene ∷ later)) actor ≡ true)
      → ((actor : ℕ) → has (actors_of state.here) actor ≡ true → has (cast_of film (scene ∷ later)) actor ≡ true)
      → ((actor : ℕ) → has state.coming actor ≡ true → has (slice_index film.casts scene) actor ≡ false)
      → IsOnTheWay (waiters_with waiters came scene later) (union came (slice_index film.casts scene)) (without rest scene) later state
  shooting waiters came rest scene later state way all_needed all_due none_comes =
      let cast : ℕ = slice_index film.casts scene in
      let idle_later : (i : ℕ) → has (cast_of film (scene ∷ later)) i ≡ true → has cast i ≡ false → has (cast_of film later) i ≡ true
      = λ i due idle. elim (has_from_union cast (cast_of film later) i due) [
        | inl works ↦ absurd (false≢true (sym idle ∙ works))
        | inr rest_of ↦ rest_of
      ] in
      let waits : (i : ℕ) → has (union group (meet newcomers came)) i ≡ true → has (cast_of film later) i ≡ true → has cast i ≡ false
      → has (waiting_at film group newcomers came scene later) i ≡ true
      = λ i is_one due idle. has-minus (meet (union group (meet newcomers came)) (cast_of film later)) cast i
      ∙ and_from (has (meet (union group (meet newcomers came)) (cast_of film later)) i) (not (has cast i))
      (has-meet (union group (meet newcomers came)) (cast_of film later) i
      ∙ and_from (has (union group (meet newcomers came)) i) (has (cast_of film later) i) is_one due)
      (not_from_false (has cast i) idle) in
      let of_group : (i : ℕ) → has group i ≡ true → has (union group (meet newcomers came)) i ≡ true
      = λ i known. has-union group (meet newcomers came) i ∙ or_left (has group i) (has (meet newcomers came) i) known in
      -- of the scenes that were shot, this one and those before
      let either : (s : ℕ) → WasShot (without rest scene) s → (scene ≡ s) ⊎ ((scene ≢ s) × WasShot rest s)
      = λ s shot. elim (eqb_tells scene s) [
        | inl same ↦ inl same.1
        | inr other ↦ inr (other.1, (shot.0, sym (has-without_other rest scene s other.1) ∙ shot.1))
      ] in
      let now : (s : ℕ) → scene ≡ s → waiting_at film group newcomers came scene later ≡ waiters_with waiters came scene later s
      = λ s same. sym (ap (λ b. cond {A = ℕ} b (waiting_at film group newcomers came scene later) (waiters s)) (eq-eqb scene s same)) in
      let before : (s : ℕ) → scene ≢ s → waiters s ≡ waiters_with waiters came scene later s
      = λ s other. sym (ap (λ b. cond {A = ℕ} b (waiting_at film group newcomers came scene later) (waiters s)) (ne_eqb scene s other)) in record {
        each = way.each.1;
        left_group = way.left_group;
        are_coming = λ i there. (
          (way.are_coming i there).0,
          false_from_ne_true (has (union came cast) i) (λ seen. elim (has_from_union came cast i seen) [
            | inl long_ago ↦ false≢true (sym (way.are_coming i there).1 ∙ long_ago)
            | inr just_now ↦ false≢true (sym (none_comes i there) ∙ just_now)
          ]),
        );
        are_here = way.are_here;
        have_come = λ i there due. has-union (union came cast) (next_cast later) i ∙ or_left (has (union came cast) i) (has (next_cast later) i)
            (way.have_come i there (all_due i there));
        worked = λ s i shot works. has-union came cast i ∙ elim (either s shot) [
          | inl same ↦ or_right (has came i) (has cast i) (subst (λ k. has (slice_index film.casts k) i ≡ true) (sym same) works)
          | inr other ↦ or_left (has came i) (has cast i) (way.worked s i other.1 works)
        ];
        wait = λ s i shot known idle due. elim (either s shot) [
          | inl same ↦ subst (λ k. has k i ≡ true) (now s same) (waits i (of_group i known) due (subst (λ k. has (slice_index film.casts k) i ≡ false) (sym same) idle))
          | inr other ↦ subst (λ k. has k i ≡ true) (before s other.0) (way.wait s i other.1 known idle
              (has-union cast (cast_of film later) i ∙ or_right (has cast i) (has (cast_of film later) i) due))
        ];
        priced = λ s shot. elim (either s shot) [
          | inl same ↦ subst (λ k. AreWaiting film set group state s k) (now s same) (subst (λ k. AreWaiting film set group state k
              (waiting_at film group newcomers came scene later)) same (record {
                stay = λ i known stays idle. waits i (of_group i known) (idle_later i (all_needed i known stays) idle) idle;
                early = state.here;
                later = [];
                are_here = sym (append-nil state.here);
                came = λ i there idle. (let seen : has came i ≡ true = elim (has_from_union came cast i (way.have_come i there (all_due i there))) [
                  | inl long_ago ↦ long_ago
                  | inr works ↦ absurd (false≢true (sym idle ∙ works))
                ] in
                    waits i (has-union group (meet newcomers came) i ∙ or_right (has group i) (has (meet newcomers came) i)
                    (has-meet newcomers came i ∙ and_from (has newcomers i) (has came i) (way.are_here i there) seen))
                    (idle_later i (all_due i there) idle) idle);
                not_yet = λ i there works. empty_has i there;
                kept = λ i known with_one idle. absurd (contains_none (mates_has film set [] i with_one).3.0 (mates_has film set [] i with_one).3.1);
              }))
          | inr other ↦ subst (λ k. AreWaiting film set group state s k) (before s other.0) (way.priced s other.1)
        ];
      }
