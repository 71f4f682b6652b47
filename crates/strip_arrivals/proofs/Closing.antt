-- The open scenes that are closed when someone leaves or goes, and what they cost.
use Rattle.std.proofs.Common.{◌≡◌, ℕ, ◌+◌, ◌*◌, ◌<◌, Bool, true, false, not, ◌&&◌, ◌||◌, cond, eqb, List, slice_index, refl, sym, ap, ◌∙◌}
use Rattle.std.proofs.lemmas.Bool.{and_parts, eqb-true, false≢true, false_from_ne_true, and_from}
use Rattle.strip_mask.specs.Set.{IsSet, has, meet, minus, size, sum_over, with, without}
use Rattle.strip_mask.specs.Sums.{sum_below}
use Rattle.strip_mask.proofs.ByMembers.{has-meet, has-minus, has-with, has-without, has_from_meet, has_from_minus, has_from_without, same_has}
use Rattle.strip_mask.proofs.Totals.{sum_over-minus}
use Rattle.strip_group.specs.Group.{GroupData}
use Rattle.strip_group.specs.Places.{actor_at, pick}
use Rattle.strip_arrivals.specs.Arrivals.{actors_of, is_open, is_without, leaves}
use Rattle.strip_arrivals.specs.Company.{IsStage, just, open_with, scenes_where, staying}
use Rattle.strip_arrivals.specs.Gross.{gross_charge, gross_price, weighted}
use Rattle.strip_mask.proofs.Agree.{same_test}
use Rattle.strip_group.proofs.Places.{actor_there, has_from_pick, has_pick, pick-without}
use Rattle.strip_arrivals.proofs.Casts.{is_none, none_works, without_one}
use Rattle.strip_arrivals.proofs.Waits.{least_alike}
use Rattle.strip_arrivals.proofs.Chosen.{by_classes, from_scenes, has_where, open_from, open_parts, scenes_small, scenes_mono}
use Rattle.strip_arrivals.proofs.Among.{IsAmong}
use Rattle.std.proofs.Math.Bool.{and-true}

-- ---- open scenes by places

module _ (film : GroupData) (group : ℕ) where
  -- who has left of the group
  abbrev pub left_at : ℕ → ℕ
  left_at places = minus group (pick group places)

  -- without a place, one more has left
  pub left_more : (places place : ℕ) → place < size group → left_at (without places place) ≡ with (left_at places) (actor_at group place)
  left_more places place within =
      let actor : ℕ = actor_at group place in
      ap (minus group) (pick-without group places place within)
      ∙ same_has (minus group (without (pick group places) actor)) (with (left_at places) actor) (λ i.
      has-minus group (without (pick group places) actor) i ∙ ap (λ b. has group i && not b) (has-without (pick group places) actor i)
      ∙ regroup (has group i) (eqb actor i) (has (pick group places) i) (λ same. ap (has group) (sym (eqb-true actor i same)) ∙ actor_there group place within)
      ∙ sym (has-with (left_at places) actor i ∙ ap (λ b. eqb actor i || b) (has-minus group (pick group places) i)))
    where
      regroup : (g e p : Bool) → (e ≡ true → g ≡ true) → (g && not (not e && p)) ≡ (e || (g && not p))
      regroup true true p of = refl
      regroup true false p of = refl
      regroup false true p of = absurd (false≢true (of refl))
      regroup false false p of = refl

  -- fewer places leave fewer scenes open
  pub open_fewer : (places place scenes scene : ℕ) → has (open_with film group (without places place) scenes) scene ≡ true → has (open_with film group places scenes) scene ≡ true
  open_fewer places place scenes scene there =
      scenes_mono (is_without film (left_at (without places place))) (is_without film (left_at places)) scenes scene (λ none.
      is_none film (left_at places) scene (λ i works has_left. none_works film (left_at (without places place)) scene i none works (still i has_left))) there
    where
      still : (i : ℕ) → has (left_at places) i ≡ true → has (left_at (without places place)) i ≡ true
      still i has_left =
          let parts = has_from_minus group (pick group places) i has_left in
          has-minus group (pick group (without places place)) i
          ∙ and_from (has group i) (not (has (pick group (without places place)) i)) parts.0
          (ap not (false_from_ne_true (has (pick group (without places place)) i) (λ stays.
          let found = has_from_pick group (without places place) i stays in
          let before = has_from_without places place found.0 found.2 in
          false≢true (sym parts.1 ∙ ap (has (pick group places)) (sym found.3) ∙ has_pick group places found.0 found.1 before.1))))

  module _ (places place scenes : ℕ) (within : place < size group) (small : IsSet scenes) where
    -- the scenes that are open, and those that are when the one at a place has left too
    abbrev pub before : ℕ
    before = open_with film group places scenes

    abbrev pub later : ℕ
    later = open_with film group (without places place) scenes

    -- what these have
    pub later_has : (scene : ℕ) → has later scene ≡ (has scenes scene && (is_without film (left_at places) scene && not (has (slice_index film.casts scene) (actor_at group place))))
    later_has scene =
        has_where (is_without film (left_at (without places place))) scenes scene small
        ∙ ap (λ b. has scenes scene && b) (ap (λ (s : ℕ). is_without film s scene) (left_more places place within)
        ∙ without_one film (left_at places) (actor_at group place) scene)

    pub before_has : (scene : ℕ) → has before scene ≡ (has scenes scene && is_without film (left_at places) scene)
    before_has scene = has_where (is_without film (left_at places)) scenes scene small

    -- the open scenes that are closed when the one at a place leaves
    pub closing : (scene : ℕ) → has (minus before later) scene
        ≡ (has scenes scene && (is_without film (left_at places) scene && has (slice_index film.casts scene) (actor_at group place)))
    closing scene =
        has-minus before later scene ∙ (λ i. before_has scene i && not (later_has scene i))
        ∙ regroup (has scenes scene) (is_without film (left_at places) scene) (has (slice_index film.casts scene) (actor_at group place))
      where
        regroup : (s w c : Bool) → ((s && w) && not (s && (w && not c))) ≡ (s && (w && c))
        regroup true true true = refl
        regroup true true false = refl
        regroup true false c = refl
        regroup false w c = refl

    -- the numbers of those that are closed and of those that stay
    pub parted : (numbers : List ℕ) → sum_over numbers (minus before later) + sum_over numbers later ≡ sum_over numbers before
    parted numbers =
        ap (λ (s : ℕ). sum_over numbers (minus before later) + sum_over numbers s) (same_has later (meet before later) (λ scene.
        later_has scene ∙ sym (has-meet before later scene ∙ (λ i. before_has scene i && later_has scene i)
        ∙ regroup (has scenes scene) (is_without film (left_at places) scene) (not (has (slice_index film.casts scene) (actor_at group place))))))
        ∙ sum_over-minus numbers before later
      where
        regroup : (s w c : Bool) → ((s && w) && (s && (w && c))) ≡ (s && (w && c))
        regroup true true c = refl
        regroup true false c = refl
        regroup false w c = refl

-- the open scenes of a class are those of the class that are open
pub open_class : (film : GroupData) (set group newcomers places these : ℕ) → IsSet set
    → open_with film group places (just film newcomers these set) ≡ meet (open_with film group places set) (just film newcomers these set)
open_class film set group newcomers places these small =
    let test : ℕ → Bool = λ s. eqb (meet (slice_index film.casts s) newcomers) these in
    let free : ℕ → Bool = is_without film (minus group (pick group places)) in
    let scenes : ℕ = just film newcomers these set in
    same_has (open_with film group places scenes) (meet (open_with film group places set) scenes) (λ scene.
    has_where free scenes scene (scenes_small test set) ∙ ap (λ b. b && free scene) (has_where test set scene small)
    ∙ regroup (has set scene) (test scene) (free scene)
    ∙ sym (has-meet (open_with film group places set) scenes scene ∙ (λ i. has_where free set scene small i && has_where test set scene small i)))
  where
    regroup : (s t w : Bool) → ((s && t) && w) ≡ ((s && w) && (s && t))
    regroup true true true = refl
    regroup true true false = refl
    regroup true false true = refl
    regroup true false false = refl
    regroup false t w = refl

-- ---- charges at a stage

-- who is here is a newcomer
pub of_here : (newcomers coming : ℕ) (here : List ℕ) (gone : ℕ) → IsStage newcomers coming here gone → (actor : ℕ) → has (actors_of here) actor ≡ true
    → has newcomers actor ≡ true
of_here newcomers coming here gone stage actor is_here = stage.whole actor ∙ here_one (has coming actor) (has (actors_of here) actor) (has gone actor) is_here
  where
    here_one : (c h g : Bool) → h ≡ true → (c || (h || g)) ≡ true
    here_one true h g is = refl
    here_one false true g is = refl
    here_one false false g is = absurd (false≢true is)

module _ (film : GroupData) (set group newcomers coming : ℕ) (here : List ℕ) (gone : ℕ) (stage : IsStage newcomers coming here gone) (small : IsSet set) (places : ℕ) where
  -- the newcomers in an open scene in which nobody works who is to come are here
  pub here_in : (scene actor : ℕ) → is_open film (staying group coming here gone places) scene ≡ true → is_without film coming scene ≡ true
      → has (meet (slice_index film.casts scene) newcomers) actor ≡ true → has (actors_of here) actor ≡ true
  here_in scene actor unpaid free there =
      let both = has_from_meet (slice_index film.casts scene) newcomers actor there in
      let absent : has coming actor ≡ false = false_from_ne_true (has coming actor) (λ expected. none_works film coming scene actor free both.0 expected) in
      let stays : has gone actor ≡ false = false_from_ne_true (has gone actor) (λ is_gone.
      none_works film gone scene actor (open_parts film (left_at film group places) gone scene unpaid).1 both.0 is_gone) in
      last (has coming actor) (has (actors_of here) actor) (has gone actor) absent stays (sym (stage.whole actor) ∙ both.1)
    where
      last : (c h g : Bool) → c ≡ false → g ≡ false → (c || (h || g)) ≡ true → h ≡ true
      last c true g absent stays is = refl
      last false false g absent stays is = absurd (false≢true (sym stays ∙ is))
      last true false g absent stays is = absurd (false≢true (sym absent))

  -- nobody who is gone works with just these
  pub none_gone : (these scene : ℕ) → IsAmong here these → meet (slice_index film.casts scene) newcomers ≡ these → is_without film gone scene ≡ true
  none_gone these scene among is = is_none film gone scene (λ actor works is_gone.
      let newcomer : has newcomers actor ≡ true = stage.whole actor ∙ gone_one (has coming actor) (has (actors_of here) actor) (has gone actor) is_gone in
      let inside : has these actor ≡ true = ap (λ (s : ℕ). has s actor) (sym is) ∙ has-meet (slice_index film.casts scene) newcomers actor
      ∙ and_from (has (slice_index film.casts scene) actor) (has newcomers actor) works newcomer in
      false≢true (sym (stage.not_gone actor (among actor inside)) ∙ is_gone))
    where
      gone_one : (c h g : Bool) → g ≡ true → (c || (h || g)) ≡ true
      gone_one true h g is = refl
      gone_one false true g is = refl
      gone_one false false g is = is

  -- so their scenes are open where nobody works who has left
  pub open_here : (these scene : ℕ) → IsAmong here these → meet (slice_index film.casts scene) newcomers ≡ these
      → is_open film (staying group coming here gone places) scene ≡ is_without film (left_at film group places) scene
  open_here these scene among is =
      same_test (is_open film (staying group coming here gone places) scene) (is_without film (left_at film group places) scene)
      (λ unpaid. (open_parts film (left_at film group places) gone scene unpaid).0)
      (λ free. open_from film (left_at film group places) gone scene free (none_gone these scene among is))

  -- and they cost the same
  pub priced_as : (these scene : ℕ) → meet (slice_index film.casts scene) newcomers ≡ these
      → gross_price film set group (staying group coming here gone places) (slice_index film.casts scene) ≡ gross_price film set group (staying group coming here gone places) these
  priced_as these scene is =
      ap (λ (n : ℕ). sum_over film.holds (minus group (left_at film group places)) + n)
      (least_alike film set (staying group coming here gone places) (slice_index film.casts scene) these (λ actor is_here.
      let newcomer : has newcomers actor ≡ true = of_here newcomers coming here gone stage actor is_here in
      sym (ap (λ (s : ℕ). has s actor) (sym is) ∙ has-meet (slice_index film.casts scene) newcomers actor
      ∙ ap (λ b. has (slice_index film.casts scene) actor && b) newcomer ∙ and-true (has (slice_index film.casts scene) actor))))

  -- the scenes that are closed by one
  abbrev pub closed : ℕ → ℕ
  closed actor = scenes_where (λ scene. is_open film (staying group coming here gone places) scene && has (slice_index film.casts scene) actor) set

  -- what is known of one that is closed
  pub in_closed : (actor scene : ℕ) → has (closed actor) scene ≡ true → (has set scene ≡ true)
      × (is_open film (staying group coming here gone places) scene ≡ true) × (has (slice_index film.casts scene) actor ≡ true)
  in_closed actor scene there =
      let parts = from_scenes (λ s. is_open film (staying group coming here gone places) s && has (slice_index film.casts s) actor) set scene there in
      let both = and_parts (is_open film (staying group coming here gone places) scene) (has (slice_index film.casts scene) actor) parts.1 in
      (parts.0, both.0, both.1)

  -- what is charged for them, class by class
  pub charge_by : (actor classes : ℕ) (kinds rate : ℕ → ℕ)
      → ((kind : ℕ) → kind < classes → rate kind ≡ gross_price film set group (staying group coming here gone places) (kinds kind))
      → ((scene : ℕ) → has (closed actor) scene ≡ true
      → sum_below classes (λ kind. cond {A = ℕ} (eqb (kinds kind) (meet (slice_index film.casts scene) newcomers)) 1 0) ≡ 1)
      → sum_below classes (λ kind. rate kind * sum_over film.days (meet (closed actor) (just film newcomers (kinds kind) set)))
      ≡ gross_charge film set group (staying group coming here gone places) (leaves actor)
  charge_by actor classes kinds rate are once =
      let price : ℕ → ℕ = λ scene. gross_price film set group (staying group coming here gone places) (slice_index film.casts scene) in
      let test : ℕ → Bool = λ scene. is_open film (staying group coming here gone places) scene && has (slice_index film.casts scene) actor in
      by_classes film set newcomers (closed actor) small (λ scene there. (in_closed actor scene there).0) classes kinds rate price once
      (λ kind scene below there is. priced_as (kinds kind) scene is ∙ sym (are kind below))
      ∙ (λ i. weighted film (λ scene. has_where test set scene small i) price)

  -- of a class, what is closed
  pub class_has : (actor these scene : ℕ) → IsAmong here these
      → has (meet (closed actor) (just film newcomers these set)) scene
      ≡ (has (just film newcomers these set) scene && (is_without film (left_at film group places) scene && has (slice_index film.casts scene) actor))
  class_has actor these scene among =
      let test : ℕ → Bool = λ s. is_open film (staying group coming here gone places) s && has (slice_index film.casts s) actor in
      has-meet (closed actor) (just film newcomers these set) scene ∙ ap (λ b. b && has (just film newcomers these set) scene) (has_where test set scene small)
      ∙ regroup (has (just film newcomers these set) scene) (has set scene) (is_open film (staying group coming here gone places) scene)
      (is_without film (left_at film group places) scene) (has (slice_index film.casts scene) actor)
      (λ there. (of_class there).0) (λ there. open_here these scene among (of_class there).1)
    where
      of_class : has (just film newcomers these set) scene ≡ true → (has set scene ≡ true) × (meet (slice_index film.casts scene) newcomers ≡ these)
      of_class there =
          let parts = from_scenes (λ s. eqb (meet (slice_index film.casts s) newcomers) these) set scene there in
          (parts.0, eqb-true (meet (slice_index film.casts scene) newcomers) these parts.1)

      regroup : (j s o w c : Bool) → (j ≡ true → s ≡ true) → (j ≡ true → o ≡ w) → ((s && (o && c)) && j) ≡ (j && (w && c))
      regroup true true true w true of same = same refl ∙ first w
        where
          first : (b : Bool) → b ≡ (b && true)
          first true = refl
          first false = refl
      regroup true true true w false of same = second w
        where
          second : (b : Bool) → false ≡ (b && false)
          second true = refl
          second false = refl
      regroup true true false w c of same = ap (λ b. b && c) (same refl)
      regroup true false o w c of same = absurd (false≢true (of refl))
      regroup false true true w true of same = refl
      regroup false true true w false of same = refl
      regroup false true false w c of same = refl
      regroup false false o w c of same = refl

  -- where nobody who is to come works in them, the newcomers in each are here
  pub among_closed : (actor : ℕ)
      → ((scene : ℕ) → has set scene ≡ true → is_open film (staying group coming here gone places) scene ≡ true → has (slice_index film.casts scene) actor ≡ true
      → is_without film coming scene ≡ true)
      → (scene : ℕ) → has (closed actor) scene ≡ true → IsAmong here (meet (slice_index film.casts scene) newcomers)
  among_closed actor free scene there =
      let parts = in_closed actor scene there in
      λ who inside. here_in scene who parts.1 (free scene parts.0 parts.1 parts.2) inside
