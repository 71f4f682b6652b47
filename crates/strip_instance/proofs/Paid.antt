-- What the scenes of an arranged instance pay in the order of their numbers.
use Rattle.std.proofs.Common.{◌≡◌, ℕ, ◌<◌, ◌*◌, ◌||◌, Bool, true, false, cond, List, [], ◌∷◌, length, get_or, map, All, slice_index, sum_by, refl, sym, ap, ◌∙◌, arith}
use Rattle.std.specs.List.{list_any}
use Rattle.std.proofs.lemmas.List.{ext_get_or, get_or_default, get_or-map, length-map}
use Rattle.std.proofs.lemmas.List.Elements.{All-head, All-tail}
use Rattle.std.proofs.lemmas.List.Sums.{sum_by-cons}
use Rattle.strip_model.proofs.Blocks.{All-to_last}
use Rattle.strip_mask.specs.Set.{has, numbers_below}
use Rattle.strip_mask.proofs.Members.{length-numbers_below, number_at}
use Rattle.strip_mask.proofs.Sums.{sum_below-ext}
use Rattle.strip_model.specs.Film.{FilmData}
use Rattle.strip_model.specs.Order.{IsOrder}
use Rattle.strip_model.specs.Pay.{day_pay, from_first, pay_of, span, to_last, works}
use Rattle.strip_model.proofs.Spans.{All-from_first, to_last-cons}
use Rattle.strip_model.specs.Data.{InstanceData, SceneData}
use Rattle.strip_model.specs.FilmOf.{film_of}
use Rattle.strip_instance.specs.Arranged.{arranged, no_scene, scene_in}

-- the part of a list from the first number that passes to the last, where its numbers are put for others
module _ (put : ℕ → ℕ) (p q : ℕ → Bool) where
  abbrev Agree : ℕ → Type 0
  Agree x = q x ≡ p (put x)

  any-map : (xs : List ℕ) → All Agree xs → list_any q xs ≡ list_any p (map put xs)
  any-map [] agree = refl
  any-map (x ∷ xs) agree =
      let here : q x ≡ p (put x) = All-head Agree x xs agree in
      let later = any-map xs (All-tail Agree x xs agree) in
      λ i. here i || later i

  from_first-map : (xs : List ℕ) → All Agree xs → from_first p (map put xs) ≡ map put (from_first q xs)
  from_first-map [] agree = refl
  from_first-map (x ∷ xs) agree =
      let here : q x ≡ p (put x) = All-head Agree x xs agree in
      ap (λ b. cond b (put x ∷ map put xs) (from_first p (map put xs))) (sym here)
      ∙ elim (q x) as (λ b. cond b (put x ∷ map put xs) (from_first p (map put xs)) ≡ map put (cond b (x ∷ xs) (from_first q xs))) [
        | true ↦ refl
        | false ↦ from_first-map xs (All-tail Agree x xs agree)
      ]

  to_last-map : (xs : List ℕ) → All Agree xs → to_last p (map put xs) ≡ map put (to_last q xs)
  to_last-map [] agree = refl
  to_last-map (x ∷ xs) agree =
      let here : q x ≡ p (put x) = All-head Agree x xs agree in
      let any = any-map xs (All-tail Agree x xs agree) in
      let later = to_last-map xs (All-tail Agree x xs agree) in
      to_last-cons p (put x) (map put xs)
      ∙ (λ i. cond (sym here i || sym any i) (put x ∷ later i) [])
      ∙ elim (q x || list_any q xs) as (λ b. cond b (put x ∷ map put (to_last q xs)) [] ≡ map put (cond b (x ∷ to_last q xs) [])) [
        | true ↦ refl
        | false ↦ refl
      ]
      ∙ ap (map put) (sym (to_last-cons q x xs))

sum_by-map : (put f h : ℕ → ℕ) (xs : List ℕ) → All (λ x. h x ≡ f (put x)) xs → sum_by f (map put xs) ≡ sum_by h xs
sum_by-map put f h [] same = refl
sum_by-map put f h (x ∷ xs) same =
    omega (
      arith,
      sum_by-cons f (put x) (map put xs),
      sum_by-cons h x xs,
      All-head (λ y. h y ≡ f (put y)) x xs same,
      sum_by-map put f h xs (All-tail (λ y. h y ≡ f (put y)) x xs same),
    )

module _ (inst : InstanceData) (order : List ℕ) where
  abbrev film : FilmData
  film = film_of inst

  abbrev moved : FilmData
  moved = film_of (arranged inst order)

  abbrev scene_at : ℕ → ℕ
  scene_at place = get_or order place 0

  abbrev own : List ℕ
  own = numbers_below (length moved.casts)

  counted : length moved.casts ≡ length order
  counted = length-map (map (scene_in inst.scenes) order) (λ (scene : SceneData). scene.cast) ∙ length-map order (scene_in inst.scenes)

  -- a number of the scene at a place is that of the scene
  number-at : (number : SceneData → ℕ) (place : ℕ) → number no_scene ≡ 0 → place < length order → scene_at place < length inst.scenes
      → slice_index (map number (map (scene_in inst.scenes) order)) place ≡ slice_index (map number inst.scenes) (scene_at place)
  number-at number place none within known =
      get_or-map number (map (scene_in inst.scenes) order) place no_scene 0 (omega (arith, within, length-map order (scene_in inst.scenes)))
      ∙ ap number (get_or-map (scene_in inst.scenes) order place 0 no_scene within)
      ∙ sym (get_or-map number inst.scenes (scene_at place) no_scene 0 known)

  module _ (is_order : IsOrder (length inst.scenes) order) where
    works-at : (actor place : ℕ) → place < length order → works moved actor place ≡ works film actor (scene_at place)
    works-at actor place within =
        ap (λ cast. has cast actor) (number-at (λ (scene : SceneData). scene.cast) place refl within (is_order.known place 0 within))

    pay-at : (actor place : ℕ) → place < length order → day_pay moved actor place ≡ day_pay film actor (scene_at place)
    pay-at actor place within =
        let days = number-at (λ (scene : SceneData). scene.days) place refl within (is_order.known place 0 within) in
        let here = works-at actor place within in
        λ i. days i * cond (here i) (slice_index film.rates actor) (slice_index film.holds actor)

    own_within : All (λ place. place < length order) own
    own_within k d within =
        let below : k < length order = omega (arith, within, length-numbers_below (length moved.casts), counted) in
        let at : get_or own k d ≡ k = get_or_default own k d 0 within ∙ number_at (length moved.casts) k (omega (arith, below, counted)) in
        omega (arith, at, below)

    order_is : order ≡ map scene_at own
    order_is =
        let long : length order ≡ length (map scene_at own) = omega (arith, counted, length-map own scene_at, length-numbers_below (length moved.casts)) in
        ext_get_or 0 order (map scene_at own) long (λ k within.
        let inside : k < length own = omega (arith, within, counted, length-numbers_below (length moved.casts)) in
        sym (get_or-map scene_at own k 0 0 inside ∙ ap scene_at (number_at (length moved.casts) k (omega (arith, within, counted)))))

    paid : (actor : ℕ) → sum_by (day_pay moved actor) (span moved own actor) ≡ sum_by (day_pay film actor) (span film order actor)
    paid actor =
        let p = works film actor in
        let q = works moved actor in
        let Inside : ℕ → Type 0 = λ place. place < length order in
        let agree : All (λ place. q place ≡ p (scene_at place)) own = λ k d within. works-at actor (get_or own k d) (own_within k d within) in
        let from = from_first q own in
        let from_within : All Inside from = All-from_first q Inside own own_within in
        let from_agree : All (λ place. q place ≡ p (scene_at place)) from = λ k d within. works-at actor (get_or from k d) (from_within k d within) in
        let part = to_last q from in
        let part_within : All Inside part = All-to_last q Inside from from_within in
        sym (ap (λ (list : List ℕ). sum_by (day_pay film actor) (to_last p (from_first p list))) order_is
        ∙ ap (λ (list : List ℕ). sum_by (day_pay film actor) (to_last p list)) (from_first-map scene_at p q own agree)
        ∙ ap (sum_by (day_pay film actor)) (to_last-map scene_at p q from from_agree)
        ∙ sum_by-map scene_at (day_pay film actor) (day_pay moved actor) part (λ k d within. pay-at actor (get_or part k d) (part_within k d within)))

    -- what the order pays in the instance
    pub paid_in_order : pay_of moved own ≡ pay_of film order
    paid_in_order =
        sum_below-ext (length film.rates) (λ actor. sum_by (day_pay moved actor) (span moved own actor)) (λ actor. sum_by (day_pay film actor) (span film order actor))
        (λ actor within. paid actor)
