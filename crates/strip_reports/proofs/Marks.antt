-- The marks of a scene are those of each of its days.
use Rattle.std.proofs.Common.{◌≡◌, ℕ, zero, suc, ◌+◌, ◌-◌, ◌<◌, ◌≤◌, Bool, true, false, not, ◌&&◌, ◌||◌, List, ◌++◌, All, length, get_or, take, drop, replicate, slice_index, sum_by, refl, sym, ap, ◌∙◌, arith}
use Rattle.std.specs.List.{list_any}
use Rattle.std.proofs.Math.Seq.{drop-append-add, take-append-add}
use Rattle.std.proofs.lemmas.List.{drop-append-le, drop-replicate, drop_more, get_or-append-add, get_or-replicate, get_or_append_left, length-replicate, take-append-drop, take-append-le, take-replicate}
use Rattle.std.proofs.lemmas.List.Concat.{flat_map-append, length-flat_map}
use Rattle.std.proofs.lemmas.List.Elements.{All-drop, All-take}
use Rattle.std.proofs.lemmas.List.Folds.{list_any-append}
use Rattle.std.proofs.lemmas.List.Sums.{sum_by_more}
use Rattle.std.proofs.Math.Bool.{or-false}
use Rattle.strip_mask.specs.Set.{has}
use Rattle.strip_model.specs.Film.{FilmData}
use Rattle.strip_model.specs.Order.{IsOrder}
use Rattle.strip_model.specs.Pay.{works}
use Rattle.strip_model.specs.Data.{InstanceData, IsInstance}
use Rattle.strip_model.specs.FilmOf.{film_of}
use Rattle.strip_reports.specs.Days.{crews_of, days_of, is_held, scene_at, waits_on, works_among, works_on}
use Rattle.strip_reports.proofs.Held.{any_days}
use Rattle.strip_reports.proofs.Paid.{some_days}

-- days of a scene without the actor
idle : (q : ℕ → Bool) (n x : ℕ) → q x ≡ false → list_any q (replicate n x) ≡ false
idle q zero x off = refl
idle q (suc n) x off = rw off (idle q n x off)

-- ---- a day of a scene of `days` days, that stands behind `before` and before `after`

module _ (before after : List ℕ) (days cast n : ℕ) (within : n < days) where
  abbrev crews : List ℕ
  crews = before ++ (replicate days cast ++ after)

  pub cast_there : get_or crews (length before + n) 0 ≡ cast
  cast_there =
      get_or-append-add before (replicate days cast ++ after) n 0
      ∙ get_or_append_left (replicate days cast) after 0 n (omega (arith, within, length-replicate days cast))
      ∙ get_or-replicate days n cast 0 within

  earlier : take (length before + n) crews ≡ before ++ replicate n cast
  earlier =
      take-append-add before (replicate days cast ++ after) n
      ∙ ap (λ (list : List ℕ). before ++ list) (take-append-le n (replicate days cast) after (omega (arith, within, length-replicate days cast))
      ∙ take-replicate n days cast (omega (arith, within)))

  later : drop (length before + n + 1) crews ≡ replicate (days - (n + 1)) cast ++ after
  later =
      ap (λ (k : ℕ). drop k crews) (omega arith)
      ∙ drop-append-add before (replicate days cast ++ after) (n + 1)
      ∙ drop-append-le (n + 1) (replicate days cast) after (omega (arith, within, length-replicate days cast))
      ∙ ap (λ (list : List ℕ). list ++ after) (drop-replicate (n + 1) days cast)

  -- who doesn't work in the scene waits if he works before it and behind it
  pub waits_there : (actor : ℕ) → waits_on crews actor (length before + n)
      ≡ (not (has cast actor) && (list_any (λ crew. has crew actor) before && list_any (λ crew. has crew actor) after))
  waits_there actor =
      (λ i. not (has (cast_there i) actor) && (list_any q (earlier i) && list_any q (later i))) ∙ by_test (has cast actor) refl
    where
      q : ℕ → Bool
      q = λ crew. has crew actor

      by_test : (b : Bool) → q cast ≡ b
          → (not b && (list_any q (before ++ replicate n cast) && list_any q (replicate (days - (n + 1)) cast ++ after)))
          ≡ (not b && (list_any q before && list_any q after))
      by_test true on = refl
      by_test false off =
          let begun : list_any q (before ++ replicate n cast) ≡ list_any q before
          = list_any-append q before (replicate n cast) ∙ ap (λ (b : Bool). list_any q before || b) (idle q n cast off) ∙ or-false (list_any q before) in
          let back : list_any q (replicate (days - (n + 1)) cast ++ after) ≡ list_any q after
          = list_any-append q (replicate (days - (n + 1)) cast) after ∙ ap (λ (b : Bool). b || list_any q after) (idle q (days - (n + 1)) cast off) in
          λ i. begun i && back i

-- ---- the days of an order

days_long : (film : FilmData) (scenes : List ℕ) → length (crews_of film scenes) ≡ days_of film scenes
days_long film scenes =
    length-flat_map (λ scene. replicate (slice_index film.days scene) (slice_index film.casts scene)) scenes
    ∙ (λ i. sum_by (λ scene. length-replicate (slice_index film.days scene) (slice_index film.casts scene) i) scenes)

turned : (now begun back : Bool) → (not now && (begun && back)) ≡ (begun && back && not now)
turned true true true = refl
turned true true false = refl
turned true false back = refl
turned false true true = refl
turned false true false = refl
turned false false back = refl

module _ (inst : InstanceData) (order : List ℕ) (place day actor : ℕ) (is : IsInstance inst) (is_order : IsOrder (length inst.scenes) order) (within : place < length order)
    (from : days_of (film_of inst) (take place order) ≤ day) (below : day < days_of (film_of inst) (take (place + 1) order)) where
  abbrev film : FilmData
  film = film_of inst

  abbrev scene : ℕ
  scene = scene_at order place

  abbrev before : List ℕ
  before = crews_of film (take place order)

  abbrev after : List ℕ
  after = crews_of film (drop (place + 1) order)

  abbrev n : ℕ
  n = day - days_of film (take place order)

  parted : crews_of film order ≡ before ++ (replicate (slice_index film.days scene) (slice_index film.casts scene) ++ after)
  parted =
      ap (crews_of film) (sym (take-append-drop place order))
      ∙ flat_map-append (λ x. replicate (slice_index film.days x) (slice_index film.casts x)) (take place order) (drop place order)
      ∙ ap (λ (list : List ℕ). before ++ crews_of film list) (drop_more order place 0 within)

  there : day ≡ length before + n
  there = omega (arith, from, days_long film (take place order))

  of_scene : n < slice_index film.days scene
  of_scene = omega (arith, from, below, sum_by_more (slice_index film.days) order place 0 within)

  pub works_that_day : works_on (crews_of film order) actor day ≡ works film actor scene
  works_that_day =
      (λ i. works_on (parted i) actor (there i))
      ∙ ap (λ (crew : ℕ). has crew actor) (cast_there before after (slice_index film.days scene) (slice_index film.casts scene) n of_scene)

  pub waits_that_day : waits_on (crews_of film order) actor day ≡ is_held film order place actor
  waits_that_day =
      let some : All (λ x. 0 < slice_index film.days x) order = some_days inst order is is_order in
      let begun : list_any (λ crew. has crew actor) before ≡ works_among film (take place order) actor
      = any_days (λ crew. has crew actor) (slice_index film.days) (slice_index film.casts) (take place order) (All-take (λ x. 0 < slice_index film.days x) place order some) in
      let back : list_any (λ crew. has crew actor) after ≡ works_among film (drop (place + 1) order) actor
      = any_days (λ crew. has crew actor) (slice_index film.days) (slice_index film.casts) (drop (place + 1) order) (All-drop (λ x. 0 < slice_index film.days x) (place + 1) order some) in
      (λ i. waits_on (parted i) actor (there i))
      ∙ waits_there before after (slice_index film.days scene) (slice_index film.casts scene) n of_scene actor
      ∙ (λ i. not (works film actor scene) && (begun i && back i))
      ∙ turned (works film actor scene) (works_among film (take place order) actor) (works_among film (drop (place + 1) order) actor)
