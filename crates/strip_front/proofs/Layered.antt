-- What holds of the layers of a film: their paths are open, apart and few, and no open path pays less.
use Rattle.std.proofs.Common.{◌≡◌, ◌≢◌, ℕ, zero, suc, ◌+◌, ◌*◌, ◌^◌, ◌<◌, ◌≤◌, true, List, [], ◌∷◌, ◌++◌, length, get_or, sum_by, All, Contains, refl, sym, ap, ◌∙◌, subst, arith}
use Rattle.std.specs.List.{AllPairs, flat_map}
use Rattle.std.proofs.lemmas.List.{length-map, length_push}
use Rattle.std.proofs.lemmas.List.Concat.{length-flat_map}
use Rattle.std.proofs.lemmas.List.Elements.{All-nil, All-cons, All-contains, Contains-get_or}
use Rattle.std.proofs.lemmas.List.Sums.{sum_by-le}
use Rattle.strip_mask.specs.Set.{has, members, size, without}
use Rattle.strip_mask.proofs.Below.{IsSet-full}
use Rattle.strip_mask.proofs.Members.{Contains-members}
use Rattle.strip_mask.proofs.Sizes.{length-members, size-empty, size-le}
use Rattle.strip_mask.proofs.Below.{size-full}
use Rattle.strip_model.specs.declared.kind.Kind.{Kind}
use Rattle.strip_model.specs.Film.{FilmData}
use Rattle.strip_model.proofs.Blocks.{All-from_contains}
use Rattle.strip_model.proofs.Lists.{contains_here}
use Rattle.strip_film.specs.Film.{IsFilm, LiesIn, all_scenes}
use Rattle.strip_film.specs.Finish.{AreFirsts, rest_after, steps_cost}
use Rattle.strip_film.specs.Path.{IsPath, PathData, extended}
use Rattle.strip_film.specs.Rules.{IsOpen}
use Rattle.strip_film.specs.Shoot.{ready, step_cost}
use Rattle.strip_film.proofs.Lists.{AllRemained-from_ready, rest_after-append, size-rest_after, steps_cost-append}
use Rattle.strip_film.proofs.Moves.{AreFirsts-split}
use Rattle.strip_film.proofs.Paths.{rest_lies}
use Rattle.strip_rule.specs.Rule.{open_firsts}
use Rattle.strip_rule.proofs.Open.{open_begins_least}
use Rattle.strip_rule.proofs.Firsts.{firsts_set}
use Rattle.strip_lines.specs.Lines.{rules_of}
use Rattle.strip_lines.specs.Paths.{path_along}
use Rattle.strip_lines.specs.Parts.{no_task}
use Rattle.strip_paths.specs.Paths.{paths_after}
use Rattle.strip_paths.proofs.Added.{Differs, Pays, apart_of, each_of, more_of, pairs_of, pays_of}
use Rattle.strip_paths.proofs.After.{each_after, more_open}
use Rattle.strip_paths.proofs.Lists.{All-flat_map, Contains-flat_map, Contains-map}
use Rattle.strip_front.specs.Layers.{layer}
use Rattle.strip_front.proofs.Facts.{LayerFacts}

-- ---- lists, by their last scene

-- a list that isn't empty, as what stands before its last element and this
last_of : {X : Type 0} (x : X) (xs : List X) → (before : List X) × (last : X) × (x ∷ xs ≡ before ++ last ∷ [])
last_of x [] = ([], x, refl)
last_of x (y ∷ ys) = let later = last_of y ys in (x ∷ later.0, later.1, ap (λ zs. x ∷ zs) later.2)

-- ---- the paths of a layer

module _ (kind : Kind) (film : FilmData) where
  abbrev IsOne : PathData → Type 0
  IsOne = IsOpen (rules_of kind film)

  -- what holds of each path of a layer, by the path of the layer before that it goes on from
  each_later : (P : PathData → Type 0) (depth : ℕ)
      → ((path : PathData) → Contains (layer film depth) path → (scene : ℕ) → has (open_firsts film path.rest) scene ≡ true → P (extended film path scene))
      → All P (layer film (suc depth))
  each_later P depth holds = each_of P [] (flat_map (paths_after film) (layer film depth)) (All-nil P)
      (All-flat_map P (paths_after film) (layer film depth)
      (All-from_contains (λ path. All P (paths_after film path)) (layer film depth) (λ path there. each_after film P path (holds path there))))

  empty_open : IsOne (path_along film [])
  empty_open = (record { remained = tt; left = refl; steps = refl }, tt)

  layer_open : (depth : ℕ) → All IsOne (layer film depth)
  layer_open zero = All-cons IsOne (path_along film []) [] empty_open (All-nil IsOne)
  layer_open (suc depth) = each_later IsOne depth (λ path there scene member.
      more_open kind film path scene (All-contains IsOne (layer film depth) path (layer_open depth) there) member)

  abbrev IsLong : ℕ → PathData → Type 0
  IsLong depth path = length path.scenes ≡ depth

  layer_long : (depth : ℕ) → All (IsLong depth) (layer film depth)
  layer_long zero = All-cons (IsLong 0) (path_along film []) [] refl (All-nil (IsLong 0))
  layer_long (suc depth) = each_later (IsLong (suc depth)) depth (λ path there scene member.
      omega (arith, length_push path.scenes scene, All-contains (IsLong depth) (layer film depth) path (layer_long depth) there))

  layer_apart : (depth : ℕ) → AllPairs (λ a b. a.rest ≢ b.rest) (layer film depth)
  layer_apart zero = pairs_of Differs (path_along film [] ∷ []) (All-nil (Differs (path_along film [])), tt)
  layer_apart (suc depth) = pairs_of Differs (layer film (suc depth)) (apart_of [] (flat_map (paths_after film) (layer film depth)) tt)

  -- ---- how many they are

  few_after : (path : PathData) → length (paths_after film path) ≤ 64
  few_after path =
      let count : length (paths_after film path) ≡ size (open_firsts film path.rest)
      = length-map (members (open_firsts film path.rest)) (extended film path) ∙ length-members (open_firsts film path.rest) in
      omega (arith, count, size-le (open_firsts film path.rest))

  layer_few : (depth : ℕ) → length (layer film depth) ≤ 64 ^ depth
  layer_few zero = omega arith
  layer_few (suc depth) =
      let total : length (flat_map (paths_after film) (layer film depth)) ≡ sum_by (λ path. length (paths_after film path)) (layer film depth)
      = length-flat_map (paths_after film) (layer film depth) in
      let most : sum_by (λ path. length (paths_after film path)) (layer film depth) ≤ length (layer film depth) * 64
      = sum_by-le (λ path. length (paths_after film path)) 64 (layer film depth)
      (All-from_contains (λ path. length (paths_after film path) ≤ 64) (layer film depth) (λ path _. few_after path)) in
      omega (arith, total, most, more_of [] (flat_map (paths_after film) (layer film depth)), layer_few depth)

  -- ---- what they go on from

  abbrev GoesOn : ℕ → PathData → Type 0
  GoesOn before path =
      (shorter : PathData) × Contains (layer film before) shorter × (scene : ℕ) × (has (open_firsts film shorter.rest) scene ≡ true)
      × (path ≡ extended film shorter scene)

  layer_goes_on : (before : ℕ) → All (GoesOn before) (layer film (suc before))
  layer_goes_on before = each_later (GoesOn before) before (λ path there scene member. (path, there, scene, member, refl))

  goes_on_from : (depth before : ℕ) → depth ≡ suc before → (path : PathData) → Contains (layer film depth) path → GoesOn before path
  goes_on_from depth before same path there =
      All-contains (GoesOn before) (layer film (suc before)) path (layer_goes_on before)
      (subst (λ (n : ℕ). Contains (layer film n) path) same there)

  module _ (is : IsFilm film) where
    -- a path that goes on from one of a layer has its like in the next one
    pays_after : (depth : ℕ) (path : PathData) (scene : ℕ) → Contains (layer film depth) path → has (open_firsts film path.rest) scene ≡ true
        → Pays (layer film (suc depth)) (extended film path scene).rest (extended film path scene).paid
    pays_after depth path scene there member =
        let lies : LiesIn film path.rest = rest_lies film path (All-contains IsOne (layer film depth) path (layer_open depth) there).0 in
        pays_of [] (flat_map (paths_after film) (layer film depth)) (extended film path scene)
        (Contains-flat_map (paths_after film) (layer film depth) path (extended film path scene) there
        (Contains-map (extended film path) (members (open_firsts film path.rest)) scene
        (Contains-members (open_firsts film path.rest) scene (firsts_set film path.rest is lies) member)))

    -- while a path is shorter than the film something remains
    some_remain : (path : PathData) → IsPath film path → length path.scenes < length film.casts → path.rest ≢ 0
    some_remain path is_path short none =
        let count : length path.scenes + size (rest_after (all_scenes film) path.scenes) ≡ size (all_scenes film)
        = size-rest_after (all_scenes film) path.scenes (IsSet-full (length film.casts) is.scene_count.1)
        (AllRemained-from_ready film (all_scenes film) path.scenes is_path.remained) in
        omega (arith, count, short, ap size (sym is_path.left ∙ none), size-empty, size-full (length film.casts) is.scene_count.1)

    layer_some : (depth : ℕ) → depth ≤ length film.casts → 0 < length (layer film depth)
    layer_some zero within = omega arith
    layer_some (suc depth) within =
        let first : PathData = get_or (layer film depth) 0 no_task in
        let there : Contains (layer film depth) first = Contains-get_or (layer film depth) 0 no_task (layer_some depth (omega (arith, within))) in
        let one : IsPath film first = (All-contains IsOne (layer film depth) first (layer_open depth) there).0 in
        let long : length first.scenes ≡ depth = All-contains (IsLong depth) (layer film depth) first (layer_long depth) there in
        let begins = open_begins_least film is first.rest (rest_lies film first one) (some_remain first one (omega (arith, long, within))) in
        let pays = pays_after depth first begins.0 there begins.1 in
        omega (arith, pays.1.1)

    -- ---- no open path pays less

    layer_least : (depth : ℕ) (path : PathData) → IsOne path → length path.scenes ≡ depth → Pays (layer film depth) path.rest path.paid
    layer_least zero path is_open long = by_scenes path.scenes refl
      where
        by_scenes : (scenes : List ℕ) → path.scenes ≡ scenes → Pays (layer film 0) path.rest path.paid
        by_scenes [] are = (
          path_along film [],
          contains_here (path_along film []) [],
          ap (rest_after (all_scenes film)) (sym are) ∙ sym is_open.0.left,
          omega arith,
        )
        by_scenes (scene ∷ scenes) are = absurd (omega (arith, long, ap length are))
    layer_least (suc depth) path is_open long = by_scenes path.scenes refl (λ before. layer_least depth before)
      where
        by_last : (scenes : List ℕ) (last : ℕ) → path.scenes ≡ scenes ++ last ∷ []
            → ((before : PathData) → IsOne before → length before.scenes ≡ depth → Pays (layer film depth) before.rest before.paid)
            → Pays (layer film (suc depth)) path.rest path.paid
        by_last scenes last are shorter =
            let before : PathData = path_along film scenes in
            let firsts = AreFirsts-split (open_firsts film) (all_scenes film) last scenes (subst (AreFirsts (open_firsts film) (all_scenes film)) are is_open.1) in
            let readies = AreFirsts-split (ready film) (all_scenes film) last scenes (subst (AreFirsts (ready film) (all_scenes film)) are is_open.0.remained) in
            let before_open : IsOne before = (record { remained = readies.0; left = refl; steps = refl }, firsts.0) in
            let found = shorter before before_open (omega (arith, long, ap length are, length_push scenes last)) in
            let other : PathData = found.0 in
            let pays = pays_after depth other last found.1 (subst (λ (q : ℕ). has (open_firsts film q) last ≡ true) (sym found.2) firsts.1) in
            let left : path.rest ≡ without before.rest last
            = is_open.0.left ∙ ap (rest_after (all_scenes film)) are ∙ rest_after-append (all_scenes film) last scenes in
            let paid : path.paid ≡ before.paid + step_cost film before.rest last
            = is_open.0.steps ∙ ap (steps_cost film (all_scenes film)) are ∙ steps_cost-append film (all_scenes film) last scenes in
            let step : step_cost film other.rest last ≡ step_cost film before.rest last = ap (λ (q : ℕ). step_cost film q last) found.2 in (
              pays.0,
              pays.1,
              pays.2 ∙ ap (λ (q : ℕ). without q last) found.2 ∙ sym left,
              omega (arith, pays.3, step, paid, found.3),
            )

        by_scenes : (scenes : List ℕ) → path.scenes ≡ scenes
            → ((before : PathData) → IsOne before → length before.scenes ≡ depth → Pays (layer film depth) before.rest before.paid)
            → Pays (layer film (suc depth)) path.rest path.paid
        by_scenes [] are shorter = absurd (omega (arith, long, ap length are))
        by_scenes (scene ∷ scenes) are shorter =
            let parts = last_of scene scenes in
            by_last parts.0 parts.1 (are ∙ parts.2) shorter

pub layer_facts : (kind : Kind) (film : FilmData) → IsFilm film → (depth : ℕ) → LayerFacts kind film depth
layer_facts kind film is depth = record {
  is_open = layer_open kind film depth;
  long = layer_long kind film depth;
  apart = layer_apart kind film depth;
  few = layer_few kind film depth;
  some = layer_some kind film is depth;
  least = layer_least kind film is depth;
  goes_on = λ before same path there. goes_on_from kind film depth before same path there;
}
