-- The tasks of a search, which are a layer's paths in another order.
use Rattle.std.proofs.Common.{◌≡◌, ℕ, zero, suc, ◌^◌, ◌≤◌, ◌&&◌, Bool, true, false, not, List, [], ◌∷◌, length, filter, All, refl, sym, ap, ◌∙◌, arith}
use Rattle.std.specs.List.Sorted.{ties}
use Rattle.std.specs.Ordering.{is_lt, nat_cmp}
use Rattle.std.proofs.lemmas.Bool.{cond-true}
use Rattle.std.proofs.lemmas.List.Elements.{All-weaker}
use Rattle.std.proofs.lemmas.List.Sorted.{All-permutation, length_permutation}
use Rattle.strip_film.specs.Film.{IsFilm}
use Rattle.strip_film.specs.Path.{IsPath, PathData}
use Rattle.strip_film.specs.Rules.{IsOpen, Rules}
use Rattle.strip_lines.specs.Parts.{no_task}
use Rattle.strip_hand.specs.Search.{AreStarts, SearchData, depth_of, search_rules}
use Rattle.strip_paths.proofs.Rests.{others_permuted}
use Rattle.strip_front.specs.Front.{IsDepth}
use Rattle.strip_front.specs.Layers.{AreTasksOf, layer, promise_of}
use Rattle.strip_front.proofs.Facts.{LayerFacts}
use Rattle.strip_front.proofs.Layered.{layer_facts}

few_by_depth : (depth count : ℕ) → count ≤ 64 ^ depth → depth ≤ 4 → count ≤ 16777216
few_by_depth zero count few within = omega (arith, few)
few_by_depth (suc zero) count few within = omega (arith, few)
few_by_depth (suc (suc zero)) count few within = omega (arith, few)
few_by_depth (suc (suc (suc zero))) count few within = omega (arith, few)
few_by_depth (suc (suc (suc (suc zero)))) count few within = omega (arith, few)
few_by_depth (suc (suc (suc (suc (suc depth))))) count few within = absurd (omega (arith, within))

module _ (search : SearchData) (depth : ℕ) (is : IsFilm search.film) (fits : IsDepth search.film depth) (are : AreTasksOf (search_rules search) depth search.tasks) where
  facts : LayerFacts search.kind search.film depth
  facts = layer_facts search.kind search.film is depth

  abbrev whole : List PathData
  whole = layer search.film depth

  count : length search.tasks ≡ length whole
  count = length_permutation whole search.tasks are.same

  all_long : All (λ task. length task.scenes ≡ depth) search.tasks
  all_long = All-permutation (λ task. length task.scenes ≡ depth) whole search.tasks are.same facts.long

  pub starts_depth : depth_of search ≡ depth
  starts_depth = all_long 0 no_task (omega (arith, count, facts.some fits.most))

  pub starts : AreStarts search
  starts = record {
    paths = All-permutation (IsPath search.film) whole search.tasks are.same
        (All-weaker (IsOpen (search_rules search)) (IsPath search.film) (λ task one. one.0) whole facts.is_open);
    long = λ k d within. all_long k d within ∙ sym starts_depth;
    apart = others_permuted whole search.tasks are.same facts.apart;
    few = few_by_depth depth (length search.tasks) (omega (arith, count, facts.few)) fits.few;
  }

-- ---- where all promise the same

filter_whole : {X : Type 0} (p : X → Bool) → ((x : X) → p x ≡ true) → (xs : List X) → filter p xs ≡ xs
filter_whole p all [] = refl
filter_whole p all (x ∷ xs) = cond-true (p x) (x ∷ filter p xs) (filter p xs) (all x) ∙ ap (λ ys. x ∷ ys) (filter_whole p all xs)

module _ (rules : Rules) (none : (paid set : ℕ) → rules.promise paid set ≡ 0) where
  abbrev first : PathData → PathData → Bool
  first a b = is_lt (nat_cmp (promise_of rules a) (promise_of rules b))

  never_first : (a b : PathData) → first a b ≡ false
  never_first a b = (λ i. is_lt (nat_cmp (none a.paid a.rest i) (none b.paid b.rest i)))

  always_tie : (a b : PathData) → ties first a b ≡ true
  always_tie a b = λ i. not (never_first a b i) && not (never_first b a i)

  pub same_order : (depth : ℕ) (tasks : List PathData) → AreTasksOf rules depth tasks → tasks ≡ layer rules.film depth
  same_order depth tasks are =
      sym (filter_whole (ties first no_task) (always_tie no_task) tasks)
      ∙ are.equal no_task
      ∙ filter_whole (ties first no_task) (always_tie no_task) (layer rules.film depth)
