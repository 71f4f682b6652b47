-- Passes that are given a pool.
use Rattle.std.proofs.Common.{◌≡◌, ◌∙◌, ℕ, suc, ◌+◌, false, List, length, refl, sym, ap, subst, arith}
use Rattle.std.proofs.lemmas.List.{length-map}
use Rattle.crossbeam_deque.specs.Handles.{worker_deque, worker_view}
use Rattle.strip_lines.proofs.Grown.{grow_self}
use Rattle.strip_film.specs.Path.{PathData}
use Rattle.strip_front.specs.Front.{FrontData}
use Rattle.strip_least.specs.declared.least.Least.{Least}
use Rattle.strip_least.specs.Pass.{known as known_least}
use Rattle.strip_least.specs.Rule.{once_below, times}
use Rattle.strip_book.specs.declared.book.Book.{Book}
use Rattle.strip_book.specs.Pass.{known}
use Rattle.strip_steal.specs.declared.queues.Pool.{Pool}
use Rattle.strip_steal.specs.Rule.{full_weight}
use Rattle.strip_steal.specs.Taker.{AreDealt, IsPool, handed_in, pool_queues, pool_shares, taken_in}
use Rattle.strip_crew.specs.declared.hub.HubParts.{HubParts}
use Rattle.strip_crew.specs.declared.source.Source.{Source}
use Rattle.strip_crew.specs.declared.source.Source.TheVariants.{Counter, Gathers}
use Rattle.strip_crew.specs.Source.{taken_by}
use Rattle.strip_crew.specs.Crew.{ArePassesOf, shown}
use Rattle.strip_crew.specs.Sources.{Deals, split_home}
use Rattle.strip_crew.specs.Race.{ArePartsOf, IsReady}

module _ (least : Least) (book : Book) (passes : HubParts) (pool : Pool) (front : FrontData) (numbers : List ℕ) (workers : ℕ)
    (are : ArePassesOf least book passes) (counter : passes.source ≡ Counter)
    (claimed : (part : ℕ) → times part (known_least passes.told).claims ≡ once_below part 1)
    (tasks : (shown passes).search.tasks ≡ front.tasks) (parts : ArePartsOf (length front.tasks) numbers)
    (is_pool : IsPool full_weight pool) (dealt : AreDealt workers numbers (pool_shares pool))
    (handed : (number : ℕ) → times number (handed_in (pool_shares pool)) ≡ times number numbers)
    (untaken : (number : ℕ) → times number (taken_in (pool_shares pool)) ≡ 0) where
  abbrev with_pool : HubParts
  with_pool = record { told = passes.told; lines = passes.lines; source = Gathers (record { pool = pool; has_ended = false }) }

  none : (part : ℕ) → times part (taken_by passes.source) ≡ 0
  none part = ap (λ (source : Source). times part (taken_by source)) counter

  all_tasks : (part : ℕ) → times part (handed_in (pool_shares pool)) + once_below part 1 ≡ once_below part (known_least passes.told).parts
  all_tasks part =
      let count : (known_least passes.told).parts ≡ suc (length front.tasks) = are.together.parts ∙ ap (λ (xs : List PathData). suc (length xs)) tasks in
      subst (λ (n : ℕ). times part (handed_in (pool_shares pool)) + once_below part 1 ≡ once_below part n) (sym count)
      (omega (arith, handed part, parts part))

  pub has_queues : IsReady least book workers passes with_pool
  has_queues = record {
    passes = record {
      least_pass = are.least_pass;
      book_pass = are.book_pass;
      named = are.named;
      together = record {
        film = are.together.film;
        start = are.together.start;
        parts = are.together.parts;
        no_dearer = are.together.no_dearer;
        begun = λ part. omega (arith, are.together.begun part, none part, untaken part);
        once = are.together.once;
        given = record {
          weighs = (full_weight, omega arith, is_pool);
          tasks = all_tasks;
          few = λ part. omega (arith, untaken part);
          front = claimed;
        };
      };
      search = are.search;
    };
    goes_on = record { search = refl; told = omega arith; grow = grow_self (known passes.lines).lines; records = λ part entry is. is };
    records = λ part. refl;
    full = λ weigh. record { told = weigh.told; lines = weigh.lines; source = is_pool };
    deals = λ desk below. (
        let many : length (pool_queues pool) ≡ length (pool_shares pool) = length-map pool.owners.items worker_deque ∙ sym (length-map pool.owners.items worker_view) in
        omega (arith, many, dealt.long, below));
  }

-- passes that stay with the counter are ready
pub counter_ready : (least : Least) (book : Book) (workers : ℕ) (passes : HubParts) → ArePassesOf least book passes → passes.source ≡ Counter
    → IsReady least book workers passes passes
counter_ready least book workers passes are counter = record {
  passes = are;
  goes_on = record { search = refl; told = omega arith; grow = grow_self (known passes.lines).lines; records = λ part entry is. is };
  records = λ part. refl;
  full = λ weigh. weigh;
  deals = λ desk below. subst (λ (source : Source). Deals desk (split_home source)) (sym counter) tt;
}
