-- What stays over several calls.
use Rattle.std.proofs.Common.{◌≡◌, ℕ, ◌+◌, ◌<◌, ◌≤◌, ◌⊎◌, inl, inr, true, false, Option, Some, Result, Ok, Err, [], ◌∷◌, ◌++◌, length, refl, sym, ap, ◌∙◌, subst, arith}
use Rattle.std.specs.Result.{IsErr}
use Rattle.strip_io.specs.declared.files.Memory.{Memory}
use Rattle.strip_io.specs.Counts.{Rose}
use Rattle.strip_film.specs.Film.{all_scenes}
use Rattle.strip_film.specs.Path.{PathData}
use Rattle.strip_film.specs.Rules.{IsOpen, Rules}
use Rattle.strip_film.specs.Shown.{CursorData}
use Rattle.strip_lines.proofs.Grown.{grow_trans}
use Rattle.strip_lines.specs.Parts.{lies_in}
use Rattle.strip_lines.specs.Paths.{ComesAfter}
use Rattle.strip_hand.specs.Search.{SearchData, depth_of, search_rules}
use Rattle.strip_hand.specs.Hand.{HandData, RecordData}
use Rattle.strip_hand.specs.Calls.{StandsAt}
use Rattle.strip_walk.specs.declared.found.Found.{Found}
use Rattle.strip_walk.specs.Found.{BegunBy, IsCutShort, MayExplore}
use Rattle.strip_walk.specs.Walked.{Explores, Walks}
use Rattle.strip_walk.specs.Begun.{StaysInPart}
use Rattle.strip_walk.proofs.Lists.{begun_not_earlier, starts_itself, starts_shorter}

-- ---- counts of refusals

pub rose_around : (before low high after : ℕ) → before ≤ low → Rose low high → high ≤ after → Rose before after
rose_around before low high after first rose second = omega (arith, first, rose, second)

-- ---- calls that move no cursor

pub stays_trans : (before mid after : HandData) → StaysInPart before mid → StaysInPart mid after → StaysInPart before after
stays_trans before mid after first second = record {
  search = second.search ∙ first.search;
  ended = second.ended ∙ first.ended;
  told = omega (arith, first.told, second.told);
  grow = grow_trans before.lines mid.lines after.lines first.grow second.grow;
  refusals = omega (arith, first.refusals, second.refusals);
  records = second.records ∙ first.records;
}

-- the hand stands where it stood
pub stands_still : (before after : HandData) (cursor : CursorData) → StandsAt before cursor → StaysInPart before after → StandsAt after cursor
stands_still before after cursor (number, stands) stays = (number, ap (λ (records : ℕ → Option RecordData). records cursor.task) stays.records ∙ stands)

pub walks_still : (before after : HandData) (cursor : CursorData) (path : PathData) → StandsAt before cursor → StaysInPart before after
    → Walks before cursor path after cursor
walks_still before after cursor path stands stays = record {
  search = stays.search;
  ended = stays.ended;
  told = stays.told;
  grow = stays.grow;
  refusals = stays.refusals;
  task = refl;
  stands = stands_still before after cursor stands stays;
  others = λ other apart. ap (λ (records : ℕ → Option RecordData). records other) stays.records;
  last = inl refl;
  full = λ full. refl;
}

-- ---- walks one after the other

module _ (before mid after : HandData) (cursor cursor_mid cursor_after : CursorData) (path : PathData)
    (few : length mid.lines ≤ mid.search.nodes) (first : Walks before cursor path mid cursor_mid) (second : Walks mid cursor_mid path after cursor_after) where
  still_full : length before.lines ≡ before.search.nodes → length mid.lines ≡ mid.search.nodes
  still_full full =
      let nodes : mid.search.nodes ≡ before.search.nodes = ap (λ (search : SearchData). search.nodes) first.search in
      let count : length before.lines ≤ length mid.lines = first.grow.count in
      omega (arith, full, nodes, count, few)

  last_of : (cursor_after.last ≡ cursor_mid.last) ⊎ BegunBy path cursor_after.last → (cursor_mid.last ≡ cursor.last) ⊎ BegunBy path cursor_mid.last
      → (cursor_after.last ≡ cursor.last) ⊎ BegunBy path cursor_after.last
  last_of (inl same) (inl still) = inl (same ∙ still)
  last_of (inl same) (inr (end, is, starts)) = inr (end, same ∙ is, starts)
  last_of (inr begun) mid_last = inr begun

  pub walks_trans : Walks before cursor path after cursor_after
  walks_trans = record {
    search = second.search ∙ first.search;
    ended = second.ended ∙ first.ended;
    told = omega (arith, first.told, second.told);
    grow = grow_trans before.lines mid.lines after.lines first.grow second.grow;
    refusals = omega (arith, first.refusals, second.refusals);
    task = second.task ∙ first.task;
    stands = second.stands;
    others = λ other apart. second.others other (λ same. apart (same ∙ first.task)) ∙ first.others other apart;
    last = last_of second.last first.last;
    full = λ full. second.full (still_full full) ∙ first.full full;
  }

-- a walk of a longer path is one of the path
pub walks_child : (before after : HandData) (cursor cursor_after : CursorData) (path child : PathData) (s : ℕ) → child.scenes ≡ path.scenes ++ s ∷ []
    → Walks before cursor child after cursor_after → Walks before cursor path after cursor_after
walks_child before after cursor cursor_after path child s longer walks = record {
  search = walks.search;
  ended = walks.ended;
  told = walks.told;
  grow = walks.grow;
  refusals = walks.refusals;
  task = walks.task;
  stands = walks.stands;
  others = walks.others;
  last = last_of walks.last;
  full = walks.full;
}
  where
    last_of : (cursor_after.last ≡ cursor.last) ⊎ BegunBy child cursor_after.last → (cursor_after.last ≡ cursor.last) ⊎ BegunBy path cursor_after.last
    last_of (inl same) = inl same
    last_of (inr (end, is, starts)) = inr (end, is, starts_shorter end.scenes path.scenes (s ∷ []) (rw longer at starts))

-- ---- the last path

-- a path that comes after the last one doesn't begin it
pub not_begun : (rules : Rules) (last : Option PathData) (path : PathData) → ComesAfter rules last path → BegunBy path last → ⊥
not_begun rules last path later (end, is, starts) =
    begun_not_earlier rules (all_scenes rules.film) end.scenes path.scenes starts (subst (λ (l : Option PathData). ComesAfter rules l path) is later)

pub begun_itself : (last : Option PathData) (path : PathData) → last ≡ Some path → BegunBy path last
begun_itself last path is = (path, is, starts_itself path.scenes)

-- ---- what was cut short stays so

pub cut_stays : (now after : HandData) (cursor cursor_after : CursorData) (path : PathData) → length after.lines ≤ after.search.nodes
    → Walks now cursor path after cursor_after → IsCutShort now cursor → IsCutShort after cursor_after
cut_stays now after cursor cursor_after path few walks cut =
    let same : cursor_after ≡ cursor = walks.full cut.full in
    let nodes : after.search.nodes ≡ now.search.nodes = ap (λ (search : SearchData). search.nodes) walks.search in
    let count : length now.lines ≤ length after.lines = walks.grow.count in
    record {
      full = omega (arith, nodes, count, few, cut.full);
      path = cut.path;
      is_open = subst (λ (search : SearchData). IsOpen (search_rules search) cut.path) (sym walks.search) cut.is_open;
      lies = ap (λ (search : SearchData). lies_in (depth_of search) search.tasks cursor_after.task cut.path) walks.search
          ∙ ap (λ (at : CursorData). lies_in (depth_of now.search) now.search.tasks at.task cut.path) same ∙ cut.lies;
      later = subst (λ (search : SearchData). ComesAfter (search_rules search) cursor_after.last cut.path) (sym walks.search)
          (subst (λ (at : CursorData). ComesAfter (search_rules now.search) at.last cut.path) (sym same) cut.later);
      some = cut.some;
      below = subst (λ (search : SearchData). cut.path.paid + (search_rules search).bound cut.path.rest < search.start) (sym walks.search) cut.below;
    }

-- ---- calls before a walk

pub may_still : (before after : HandData) (cursor : CursorData) (path : PathData) → StaysInPart before after → MayExplore before cursor path
    → MayExplore after cursor path
may_still before after cursor path stays may = record {
  stands = stands_still before after cursor may.stands stays;
  task = may.task;
  is_open = subst (λ (search : SearchData). IsOpen (search_rules search) path) (sym stays.search) may.is_open;
  lies = ap (λ (search : SearchData). lies_in (depth_of search) search.tasks cursor.task path) stays.search ∙ may.lies;
  later = subst (λ (search : SearchData). ComesAfter (search_rules search) cursor.last path) (sym stays.search) may.later;
}

module _ (before mid after : HandData) (cursor cursor_after : CursorData) (path : PathData) (few : length mid.lines ≤ mid.search.nodes)
    (stands : StandsAt before cursor) (stays : StaysInPart before mid) where
  walks_after : Walks mid cursor path after cursor_after → Walks before cursor path after cursor_after
  walks_after walks = walks_trans before mid after cursor cursor cursor_after path few (walks_still before mid cursor path stands stays) walks

  pub explores_after : (result : Result Found Memory) → Explores mid cursor path result after cursor_after → Explores before cursor path result after cursor_after
  explores_after (Ok found) (walks, is) = (walks_after walks, is)
  explores_after (Err e) (walks, rose) = (walks_after walks, rose_around before.refusals mid.refusals after.refusals after.refusals stays.refusals rose (omega arith))

  -- want of memory is handed on
  pub refused_after : (result : Result Found Memory) (fault : Memory) → IsErr result → Explores mid cursor path (Err fault) after cursor_after
      → Explores before cursor path result after cursor_after
  refused_after (Ok found) fault is explores = absurd (let e : false ≡ true = is in cc)
  refused_after (Err other) fault is explores = explores_after (Err other) explores
