-- A path that is answered without a walk, or enlisted.
use Rattle.std.proofs.Common.{◌≡◌, ◌≢◌, ℕ, ◌+◌, ◌≤◌, inl, inr, true, false, Some, None, sym, ap, ◌∙◌, subst, arith}
use Rattle.strip_film.specs.declared.shared.Known.{Known}
use Rattle.strip_film.specs.declared.shared.Line.{Line}
use Rattle.strip_film.specs.declared.shared.Probe.TheVariants.{Hit}
use Rattle.strip_film.specs.Film.{LiesIn}
use Rattle.strip_film.specs.Path.{PathData}
use Rattle.strip_film.specs.Rules.{IsOpen}
use Rattle.strip_film.specs.Shown.{CursorData}
use Rattle.strip_film.proofs.Paths.{rest_lies}
use Rattle.strip_lines.specs.Parts.{lies_in}
use Rattle.strip_lines.specs.Paths.{ComesAfter}
use Rattle.strip_hand.specs.Search.{SearchData, depth_of, search_rules}
use Rattle.strip_hand.specs.Hand.{HandData, IsHand, Knows}
use Rattle.strip_hand.specs.Calls.{IsFound as IsTold, IsSpent, MakesLine, StandsAt}
use Rattle.strip_hand.proofs.Grown.{knows_grow}
use Rattle.strip_walk.specs.declared.found.Found.{Found}
use Rattle.strip_walk.specs.declared.found.Opened.{Opened}
use Rattle.strip_walk.specs.declared.found.Passed.{Passed}
use Rattle.strip_walk.specs.Found.{IsCutShort, IsFound, MayExplore, Reaches, known_of}
use Rattle.strip_walk.specs.Walked.{Walks}
use Rattle.strip_walk.specs.Begun.{IsBest, IsCut, IsOpened, IsThrough, StaysInPart}
use Rattle.strip_walk.proofs.Bounds.{bound_known, finish_below, known_finishes}
use Rattle.strip_walk.proofs.Stayed.{begun_itself, not_begun, walks_still}

-- an answer at a cursor that didn't move
pub found_still : (after : HandData) (cursor : CursorData) (path : PathData) (found : Found) → IsHand after → LiesIn after.search.film path.rest
    → ComesAfter (search_rules after.search) cursor.last path
    → ((line : ℕ) → found.line ≡ Some line → Knows after.lines (known_of path line found.bound) × ((search_rules after.search).bound path.rest ≤ found.bound))
    → (found.line ≡ None → found.bound ≤ (search_rules after.search).bound path.rest)
    → (found.spent ≡ false → after.told ≤ path.paid + found.bound) → Reaches after path found.bound → (found.spent ≡ true → IsCutShort after cursor)
    → IsFound after cursor path found
found_still after cursor path found is lies later line none enough reaches spent = record {
  finish = finish_below after.search.film path.rest found.bound _
      (bound_known (search_rules after.search) after.lines path found.line found.bound (λ number some. (line number some).0) none)
      (known_finishes after is path.rest lies);
  line = line;
  none = none;
  enough = enough;
  reaches = reaches;
  begun = λ begun. absurd (not_begun (search_rules after.search) cursor.last path later begun);
  spent = spent;
}

found_cut : (after : HandData) (cursor : CursorData) (path : PathData) (found : Found) → IsHand after → LiesIn after.search.film path.rest
    → ComesAfter (search_rules after.search) cursor.last path → IsCut after path found → IsFound after cursor path found
found_cut after cursor path found is lies later cut =
    found_still after cursor path found is lies later cut.line cut.none (λ _. cut.reached) (inr cut.reached)
    (λ spent. absurd (let e : false ≡ true = sym cut.spent ∙ spent in cc))

-- a path that is ruled out is answered where the cursor stands
pub cut_explores : (before after : HandData) (cursor : CursorData) (path : PathData) (found : Found) → IsHand after → MayExplore before cursor path
    → StaysInPart before after × IsCut after path found → Walks before cursor path after cursor × IsFound after cursor path found
cut_explores before after cursor path found is may (stays, cut) = (
  walks_still before after cursor path may.stands stays,
  found_cut after cursor path found is
      (subst (λ (search : SearchData). LiesIn search.film path.rest) (sym stays.search) (rest_lies before.search.film path may.is_open.0))
      (subst (λ (search : SearchData). ComesAfter (search_rules search) cursor.last path) (sym stays.search) may.later) cut,
)

-- ---- a line is made

pub made_walks : (before after : HandData) (cursor cursor_after : CursorData) (path : PathData) (bound line : ℕ) → IsHand after
    → MakesLine before cursor path bound line after cursor_after → Walks before cursor path after cursor_after
made_walks before after cursor cursor_after path bound line is made = record {
  search = ap (λ (hand : HandData). hand.search) made.only;
  ended = ap (λ (hand : HandData). hand.ended) made.only;
  told = (let e : after.told ≡ before.told = ap (λ (hand : HandData). hand.told) made.only in omega (arith, e));
  grow = made.grow;
  refusals = (let e : after.refusals ≡ before.refusals = ap (λ (hand : HandData). hand.refusals) made.only in omega (arith, e));
  task = ap (λ (at : CursorData). at.task) made.moved;
  stands = subst (StandsAt after) (sym made.moved) (made.counted.0 + 1, made.counted.2);
  others = made.others;
  last = inr (begun_itself cursor_after.last path (ap (λ (at : CursorData). at.last) made.moved));
  full = λ full. absurd (let nodes : after.search.nodes ≡ before.search.nodes = ap (λ (hand : HandData). hand.search.nodes) made.only in
      omega (arith, full, nodes, made.fresh, made.there, is.few));
}

pub made_opened : (before after : HandData) (cursor cursor_after : CursorData) (path : PathData) (line : ℕ) (passed : Passed) (opened : Opened)
    → opened ≡ record { line = line; bound = passed.bound; told = passed.told } → IsThrough before path passed
    → MakesLine before cursor path passed.bound line after cursor_after → IsOpened after cursor_after path opened
made_opened before after cursor cursor_after path line passed opened is through made =
    subst (IsOpened after cursor_after path) (sym is) (record {
      told = ap (λ (hand : HandData). hand.told) made.only ∙ through.told;
      static_bound = through.static_bound ∙ ap (λ (search : SearchData). (search_rules search).bound path.rest) (sym (ap (λ (hand : HandData). hand.search) made.only));
      there = made.there;
      set = ap (λ (l : Line). l.set) made.made;
      last = ap (λ (at : CursorData). at.last) made.moved;
    })

-- ---- no line can be made

spent_stays : (before after : HandData) (count : ℕ) → IsSpent before count after → StaysInPart before after
spent_stays before after count spent = record {
  search = ap (λ (hand : HandData). hand.search) spent.only;
  ended = ap (λ (hand : HandData). hand.ended) spent.only;
  told = (let e : after.told ≡ before.told = ap (λ (hand : HandData). hand.told) spent.only in omega (arith, e));
  grow = spent.grow;
  refusals = (let e : after.refusals ≡ before.refusals = ap (λ (hand : HandData). hand.refusals) spent.only in omega (arith, e));
  records = ap (λ (hand : HandData). hand.records) spent.only;
}

module _ (before after : HandData) (cursor : CursorData) (path : PathData) (count : ℕ) (passed : Passed) (is : IsHand after)
    (may : MayExplore before cursor path) (some : path.rest ≢ 0) (through : IsThrough before path passed) (spent : IsSpent before count after) where
  same_search : after.search ≡ before.search
  same_search = ap (λ (hand : HandData). hand.search) spent.only

  static_bound : passed.bound ≡ (search_rules after.search).bound path.rest
  static_bound = through.static_bound ∙ ap (λ (search : SearchData). (search_rules search).bound path.rest) (sym same_search)

  lies_here : LiesIn after.search.film path.rest
  lies_here = subst (λ (search : SearchData). LiesIn search.film path.rest) (sym same_search) (rest_lies before.search.film path may.is_open.0)

  later_here : ComesAfter (search_rules after.search) cursor.last path
  later_here = subst (λ (search : SearchData). ComesAfter (search_rules search) cursor.last path) (sym same_search) may.later

  cut_here : IsCutShort after cursor
  cut_here = record {
    full = spent.counted ∙ spent.full ∙ ap (λ (search : SearchData). search.nodes) (sym same_search);
    path = path;
    is_open = subst (λ (search : SearchData). IsOpen (search_rules search) path) (sym same_search) may.is_open;
    lies = ap (λ (search : SearchData). lies_in (depth_of search) search.tasks cursor.task path) same_search ∙ may.lies;
    later = later_here;
    some = some;
    below = (let told : after.told ≡ before.told = ap (λ (hand : HandData). hand.told) spent.only in
        omega (arith, static_bound, told, through.told, through.below, is.told));
  }

  knows_grown : (known : Known) → passed.answer ≡ Hit known → Knows after.lines (known_of path known.line known.bound)
  knows_grown known hit = grown (subst (IsTold before path.rest) hit through.true_answer)
    where
      grown : IsTold before path.rest (Hit known) → Knows after.lines (known_of path known.line known.bound)
      grown (same, knows) = knows_grow before.lines after.lines (known_of path known.line known.bound) spent.grow
          (record { there = knows.there; set = knows.set ∙ same; as_great = knows.as_great })

  best_found : (found : Found) → IsBest passed found → IsFound after cursor path found
  best_found found (inl (no_greater, best)) = subst (IsFound after cursor path) (sym best)
      (found_still after cursor path (record { bound = passed.bound; line = None; spent = true }) is lies_here later_here
      (λ line same. absurd (cc))
      (λ _. omega (arith, static_bound)) (λ same. absurd (cc)) (inl (omega (arith, static_bound))) (λ _. cut_here))
  best_found found (inr (known, hit, more, best)) = subst (IsFound after cursor path) (sym best)
      (found_still after cursor path (record { bound = known.bound; line = Some known.line; spent = true }) is lies_here later_here
      (λ line same. (let e : known.line ≡ line = cc in
      (subst (λ (l : ℕ). Knows after.lines (known_of path l known.bound)) e (knows_grown known hit), omega (arith, static_bound, more))))
      (λ same. absurd (cc))
      (λ same. absurd (cc)) (inl (omega (arith, static_bound, more))) (λ _. cut_here))

  pub spent_found : (cursor_after : CursorData) (found : Found) → cursor_after ≡ cursor → IsBest passed found
      → Walks before cursor path after cursor_after × IsFound after cursor_after path found
  spent_found cursor_after found same best =
      subst (λ (at : CursorData). Walks before cursor path after at × IsFound after at path found) (sym same)
      (walks_still before after cursor path may.stands (spent_stays before after count spent), best_found found best)
