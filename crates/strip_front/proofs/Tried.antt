-- What a path that was tried tells of the front.
use Rattle.std.proofs.Common.{◌≡◌, ◌≢◌, ℕ, zero, suc, ◌+◌, ◌<◌, ◌≤◌, ◌↔◌, ◌||◌, Bool, true, false, Option, Some, None, Ok, List, length, map, get_or, replicate, slice_index_or, IsSome, inl, inr, refl, sym, ap, ◌∙◌, subst, arith}
use Rattle.std.specs.Option.{is_some, unwrap_or}
use Rattle.std.proofs.lemmas.Bool.{cases_eq, lt-ltb}
use Rattle.std.proofs.lemmas.List.{get_or-map}
use Rattle.std.proofs.Math.Bool.{or-false, or-true}
use Rattle.strip_film.specs.declared.path.Path.{Path}
use Rattle.strip_film.specs.declared.shared.Line.{Line as TheLine}
use Rattle.strip_film.specs.Film.{all_scenes}
use Rattle.strip_film.specs.Path.{PathData}
use Rattle.strip_film.specs.Ranks.{IsEarlier}
use Rattle.strip_film.specs.Rules.{IsOpen}
use Rattle.strip_film.specs.Shown.{CursorData, path_data}
use Rattle.strip_lines.specs.Parts.{lies_in, no_task}
use Rattle.strip_lines.specs.Paths.{ComesAfter}
use Rattle.strip_hand.specs.Hand.{HandData, IsHand}
use Rattle.strip_hand.specs.Search.{SearchData, depth_of, search_rules}
use Rattle.strip_front.specs.declared.down.Tried.{Tried}
use Rattle.strip_front.specs.declared.down.Tried.TheVariants.{Line, Passed, Spent}
use Rattle.strip_front.specs.Calls.{IsCutShort}
use Rattle.strip_front.specs.Filled.{HasLine, HasLines}
use Rattle.strip_front.specs.Front.{FrontData, line_of, path_at, root_of}
use Rattle.strip_front.specs.Tried.{AreTried, IsEnlisted, MayTry, Tries, has_spent, line_from, reach}
use Rattle.strip_front.proofs.FrontFacts.{FrontFacts}
use Rattle.strip_front.proofs.Grown.{line_grows}

same_line : (o : Option ℕ) (a b : ℕ) → o ≡ Some a → o ≡ Some b → a ≡ b
same_line o a b one two = ap (λ (x : Option ℕ). unwrap_or x 0) (sym one ∙ two)

never_both : (o : Option ℕ) (a : ℕ) → o ≡ Some a → o ≡ None → ⊥
never_both o a some none = (let e : Some a ≡ None = sym some ∙ none in cc)

pub some_is : {X : Type 0} (o : Option X) (x : X) → o ≡ Some x → IsSome o
some_is o x is = ap is_some is

pub none_is : {X : Type 0} (o : Option X) → is_some o ≡ false → o ≡ None
none_is None is = refl
none_is (Some x) is = absurd (let both : true ≡ false = is in cc)

pub none_isnt : {X : Type 0} (o : Option X) → o ≡ None → IsSome o → ⊥
none_isnt o none some = (let e : is_some o ≡ false = ap is_some none in cc)

-- the budget is spent where a path may be enlisted, and there are as many lines as there may be
cut_at : (hand : HandData) (cursor : CursorData) (path : PathData) → length hand.lines ≡ hand.search.nodes → IsOpen (search_rules hand.search) path
    → lies_in (depth_of hand.search) hand.search.tasks cursor.task path ≡ true → ComesAfter (search_rules hand.search) cursor.last path → path.rest ≢ 0
    → path.paid + (search_rules hand.search).bound path.rest < hand.search.start → IsCutShort hand cursor
cut_at hand cursor path full is_open lies later some below = record { full = full; later = (path, is_open, lies, later, some, below) }

module _ (search : SearchData) (cursor : CursorData) (front : FrontData) (facts : FrontFacts search.kind search.film front) (tasks : search.tasks ≡ front.tasks)
    (task : cursor.task ≡ 0) (place : ℕ) (within : place < length front.paths) where
  in_front : lies_in (depth_of search) search.tasks cursor.task (path_at front place) ≡ true
  in_front =
      subst (λ (part : ℕ). lies_in (depth_of search) search.tasks part (path_at front place) ≡ true) (sym task)
      (lt-ltb (length (path_at front place).scenes) (depth_of search) (omega (arith, facts.short place within, facts.depth_is search tasks)))

  -- the empty path may be tried first
  pub may_try_first : cursor.last ≡ None → MayTry search cursor (path_at front place)
  may_try_first none = record {
    is_open = facts.is_open place within;
    lies = in_front;
    later = subst (λ (last : Option PathData). ComesAfter (search_rules search) last (path_at front place)) (sym none) tt;
    some = facts.remains place within;
  }

  -- and one behind those that were tried
  pub may_try : (hand : HandData) (lines : List (Option ℕ)) (spent : Bool) → AreTried hand cursor (record front { lines = lines }) place spent
      → MayTry search cursor (path_at front place)
  may_try hand lines spent tried = record {
    is_open = facts.is_open place within;
    lies = in_front;
    later = subst (λ (last : Option PathData). ComesAfter (search_rules search) last (path_at front place)) (sym tried.last.1)
        (subst (λ (xs : List ℕ). IsEarlier (search_rules search) (all_scenes search.film) xs (path_at front place).scenes) (sym tried.last.4)
        (facts.rise tried.last.2 place tried.last.3 within));
    some = facts.remains place within;
  }

module _ (before : HandData) (cursor : CursorData) (after : HandData) (cursor_after : CursorData) (front : FrontData)
    (place : ℕ) (spent : Bool) (lines : List (Option ℕ)) (tried : AreTried before cursor front place spent)
    (others : (p : ℕ) → p ≢ place → slice_index_or lines p None ≡ line_of front p) where
  abbrev new : FrontData
  new = record front { lines = lines }

  -- no line was made, so each path has the line that it had
  module _ (here : slice_index_or lines place None ≡ None) where
    same : (p : ℕ) → slice_index_or lines p None ≡ line_of front p
    same p = elim (cases_eq p place) [
      | inl is ↦ subst (λ (x : ℕ). slice_index_or lines x None ≡ line_of front x) (sym is) (here ∙ sym (tried.later place (omega arith)))
      | inr other ↦ others p other
    ]

    root_same : IsSome (root_of new)
    root_same = subst IsSome (sym (same 0)) tried.root

    -- it reaches the least cost
    pub passed : Tries before cursor (path_at front place) (Ok Passed) after cursor_after → AreTried after cursor_after new (suc place) spent
    passed tries =
        subst (λ (h : HandData). AreTried h cursor_after new (suc place) spent) (sym tries.tried.0)
        (subst (λ (k : CursorData). AreTried (record before { told = after.told }) k new (suc place) spent) (sym tries.tried.1) (record {
          root = root_same;
          lines = λ p line within at. (root_same, (tried.lines p line within (sym (same p) ∙ at)).1);
          last = (tried.last.0, tried.last.1, tried.last.2, omega (arith, tried.last.3), tried.last.4);
          past = λ none p earlier free. elim (cases_eq p place) [
            | inl is ↦ subst (λ (x : ℕ). after.told ≤ reach before (path_at front x)) (sym is) (omega (arith, tries.tried.2))
            | inr other ↦ omega (arith, tried.past none p (omega (arith, earlier, other)) (sym (same p) ∙ free), tries.no_more)
          ];
          later = λ p behind. same p ∙ tried.later p (omega (arith, behind));
          cut = λ is. record { full = (tried.cut is).full; later = (tried.cut is).later };
        }))

    -- there are as many lines as there may be
    pub spent_here : IsHand after → MayTry before.search cursor (path_at front place)
        → Tries before cursor (path_at front place) (Ok Spent) after cursor_after → AreTried after cursor_after new (suc place) true
    spent_here is may tries =
        let start : after.told ≤ before.search.start = omega (arith, is.told, ap (λ (h : HandData). h.search.start) tries.tried.0.only) in
        subst (λ (h : HandData). AreTried h cursor_after new (suc place) true) (sym tries.tried.0.only)
        (subst (λ (k : CursorData). AreTried (record before { told = after.told; lines = after.lines }) k new (suc place) true) (sym tries.tried.1) (record {
          root = root_same;
          lines = λ p line within at. (
            root_same,
            line_grows before.lines after.lines line (path_at front p).rest tries.tried.0.grow (tried.lines p line within (sym (same p) ∙ at)).1,
          );
          last = (tried.last.0, tried.last.1, tried.last.2, omega (arith, tried.last.3), tried.last.4);
          past = λ none. absurd (let e : true ≡ false = none in cc);
          later = λ p behind. same p ∙ tried.later p (omega (arith, behind));
          cut = λ _. cut_at (record before { told = after.told; lines = after.lines }) cursor (path_at front place)
              tries.tried.0.counted may.is_open may.lies may.later may.some (omega (arith, tries.tried.2, start));
        }))

  -- a line was made of it
  module _ (line : ℕ) (is : IsHand after) (some : 0 < place) (here : slice_index_or lines place None ≡ Some line)
      (tries : Tries before cursor (path_at front place) (Ok (Line line)) after cursor_after) where
    few : length after.lines ≤ before.search.nodes
    few = omega (arith, is.few, ap (λ (h : HandData). h.search.nodes) tries.tried.only)

    root_still : IsSome (root_of new)
    root_still = subst IsSome (sym (others 0 (λ zero_is. omega (arith, some, zero_is)))) tried.root

    known : (p l : ℕ) → p < length front.paths → slice_index_or lines p None ≡ Some l → IsSome (root_of new) × HasLine after.lines l (path_at front p).rest
    known p l within at = elim (cases_eq p place) [
      | inl same ↦ (let which : line ≡ l = same_line (slice_index_or lines place None) line l here (subst (λ (x : ℕ). slice_index_or lines x None ≡ Some l) same at) in (
        root_still,
        subst (λ (x : ℕ). HasLine after.lines l (path_at front x).rest) (sym same)
            (subst (λ (x : ℕ). HasLine after.lines x (path_at front place).rest) which
            (record { there = tries.tried.there; leaves = ap (λ (x : TheLine). x.set) tries.tried.made })),
      ))
      | inr other ↦ (
        root_still,
        line_grows before.lines after.lines l (path_at front p).rest tries.tried.grow (tried.lines p l within (sym (others p other) ∙ at)).1,
      )
    ]

    reached : spent ≡ false → (p : ℕ) → p < suc place → slice_index_or lines p None ≡ None → after.told ≤ reach before (path_at front p)
    reached none p earlier free = elim (cases_eq p place) [
      | inl same ↦ absurd (never_both (slice_index_or lines place None) line here (subst (λ (x : ℕ). slice_index_or lines x None ≡ None) same free))
      | inr other ↦ omega (arith, tried.past none p (omega (arith, earlier, other)) (sym (others p other) ∙ free), tries.no_more)
    ]

    pub enlisted : AreTried after cursor_after new (suc place) spent
    enlisted =
        subst (λ (h : HandData). AreTried h cursor_after new (suc place) spent) (sym tries.tried.only)
        (subst (λ (k : CursorData). AreTried (record before { told = after.told; lines = after.lines; records = after.records }) k new (suc place) spent)
        (sym tries.tried.moved) (record {
          root = root_still;
          lines = known;
          last = (path_at front place, refl, place, omega arith, refl);
          past = reached;
          later = λ p behind. others p (λ same. omega (arith, behind, same)) ∙ tried.later p (omega (arith, behind));
          cut = λ cut. absurd (omega (arith, (tried.cut cut).full, tries.tried.fresh, tries.tried.there, few));
        }))

  -- whatever came of it
  pub tried_more : (t : Tried) → Tries before cursor (path_at front place) (Ok t) after cursor_after → slice_index_or lines place None ≡ line_from t → 0 < place → IsHand after
      → MayTry before.search cursor (path_at front place) → AreTried after cursor_after new (suc place) (spent || has_spent t)
  tried_more Passed tries here some is may = subst (AreTried after cursor_after new (suc place)) (sym (or-false spent)) (passed here tries)
  tried_more Spent tries here some is may = subst (AreTried after cursor_after new (suc place)) (sym (or-true spent)) (spent_here here is may tries)
  tried_more (Line line) tries here some is may = subst (AreTried after cursor_after new (suc place)) (sym (or-false spent)) (enlisted line is some here tries)

-- by the count that a loop has
pub tried_at : (hand : HandData) (cursor : CursorData) (front : FrontData) (place : ℕ) (spent short cut : Bool) → short ≡ cut
    → AreTried hand cursor front (suc place) (spent || cut) → AreTried hand cursor front (place + 1) (spent || short)
tried_at hand cursor front place spent short cut same tried =
    subst (λ (b : Bool). AreTried hand cursor front (place + 1) (spent || b)) (sym same)
    (subst (λ (n : ℕ). AreTried hand cursor front n (spent || cut)) (omega arith) tried)

pub none_there : (n place : ℕ) → get_or (replicate {A = Option ℕ} n None) place None ≡ None
none_there zero place = refl
none_there (suc n) zero = refl
none_there (suc n) (suc place) = none_there n place

-- the path that stands at a place
pub path_read : (seen paths : List Path) (place : ℕ) (path : Path) → seen ≡ paths → place < length paths → path ≡ get_or seen place path
    → path_data path ≡ get_or (map path_data paths) place no_task
path_read seen paths place path same within read =
    ap path_data (read ∙ ap (λ (xs : List Path). get_or xs place path) same) ∙ sym (get_or-map path_data paths place path no_task within)

-- ---- all paths

pub all_tried : (hand : HandData) (cursor : CursorData) (front : FrontData) (spent : Bool) (place : ℕ) → length front.paths ≤ place
    → AreTried hand cursor front place spent → IsEnlisted hand cursor front spent
all_tried hand cursor front spent place all tried = record {
  lines = tried.lines;
  whole = λ none. record {
    none = λ free. absurd (none_isnt (root_of front) free tried.root);
    paths = λ some p within free. tried.past none p (omega (arith, all, within)) free;
  };
  cut = tried.cut;
  root = (λ _. some_is cursor.last tried.last.0 tried.last.1, λ _. tried.root);
}

-- ---- the empty path

module _ (before : HandData) (cursor : CursorData) (after : HandData) (cursor_after : CursorData) (front : FrontData)
    (none : (place : ℕ) → line_of front place ≡ None) (last : cursor.last ≡ None) (path : PathData) (rest : path.rest ≡ all_scenes before.search.film) (paid : path.paid ≡ 0) where
  no_lines : (lines : List TheLine) → HasLines (record before { told = after.told; lines = lines }) front
  no_lines lines = λ place line within at. absurd (never_both (line_of front place) line at (none place))

  neither : IsSome (root_of front) ↔ IsSome cursor.last
  neither = (λ some. absurd (none_isnt (root_of front) (none 0) some), λ some. absurd (none_isnt cursor.last last some))

  pub root_passed : Tries before cursor path (Ok Passed) after cursor_after → IsEnlisted after cursor_after front false
  root_passed tries =
      subst (λ (h : HandData). IsEnlisted h cursor_after front false) (sym tries.tried.0)
      (subst (λ (k : CursorData). IsEnlisted (record before { told = after.told }) k front false) (sym tries.tried.1) (record {
        lines = no_lines before.lines;
        whole = λ _. record {
          none = λ _. omega (arith, tries.tried.2, paid, ap (search_rules before.search).bound rest);
          paths = λ some. absurd (none_isnt (root_of front) (none 0) some);
        };
        cut = λ never. absurd (let e : false ≡ true = never in cc);
        root = neither;
      }))

  pub root_spent : IsHand after → MayTry before.search cursor path → Tries before cursor path (Ok Spent) after cursor_after → IsEnlisted after cursor_after front true
  root_spent is may tries =
      let start : after.told ≤ before.search.start = omega (arith, is.told, ap (λ (h : HandData). h.search.start) tries.tried.0.only) in
      subst (λ (h : HandData). IsEnlisted h cursor_after front true) (sym tries.tried.0.only)
      (subst (λ (k : CursorData). IsEnlisted (record before { told = after.told; lines = after.lines }) k front true) (sym tries.tried.1) (record {
        lines = no_lines after.lines;
        whole = λ none. absurd (let e : true ≡ false = none in cc);
        cut = λ _. cut_at (record before { told = after.told; lines = after.lines }) cursor path
            tries.tried.0.counted may.is_open may.lies may.later may.some (omega (arith, tries.tried.2, start));
        root = neither;
      }))

  module _ (lines : List (Option ℕ)) (line : ℕ) (here : slice_index_or lines 0 None ≡ Some line)
      (others : (p : ℕ) → p ≢ 0 → slice_index_or lines p None ≡ line_of front p) (at : path ≡ path_at front 0)
      (tries : Tries before cursor path (Ok (Line line)) after cursor_after) where
    first_known : (p l : ℕ) → p < length front.paths → slice_index_or lines p None ≡ Some l
        → IsSome (slice_index_or lines 0 None) × HasLine after.lines l (path_at front p).rest
    first_known p l within stands = elim (cases_eq p 0) [
      | inl same ↦ (let which : line ≡ l = same_line (slice_index_or lines 0 None) line l here (subst (λ (x : ℕ). slice_index_or lines x None ≡ Some l) same stands) in (
        some_is (slice_index_or lines 0 None) line here,
        subst (λ (x : ℕ). HasLine after.lines l (path_at front x).rest) (sym same)
            (subst (λ (x : ℕ). HasLine after.lines x (path_at front 0).rest) which
            (record { there = tries.tried.there; leaves = ap (λ (x : TheLine). x.set) tries.tried.made ∙ ap (λ (x : PathData). x.rest) at })),
      ))
      | inr other ↦ absurd (never_both (line_of front p) l (sym (others p other) ∙ stands) (none p))
    ]

    pub root_enlisted : AreTried after cursor_after (record front { lines = lines }) 1 false
    root_enlisted =
        subst (λ (h : HandData). AreTried h cursor_after (record front { lines = lines }) 1 false) (sym tries.tried.only)
        (subst (λ (k : CursorData). AreTried (record before { told = after.told; lines = after.lines; records = after.records }) k (record front { lines = lines }) 1 false)
        (sym tries.tried.moved) (record {
          root = some_is (slice_index_or lines 0 None) line here;
          lines = first_known;
          last = (path, refl, 0, omega arith, ap (λ (x : PathData). x.scenes) at);
          past = λ _ p earlier free. absurd (never_both (slice_index_or lines 0 None) line here
              (subst (λ (x : ℕ). slice_index_or lines x None ≡ None) (let e : p ≡ 0 = omega (arith, earlier) in e) free));
          later = λ p behind. others p (λ same. omega (arith, behind, same)) ∙ none p;
          cut = λ never. absurd (let e : false ≡ true = never in cc);
        }))
