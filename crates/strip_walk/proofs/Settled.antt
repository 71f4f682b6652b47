-- The children of a path, walked one after the other: what they make known of what remains.
use Rattle.std.proofs.Common.{◌≡◌, ◌≢◌, ℕ, zero, suc, ◌+◌, ◌≤◌, ◌⊎◌, inl, inr, min, Bool, true, false, ◌||◌, nat_eq, Option, List, [], ◌∷◌, ◌++◌, slice_index_or, refl, sym, ap, ◌∙◌, subst, arith}
use Rattle.std.proofs.lemmas.Bool.{cases_eq, cases_lt, or_cases, or_parts}
use Rattle.std.specs.List.{starts_with}
use Rattle.strip_mask.specs.Set.{has, without}
use Rattle.strip_mask.proofs.ByMembers.{has-without_other, has_from_without}
use Rattle.strip_model.specs.declared.kind.Kind.{Kind}
use Rattle.strip_model.specs.Film.{FilmData}
use Rattle.strip_film.specs.Film.{all_scenes}
use Rattle.strip_film.specs.Path.{IsPath, PathData, extended}
use Rattle.strip_film.specs.Ranks.{IsSooner}
use Rattle.strip_film.specs.Rules.{IsOpen, rank}
use Rattle.strip_film.specs.Turns.{IsSoonest}
use Rattle.strip_film.specs.Shoot.{step_cost}
use Rattle.strip_film.specs.Shown.{CursorData}
use Rattle.strip_film.proofs.Paths.{IsOpen-extended}
use Rattle.strip_film.proofs.Ranks.{earlier_longer}
use Rattle.strip_rule.proofs.Open.{open_is}
use Rattle.strip_lines.specs.Lines.{known}
use Rattle.strip_lines.proofs.Grown.{known-grows, known-static}
use Rattle.strip_lines.specs.Parts.{lies_in, no_task}
use Rattle.strip_lines.specs.Paths.{ComesAfter}
use Rattle.strip_hand.specs.Search.{SearchData, depth_of, search_rules}
use Rattle.strip_hand.specs.Hand.{HandData, IsHand}
use Rattle.strip_walk.specs.declared.found.Found.{Found}
use Rattle.strip_walk.specs.declared.found.Opened.{Opened}
use Rattle.strip_walk.specs.declared.found.Sifted.{Sifted}
use Rattle.strip_walk.specs.Found.{BegunBy, IsCutShort, IsFound, MayExplore}
use Rattle.strip_walk.specs.Walked.{Walks}
use Rattle.strip_walk.specs.Begun.{IsFirst, IsOpened}
use Rattle.strip_walk.specs.Sifted.{AreSifted, to_walk}
use Rattle.strip_walk.proofs.Bounds.{bound_known}
use Rattle.strip_walk.proofs.Lists.{begun_earlier, starts_longer, starts_shorter}
use Rattle.strip_walk.proofs.Stayed.{begun_itself, cut_stays}

-- those that are left to be walked are open firsts; each other open first is settled: the least reaches no further than its step and
-- what is known of the rest; the path with the least is no cheaper than the least cost told, unless the walk was cut short; the least
-- reaches some step with the static bound of the rest, or that cost; each that is left comes later
pub record AreSettled (search : SearchData) (hand : HandData) (cursor : CursorData) (path : PathData) (left least : ℕ) (spent : Bool) : Type 0 where
  pub within : (scene : ℕ) → has left scene ≡ true → IsFirst search path scene
  pub justified : (scene : ℕ) → IsFirst search path scene → has left scene ≡ false
      → least ≤ step_cost search.film path.rest scene + known (search_rules search) hand.lines (without path.rest scene)
  pub enough : spent ≡ false → hand.told ≤ path.paid + least
  pub ahead : ((scene : ℕ) × IsFirst search path scene
      × (step_cost search.film path.rest scene + (search_rules search).bound (without path.rest scene) ≤ least)) ⊎ (hand.told ≤ path.paid + least)
  pub later : (scene : ℕ) → has left scene ≡ true → ComesAfter (search_rules search) cursor.last (extended search.film path scene)
  pub begun : BegunBy path cursor.last
  pub cut : spent ≡ true → IsCutShort hand cursor

-- ---- before the first child

pub sifted_by : (kind : Kind) (film : FilmData) (search : SearchData) (path : PathData) (told : ℕ) (sifted : Sifted)
    → (search.film ≡ film) × (search.kind ≡ kind) → AreSifted kind film path told sifted → AreSifted search.kind search.film path told sifted
sifted_by kind film search path told sifted (film_is, kind_is) sifts =
    subst (λ (f : FilmData). AreSifted search.kind f path told sifted) (sym film_is)
    (subst (λ (k : Kind). AreSifted k film path told sifted) (sym kind_is) sifts)

pub settled_none : (search : SearchData) (hand : HandData) (cursor : CursorData) (path : PathData) (opened : Opened) (sifted : Sifted)
    → IsOpened hand cursor path opened → AreSifted search.kind search.film path opened.told sifted
    → AreSettled search hand cursor path (to_walk sifted) sifted.least false
settled_none search hand cursor path opened sifted is sifts =
    let enough : hand.told ≤ path.paid + sifted.least = omega (arith, is.told, sifts.enough) in
    record {
      within = sifts.within;
      justified = λ scene first passed.
          omega (arith, sifts.passed scene first passed, known-static (search_rules search) hand.lines (without path.rest scene));
      enough = λ _. enough;
      ahead = inr enough;
      later = λ scene _. subst (λ (last : Option PathData). ComesAfter (search_rules search) last (extended search.film path scene)) (sym is.last)
          (earlier_longer (search_rules search) (all_scenes search.film) path.scenes scene []);
      begun = begun_itself cursor.last path is.last;
      cut = λ is_cut. absurd (let e : false ≡ true = is_cut in cc);
    }

-- ---- the next child may be walked

lies_longer : (depth : ℕ) (tasks : List PathData) (task : ℕ) (path longer : PathData) (s : ℕ) → task ≢ 0 → longer.scenes ≡ path.scenes ++ s ∷ []
    → lies_in depth tasks task path ≡ true → lies_in depth tasks task longer ≡ true
lies_longer depth tasks zero path longer s some more lies = absurd (some refl)
lies_longer depth tasks (suc task) path longer s some more lies =
    let begins : starts_with nat_eq (path.scenes ++ s ∷ []) (slice_index_or tasks task no_task).scenes ≡ true
    = starts_longer path.scenes (slice_index_or tasks task no_task).scenes (s ∷ []) lies in
    subst (λ (scenes : List ℕ). starts_with nat_eq scenes (slice_index_or tasks task no_task).scenes ≡ true) (sym more) begins

module _ (before now : HandData) (cursor cursor_now : CursorData) (path : PathData) (left least : ℕ) (spent : Bool) (s : ℕ)
    (may : MayExplore before cursor path) (walks : Walks before cursor path now cursor_now)
    (settled : AreSettled before.search now cursor_now path left least spent)
    (waits : has left s ≡ true) where
  is_one : IsFirst before.search path s
  is_one = settled.within s waits

  open_longer : IsOpen (search_rules before.search) (extended before.search.film path s)
  open_longer = IsOpen-extended (search_rules before.search) path s may.is_open (open_is before.search.film path.rest s is_one).0 is_one

  pub may_child : MayExplore now cursor_now (extended before.search.film path s)
  may_child = record {
    stands = walks.stands;
    task = λ none. may.task (sym walks.task ∙ none);
    is_open = subst (λ (search : SearchData). IsOpen (search_rules search) (extended before.search.film path s)) (sym walks.search) open_longer;
    lies = ap (λ (search : SearchData). lies_in (depth_of search) search.tasks cursor_now.task (extended before.search.film path s)) walks.search
        ∙ ap (λ (task : ℕ). lies_in (depth_of before.search) before.search.tasks task (extended before.search.film path s)) walks.task
        ∙ lies_longer (depth_of before.search) before.search.tasks cursor.task path (extended before.search.film path s) s may.task refl may.lies;
    later = subst (λ (search : SearchData). ComesAfter (search_rules search) cursor_now.last (extended before.search.film path s)) (sym walks.search)
        (settled.later s waits);
  }

-- ---- a child was walked

-- of those that are left the scene is the next one, by rank
abbrev pub IsNext : SearchData → PathData → ℕ → ℕ → Type 0
IsNext search path left scene = IsSoonest (record { left = left; ranks = rank (search_rules search) path.rest }) scene

module _ (search : SearchData) (now after : HandData) (cursor cursor_after : CursorData) (path : PathData) (left least : ℕ) (spent : Bool)
    (s : ℕ) (found : Found) (here : now.search ≡ search) (is : IsHand after) (walks : Walks now cursor (extended search.film path s) after cursor_after)
    (finds : IsFound after cursor_after (extended search.film path s) found) (settled : AreSettled search now cursor path left least spent)
    (within : IsPath search.film path) (soonest : IsNext search path left s) (next : ℕ) (least_is : next ≡ min least (step_cost search.film path.rest s + found.bound)) where
  first : IsFirst search path s
  first = settled.within s soonest.waits

  same_search : after.search ≡ search
  same_search = walks.search ∙ here

  child_known : found.bound ≤ known (search_rules search) after.lines (without path.rest s)
  child_known = bound_known (search_rules search) after.lines (extended search.film path s) found.line found.bound (λ number some. (finds.line number some).0)
      (λ none. subst (λ (of : SearchData). found.bound ≤ (search_rules of).bound (without path.rest s)) same_search (finds.none none))

  justified_then : (scene : ℕ) → IsFirst search path scene → has (without left s) scene ≡ false
      → next ≤ step_cost search.film path.rest scene + known (search_rules search) after.lines (without path.rest scene)
  justified_then scene is_first out = elim (cases_eq s scene) [
    | inl same ↦ subst (λ (x : ℕ). next ≤ step_cost search.film path.rest x + known (search_rules search) after.lines (without path.rest x)) same
        (omega (arith, least_is, child_known))
    | inr other ↦ (let old : least ≤ step_cost search.film path.rest scene + known (search_rules search) now.lines (without path.rest scene)
        = settled.justified scene is_first (sym (has-without_other left s scene other) ∙ out) in
        omega (arith, least_is, old, known-grows (search_rules search) now.lines after.lines (without path.rest scene) walks.grow))
  ]

  enough_then : (spent || found.spent) ≡ false → after.told ≤ path.paid + next
  enough_then none =
      let both = or_parts spent found.spent none in
      omega (arith, least_is, settled.enough both.0, finds.enough both.1, walks.told)

  abbrev Reached : ℕ → Type 0
  Reached bound = ((scene : ℕ) × IsFirst search path scene
      × (step_cost search.film path.rest scene + (search_rules search).bound (without path.rest scene) ≤ bound)) ⊎ (after.told ≤ path.paid + bound)

  child_ahead : Reached (step_cost search.film path.rest s + found.bound)
  child_ahead = elim finds.reaches [
    | inl static ↦ inl (
      s,
      first,
      (let e : (search_rules search).bound (without path.rest s) ≤ found.bound
          = subst (λ (of : SearchData). (search_rules of).bound (without path.rest s) ≤ found.bound) same_search static in omega (arith, e)),
    )
    | inr told ↦ inr (omega (arith, told))
  ]

  old_ahead : Reached least
  old_ahead = elim settled.ahead [
    | inl one ↦ inl one
    | inr told ↦ inr (omega (arith, told, walks.told))
  ]

  ahead_then : Reached next
  ahead_then = elim (cases_lt least (step_cost search.film path.rest s + found.bound)) [
    | inl less ↦ subst Reached (let e : least ≡ next = omega (arith, least_is, less) in e) old_ahead
    | inr more ↦ subst Reached (let e : step_cost search.film path.rest s + found.bound ≡ next = omega (arith, least_is, more) in e) child_ahead
  ]

  later_then : (scene : ℕ) → has (without left s) scene ≡ true → ComesAfter (search_rules search) cursor_after.last (extended search.film path scene)
  later_then scene waits =
      let still = has_from_without left s scene waits in
      elim walks.last [
        | inl same ↦ subst (λ (last : Option PathData). ComesAfter (search_rules search) last (extended search.film path scene)) (sym same)
            (settled.later scene still.1)
        | inr begun ↦ subst (λ (last : Option PathData). ComesAfter (search_rules search) last (extended search.film path scene)) (sym begun.1)
            (begun_earlier (search_rules search) (all_scenes search.film) begun.0.scenes path.scenes s scene begun.2
            (subst (λ (set : ℕ). IsSooner (rank (search_rules search) set) s scene) within.left (soonest.first scene still.1 (λ e. still.0 (sym e)))))
      ]

  begun_then : BegunBy path cursor_after.last
  begun_then = elim walks.last [
    | inl same ↦ subst (BegunBy path) (sym same) settled.begun
    | inr begun ↦ (begun.0, begun.1, starts_shorter begun.0.scenes path.scenes (s ∷ []) begun.2)
  ]

  cut_then : (spent || found.spent) ≡ true → IsCutShort after cursor_after
  cut_then some = elim (or_cases spent found.spent some) [
    | inl old ↦ cut_stays now after cursor cursor_after (extended search.film path s) is.few walks (settled.cut old)
    | inr new ↦ finds.spent new
  ]

  pub settled_more : AreSettled search after cursor_after path (without left s) next (spent || found.spent)
  settled_more = record {
    within = λ scene waits. settled.within scene (has_from_without left s scene waits).1;
    justified = justified_then;
    enough = enough_then;
    ahead = ahead_then;
    later = later_then;
    begun = begun_then;
    cut = cut_then;
  }
