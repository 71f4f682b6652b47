-- By what the front's lines may be raised, and what that reaches.
use Rattle.std.proofs.Common.{◌≡◌, ◌≢◌, ℕ, suc, ◌+◌, ◌-◌, ◌<◌, ◌≤◌, ◌^◌, max, true, Some, None, Option, List, length, slice_index, slice_set, Contains, IsSome, inl, inr, refl, sym, ap, ◌∙◌, subst, arith}
use Rattle.std.proofs.lemmas.Bool.{cases_eq, cases_lt}
use Rattle.std.proofs.lemmas.List.{get_or-set_other, get_or-set_same}
use Rattle.std.specs.Option.{unwrap_or}
use Rattle.strip_mask.specs.Set.{has, members, size, without}
use Rattle.strip_mask.proofs.Below.{LiesBelow-without, size-full}
use Rattle.strip_mask.proofs.Members.{Contains-members}
use Rattle.strip_mask.proofs.Sizes.{empty_from_size, size-without}
use Rattle.strip_model.specs.declared.kind.Kind.{Kind}
use Rattle.strip_model.specs.Film.{FilmData}
use Rattle.strip_film.specs.declared.shared.Line.{Line}
use Rattle.strip_film.specs.Film.{LiesIn, all_scenes}
use Rattle.strip_film.specs.Path.{PathData}
use Rattle.strip_film.specs.Rules.{Rules}
use Rattle.strip_film.specs.Shoot.{step_cost}
use Rattle.strip_film.proofs.Costs.{step_limit}
use Rattle.strip_film.proofs.Paths.{rest_lies}
use Rattle.strip_bound.specs.Bounds.{bound}
use Rattle.strip_rule.specs.Rule.{open_firsts}
use Rattle.strip_rule.proofs.Open.{open_begins_least}
use Rattle.strip_rule.proofs.Firsts.{first_there, firsts_set}
use Rattle.strip_lines.specs.Lines.{GrowTo, IsJustified, ahead, known, least_step, line_at}
use Rattle.strip_lines.proofs.Ahead.{least_step_le}
use Rattle.strip_lines.proofs.Grown.{known-grows, known-static}
use Rattle.strip_hand.specs.Calls.{MayRaise}
use Rattle.strip_hand.specs.Hand.{HandData, IsHand}
use Rattle.strip_hand.specs.Search.{search_rules}
use Rattle.strip_paths.proofs.Open.{set_is}
use Rattle.strip_front.specs.Calls.{AllReach, AreFound, Learns}
use Rattle.strip_front.specs.Filled.{HasLine, IsFilled, IsWhole}
use Rattle.strip_front.specs.Front.{FrontData, IsFrontOf, is_wanted, line_of, path_at, root_of}
use Rattle.strip_front.specs.Raised.{AreRaised, IsNumberOf, ReachesBy, ReachesFrom}
use Rattle.strip_front.proofs.FrontFacts.{FrontFacts, IsPathAfter, IsTaskAfter}
use Rattle.strip_front.proofs.Small.{bound-empty, known_small, line_makes_known}
use Rattle.strip_front.proofs.Tried.{none_isnt, some_is}

-- the greater of the static bound and a number that each open first reaches is justified
pub greater_justified : (rules : Rules) (lines : List Line) (set static least : ℕ) → static ≡ rules.bound set → set ≢ 0
    → ((scene : ℕ) → has (rules.firsts set) scene ≡ true → least ≤ step_cost rules.film set scene + known rules lines (without set scene))
    → IsJustified rules lines (record { set = set; bound = max static least })
greater_justified rules lines set static least is some steps = elim (cases_lt static least) [
  | inl less ↦ inr (some, λ scene first. omega (arith, steps scene first, less))
  | inr more ↦ inl (omega (arith, is, more))
]

same_line : (o : Option ℕ) (a b : ℕ) → o ≡ Some a → o ≡ Some b → a ≡ b
same_line o a b one two = ap (λ (x : Option ℕ). unwrap_or x 0) (sym one ∙ two)

-- a set has one number
module _ (kind : Kind) (film : FilmData) (front : FrontData) (facts : FrontFacts kind film front) (found numbers : List ℕ) where
  pub one_number : (set one other : ℕ) → IsNumberOf front found numbers set one → IsNumberOf front found numbers set other → one ≡ other
  one_number set one other (inl a) (inl b) =
      a.3 ∙ ap (slice_index found) (facts.one_task a.0 b.0 a.1 b.1 (a.2 ∙ sym b.2)) ∙ sym b.3
  one_number set one other (inl a) (inr b) = absurd (facts.never_both b.0 a.0 b.1 a.1 (b.2 ∙ sym a.2))
  one_number set one other (inr a) (inl b) = absurd (facts.never_both a.0 b.0 a.1 b.1 (a.2 ∙ sym b.2))
  one_number set one other (inr a) (inr b) =
      a.3 ∙ ap (slice_index numbers) (facts.one_path a.0 b.0 a.1 b.1 (a.2 ∙ sym b.2)) ∙ sym b.3

-- at most what each open first reaches; at least what each of them does; and that each reaches something
abbrev pub MostFor : FilmData → FrontData → List ℕ → List ℕ → ℕ → ℕ → Type 0
MostFor film front found numbers set number =
    (scene reach : ℕ) → has (open_firsts film set) scene ≡ true → ReachesBy film front found numbers set scene reach → number ≤ reach

abbrev pub LeastFor : FilmData → FrontData → List ℕ → List ℕ → ℕ → ℕ → Type 0
LeastFor film front found numbers set least =
    (value : ℕ) → value < 2 ^ 64 → MostFor film front found numbers set value → value ≤ least

abbrev pub AllFor : FilmData → FrontData → List ℕ → List ℕ → ℕ → Type 0
AllFor film front found numbers set =
    (scene : ℕ) → has (open_firsts film set) scene ≡ true → (reach : ℕ) × ReachesBy film front found numbers set scene reach × (reach < 2 ^ 64)

-- of what remains after a first scene: its number is at most what is known of it, and reaches what the front leaves out nothing below of
record HasNumber (hand : HandData) (front : FrontData) (found numbers : List ℕ) (place scene number : ℕ) : Type 0 where
  is : IsNumberOf front found numbers (without (path_at front place).rest scene) number
  known_of : number ≤ known (search_rules hand.search) hand.lines (without (path_at front place).rest scene)
  reaches : (value : ℕ) → IsWhole hand.search front value → AllReach front found value
      → value ≤ (path_at front place).paid + step_cost hand.search.film (path_at front place).rest scene + number
  behind_root : place ≡ 0 → bound hand.search.kind hand.search.film (without (path_at front place).rest scene) ≤ number

module _ (hand : HandData) (sound : IsHand hand) (front : FrontData) (front_of : IsFrontOf (search_rules hand.search) front)
    (facts : FrontFacts hand.search.kind hand.search.film front) (filled : IsFilled hand front) (found : List ℕ)
    (are : AreFound hand front found) (numbers : List ℕ) (place : ℕ) (within : place < length front.paths)
    (raised : AreRaised hand front found numbers (suc (length (path_at front place).scenes))) where
  abbrev rest : ℕ
  rest = (path_at front place).rest

  pub rest_in : LiesIn hand.search.film rest
  rest_in = rest_lies hand.search.film (path_at front place) (facts.is_open place within).0

  rest_of_root : place ≡ 0 → rest ≡ all_scenes hand.search.film
  rest_of_root root = ap (λ (p : ℕ). (path_at front p).rest) root ∙ ap (λ (p : PathData). p.rest) facts.first

  -- where a task has one scene, so has the film
  nothing_left : place ≡ 0 → front.depth ≡ suc (length (path_at front place).scenes) → (scene : ℕ) → has rest scene ≡ true → without rest scene ≡ 0
  nothing_left root deep scene member =
      let film = hand.search.film in
      let none : length (path_at front place).scenes ≡ 0 = ap (λ (p : ℕ). length (path_at front p).scenes) root ∙ ap (λ (p : PathData). length p.scenes) facts.first in
      let one : length film.casts ≡ 1 = front_of.depth.one (omega (arith, deep, none)) in
      empty_from_size (without rest scene) (set_is film sound.film (without rest scene) (LiesBelow-without (length film.casts) rest scene rest_in))
      (omega (
        arith,
        one,
        ap size (rest_of_root root),
        size-full (length film.casts) sound.film.scene_count.1,
        size-without rest scene (set_is film sound.film rest rest_in) member,
      ))

  -- without a line
  pub reached_static : IsSome (root_of front) → line_of front place ≡ None → (number : ℕ) → number ≡ bound hand.search.kind hand.search.film rest
      → ReachesFrom hand front found place number
  reached_static root none number is = record {
    known_of = omega (arith, is, known-static (search_rules hand.search) hand.lines rest);
    raised = λ line some. absurd (let e : Some line ≡ None = sym some ∙ none in cc);
    static_bound = omega (arith, is);
    reaches = λ value whole all. omega (arith, is, whole.paths root place within none);
    looks_ahead = λ first some. absurd (none_isnt (line_of front place) none (subst (λ (p : ℕ). IsSome (line_of front p)) (sym first) some));
  }

  module _ (line : ℕ) (has_line : line_of front place ≡ Some line) where
    the_line : HasLine hand.lines line rest
    the_line = (filled.lines place line within has_line).1

    by_path : (scene other : ℕ) → IsPathAfter hand.search.film front place scene other → HasNumber hand front found numbers place scene (slice_index numbers other)
    by_path scene other after =
        let reached : ReachesFrom hand front found other (slice_index numbers other) = raised other after.0 (omega (arith, after.3)) in record {
          is = inr (other, after.0, after.1, refl);
          known_of = subst (λ (q : ℕ). slice_index numbers other ≤ known (search_rules hand.search) hand.lines q) after.1 reached.known_of;
          reaches = λ value whole all. omega (arith, reached.reaches value whole all, after.2);
          behind_root = λ _. subst (λ (q : ℕ). bound hand.search.kind hand.search.film q ≤ slice_index numbers other) after.1 reached.static_bound;
        }

    by_task : (scene : ℕ) → has (open_firsts hand.search.film rest) scene ≡ true → (task : ℕ) → IsTaskAfter hand.search.film front place scene task
        → HasNumber hand front found numbers place scene (slice_index found task)
    by_task scene member task after =
        let wanted : is_wanted front task ≡ true = (filled.wanted task after.0).1 (place, within, some_is (line_of front place) line has_line, (scene, member, after.1)) in record {
          is = inl (task, after.0, after.1, refl);
          known_of = subst (λ (q : ℕ). slice_index found task ≤ known (search_rules hand.search) hand.lines q) after.1 (are task after.0 wanted);
          reaches = λ value whole all. omega (arith, all task after.0 wanted, after.2);
          behind_root = λ root. omega (
            arith,
            bound-empty hand.search.kind hand.search.film sound.film,
            ap (bound hand.search.kind hand.search.film) (nothing_left root after.3 scene (first_there hand.search.film rest scene member)),
          );
        }

    number_after : (scene : ℕ) → has (open_firsts hand.search.film rest) scene ≡ true → (number : ℕ) × HasNumber hand front found numbers place scene number
    number_after scene member = elim (facts.after place scene within member) [
      | inl path ↦ (slice_index numbers path.0, by_path scene path.0 path.1)
      | inr task ↦ (slice_index found task.0, by_task scene member task.0 task.1)
    ]

    step_small : (scene : ℕ) → has (open_firsts hand.search.film rest) scene ≡ true → (number : ℕ)
        → number ≤ known (search_rules hand.search) hand.lines (without rest scene) → step_cost hand.search.film rest scene + number < 2 ^ 64
    step_small scene member number most =
        let film = hand.search.film in
        omega (
          arith,
          most,
          known_small hand (without rest scene) sound (LiesBelow-without (length film.casts) rest scene rest_in),
          step_limit film rest scene sound.film (set_is film sound.film rest rest_in) (first_there film rest scene member),
        )

    -- each open first reaches something, which fits a word
    pub all_for : AllFor hand.search.film front found numbers rest
    all_for scene member =
        let after = number_after scene member in (
          step_cost hand.search.film rest scene + after.0,
          (after.0, after.1.is, refl),
          step_small scene member after.0 after.1.known_of,
        )

    module _ (static least : ℕ) (static_is : static ≡ bound hand.search.kind hand.search.film rest)
        (most : MostFor hand.search.film front found numbers rest least) where
      least_steps : (scene : ℕ) → has (open_firsts hand.search.film rest) scene ≡ true
          → least ≤ step_cost hand.search.film rest scene + known (search_rules hand.search) hand.lines (without rest scene)
      least_steps scene member =
          let after = number_after scene member in
          omega (arith, after.1.known_of, most scene (step_cost hand.search.film rest scene + after.0) member (after.0, after.1.is, refl))

      pub may_raise : (number : ℕ) → number ≡ max static least → MayRaise hand line number
      may_raise number at = record {
        there = the_line.there;
        justified = subst (λ (q : ℕ). IsJustified (search_rules hand.search) hand.lines (record { set = q; bound = number })) (sym the_line.leaves)
            (subst (λ (n : ℕ). IsJustified (search_rules hand.search) hand.lines (record { set = rest; bound = n })) (sym at)
            (greater_justified (search_rules hand.search) hand.lines rest static least static_is (facts.remains place within) least_steps));
      }

      module _ (least_for : LeastFor hand.search.film front found numbers rest least) (number : ℕ) (at : number ≡ max static least) where
        some_first : (scene : ℕ) × (has (open_firsts hand.search.film rest) scene ≡ true)
        some_first =
            let one = open_begins_least hand.search.film sound.film rest rest_in (facts.remains place within) in (one.0, one.1)

        -- what a number reaches by each open first, the least does
        by_each : (value : ℕ) → value < 2 ^ 64 → ((scene : ℕ) (member : has (open_firsts hand.search.film rest) scene ≡ true)
            → value ≤ step_cost hand.search.film rest scene + (number_after scene member).0) → value ≤ least
        by_each value small each = least_for value small (λ scene reach member (n, is, reach_is).
            omega (
              arith,
              reach_is,
              each scene member,
              one_number hand.search.kind hand.search.film front facts found numbers (without rest scene) n (number_after scene member).0 is (number_after scene member).1.is,
            ))

        reach : (value : ℕ) → IsWhole hand.search front value → AllReach front found value → value ≤ (path_at front place).paid + number
        reach value whole all =
            let first = number_after some_first.0 some_first.1 in
            let less = by_each (value - (path_at front place).paid)
            (omega (arith, first.1.reaches value whole all, step_small some_first.0 some_first.1 first.0 first.1.known_of))
            (λ scene member. omega (arith, (number_after scene member).1.reaches value whole all)) in
            omega (arith, less, at)

        -- that of the empty path reaches the look-ahead
        module _ (root : place ≡ 0) where
          abbrev scenes : List ℕ
          scenes = members (open_firsts hand.search.film rest)

          among : (scene : ℕ) → has (open_firsts hand.search.film rest) scene ≡ true → Contains scenes scene
          among scene member = Contains-members (open_firsts hand.search.film rest) scene (firsts_set hand.search.film rest sound.film rest_in) member

          ahead_least : least_step (search_rules hand.search) rest (bound hand.search.kind hand.search.film rest) scenes ≤ least
          ahead_least =
              let film = hand.search.film in
              let lower = least_step_le (search_rules hand.search) rest (bound hand.search.kind film rest) scenes in
              by_each (least_step (search_rules hand.search) rest (bound hand.search.kind film rest) scenes)
              (omega (
                arith,
                lower some_first.0 (among some_first.0 some_first.1),
                (number_after some_first.0 some_first.1).1.behind_root root,
                step_small some_first.0 some_first.1 (number_after some_first.0 some_first.1).0 (number_after some_first.0 some_first.1).1.known_of,
              ))
              (λ scene member. omega (arith, lower scene (among scene member), (number_after scene member).1.behind_root root))

          pub root_ahead : ahead (search_rules hand.search) (all_scenes hand.search.film) ≤ number
          root_ahead =
              subst (λ (q : ℕ). ahead (search_rules hand.search) q ≤ number) (rest_of_root root)
              (omega (arith, ahead_least, static_is, at))

        -- the line was raised to the number
        pub reached_raised : (after : HandData) → after ≡ record hand { lines = after.lines } → GrowTo hand.lines after.lines → number ≤ (line_at after.lines line).bound
            → ReachesFrom after front found place number
        reached_raised after only grow high = subst (λ (h : HandData). ReachesFrom h front found place number) (sym only) (record {
          known_of = line_makes_known hand.search hand.lines after.lines line rest number the_line grow high;
          raised = λ other some. subst (λ (l : ℕ). number ≤ (line_at after.lines l).bound) (same_line (line_of front place) line other has_line some) high;
          static_bound = omega (arith, static_is, at);
          reaches = λ value whole all. reach value whole all;
          looks_ahead = λ first some. root_ahead first;
        })

-- ---- numbers that stay

-- a path's number, where more is known
module _ (hand after : HandData) (learns : Learns hand after) (front : FrontData) (found : List ℕ) where
  pub reaches_still : (place number : ℕ) → ((line : ℕ) → line_of front place ≡ Some line → line < length hand.lines)
      → ReachesFrom hand front found place number → ReachesFrom after front found place number
  reaches_still place number there was = subst (λ (h : HandData). ReachesFrom h front found place number) (sym learns.only) (record {
    known_of = omega (arith, was.known_of, known-grows (search_rules hand.search) hand.lines after.lines (path_at front place).rest learns.grow);
    raised = λ line some. omega (arith, was.raised line some, learns.grow.no_lower line (there line some));
    static_bound = was.static_bound;
    reaches = was.reaches;
    looks_ahead = was.looks_ahead;
  })

-- one path more of a layer has its number
module _ (hand after : HandData) (learns : Learns hand after) (front : FrontData) (filled : IsFilled hand front) (found numbers : List ℕ)
    (place number count : ℕ) (within : place < length front.paths) (room : place < length numbers) (here : length (path_at front place).scenes ≡ count)
    (reached : ReachesFrom after front found place number) where
  abbrev then : List ℕ
  then = slice_set numbers place number

  still : (p : ℕ) → p < length front.paths → p ≢ place → ReachesFrom hand front found p (slice_index numbers p) → ReachesFrom after front found p (slice_index then p)
  still p there other was =
      subst (ReachesFrom after front found p) (sym (get_or-set_other numbers place p number 0 other))
      (reaches_still hand after learns front found p (slice_index numbers p) (λ line some. (filled.lines p line there some).1.there) was)

  pub longer_still : AreRaised hand front found numbers (count + 1) → AreRaised after front found then (count + 1)
  longer_still longer p there long = still p there (λ same. omega (arith, long, here, ap (λ (q : ℕ). length (path_at front q).scenes) same)) (longer p there long)

  pub one_more_raised : ((p : ℕ) → p < place → count ≤ length (path_at front p).scenes → ReachesFrom hand front found p (slice_index numbers p))
      → (p : ℕ) → p < place + 1 → count ≤ length (path_at front p).scenes → ReachesFrom after front found p (slice_index then p)
  one_more_raised before p earlier long = elim (cases_eq p place) [
    | inl same ↦ subst (λ (q : ℕ). ReachesFrom after front found q (slice_index then q)) (sym same)
        (subst (ReachesFrom after front found place) (sym (get_or-set_same numbers place number 0 room)) reached)
    | inr other ↦ still p (omega (arith, earlier, within)) other (before p (omega (arith, earlier, other)) long)
  ]

-- a path of another layer is passed over
pub one_more_passed : (hand : HandData) (front : FrontData) (found numbers : List ℕ) (place count : ℕ) → place < length front.paths → length (path_at front place).scenes ≢ count
    → AreRaised hand front found numbers (count + 1) → ((p : ℕ) → p < place → count ≤ length (path_at front p).scenes → ReachesFrom hand front found p (slice_index numbers p))
    → (p : ℕ) → p < place + 1 → count ≤ length (path_at front p).scenes → ReachesFrom hand front found p (slice_index numbers p)
one_more_passed hand front found numbers place count within other longer before p earlier long = elim (cases_eq p place) [
  | inl same ↦ longer p (omega (arith, same, within)) (omega (arith, long, ap (λ (q : ℕ). length (path_at front q).scenes) same, other))
  | inr before_it ↦ before p (omega (arith, earlier, before_it)) long
]
