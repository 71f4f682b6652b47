-- The end of a walk: the line is raised to what its children make known.
use Rattle.std.proofs.Common.{◌≡◌, ◌≢◌, ℕ, ◌+◌, ◌<◌, ◌≤◌, inl, inr, max, Bool, true, false, Some, None, Result, Ok, Err, [], ◌∷◌, ◌++◌, length, refl, sym, ap, ◌∙◌, subst, arith}
use Rattle.std.proofs.lemmas.Bool.{cases_lt}
use Rattle.std.proofs.lemmas.List.{same_from_push}
use Rattle.strip_io.specs.declared.files.Memory.{Memory}
use Rattle.strip_mask.specs.Set.{members, without}
use Rattle.strip_mask.proofs.ByMembers.{has-empty}
use Rattle.strip_mask.proofs.Members.{Contains-members}
use Rattle.strip_model.specs.Film.{FilmData}
use Rattle.strip_film.specs.declared.shared.Known.{Known}
use Rattle.strip_film.specs.Film.{IsFilm, LiesIn}
use Rattle.strip_film.specs.Path.{IsPath, PathData}
use Rattle.strip_film.specs.Shoot.{step_cost}
use Rattle.strip_film.specs.Shown.{CursorData}
use Rattle.strip_film.proofs.Paths.{rest_lies}
use Rattle.strip_film.proofs.Started.{same_path}
use Rattle.strip_rule.specs.Rule.{open_firsts}
use Rattle.strip_rule.proofs.Firsts.{firsts_set}
use Rattle.strip_lines.specs.Lines.{GrowTo, IsJustified, ahead, line_at}
use Rattle.strip_lines.proofs.Ahead.{least_step_le}
use Rattle.strip_lines.specs.Paths.{ComesAfter}
use Rattle.strip_hand.specs.Search.{SearchData, search_rules}
use Rattle.strip_hand.specs.Hand.{HandData, IsHand, Knows}
use Rattle.strip_hand.specs.Calls.{MayRaise}
use Rattle.strip_walk.specs.declared.found.Found.{Found}
use Rattle.strip_walk.specs.Found.{IsFound, MayExplore, known_of}
use Rattle.strip_walk.specs.Walked.{Explores, Walks}
use Rattle.strip_walk.specs.Begun.{Closes, IsFirst, Offers, StaysInPart}
use Rattle.strip_walk.proofs.Answered.{found_still}
use Rattle.strip_walk.proofs.Bounds.{finish_below, known_finishes, knows_known}
use Rattle.strip_walk.proofs.Settled.{AreSettled}
use Rattle.strip_walk.proofs.Stayed.{cut_stays, rose_around, walks_still, walks_trans}

-- a line of what remains after the path
pub record HasLine (hand : HandData) (path : PathData) (line : ℕ) : Type 0 where
  pub there : line < length hand.lines
  pub set : (line_at hand.lines line).set ≡ path.rest

pub line_stays : (now after : HandData) (path : PathData) (line : ℕ) → GrowTo now.lines after.lines → HasLine now path line → HasLine after path line
line_stays now after path line grow has_line = record {
  there = omega (arith, grow.count, has_line.there);
  set = grow.same_set line has_line.there ∙ has_line.set;
}

-- ---- what was offered

pub offered_explores : (before after : HandData) (cursor : CursorData) (path : PathData) (found : Found) → MayExplore before cursor path → path.rest ≡ 0
    → Offers before path found after → Walks before cursor path after cursor × IsFound after cursor path found
offered_explores before after cursor path found may none offers =
    let bound : found.bound ≡ 0 = ap (λ (f : Found). f.bound) offers.nothing in
    let line : found.line ≡ None = ap (λ (f : Found). f.line) offers.nothing in
    let spent : found.spent ≡ false = ap (λ (f : Found). f.spent) offers.nothing in (
      walks_still before after cursor path may.stands offers.stays,
      found_still after cursor path found offers.limits
          (subst (λ (search : SearchData). LiesIn search.film path.rest) (sym offers.stays.search) (rest_lies before.search.film path may.is_open.0))
          (subst (λ (search : SearchData). ComesAfter (search_rules search) cursor.last path) (sym offers.stays.search) may.later) (λ number some. absurd (cc)) (λ _. omega (arith, bound))
          (λ _. omega (arith, offers.offered, bound)) (inr (omega (arith, offers.offered, bound)))
          (λ is_cut. absurd (let e : false ≡ true = sym spent ∙ is_cut in cc)),
    )

-- a path that was taken and taken back is the same
pub taken_back : (film : FilmData) (path longer back : PathData) (s : ℕ) → IsPath film path → IsPath film back → longer.scenes ≡ path.scenes ++ s ∷ []
    → (last : ℕ) × (longer.scenes ≡ back.scenes ++ last ∷ []) → back ≡ path
taken_back film path longer back s is back_is more (last, less) =
    same_path film back path back_is is (same_from_push back.scenes path.scenes last s (sym less ∙ more)).0

-- ---- the end

module _ (before hand : HandData) (cursor cursor_now : CursorData) (path : PathData) (least : ℕ) (spent : Bool)
    (static line most : ℕ) (may : MayExplore before cursor path) (some : path.rest ≢ 0) (is : IsHand hand)
    (walks : Walks before cursor path hand cursor_now) (settled : AreSettled before.search hand cursor_now path 0 least spent)
    (static_is : static ≡ (search_rules before.search).bound path.rest) (has_line : HasLine hand path line) (most_is : most ≡ max least static) where
  justified : IsJustified (search_rules before.search) hand.lines (record { set = path.rest; bound = most })
  justified = elim (cases_lt static least) [
    | inl less ↦ inr (some, λ scene first. omega (arith, settled.justified scene first (has-empty scene), most_is, less))
    | inr more ↦ inl (omega (arith, most_is, more, static_is))
  ]

  pub may_raise : MayRaise hand line most
  may_raise = record {
    there = has_line.there;
    justified = subst (λ (set : ℕ). IsJustified (search_rules hand.search) hand.lines (record { set = set; bound = most })) (sym has_line.set)
        (subst (λ (search : SearchData). IsJustified (search_rules search) hand.lines (record { set = path.rest; bound = most })) (sym walks.search) justified);
  }

  lies : LiesIn before.search.film path.rest
  lies = rest_lies before.search.film path may.is_open.0

  film_is : IsFilm before.search.film
  film_is = subst (λ (search : SearchData). IsFilm search.film) walks.search is.film

  -- a step that is reached reaches the look-ahead
  step_reaches : (scene : ℕ) → IsFirst before.search path scene
      → step_cost before.search.film path.rest scene + (search_rules before.search).bound (without path.rest scene) ≤ least
      → ahead (search_rules before.search) path.rest ≤ most
  step_reaches scene first reached =
      omega (
        arith,
        reached,
        most_is,
        static_is,
        least_step_le (search_rules before.search) path.rest ((search_rules before.search).bound path.rest)
            (members (open_firsts before.search.film path.rest)) scene (Contains-members (open_firsts before.search.film path.rest) scene (firsts_set before.search.film path.rest film_is lies) first),
      )

  module _ (after : HandData) (known : Known) (known_is : known ≡ known_of path line most) where
    explores_after : StaysInPart hand after → Walks before cursor path after cursor_now
    explores_after stays = walks_trans before hand after cursor cursor_now cursor_now path is.few walks (walks_still hand after cursor_now path walks.stands stays)

    found_closed : StaysInPart hand after → Knows after.lines (known_of path line most) → after.note ≡ Some (known_of path line most) → IsHand after
        → IsFound after cursor_now path (record { bound = most; line = Some line; spent = spent })
    found_closed stays knows noted after_is =
        let same : after.search ≡ before.search = stays.search ∙ walks.search in
        let static_after : static ≡ (search_rules after.search).bound path.rest
        = static_is ∙ ap (λ (search : SearchData). (search_rules search).bound path.rest) (sym same) in
        record {
          finish = finish_below after.search.film path.rest most _ (knows_known (search_rules after.search) after.lines (known_of path line most) knows)
              (known_finishes after after_is path.rest (subst (λ (search : SearchData). LiesIn search.film path.rest) (sym same) lies));
          line = λ number is_line. (let e : line ≡ number = cc in
              (subst (λ (n : ℕ). Knows after.lines (known_of path n most)) e knows, omega (arith, static_after, most_is)));
          none = λ is_none. absurd (cc);
          enough = λ whole. omega (arith, settled.enough whole, stays.told, most_is);
          reaches = inl (omega (arith, static_after, most_is));
          begun = λ _. (
            elim settled.ahead [
              | inl one ↦ inl (subst (λ (search : SearchData). ahead (search_rules search) path.rest ≤ most) (sym same) (step_reaches one.0 one.1 one.2))
              | inr told ↦ inr (omega (arith, told, stays.told, most_is))
            ],
            (line, refl, noted),
          );
          spent = λ is_cut. cut_stays hand after cursor_now cursor_now path after_is.few (walks_still hand after cursor_now path walks.stands stays) (settled.cut is_cut);
        }

    pub closes : (result : Result Found Memory) → Closes hand known spent result after → Explores before cursor path result after cursor_now
    closes (Ok found) (stays, found_is, knows, noted, after_is) = (
      explores_after stays,
      subst (IsFound after cursor_now path)
          (sym (found_is ∙ ap (λ (k : Known). record { bound = k.bound; line = Some k.line; spent = spent }) known_is))
          (found_closed stays (subst (Knows after.lines) known_is knows) (noted ∙ ap Some known_is) after_is),
    )
    closes (Err e) (stays, rose) =
        (explores_after stays, rose_around before.refusals hand.refusals after.refusals after.refusals walks.refusals rose (omega arith))
