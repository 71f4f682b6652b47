-- A front that was gone down: its lines, the tasks that are asked for, and what it leaves out.
use Rattle.std.proofs.Common.{◌≡◌, ◌↔◌, ℕ, zero, suc, ◌≤◌, Bool, true, false, Option, Some, None, List, [], ◌∷◌, length, get_or, replicate, count_by, IsSome, inl, inr, refl, sym, ap, ◌∙◌, subst, arith}
use Rattle.std.specs.Option.{option_map, unwrap_or}
use Rattle.strip_model.specs.Film.{FilmData}
use Rattle.strip_film.specs.Path.{PathData}
use Rattle.strip_film.specs.Shown.{CursorData}
use Rattle.strip_hand.specs.Calls.{StandsAt}
use Rattle.strip_hand.specs.Hand.{HandData, IsHand, RecordData}
use Rattle.strip_hand.specs.Search.{depth_of, search_rules}
use Rattle.strip_film.specs.Film.{all_scenes}
use Rattle.strip_lines.specs.Parts.{inside}
use Rattle.strip_lines.specs.Paths.{is_candidate, lists_from, number_up_to}
use Rattle.strip_front.specs.Calls.{IsCutShort, count_in}
use Rattle.strip_front.specs.Filled.{HasLines, IsFilled, IsWanted, IsWhole}
use Rattle.strip_front.specs.Front.{FrontData, is_wanted, root_of}
use Rattle.strip_front.specs.Marked.{MarksMore}
use Rattle.strip_front.proofs.Tried.{some_is}

pub none_wanted : (n task : ℕ) → get_or (replicate n false) task false ≡ false
none_wanted zero task = refl
none_wanted (suc n) zero = refl
none_wanted (suc n) (suc task) = none_wanted n task

module _ (hand : HandData) (film : FilmData) (same : hand.search.film ≡ film) (mid new : FrontData) (marks : MarksMore mid new (IsWanted film mid)) where
  lines_still : HasLines hand mid → HasLines hand new
  lines_still lines = subst (HasLines hand) (sym marks.only) (λ place line within at. lines place line within at)

  pub whole_still : (value : ℕ) → IsWhole hand.search mid value → IsWhole hand.search new value
  whole_still value whole = subst (λ (f : FrontData). IsWhole hand.search f value) (sym marks.only) (record { none = whole.none; paths = whole.paths })

  wanted_still : (task : ℕ) → IsWanted film mid task ↔ IsWanted hand.search.film new task
  wanted_still task =
      subst (λ (f : FilmData). IsWanted film mid task ↔ IsWanted f new task) (sym same)
      (subst (λ (f : FrontData). IsWanted film mid task ↔ IsWanted film f task) (sym marks.only) ((λ wanted. wanted), (λ wanted. wanted)))

  pub filled : (count : ℕ) → mid.wanted ≡ replicate count false → HasLines hand mid → IsFilled hand new
  filled count none lines = record {
    lines = lines_still lines;
    wanted = λ task within. (
        let now = marks.marked task (omega (arith, within, ap (λ (f : FrontData). length f.tasks) marks.only)) in
        let before : is_wanted mid task ≡ false = ap (λ (xs : List Bool). get_or xs task false) none ∙ none_wanted count task in (
          (λ is. elim (now.0 is) [
            | inl already ↦ absurd (let e : is_wanted mid task ≡ true = already in cc)
            | inr wanted ↦ (wanted_still task).0 wanted
          ]),
          (λ wanted. now.1 (inr ((wanted_still task).1 wanted))),
        )
        );
  }

-- none is counted without a last path
none_counted : (xs : List (List ℕ)) → count_by (λ (_ : List ℕ). false) xs ≡ 0
none_counted [] = refl
none_counted (x ∷ xs) = none_counted xs

-- where a hand knows no lines but of paths that it enlisted in the front, and they are as many as there may be, the empty path has one
pub root_own : (hand : HandData) (cursor : CursorData) (front : FrontData) → IsHand hand → StandsAt hand cursor → cursor.task ≡ 0 → IsSome (root_of front) ↔ IsSome cursor.last
    → IsCutShort hand cursor → 1 ≤ hand.search.nodes → length hand.lines ≤ count_in hand 0 → IsSome (root_of front)
root_own hand cursor front is stands task both cut some few = by_last cursor.last refl
  where
    record_at : hand.records 0 ≡ Some (record { last = cursor.last; number = stands.0 })
    record_at = subst (λ (part : ℕ). hand.records part ≡ Some (record { last = cursor.last; number = stands.0 })) task stands.1

    count : count_in hand 0 ≡ stands.0
    count = ap (λ (o : Option RecordData). unwrap_or (option_map (λ (entry : RecordData). entry.number) o) 0) record_at

    by_last : (last : Option PathData) → cursor.last ≡ last → IsSome (root_of front)
    by_last (Some path) at = both.1 (some_is cursor.last path at)
    by_last None at =
        let entry : RecordData = record { last = None; number = stands.0 } in
        let none = (is.records 0 entry (record_at ∙ ap (λ (o : Option PathData). Some (record { last = o; number = stands.0 })) at)).share in
        let zero : number_up_to (search_rules hand.search) None (inside (depth_of hand.search) hand.search.tasks 0 (is_candidate (search_rules hand.search) hand.search.start)) ≡ 0
        = none_counted (lists_from hand.search.film (length hand.search.film.casts) (all_scenes hand.search.film)) in
        absurd (omega (arith, none, zero, count, few, some, cut.full))
