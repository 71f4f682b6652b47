-- The pass by falling set: what is marked so far.
use Rattle.std.proofs.Common.{◌≡◌, ℕ, ◌+◌, ◌<◌, ◌≤◌, Bool, true, false, List, [], ◌∷◌, ◌++◌, length, get_or, inl, inr, refl, ap, sym, ◌∙◌, subst, arith, append_assoc, append-nil}
use Rattle.std.proofs.lemmas.Bool.{cases_eq}
use Rattle.std.proofs.lemmas.List.{get_or_at, get_or-map, length-append, length-map}
use Rattle.std.proofs.lemmas.List.Kept.{AllPairs-from_increasing}
use Rattle.strip_mask.specs.Set.{has, without}
use Rattle.strip_film.specs.declared.shared.Line.{Line}
use Rattle.strip_film.specs.Film.{all_scenes}
use Rattle.strip_film.specs.Finish.{rest_after}
use Rattle.strip_film.specs.Rules.{Rules}
use Rattle.strip_film.proofs.Lists.{rest_after-append}
use Rattle.strip_lines.specs.Lines.{line_at}
use Rattle.strip_trim.specs.declared.best.BestLine.{BestLine}
use Rattle.strip_trim.specs.Best.{AreBestLines, IsBestLine, best_at, no_best, sets_of}
use Rattle.strip_trim.specs.Marks.{AreMarked, Follows, IsBestOf, MarksMore, is_marked}
use Rattle.strip_trim.specs.Trimmed.{Leads, LeadsOn, LineStays, Reached}
use Rattle.strip_trim.proofs.Found.{best_of_entry, best_of_some, entry_of}

-- `rest` is what is still to come, from the last entry down: the marks are at lines that stay, that of the whole set among them, and
-- what the entries that were passed lead on to is marked
pub record IsUnderWay (rules : Rules) (lines : List Line) (entries rest : List BestLine) (marks : List Bool) : Type 0 where
  pub later : List BestLine
  pub all : rest ++ later ≡ entries
  pub stays : (place : ℕ) → is_marked marks place ≡ true → LineStays rules lines place
  pub whole : (place : ℕ) → IsBestOf lines (all_scenes rules.film) place → is_marked marks place ≡ true
  pub closed : (k : ℕ) → length rest ≤ k → k < length entries → is_marked marks (best_at entries k).line ≡ true
      → (place : ℕ) → Follows rules lines (best_at entries k).set place → is_marked marks place ≡ true

Leads-append : (rules : Rules) (lines : List Line) (set scene : ℕ) (scenes : List ℕ) → Leads rules lines set scenes
    → LeadsOn rules lines (rest_after set scenes) scene → Leads rules lines set (scenes ++ scene ∷ [])
Leads-append rules lines set scene [] leads on = (on, tt)
Leads-append rules lines set scene (first ∷ scenes) leads on = (leads.0, Leads-append rules lines (without set first) scene scenes leads.1 on)

-- what a set that is reached leads on to is reached
pub reached_on : (rules : Rules) (lines : List Line) (set scene : ℕ) → Reached rules lines set → LeadsOn rules lines set scene → Reached rules lines (without set scene)
reached_on rules lines set scene (scenes, leads, ends) on = (
  scenes ++ scene ∷ [],
  Leads-append rules lines (all_scenes rules.film) scene scenes leads (subst (λ (q : ℕ). LeadsOn rules lines q scene) (sym ends) on),
  rest_after-append (all_scenes rules.film) scene scenes ∙ ap (λ (q : ℕ). without q scene) ends,
)

module _ (rules : Rules) (lines : List Line) (entries : List BestLine) (are : AreBestLines lines entries) where
  pub started : (none marks : List Bool) → ((place : ℕ) → is_marked none place ≡ false) → MarksMore none marks (IsBestOf lines (all_scenes rules.film))
      → IsUnderWay rules lines entries entries marks
  started none marks unmarked more = record {
    later = [];
    all = append-nil entries;
    stays = λ place mark. elim ((more place).0 mark) [
      | inl was ↦ absurd (let both : true ≡ false = sym was ∙ unmarked place in cc)
      | inr best ↦ record { best = best.0; reached = subst (Reached rules lines) (sym best.1) ([], tt, refl) }
    ];
    whole = λ place best. (more place).1 (inr best);
    closed = λ k low within. absurd (omega (arith, low, within));
  }

  module _ (rest : List BestLine) (entry : BestLine) (marks : List Bool) (so_far : IsUnderWay rules lines entries (rest ++ entry ∷ []) marks) where
    all_now : rest ++ entry ∷ so_far.later ≡ entries
    all_now = sym (append_assoc rest (entry ∷ []) so_far.later) ∙ so_far.all

    pub within_now : length rest < length entries
    within_now = omega (arith, length-append rest (entry ∷ so_far.later), ap (λ (xs : List BestLine). length xs) all_now)

    at_now : best_at entries (length rest) ≡ entry
    at_now = ap (λ (xs : List BestLine). best_at xs (length rest)) (sym all_now) ∙ get_or_at rest entry so_far.later no_best (length rest) refl

    pub best_now : IsBestLine lines entry
    best_now = subst (IsBestLine lines) at_now (are.each (length rest) no_best within_now)

    one_more : length (rest ++ entry ∷ []) ≡ length rest + 1
    one_more = length-append rest (entry ∷ [])

    -- an entry that isn't marked leads on to nothing
    pub passed_by : is_marked marks entry.line ≡ false → IsUnderWay rules lines entries rest marks
    passed_by unmarked = record {
      later = entry ∷ so_far.later;
      all = all_now;
      stays = so_far.stays;
      whole = so_far.whole;
      closed = λ k low within mark. elim (cases_eq k (length rest)) [
        | inl here ↦ absurd (
            let line : (best_at entries k).line ≡ entry.line = ap (λ (i : ℕ). (best_at entries i).line) here ∙ ap (λ (b : BestLine). b.line) at_now in
            let both : true ≡ false = sym mark ∙ (ap (is_marked marks) line ∙ unmarked) in cc)
        | inr past ↦ so_far.closed k (omega (arith, low, past, one_more)) within mark
      ];
    }

    module _ (smaller : (set scene : ℕ) → has (rules.firsts set) scene ≡ true → without set scene < set) (more : List Bool)
        (mark : is_marked marks entry.line ≡ true) (next : MarksMore marks more (Follows rules lines entry.set)) where
      kept : (place : ℕ) → is_marked marks place ≡ true → is_marked more place ≡ true
      kept place old = (next place).1 (inl old)

      reached_now : Reached rules lines entry.set
      reached_now = subst (Reached rules lines) (best_of_entry lines entry best_now).1 (so_far.stays entry.line mark).reached

      set_at : (k : ℕ) → k < length entries → get_or (sets_of entries) k 0 ≡ (best_at entries k).set
      set_at k within = get_or-map (λ (best : BestLine). best.set) entries k no_best 0 within

      -- the entries that were passed have greater sets, and none of them is marked now
      no_new : (k : ℕ) → length rest < k → k < length entries → Follows rules lines entry.set (best_at entries k).line → ⊥
      no_new k past within (scene, leads, best) =
          let there : (line_at lines (best_at entries k).line).set ≡ (best_at entries k).set = (best_of_entry lines (best_at entries k) (are.each k no_best within)).1 in
          let rise : get_or (sets_of entries) (length rest) 0 < get_or (sets_of entries) k 0
          = AllPairs-from_increasing (sets_of entries) are.rising (length rest) k 0 past (omega (arith, within, length-map entries (λ (b : BestLine). b.set))) in
          let here : (best_at entries (length rest)).set ≡ entry.set = ap (λ (b : BestLine). b.set) at_now in
          omega (arith, there, rise, here, set_at k within, set_at (length rest) within_now, best.1, smaller entry.set scene leads.first)

      pub passed : IsUnderWay rules lines entries rest more
      passed = record {
        later = entry ∷ so_far.later;
        all = all_now;
        stays = λ place now. elim ((next place).0 now) [
          | inl old ↦ so_far.stays place old
          | inr (scene, leads, best) ↦ record {
            best = best.0;
            reached = subst (Reached rules lines) (sym best.1) (reached_on rules lines entry.set scene reached_now leads);
          }
        ];
        whole = λ place best. kept place (so_far.whole place best);
        closed = λ k low within now place follows. elim (cases_eq k (length rest)) [
          | inl here ↦ (
              let same : (best_at entries k).set ≡ entry.set = ap (λ (i : ℕ). (best_at entries i).set) here ∙ ap (λ (b : BestLine). b.set) at_now in
              (next place).1 (inr (subst (λ (q : ℕ). Follows rules lines q place) same follows)))
          | inr past ↦ elim ((next (best_at entries k).line).0 now) [
            | inl old ↦ kept place (so_far.closed k (omega (arith, low, past, one_more)) within old place follows)
            | inr new ↦ absurd (no_new k (omega (arith, low, past)) within new)
          ]
        ];
      }

  -- at the end each line that stays is marked
  module _ (rest : List BestLine) (marks : List Bool) (done : IsUnderWay rules lines entries rest marks) (none : length rest ≡ 0) where
    led_to : (set : ℕ) (scenes : List ℕ) → ((place : ℕ) → IsBestOf lines set place → is_marked marks place ≡ true) → Leads rules lines set scenes
        → (place : ℕ) → IsBestOf lines (rest_after set scenes) place → is_marked marks place ≡ true
    led_to set [] here leads = here
    led_to set (scene ∷ scenes) here leads = led_to (without set scene) scenes next leads.1
      where
        best : (place : ℕ) × IsBestOf lines set place
        best = best_of_some lines set (let e = leads.0.above in omega (arith, e))

        next : (place : ℕ) → IsBestOf lines (without set scene) place → is_marked marks place ≡ true
        next place follows =
            let entry = entry_of lines entries are set best.0 best.1 in
            let mark : is_marked marks (best_at entries entry.0).line ≡ true = ap (is_marked marks) entry.3 ∙ here best.0 best.1 in
            done.closed entry.0 (omega (arith, none)) entry.1 mark place
            (subst (λ (q : ℕ). Follows rules lines q place) (sym entry.2) (scene, leads.0, follows))

    pub ended : length marks ≡ length lines → AreMarked rules lines marks
    ended count = record {
      count = count;
      exact = λ place. (
        done.stays place,
        λ stay. led_to (all_scenes rules.film) stay.reached.0 done.whole stay.reached.1 place (stay.best, sym stay.reached.2),
      );
    }
