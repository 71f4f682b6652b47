-- A draw of the next line, or of a number beyond the last.
use Rattle.std.proofs.Common.{◌≡◌, ◌≢◌, ℕ, ◌+◌, ◌%◌, ◌<◌, ◌≤◌, Bool, true, false, cond, eqb, Some, List, [], ◌∷◌, ◌++◌, All, length, slice_set, set, inl, inr, refl, sym, ap, ◌∙◌, subst, arith}
use Rattle.std.specs.Prelude.{slice_index}
use Rattle.std.proofs.lemmas.Bool.{and_from, cases_Bool, cases_lt}
use Rattle.std.proofs.lemmas.List.{length-append, length-set, get_or-set_same, get_or-set_other, get_or_append_left}
use Rattle.std.proofs.lemmas.List.Sums.{sum_by-append}
use Rattle.std.proofs.Math.Seq.{get_or-append_seam}
use mathlib.Core.Option.{some}
use lib.ListN.{get_elem?}
use Rattle.atomic_table.specs.Table.{Allows, Me, State, keeps}
use Rattle.strip_mask.proofs.Sizes.{mark}
use Rattle.strip_film.specs.declared.path.Path.{Path}
use Rattle.strip_film.specs.declared.shared.Line.{Line}
use Rattle.strip_film.specs.Film.{IsFilm}
use Rattle.strip_film.specs.Path.{PathData}
use Rattle.strip_film.proofs.Paths.{rest_lies}
use Rattle.strip_lines.specs.Lines.{AreJustified, line_at, no_line}
use Rattle.strip_lines.proofs.Grown.{added-grows, grow_self, justified-added}
use Rattle.strip_lines.specs.Parts.{inside, lies_in}
use Rattle.strip_lines.specs.Paths.{IsUnfinished, is_candidate, leaving, number_up_to}
use Rattle.strip_lines.proofs.Later.{counts_more, counts_stay}
use Rattle.strip_lines.proofs.Shares.{is_candidate_from}
use Rattle.strip_hand.specs.Hand.{RecordData}
use Rattle.strip_hand.specs.Search.{SearchData, depth_of, search_rules}
use Rattle.strip_book.specs.View.{EntryData, ViewData, enlisted}
use Rattle.strip_book.specs.Words.{bound_word, count_word, set_word}
use Rattle.strip_book.specs.Rule.{Fits, IsBook, IsEntry, bound_due, candidates_at, candidates_of, draft_line, lines_of, number_of, spent_weight}
use Rattle.strip_book.specs.Steps.{HasDrawn, drawn}
use Rattle.strip_book.specs.Pass.{IsNext}
use Rattle.strip_book.proofs.Views.{put_here, spent_weight-most, spent_weight-none, total-put, written-put}
use Rattle.strip_book.proofs.Entries.{each-enlisted, each_at, entry_of, longer, total-enlisted}
use Rattle.strip_book.proofs.RuleKept.{Step, grow_none, learnt, mine_fits, never_writes, stays, stepped_by}

-- ---- what the next path of a part counts

module _ (search : SearchData) (entries : List EntryData) (part : ℕ) (path : PathData) (next : IsNext search entries part path) where
  candidate : is_candidate (search_rules search) search.start path ≡ true
  candidate = is_candidate_from (search_rules search) search.start path (next.is_open, next.below)

  unfinished : IsUnfinished search.film path
  unfinished = (next.is_open.0, next.some)

  in_part : inside (depth_of search) search.tasks part (is_candidate (search_rules search) search.start) path ≡ true
  in_part = and_from (lies_in (depth_of search) search.tasks part path) (is_candidate (search_rules search) search.start path) next.lies candidate

  module _ (film : IsFilm search.film) where
    -- the entry with it is a record
    pub next_is_entry : IsEntry search (entry_of part next.entry) → IsEntry search (entry_of part (longer next.entry path))
    next_is_entry was = record {
      known = was.known;
      lies = λ other is. subst (λ (p : PathData). lies_in (depth_of search) search.tasks part p ≡ true) (let same : path ≡ other = cc in same) next.lies;
      share = (
          let more = counts_more (search_rules search) film next.entry.last path (inside (depth_of search) search.tasks part (is_candidate (search_rules search) search.start)) next.later
          unfinished in_part in
          omega (arith, was.share, more));
    }

    -- and one more candidate of its set comes up to it
    pub next_counts : (q : ℕ) → candidates_at search q (entry_of part next.entry) + mark (eqb path.rest q) ≤ candidates_at search q (entry_of part (longer next.entry path))
    next_counts q =
        let test : PathData → Bool = inside (depth_of search) search.tasks part (leaving q (is_candidate (search_rules search) search.start)) in
        elim (cases_Bool (eqb path.rest q)) [
          | inl same ↦ (
              let passes : test path ≡ true
              = and_from (lies_in (depth_of search) search.tasks part path) (leaving q (is_candidate (search_rules search) search.start) path) next.lies
              (and_from (eqb path.rest q) (is_candidate (search_rules search) search.start path) same candidate) in
              let more : number_up_to (search_rules search) next.entry.last test + 1 ≤ number_up_to (search_rules search) (Some path) test
              = counts_more (search_rules search) film next.entry.last path test next.later unfinished passes in
              omega (arith, ap mark same, more))
          | inr apart ↦ (
              let stay : number_up_to (search_rules search) next.entry.last test ≤ number_up_to (search_rules search) (Some path) test
              = counts_stay (search_rules search) film next.entry.last path test next.later in
              omega (arith, ap mark apart, stay))
        ]

-- ---- the draw

module _ (search : SearchData) (s : State Path ViewData) (k : IsBook search s) (id : ℕ) (me : ViewData) (at : get_elem? s.views id ≡ some me) (idle : me.writing ≡ false)
    (heavy : 0 < me.weight) where
  abbrev counted : List ℕ
  counted = slice_set s.words count_word ((slice_index s.words count_word + 1) % 18446744073709551616)

  fits : Fits search s.words k.lines me
  fits = mine_fits search s k id me at

  same : me.search ≡ search
  same = (mine_fits search s k id me at).goes_by heavy

  -- the word is far from its limit, since each pass finds once that no line is left
  no_wrap : (slice_index s.words count_word + 1) % 18446744073709551616 ≡ k.count + 1
  no_wrap =
      let most = spent_weight-most s.views in
      let is : slice_index s.words count_word ≡ k.count = k.head in
      omega (arith, is, k.few, k.small, k.whole, most)

  head_then : slice_index counted count_word ≡ k.count + 1
  head_then = get_or-set_same s.words count_word _ 0 (omega (arith, k.words)) ∙ no_wrap

  others_then : (i : ℕ) → i ≢ count_word → slice_index counted i ≡ slice_index s.words i
  others_then i apart = get_or-set_other s.words count_word i _ 0 apart

  set_then : (number : ℕ) → slice_index counted (set_word number) ≡ slice_index s.words (set_word number)
  set_then number = others_then (set_word number) (λ e. absurd (omega (arith, e)))

  bound_then : (number : ℕ) → slice_index counted (bound_word number) ≡ slice_index s.words (bound_word number)
  bound_then number = others_then (bound_word number) (λ e. absurd (omega (arith, e)))

  module _ (room : k.count < search.nodes) (next : IsNext me.search me.entries me.about.part me.about.path) where
    abbrev line : Line
    line = draft_line me

    abbrev then_ : List Line
    then_ = k.lines ++ line ∷ []

    abbrev mine : ViewData
    mine = drawn me k.lines k.count

    next_there : IsNext search me.entries me.about.part me.about.path
    next_there = subst (λ (q : SearchData). IsNext q me.entries me.about.part me.about.path) same next

    entry : RecordData
    entry = next_there.entry

    count_is : length k.lines ≡ k.count
    count_is = omega (arith, k.long, room)

    longer_by : length then_ ≡ k.count + 1
    longer_by = omega (arith, length-append k.lines (line ∷ []), count_is)

    last_line : line_at then_ k.count ≡ line
    last_line = ap (line_at then_) (sym count_is) ∙ get_or-append_seam k.lines line [] no_line

    old_line : (number : ℕ) → number < length k.lines → line_at then_ number ≡ line_at k.lines number
    old_line number lt = get_or_append_left k.lines (line ∷ []) no_line number lt

    static : line.bound ≤ (search_rules search).bound line.set
    static = (let is : line.bound ≡ (search_rules search).bound line.set = ap (λ (q : SearchData). (search_rules q).bound me.about.path.rest) same in omega (arith, is))

    justified_then : AreJustified (search_rules search) then_
    justified_then = justified-added (search_rules search) k.lines line k.justified (rest_lies search.film me.about.path next_there.is_open.0) static

    entries_then : All (IsEntry search) (enlisted me.about.part me.about.path me.entries)
    entries_then =
        each-enlisted me.about.part me.about.path (IsEntry search) me.entries next_there.entry next_there.stands fits.entries
        (next_is_entry search me.entries me.about.part me.about.path next_there k.film
        (each_at me.about.part (IsEntry search) me.entries next_there.entry next_there.stands fits.entries))

    sets_then : (q : ℕ) → lines_of q then_ + candidates_of search q me ≤ lines_of q k.lines + candidates_of search q mine
    sets_then q =
        let moved = total-enlisted me.about.part me.about.path (candidates_at search q) me.entries next_there.entry next_there.stands in
        let grows = next_counts search me.entries me.about.part me.about.path next_there k.film q in
        let more : lines_of q then_ ≡ lines_of q k.lines + (0 + mark (eqb line.set q)) = sum_by-append (λ (l : Line). cond {A = ℕ} (eqb l.set q) 1 0) k.lines (line ∷ []) in
        omega (arith, moved, grows, more)

    pub draws : Step search s k id me at counted then_ (k.count + 1) mine
    draws = record {
      long_words = length-set s.words count_word _;
      head = head_then;
      long = omega (arith, longer_by, room);
      justified = justified_then;
      grow = added-grows k.lines line;
      writes = λ u is. record {
        there = omega (arith, is.there, longer_by, count_is);
        set = ap (λ (l : Line). l.set) (old_line u.at is.there) ∙ is.set;
        bound = ap (bound_due u) (bound_then u.at) ∙ is.bound ∙ ap (λ (l : Line). l.bound) (sym (old_line u.at is.there));
      };
      mine = record {
        knows = grow_self then_;
        heard = grow_none then_;
        goes_by = fits.goes_by;
        entries = entries_then;
        writes = λ _. record {
          there = omega (arith, longer_by);
          set = ap (λ (l : Line). l.set) last_line;
          bound = (
              let empty : slice_index counted (bound_word k.count) ≡ 0 = bound_then k.count ∙ k.fresh k.count (omega (arith, count_is)) room in
              let b : (line_at then_ k.count).bound ≡ line.bound = ap (λ (l : Line). l.bound) last_line in
              omega (arith, empty, b));
        };
        light = λ none. absurd (omega (arith, none, heavy));
        spent = λ is. absurd (omega (arith, fits.spent is, k.long, room));
      };
      places = λ number lt. elim (cases_lt number (length k.lines)) [
        | inl within ↦ elim (k.places number within) [
          | inl stands ↦ inl (
            set_then number ∙ stands.0 ∙ ap (λ (l : Line). l.set) (sym (old_line number within)),
            bound_then number ∙ stands.1 ∙ ap (λ (l : Line). l.bound) (sym (old_line number within)),
          )
          | inr by ↦ inr (written-put s.views id me mine number at (λ is. never_writes me.writing idle is) by)
        ]
        | inr past ↦ inr (id, mine, put_here s.views id me mine at, refl, omega (arith, lt, past, longer_by, count_is))
      ];
      fresh = λ number past below. bound_then number ∙ k.fresh number (omega (arith, past, longer_by, count_is)) below;
      weight = refl;
      numbers = (
          let moved = total-enlisted me.about.part me.about.path number_of me.entries next_there.entry next_there.stands in
          omega (arith, moved, longer_by, count_is));
      sets = sets_then;
      few = omega (arith, room);
    }

    pub told_line : HasDrawn me k.count mine
    told_line = record {
      made = λ below. record {
        lines = k.lines;
        learnt = learnt search s k id me at heavy;
        count = count_is;
        justified = subst (λ (q : SearchData). AreJustified (search_rules q) then_) (sym same) justified_then;
        entries = subst (λ (q : SearchData). All (IsEntry q) (enlisted me.about.part me.about.path me.entries)) (sym same) entries_then;
        only = refl;
      };
      none_left = λ none. absurd (let nodes : me.search.nodes ≡ search.nodes = ap (λ (q : SearchData). q.nodes) same in omega (arith, none, nodes, room));
    }

  module _ (none : search.nodes ≤ k.count) (unspent : me.spent ≡ false) where
    abbrev used : ViewData
    used = record me { lines = k.lines; heard = []; spent = true }

    pub spends : Step search s k id me at counted k.lines (k.count + 1) used
    spends = record {
      long_words = length-set s.words count_word _;
      head = head_then;
      long = omega (arith, k.long, none);
      justified = k.justified;
      grow = grow_self k.lines;
      writes = λ u is. record { there = is.there; set = is.set; bound = ap (bound_due u) (bound_then u.at) ∙ is.bound };
      mine = record {
        knows = grow_self k.lines;
        heard = grow_none k.lines;
        goes_by = fits.goes_by;
        entries = fits.entries;
        writes = λ is. never_writes me.writing idle is;
        light = λ light. absurd (omega (arith, light, heavy));
        spent = λ is. omega (arith, k.long, none);
      };
      places = λ number lt. elim (stays search s k id me at used idle number lt) [
        | inl stands ↦ inl (set_then number ∙ stands.0, bound_then number ∙ stands.1)
        | inr by ↦ inr by
      ];
      fresh = λ number past below. bound_then number ∙ k.fresh number past below;
      weight = refl;
      numbers = omega arith;
      sets = λ q. omega arith;
      few = (let put = total-put spent_weight s.views id me used at in omega (arith, put, spent_weight-none me unspent, heavy, k.few));
    }

    pub told_spent : HasDrawn me k.count used
    told_spent =
        let nodes : me.search.nodes ≡ search.nodes = ap (λ (q : SearchData). q.nodes) same in
        record {
          made = λ below. absurd (omega (arith, below, nodes, none));
          none_left = λ _. record { lines = k.lines; learnt = learnt search s k id me at heavy; count = omega (arith, k.long, none, nodes); only = refl };
        }

  pub draws_here : (unspent : me.spent ≡ false) → IsNext me.search me.entries me.about.part me.about.path
      → (w : ViewData) × (IsBook search (record { words = counted; homes = s.homes; views = set s.views id w }) × HasDrawn me (slice_index s.words count_word) w)
  draws_here unspent next = elim (cases_lt k.count search.nodes) [
    | inl room ↦ (
      mine room next,
      (
        stepped_by search s k id me at counted (then_ room next) (k.count + 1) (mine room next) (draws room next),
        subst (λ (n : ℕ). HasDrawn me n (mine room next)) (sym k.head) (told_line room next),
      ),
    )
    | inr none ↦ (
      used none unspent,
      (
        stepped_by search s k id me at counted k.lines (k.count + 1) (used none unspent) (spends none unspent),
        subst (λ (n : ℕ). HasDrawn me n (used none unspent)) (sym k.head) (told_spent none unspent),
      ),
    )
  ]

draws_bare : (search : SearchData) (slots id : ℕ) (me : ViewData) → me.writing ≡ false → 0 < me.weight → me.spent ≡ false → IsNext me.search me.entries me.about.part me.about.path
    → Allows (IsBook search) slots id (me, []) count_word (λ n. (n + 1) % 18446744073709551616) (λ found after. HasDrawn me found after.0 × (after.1 ≡ []))
draws_bare search slots id me idle heavy unspent next s k homes at small =
    let here = draws_here search s k id me at idle heavy unspent next in (here.0, keeps, tt, here.1.0, (here.1.1, refl))

pub draws_at : (search : SearchData) (slots id : ℕ) (me : Me Path ViewData) → me.1 ≡ [] → me.0.writing ≡ false → 0 < me.0.weight → me.0.spent ≡ false
    → IsNext me.0.search me.0.entries me.0.about.part me.0.about.path
    → Allows (IsBook search) slots id me count_word (λ n. (n + 1) % 18446744073709551616) (λ found after. HasDrawn me.0 found after.0 × (after.1 ≡ me.1))
draws_at search slots id me none idle heavy unspent next =
    subst (λ (held : List (ℕ × Path)). Allows (IsBook search) slots id (me.0, held) count_word (λ n. (n + 1) % 18446744073709551616) (λ found after. HasDrawn me.0 found after.0 × (after.1 ≡ held)))
    (sym none) (draws_bare search slots id me.0 idle heavy unspent next)
