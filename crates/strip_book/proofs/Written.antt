-- The two words of a line that was drawn are written, the bound first.
use Rattle.std.proofs.Common.{◌≡◌, ◌≢◌, ℕ, Bool, true, false, cond, List, [], max, slice_set, inl, inr, refl, sym, ap, ◌∙◌, subst, arith}
use Rattle.std.specs.Prelude.{slice_index}
use Rattle.std.proofs.lemmas.Bool.{cases_eq}
use Rattle.std.proofs.lemmas.List.{length-set, get_or-set_same, get_or-set_other}
use mathlib.Core.Option.{some, some-injective}
use lib.ListN.{get_elem?}
use Rattle.atomic_table.specs.Table.{Allows, Me, State, keeps}
use Rattle.atomic_table.proofs.Lists.{set_else}
use Rattle.strip_film.specs.declared.path.Path.{Path}
use Rattle.strip_film.specs.Path.{PathData}
use Rattle.strip_lines.specs.Lines.{line_at}
use Rattle.strip_lines.proofs.Grown.{grow_self}
use Rattle.strip_hand.specs.Search.{SearchData}
use Rattle.strip_book.specs.View.{ViewData}
use Rattle.strip_book.specs.Words.{bound_word, count_word, set_word}
use Rattle.strip_book.specs.Rule.{Fits, IsBook, IsWriting, bound_due, draft_line, spent_weight}
use Rattle.strip_book.specs.Steps.{half_written, written}
use Rattle.strip_book.specs.Pass.{Writes}
use Rattle.strip_book.proofs.Views.{put_here, total-put, written-put}
use Rattle.strip_book.proofs.RuleKept.{Step, mine_fits, stepped_by}

module _ (search : SearchData) (s : State Path ViewData) (k : IsBook search s) (id : ℕ) (me : ViewData) (at : get_elem? s.views id ≡ some me) (writes : me.writing ≡ true) where
  fits : Fits search s.words k.lines me
  fits = mine_fits search s k id me at

  is : IsWriting s.words k.lines me
  is = fits.writes writes

  has_weight : me.weight ≡ 0 → ⊥
  has_weight light = (let e : false ≡ true = sym (fits.light light).0 ∙ writes in absurd cc)

  module _ (whole : me.half ≡ false) where
    abbrev bounded : List ℕ
    bounded = slice_set s.words (bound_word me.at) (max (slice_index s.words (bound_word me.at)) (draft_line me).bound)

    here : slice_index bounded (bound_word me.at) ≡ max (slice_index s.words (bound_word me.at)) (draft_line me).bound
    here = get_or-set_same s.words (bound_word me.at) _ 0 (omega (arith, is.there, k.words, k.long))

    elsewhere : (i : ℕ) → i ≢ bound_word me.at → slice_index bounded i ≡ slice_index s.words i
    elsewhere i apart = get_or-set_other s.words (bound_word me.at) i _ 0 apart

    set_stays : (number : ℕ) → slice_index bounded (set_word number) ≡ slice_index s.words (set_word number)
    set_stays number = elsewhere (set_word number) (λ e. absurd (omega (arith, e)))

    bound_stays : (number : ℕ) → number ≢ me.at → slice_index bounded (bound_word number) ≡ slice_index s.words (bound_word number)
    bound_stays number apart = elsewhere (bound_word number) (λ e. apart (omega (arith, e)))

    -- the word is then the bound of the line
    due : max (slice_index s.words (bound_word me.at)) (draft_line me).bound ≡ (line_at k.lines me.at).bound
    due = ap (λ (b : Bool). max (slice_index s.words (bound_word me.at)) (cond {A = ℕ} b 0 (draft_line me).bound)) (sym whole) ∙ is.bound

    pub halves : Step search s k id me at bounded k.lines k.count (half_written me)
    halves = record {
      long_words = length-set s.words (bound_word me.at) _;
      head = elsewhere count_word (λ e. absurd (omega (arith, e))) ∙ k.head;
      long = k.long;
      justified = k.justified;
      grow = grow_self k.lines;
      writes = λ u it. elim (cases_eq u.at me.at) [
        | inl same ↦ (
            let w : slice_index bounded (bound_word u.at) ≡ max (slice_index s.words (bound_word me.at)) (draft_line me).bound
            = ap (λ (i : ℕ). slice_index bounded (bound_word i)) same ∙ here in
            let was : slice_index s.words (bound_word u.at) ≡ slice_index s.words (bound_word me.at) = ap (λ (i : ℕ). slice_index s.words (bound_word i)) same in
            let b : (line_at k.lines u.at).bound ≡ (line_at k.lines me.at).bound = ap (λ (i : ℕ). (line_at k.lines i).bound) same in
            record { there = it.there; set = it.set; bound = omega (arith, w, was, b, due, it.bound) })
        | inr apart ↦ record { there = it.there; set = it.set; bound = ap (bound_due u) (bound_stays u.at apart) ∙ it.bound }
      ];
      mine = record {
        knows = fits.knows;
        heard = fits.heard;
        goes_by = fits.goes_by;
        entries = fits.entries;
        writes = λ _. record { there = is.there; set = is.set; bound = omega (arith, here, due) };
        light = λ light. absurd (has_weight light);
        spent = fits.spent;
      };
      places = λ number lt. elim (k.places number lt) [
        | inl stands ↦ inl (
          set_stays number ∙ stands.0,
          elim (cases_eq number me.at) [
            | inl same ↦ (
                let w : slice_index bounded (bound_word number) ≡ max (slice_index s.words (bound_word me.at)) (draft_line me).bound
                = ap (λ (i : ℕ). slice_index bounded (bound_word i)) same ∙ here in
                let b : (line_at k.lines number).bound ≡ (line_at k.lines me.at).bound = ap (λ (i : ℕ). (line_at k.lines i).bound) same in
                omega (arith, w, b, due))
            | inr apart ↦ bound_stays number apart ∙ stands.1
          ],
        )
        | inr by ↦ inr (elim (cases_eq by.0 id) [
          | inl same ↦ (
              let view : me ≡ by.1 = some-injective me by.1 (sym at ∙ (ap (get_elem? s.views) (sym same) ∙ by.2)) in
              (id, half_written me, put_here s.views id me (half_written me) at, writes, ap (λ (u : ViewData). u.at) view ∙ by.4))
          | inr apart ↦ (by.0, by.1, set_else s.views id by.0 (half_written me) apart ∙ by.2, by.3, by.4)
        ])
      ];
      fresh = λ number past below. bound_stays number (λ e. absurd (omega (arith, e, past, is.there))) ∙ k.fresh number past below;
      weight = refl;
      numbers = omega arith;
      sets = λ q. omega arith;
      few = (let put = total-put spent_weight s.views id me (half_written me) at in omega (arith, put, k.few));
    }

  module _ (half : me.half ≡ true) where
    abbrev filled : List ℕ
    filled = slice_set s.words (set_word me.at) me.about.path.rest

    set_here : slice_index filled (set_word me.at) ≡ me.about.path.rest
    set_here = get_or-set_same s.words (set_word me.at) _ 0 (omega (arith, is.there, k.words, k.long))

    set_elsewhere : (i : ℕ) → i ≢ set_word me.at → slice_index filled i ≡ slice_index s.words i
    set_elsewhere i apart = get_or-set_other s.words (set_word me.at) i _ 0 apart

    bound_kept : (number : ℕ) → slice_index filled (bound_word number) ≡ slice_index s.words (bound_word number)
    bound_kept number = set_elsewhere (bound_word number) (λ e. absurd (omega (arith, e)))

    stands_there : max (slice_index s.words (bound_word me.at)) 0 ≡ (line_at k.lines me.at).bound
    stands_there = ap (λ (b : Bool). max (slice_index s.words (bound_word me.at)) (cond {A = ℕ} b 0 (draft_line me).bound)) (sym half) ∙ is.bound

    pub fills : Step search s k id me at filled k.lines k.count (written me)
    fills = record {
      long_words = length-set s.words (set_word me.at) _;
      head = set_elsewhere count_word (λ e. absurd (omega (arith, e))) ∙ k.head;
      long = k.long;
      justified = k.justified;
      grow = grow_self k.lines;
      writes = λ u it. record { there = it.there; set = it.set; bound = ap (bound_due u) (bound_kept u.at) ∙ it.bound };
      mine = record {
        knows = fits.knows;
        heard = fits.heard;
        goes_by = fits.goes_by;
        entries = fits.entries;
        writes = λ never. absurd (let e : false ≡ true = never in cc);
        light = λ light. absurd (has_weight light);
        spent = fits.spent;
      };
      places = λ number lt. elim (cases_eq number me.at) [
        | inl same ↦ inl (
          ap (λ (i : ℕ). slice_index filled (set_word i)) same ∙ set_here ∙ sym is.set ∙ ap (λ (i : ℕ). (line_at k.lines i).set) (sym same),
          (let w : slice_index filled (bound_word number) ≡ slice_index s.words (bound_word me.at)
              = bound_kept number ∙ ap (λ (i : ℕ). slice_index s.words (bound_word i)) same in
              let b : (line_at k.lines number).bound ≡ (line_at k.lines me.at).bound = ap (λ (i : ℕ). (line_at k.lines i).bound) same in
              omega (arith, w, b, stands_there)),
        )
        | inr apart ↦ elim (k.places number lt) [
          | inl stands ↦ inl (set_elsewhere (set_word number) (λ e. apart (omega (arith, e))) ∙ stands.0, bound_kept number ∙ stands.1)
          | inr by ↦ inr (written-put s.views id me (written me) number at (λ _ same. apart (sym same)) by)
        ]
      ];
      fresh = λ number past below. bound_kept number ∙ k.fresh number past below;
      weight = refl;
      numbers = omega arith;
      sets = λ q. omega arith;
      few = (let put = total-put spent_weight s.views id me (written me) at in omega (arith, put, k.few));
    }

module _ (search : SearchData) (slots id : ℕ) (me : ViewData) (writes : me.writing ≡ true) where
  halves_bare : me.half ≡ false
      → Allows (IsBook search) slots id (me, []) (bound_word me.at) (λ n. max n (draft_line me).bound) (λ found after. (after.0 ≡ half_written me) × (after.1 ≡ []))
  halves_bare whole s k homes at small =
      (half_written me, keeps, tt, stepped_by search s k id me at (bounded search s k id me at writes whole) k.lines k.count (half_written me) (halves search s k id me at writes whole), (refl, refl))

  fills_bare : me.half ≡ true
      → Allows (IsBook search) slots id (me, []) (set_word me.at) (λ _. me.about.path.rest) (λ found after. (after.0 ≡ written me) × (after.1 ≡ []))
  fills_bare half s k homes at small =
      (written me, keeps, tt, stepped_by search s k id me at (filled search s k id me at writes half) k.lines k.count (written me) (fills search s k id me at writes half), (refl, refl))

-- ---- the same of a seat that holds no slot, by the number of the line and what is written

abbrev Held : Type 0
Held = List (ℕ × Path)

pub halves_at : (search : SearchData) (slots id : ℕ) (me : Me Path ViewData) → me.1 ≡ [] → (line : ℕ) (path : PathData) (bound word : ℕ) → word ≡ bound_word line
    → Writes me.0 line path bound → Allows (IsBook search) slots id me word (λ n. max n bound) (λ found after. (after.0 ≡ half_written me.0) × (after.1 ≡ me.1))
halves_at search slots id me none line path bound word there are =
    subst (λ (i : ℕ). Allows (IsBook search) slots id me i (λ n. max n bound) (λ found after. (after.0 ≡ half_written me.0) × (after.1 ≡ me.1)))
    (sym (there ∙ ap bound_word (sym are.number)))
    (subst (λ (b : ℕ). Allows (IsBook search) slots id me (bound_word me.0.at) (λ n. max n b) (λ found after. (after.0 ≡ half_written me.0) × (after.1 ≡ me.1))) (sym are.static_bound)
    (subst (λ (held : Held). Allows (IsBook search) slots id (me.0, held) (bound_word me.0.at) (λ n. max n (draft_line me.0).bound) (λ found after. (after.0 ≡ half_written me.0) × (after.1 ≡ held)))
    (sym none) (halves_bare search slots id me.0 are.writes are.whole)))

-- where the bound was written
pub fills_at : (search : SearchData) (slots id : ℕ) (me : Me Path ViewData) → me.1 ≡ [] → (before : ViewData) (line : ℕ) (path : PathData) (bound q word : ℕ) → word ≡ set_word line
    → q ≡ path.rest → Writes before line path bound → me.0 ≡ half_written before
    → Allows (IsBook search) slots id me word (λ _. q) (λ found after. (after.0 ≡ written me.0) × (after.1 ≡ me.1))
fills_at search slots id me none before line path bound q word there is are view =
    let number : me.0.at ≡ line = ap (λ (u : ViewData). u.at) view ∙ are.number in
    let rest : me.0.about.path.rest ≡ path.rest = ap (λ (u : ViewData). u.about.path.rest) view ∙ ap (λ (p : PathData). p.rest) are.path_is in
    subst (λ (i : ℕ). Allows (IsBook search) slots id me i (λ _. q) (λ found after. (after.0 ≡ written me.0) × (after.1 ≡ me.1))) (sym (there ∙ ap set_word (sym number)))
    (subst (λ (n : ℕ). Allows (IsBook search) slots id me (set_word me.0.at) (λ _. n) (λ found after. (after.0 ≡ written me.0) × (after.1 ≡ me.1))) (rest ∙ sym is)
    (subst (λ (held : Held). Allows (IsBook search) slots id (me.0, held) (set_word me.0.at) (λ _. me.0.about.path.rest) (λ found after. (after.0 ≡ written me.0) × (after.1 ≡ held)))
    (sym none) (fills_bare search slots id me.0 (ap (λ (u : ViewData). u.writing) view ∙ are.writes) (ap (λ (u : ViewData). u.half) view))))
