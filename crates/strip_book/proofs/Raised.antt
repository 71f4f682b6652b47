-- The bound of a line is raised.
use Rattle.std.proofs.Common.{◌≡◌, ◌≢◌, ℕ, ◌<◌, false, cond, eqb, List, [], max, length, slice_set, inl, inr, refl, sym, ap, ◌∙◌, subst, arith}
use Rattle.std.specs.Prelude.{slice_index}
use Rattle.std.proofs.lemmas.Bool.{cases_eq}
use Rattle.std.proofs.lemmas.List.{length-set, get_or-set_same, get_or-set_other}
use Rattle.std.proofs.lemmas.List.Sums.{sum_by-set}
use mathlib.Core.Option.{some}
use lib.ListN.{get_elem?}
use Rattle.atomic_table.specs.Table.{Allows, Me, State, keeps}
use Rattle.strip_film.specs.declared.path.Path.{Path}
use Rattle.strip_film.specs.declared.shared.Line.{Line}
use Rattle.strip_lines.specs.Lines.{AreJustified, GrowTo, IsJustified, line_at, no_line, raised, with_raised}
use Rattle.strip_lines.proofs.Grown.{grow_self, grow_trans, justified-grows, justified-raised, raised-grows}
use Rattle.strip_hand.specs.Search.{SearchData, search_rules}
use Rattle.strip_book.specs.View.{ViewData}
use Rattle.strip_book.specs.Words.{bound_word, count_word, set_word}
use Rattle.strip_book.specs.Rule.{Fits, IsBook, bound_due, lines_of, spent_weight}
use Rattle.strip_book.specs.Steps.{HasLearnt, HasRaised, knowing}
use Rattle.strip_book.specs.Pass.{MayRaiseKnown}
use Rattle.strip_book.proofs.Views.{total-put}
use Rattle.strip_book.proofs.RuleKept.{Step, grow_none, learnt, mine_fits, never_writes, stays, stepped_by}

-- as many lines have each set
sets_stay : (lines : List Line) (place bound q : ℕ) → place < length lines → lines_of q (with_raised lines place bound) ≡ lines_of q lines
sets_stay lines place bound q lt =
    let both = sum_by-set (λ (line : Line). cond {A = ℕ} (eqb line.set q) 1 0) lines place (raised (line_at lines place) bound) no_line lt in
    omega (arith, both)

module _ (search : SearchData) (s : State Path ViewData) (k : IsBook search s) (id : ℕ) (me : ViewData) (at : get_elem? s.views id ≡ some me) (idle : me.writing ≡ false)
    (heavy : 0 < me.weight) (n bound : ℕ) (may : MayRaiseKnown me n bound) where
  fits : Fits search s.words k.lines me
  fits = mine_fits search s k id me at

  inside : n < length k.lines
  inside = omega (arith, may.there, fits.knows.count)

  abbrev then_ : List Line
  then_ = with_raised k.lines n bound

  abbrev words_then : List ℕ
  words_then = slice_set s.words (bound_word n) (max (slice_index s.words (bound_word n)) bound)

  here : slice_index words_then (bound_word n) ≡ max (slice_index s.words (bound_word n)) bound
  here = get_or-set_same s.words (bound_word n) _ 0 (omega (arith, inside, k.words, k.long))

  elsewhere : (i : ℕ) → i ≢ bound_word n → slice_index words_then i ≡ slice_index s.words i
  elsewhere i apart = get_or-set_other s.words (bound_word n) i _ 0 apart

  set_stays : (number : ℕ) → slice_index words_then (set_word number) ≡ slice_index s.words (set_word number)
  set_stays number = elsewhere (set_word number) (λ e. absurd (omega (arith, e)))

  bound_stays : (number : ℕ) → number ≢ n → slice_index words_then (bound_word number) ≡ slice_index s.words (bound_word number)
  bound_stays number apart = elsewhere (bound_word number) (λ e. apart (omega (arith, e)))

  count : length then_ ≡ length k.lines
  count = length-set k.lines n (raised (line_at k.lines n) bound)

  line_here : line_at then_ n ≡ raised (line_at k.lines n) bound
  line_here = get_or-set_same k.lines n (raised (line_at k.lines n) bound) no_line inside

  line_there : (number : ℕ) → number ≢ n → line_at then_ number ≡ line_at k.lines number
  line_there number apart = get_or-set_other k.lines n number (raised (line_at k.lines n) bound) no_line apart

  bound_here : (line_at then_ n).bound ≡ max (line_at k.lines n).bound bound
  bound_here = ap (λ (l : Line). l.bound) line_here

  grow : GrowTo k.lines then_
  grow = raised-grows k.lines n bound inside

  set_kept : (number : ℕ) → number < length k.lines → (line_at then_ number).set ≡ (line_at k.lines number).set
  set_kept number lt = grow.same_set number lt

  -- what is known justifies the bound, and so do all lines
  justified_bound : IsJustified (search_rules search) k.lines (record { set = (line_at k.lines n).set; bound = bound })
  justified_bound =
      justified-grows (search_rules search) me.lines k.lines (record { set = (line_at k.lines n).set; bound = bound }) fits.knows
      (subst (λ (q : ℕ). IsJustified (search_rules search) me.lines (record { set = q; bound = bound })) (sym (fits.knows.same_set n may.there))
      (subst (λ (q : SearchData). IsJustified (search_rules q) me.lines (record { set = (line_at me.lines n).set; bound = bound })) (fits.goes_by heavy) may.justified))

  justified_then : AreJustified (search_rules search) then_
  justified_then = justified-raised (search_rules search) k.lines n bound k.justified inside justified_bound

  -- what the words and the lines are at the place of the line
  module _ (number : ℕ) (same : number ≡ n) where
    word_then : slice_index words_then (bound_word number) ≡ max (slice_index s.words (bound_word n)) bound
    word_then = ap (λ (i : ℕ). slice_index words_then (bound_word i)) same ∙ here

    word_was : slice_index s.words (bound_word number) ≡ slice_index s.words (bound_word n)
    word_was = ap (λ (i : ℕ). slice_index s.words (bound_word i)) same

    line_then : (line_at then_ number).bound ≡ max (line_at k.lines n).bound bound
    line_then = ap (λ (i : ℕ). (line_at then_ i).bound) same ∙ bound_here

    line_was : (line_at k.lines number).bound ≡ (line_at k.lines n).bound
    line_was = ap (λ (i : ℕ). (line_at k.lines i).bound) same

  abbrev mine : ViewData
  mine = knowing me then_

  pub raises : Step search s k id me at words_then then_ k.count mine
  raises = record {
    long_words = length-set s.words (bound_word n) _;
    head = elsewhere count_word (λ e. absurd (omega (arith, e))) ∙ k.head;
    long = count ∙ k.long;
    justified = justified_then;
    grow = grow;
    writes = λ u is. record {
      there = omega (arith, is.there, count);
      set = set_kept u.at is.there ∙ is.set;
      bound = elim (cases_eq u.at n) [
        | inl same ↦ omega (arith, word_then u.at same, word_was u.at same, line_then u.at same, line_was u.at same, is.bound)
        | inr apart ↦ ap (bound_due u) (bound_stays u.at apart) ∙ is.bound ∙ ap (λ (l : Line). l.bound) (sym (line_there u.at apart))
      ];
    };
    mine = record {
      knows = grow_self then_;
      heard = grow_none then_;
      goes_by = fits.goes_by;
      entries = fits.entries;
      writes = λ is. never_writes me.writing idle is;
      light = fits.light;
      spent = λ is. omega (arith, fits.spent is, count);
    };
    places = λ number lt. elim (stays search s k id me at mine idle number (omega (arith, lt, count))) [
      | inr by ↦ inr by
      | inl stands ↦ inl (
        set_stays number ∙ stands.0 ∙ sym (set_kept number (omega (arith, lt, count))),
        elim (cases_eq number n) [
          | inl same ↦ omega (arith, word_then number same, word_was number same, line_then number same, line_was number same, stands.1)
          | inr apart ↦ bound_stays number apart ∙ stands.1 ∙ ap (λ (l : Line). l.bound) (sym (line_there number apart))
        ],
      )
    ];
    fresh = λ number past below. bound_stays number (λ e. absurd (omega (arith, e, past, count, inside))) ∙ k.fresh number (omega (arith, past, count)) below;
    weight = refl;
    numbers = omega (arith, count);
    sets = λ q. (let same = sets_stay k.lines n bound q inside in omega (arith, same));
    few = (let put = total-put spent_weight s.views id me mine at in omega (arith, put, k.few));
  }

  pub learnt_then : HasLearnt me then_
  learnt_then =
      let was = learnt search s k id me at heavy in
      record {
        knew = grow_trans me.lines k.lines then_ was.knew grow;
        heard = grow_trans me.heard k.lines then_ was.heard grow;
        justified = subst (λ (q : SearchData). AreJustified (search_rules q) then_) (sym (fits.goes_by heavy)) justified_then;
        few = omega (arith, was.few, count);
        full = λ is. omega (arith, was.full is, count);
      }

  pub told : HasRaised (bound_word n) bound me mine
  told = record {
    lines = then_;
    learnt = learnt_then;
    only = refl;
    raised_to = λ number is. (
        let same : number ≡ n = omega (arith, is) in
        let b = line_then number same in
        omega (arith, b));
  }

raises_bare : (search : SearchData) (slots id : ℕ) (me : ViewData) → me.writing ≡ false → 0 < me.weight → (n bound : ℕ) → MayRaiseKnown me n bound
    → Allows (IsBook search) slots id (me, []) (bound_word n) (λ x. max x bound) (λ found after. HasRaised (bound_word n) bound me after.0 × (after.1 ≡ []))
raises_bare search slots id me idle heavy n bound may s k homes at small = (
  mine search s k id me at idle heavy n bound may,
  keeps,
  tt,
  stepped_by search s k id me at (words_then search s k id me at idle heavy n bound may) (then_ search s k id me at idle heavy n bound may) k.count
      (mine search s k id me at idle heavy n bound may) (raises search s k id me at idle heavy n bound may),
  (told search s k id me at idle heavy n bound may, refl),
)

pub raises_at : (search : SearchData) (slots id : ℕ) (me : Me Path ViewData) → me.1 ≡ [] → me.0.writing ≡ false → 0 < me.0.weight → (n bound word : ℕ) → word ≡ bound_word n
    → MayRaiseKnown me.0 n bound → Allows (IsBook search) slots id me word (λ x. max x bound) (λ found after. HasRaised word bound me.0 after.0 × (after.1 ≡ me.1))
raises_at search slots id me none idle heavy n bound word there may =
    subst (λ (i : ℕ). Allows (IsBook search) slots id me i (λ x. max x bound) (λ found after. HasRaised i bound me.0 after.0 × (after.1 ≡ me.1))) (sym there)
    (subst (λ (held : List (ℕ × Path)). Allows (IsBook search) slots id (me.0, held) (bound_word n) (λ x. max x bound)
    (λ found after. HasRaised (bound_word n) bound me.0 after.0 × (after.1 ≡ held)))
    (sym none) (raises_bare search slots id me.0 idle heavy n bound may))
