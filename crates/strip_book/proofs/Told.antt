-- Steps that leave the words: a load, a path announced, a part begun.
use Rattle.std.proofs.Common.{◌≡◌, ℕ, suc, ◌<◌, eqb, None, Some, List, [], length, slice_set, refl, sym, ap, ◌∙◌, subst, arith}
use Rattle.std.specs.Prelude.{slice_index, false}
use Rattle.std.proofs.lemmas.List.Elements.{All-push}
use mathlib.Core.Option.{some}
use lib.ListN.{get_elem?}
use prog.Atomic.{either}
use Rattle.atomic_table.specs.Table.{Allows, Me, State, keeps}
use Rattle.atomic_table.proofs.Lists.{exchanged}
use Rattle.strip_film.specs.declared.path.Path.{Path}
use Rattle.strip_lines.proofs.Grown.{grow_self}
use Rattle.strip_hand.specs.Search.{SearchData}
use Rattle.strip_book.specs.View.{ViewData, new_entry}
use Rattle.strip_book.specs.Rule.{IsBook, IsEntry, candidates_at, candidates_of, full_weight, number_of, numbers_of, total, weight_of}
use Rattle.strip_book.specs.Steps.{HasAnnounced, HasCompared, HasSeen, OwnsAll, about, knowing, with_part}
use Rattle.strip_book.specs.Words.{desk_word, quiet_word}
use Rattle.strip_film.specs.Shown.{path_data}
use Rattle.strip_book.proofs.Views.{total-alone, total-push}
use Rattle.strip_book.proofs.RuleKept.{grow_none, kept_still, learnt, learnt_by, mine_fits, quiet, still, word_stays}

-- a number that is exchanged for itself stays
either_same : (n old : ℕ) → either (eqb n old) old n ≡ n
either_same n old = exchanged n old old (λ y. y ≡ n) (λ is. sym is) (λ _. refl)

pub exchange_stays : (words : List ℕ) (i old : ℕ) → slice_set words i (either (eqb (slice_index words i) old) old (slice_index words i)) ≡ words
exchange_stays words i old = ap (slice_set words i) (either_same (slice_index words i) old) ∙ word_stays words i

-- an entry of a new part is a record of it
pub new_is_entry : (search : SearchData) (part : ℕ) → part < suc (length search.tasks) → IsEntry search (new_entry part)
new_is_entry search part known = record {
  known = known;
  lies = λ path is. absurd (let never : None ≡ Some path = is in cc);
  share = omega arith;
}

module _ (search : SearchData) (s : State Path ViewData) (k : IsBook search s) (id : ℕ) (me : ViewData) (at : get_elem? s.views id ≡ some me) where
  -- a view with all the weight has all entries
  pub owns_all : 0 < me.weight → me.weight ≡ full_weight → OwnsAll (knowing me k.lines)
  owns_all heavy whole =
      let same : me.search ≡ search = (mine_fits search s k id me at).goes_by heavy in
      let all : total weight_of s.views ≡ me.weight = k.whole ∙ sym whole in
      record {
        numbers = sym (total-alone numbers_of s.views id me at all (λ j u there light. ap (total number_of) ((k.fits j u there).light light).1)) ∙ k.numbers;
        sets = λ q. (
            let mine : total (candidates_of search q) s.views ≡ candidates_of search q me
            = total-alone (candidates_of search q) s.views id me at all (λ j u there light. ap (total (candidates_at search q)) ((k.fits j u there).light light).1) in
            let own : candidates_of me.search q me ≡ candidates_of search q me = ap (λ (sd : SearchData). candidates_of sd q me) same in
            omega (arith, k.sets q, mine, own));
      }

module _ (search : SearchData) (slots id : ℕ) (me : ViewData) (idle : me.writing ≡ false) where
  sees : 0 < me.weight → Allows (IsBook search) slots id (me, []) quiet_word (λ n. n) (λ found after. HasSeen me after.0 × (after.1 ≡ []))
  sees heavy s k homes at small =
      let w : ViewData = knowing me k.lines in (
        w,
        keeps,
        tt,
        kept_still search s k id me at (slice_set s.words quiet_word (slice_index s.words quiet_word)) w (word_stays s.words quiet_word)
            (quiet search s k id me at w idle idle refl refl refl refl (grow_self k.lines) (grow_none k.lines)),
        (record { lines = k.lines; learnt = learnt search s k id me at heavy; only = refl; all = owns_all search s k id me at heavy }, refl),
      )

  compares : me.search ≡ search → Allows (IsBook search) slots id (me, []) quiet_word (λ n. n) (λ found after. HasCompared me after.0 × (after.1 ≡ []))
  compares same s k homes at small =
      let w : ViewData = knowing me k.lines in (
        w,
        keeps,
        tt,
        kept_still search s k id me at (slice_set s.words quiet_word (slice_index s.words quiet_word)) w (word_stays s.words quiet_word)
            (quiet search s k id me at w idle idle refl refl refl refl (grow_self k.lines) (grow_none k.lines)),
        (record { lines = k.lines; learnt = learnt_by search s k id me at same; only = refl }, refl),
      )

  announces : (desk part : ℕ) (path : Path)
      → Allows (IsBook search) slots id (me, []) (desk_word desk) (λ n. either (eqb n part) part n) (λ found after. HasAnnounced (some path) part me after.0 × (after.1 ≡ []))
  announces desk part path s k homes at small =
      let w : ViewData = about me part (path_data path) in
      let fits = mine_fits search s k id me at in (
        w,
        keeps,
        tt,
        kept_still search s k id me at (slice_set s.words (desk_word desk) (either (eqb (slice_index s.words (desk_word desk)) part) part (slice_index s.words (desk_word desk)))) w
            (exchange_stays s.words (desk_word desk) part)
            (quiet search s k id me at w idle idle refl refl refl refl fits.knows fits.heard),
        (refl, refl),
      )

  begins : (desk part : ℕ) → 0 < me.weight → part < suc (length me.search.tasks)
      → Allows (IsBook search) slots id (me, []) (desk_word desk) (λ n. either (eqb n part) part n) (λ found after. (after.0 ≡ with_part me part) × (after.1 ≡ []))
  begins desk part heavy known s k homes at small =
      let w : ViewData = with_part me part in
      let fits = mine_fits search s k id me at in
      let known_there : part < suc (length search.tasks) = subst (λ (q : SearchData). part < suc (length q.tasks)) (fits.goes_by heavy) known in (
        w,
        keeps,
        tt,
        kept_still search s k id me at (slice_set s.words (desk_word desk) (either (eqb (slice_index s.words (desk_word desk)) part) part (slice_index s.words (desk_word desk)))) w
            (exchange_stays s.words (desk_word desk) part)
            (still search s k id me at w idle idle refl refl refl (All-push (IsEntry search) me.entries (new_entry part) fits.entries (new_is_entry search part known_there))
            (λ none. absurd (omega (arith, none, heavy)))
            (let push = total-push number_of me.entries (new_entry part) in omega (arith, push))
            (λ q. (let push = total-push (candidates_at search q) me.entries (new_entry part) in omega (arith, push)))
            fits.knows fits.heard),
        (refl, refl),
      )

-- ---- the same of a seat that holds no slot

abbrev Held : Type 0
Held = List (ℕ × Path)

module _ (search : SearchData) (slots id : ℕ) (me : Me Path ViewData) (none : me.1 ≡ []) (idle : me.0.writing ≡ false) where
  pub sees_at : 0 < me.0.weight → Allows (IsBook search) slots id me quiet_word (λ n. n) (λ found after. HasSeen me.0 after.0 × (after.1 ≡ me.1))
  sees_at heavy =
      subst (λ (held : Held). Allows (IsBook search) slots id (me.0, held) quiet_word (λ n. n) (λ found after. HasSeen me.0 after.0 × (after.1 ≡ held)))
      (sym none) (sees search slots id me.0 idle heavy)

  pub compares_at : me.0.search ≡ search → Allows (IsBook search) slots id me quiet_word (λ n. n) (λ found after. HasCompared me.0 after.0 × (after.1 ≡ me.1))
  compares_at same =
      subst (λ (held : Held). Allows (IsBook search) slots id (me.0, held) quiet_word (λ n. n) (λ found after. HasCompared me.0 after.0 × (after.1 ≡ held)))
      (sym none) (compares search slots id me.0 idle same)

  pub announces_at : (word desk part : ℕ) (path : Path) → word ≡ desk_word desk
      → Allows (IsBook search) slots id me word (λ n. either (eqb n part) part n) (λ found after. HasAnnounced (some path) part me.0 after.0 × (after.1 ≡ me.1))
  announces_at word desk part path is =
      subst (λ (i : ℕ). Allows (IsBook search) slots id me i (λ n. either (eqb n part) part n) (λ found after. HasAnnounced (some path) part me.0 after.0 × (after.1 ≡ me.1))) (sym is)
      (subst (λ (held : Held). Allows (IsBook search) slots id (me.0, held) (desk_word desk) (λ n. either (eqb n part) part n)
      (λ found after. HasAnnounced (some path) part me.0 after.0 × (after.1 ≡ held)))
      (sym none) (announces search slots id me.0 idle desk part path))

  pub begins_at : (word desk part : ℕ) → word ≡ desk_word desk → 0 < me.0.weight → part < suc (length me.0.search.tasks)
      → Allows (IsBook search) slots id me word (λ n. either (eqb n part) part n) (λ found after. (after.0 ≡ with_part me.0 part) × (after.1 ≡ me.1))
  begins_at word desk part is heavy known =
      subst (λ (i : ℕ). Allows (IsBook search) slots id me i (λ n. either (eqb n part) part n) (λ found after. (after.0 ≡ with_part me.0 part) × (after.1 ≡ me.1))) (sym is)
      (subst (λ (held : Held). Allows (IsBook search) slots id (me.0, held) (desk_word desk) (λ n. either (eqb n part) part n)
      (λ found after. (after.0 ≡ with_part me.0 part) × (after.1 ≡ held)))
      (sym none) (begins search slots id me.0 idle desk part heavy known))
