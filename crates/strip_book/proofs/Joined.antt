-- A pass takes in another, and a pass or a copy takes in a copy.
use Rattle.std.proofs.Common.{◌≡◌, ◌≢◌, ℕ, ◌+◌, ◌<◌, ◌≤◌, true, false, List, set, inl, inr, refl, sym, ap, ◌∙◌, arith}
use Rattle.std.proofs.lemmas.List.Elements.{All-append, All-nil}
use Rattle.std.proofs.lemmas.Bool.{or_cases}
use mathlib.Core.Option.{some}
use lib.ListN.{get_elem?}
use Rattle.atomic_table.specs.Table.{Joins, State}
use Rattle.atomic_table.proofs.Lists.{set_else}
use Rattle.strip_film.specs.declared.path.Path.{Path}
use Rattle.strip_film.specs.declared.shared.Line.{Line}
use Rattle.strip_hand.specs.Search.{SearchData}
use Rattle.strip_book.specs.View.{ViewData}
use Rattle.strip_book.specs.Rule.{Fits, IsBook, IsEntry, candidates_at, candidates_of, number_of, numbers_of, spent_view, spent_weight, total, weight_of}
use Rattle.strip_book.specs.Steps.{heard_from, joined}
use Rattle.strip_book.proofs.Views.{each_put, spent_weight-joined, spent_weight-light, total-append, total-put, written-put}
use Rattle.strip_book.proofs.RuleKept.{grow_none, never_writes}

-- what is left of a view fits
spent_fits : (search : SearchData) (words : List ℕ) (lines : List Line) → Fits search words lines spent_view
spent_fits search words lines = record {
  knows = grow_none lines;
  heard = grow_none lines;
  goes_by = λ some_. absurd (omega (arith, some_));
  entries = All-nil (IsEntry search);
  writes = λ is. absurd (let e : false ≡ true = is in cc);
  light = λ _. (refl, refl);
  spent = λ is. absurd (let e : false ≡ true = is in cc);
}

-- the rule where one view takes in all that another has, and both are idle
module _ (search : SearchData) (s : State Path ViewData) (k : IsBook search s) (id : ℕ) (me : ViewData) (at : get_elem? s.views id ≡ some me) (other : ℕ) (w v : ViewData)
    (apart : other ≢ id) (there : get_elem? (set s.views id v) other ≡ some w) (idle : me.writing ≡ false) (other_idle : w.writing ≡ false) where
  pub takes_in : Fits search s.words k.lines v → v.weight ≡ me.weight + w.weight → numbers_of v ≡ numbers_of me + numbers_of w
      → ((q : ℕ) → candidates_of search q v ≡ candidates_of search q me + candidates_of search q w) → spent_weight me + spent_weight w ≤ spent_weight v
      → IsBook search (record { words = s.words; homes = s.homes; views = set (set s.views id v) other spent_view })
  takes_in mine weight numbers sets spent =
      let views : List ViewData = set s.views id v in
      record {
        lines = k.lines;
        count = k.count;
        words = k.words;
        head = k.head;
        film = k.film;
        long = k.long;
        justified = k.justified;
        fits = each_put (Fits search s.words k.lines) views other spent_view (each_put (Fits search s.words k.lines) s.views id v k.fits mine)
            (spent_fits search s.words k.lines);
        places = λ number lt. elim (k.places number lt) [
          | inl stands ↦ inl stands
          | inr by ↦ inr (written-put views other w spent_view number there (λ is. never_writes w.writing other_idle is)
              (written-put s.views id me v number at (λ is. never_writes me.writing idle is) by))
        ];
        fresh = k.fresh;
        whole = (
            let first = total-put weight_of s.views id me v at in
            let second = total-put weight_of views other w spent_view there in omega (arith, first, second, k.whole, weight));
        numbers = (
            let first = total-put numbers_of s.views id me v at in
            let second = total-put numbers_of views other w spent_view there in omega (arith, first, second, k.numbers, numbers));
        sets = λ q. (
            let first = total-put (candidates_of search q) s.views id me v at in
            let second = total-put (candidates_of search q) views other w spent_view there in omega (arith, first, second, k.sets q, sets q));
        few = (
            let first = total-put spent_weight s.views id me v at in
            let second = total-put spent_weight views other w spent_view there in omega (arith, first, second, k.few, spent));
        small = k.small;
      }

pub joins : (search : SearchData) (id : ℕ) (me : ViewData) (other : ℕ) (w : ViewData) → 0 < me.weight → me.writing ≡ false → w.writing ≡ false
    → Joins {S = Path} (IsBook search) id me other w (joined me w) spent_view
joins search id me other w heavy idle other_idle s k at apart there =
    let v : ViewData = joined me w in
    let mine = k.fits id me at in
    let theirs = k.fits other w (sym (set_else s.views id other v apart) ∙ there) in
    takes_in search s k id me at other w v apart there idle other_idle
    (record {
      knows = mine.knows;
      heard = theirs.knows;
      goes_by = λ _. mine.goes_by heavy;
      entries = All-append (IsEntry search) me.entries w.entries mine.entries theirs.entries;
      writes = λ is. never_writes me.writing idle is;
      light = λ none. absurd (omega (arith, none, heavy));
      spent = λ is. elim (or_cases me.spent w.spent is) [
        | inl one ↦ mine.spent one
        | inr other ↦ theirs.spent other
      ];
    })
    refl
    (total-append number_of me.entries w.entries)
    (λ q. total-append (candidates_at search q) me.entries w.entries)
    (spent_weight-joined me w)

pub hears : (search : SearchData) (id : ℕ) (me : ViewData) (other : ℕ) (w : ViewData) → me.writing ≡ false → w.weight ≡ 0
    → Joins {S = Path} (IsBook search) id me other w (heard_from me w) spent_view
hears search id me other w idle light s k at apart there =
    let v : ViewData = heard_from me w in
    let mine = k.fits id me at in
    let theirs = k.fits other w (sym (set_else s.views id other v apart) ∙ there) in
    let none = theirs.light light in
    takes_in search s k id me at other w v apart there idle none.0
    (record {
      knows = mine.knows;
      heard = theirs.knows;
      goes_by = mine.goes_by;
      entries = mine.entries;
      writes = λ is. never_writes me.writing idle is;
      light = mine.light;
      spent = mine.spent;
    })
    (omega (arith, light))
    (let nothing : numbers_of w ≡ 0 = ap (total number_of) none.1 in omega (arith, nothing))
    (λ q. (let nothing : candidates_of search q w ≡ 0 = ap (total (candidates_at search q)) none.1 in omega (arith, nothing)))
    (let nothing = spent_weight-light w light in omega (arith, nothing))
