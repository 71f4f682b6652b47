-- A new book and its first pass.
use Rattle.std.proofs.Common.{◌≡◌, ℕ, zero, suc, ◌<◌, ◌≤◌, true, false, List, [], ◌∷◌, replicate, length, refl, sym, ap, ◌∙◌, subst, arith}
use Rattle.std.specs.Prelude.{slice_index}
use Rattle.std.proofs.lemmas.List.{get_or-replicate, length-replicate}
use Rattle.std.proofs.lemmas.List.Elements.{All-nil}
use mathlib.Core.Option.{some, some-injective, some-ne-none}
use lib.ListN.{get_elem?}
use Rattle.atomic_table.specs.Table.{opening}
use Rattle.strip_film.specs.declared.path.Path.{Path}
use Rattle.strip_film.specs.declared.shared.Line.{Line}
use Rattle.strip_film.specs.Film.{IsFilm, LiesIn}
use Rattle.strip_lines.specs.Lines.{AreJustified, IsJustified}
use Rattle.strip_hand.specs.Search.{SearchData, search_rules}
use Rattle.strip_book.specs.View.{ViewData}
use Rattle.strip_book.specs.Words.{bound_word, count_word, word_count}
use Rattle.strip_book.specs.Rule.{Fits, IsBook, IsEntry, first_view}
use Rattle.strip_book.proofs.RuleKept.{grow_none}

-- the one view of a new table
each_first : (P : ViewData → Type 0) (first : ViewData) → P first → (id : ℕ) (view : ViewData) → get_elem? (first ∷ []) id ≡ some view → P view
each_first P first holds zero view at = subst P (some-injective first view at) holds
each_first P first holds (suc id) view at = absurd (some-ne-none view (sym at))

pub none_justified : (search : SearchData) → AreJustified (search_rules search) []
none_justified search = All-nil (λ (line : Line). LiesIn search.film line.set × IsJustified (search_rules search) [] line)

pub opens : (search : SearchData) (words : List ℕ) → IsFilm search.film → search.nodes ≤ 16777216 → words ≡ replicate (word_count search.nodes) 0
    → IsBook search (opening {S = Path} words [] (first_view search))
opens search words film small are = record {
  lines = [];
  count = 0;
  words = ap (λ (ws : List ℕ). length ws) are ∙ length-replicate (word_count search.nodes) 0;
  head = zeros count_word (omega arith);
  film = film;
  long = omega arith;
  justified = none_justified search;
  fits = each_first (Fits search words []) (first_view search) (record {
    knows = grow_none [];
    heard = grow_none [];
    goes_by = λ _. refl;
    entries = All-nil (IsEntry search);
    writes = λ is. absurd (let e : false ≡ true = is in cc);
    light = λ none. absurd (omega (arith, none));
    spent = λ is. absurd (let e : false ≡ true = is in cc);
  });
  places = λ number lt. absurd (omega (arith, lt));
  fresh = λ number _ below. zeros (bound_word number) (omega (arith, below));
  whole = omega arith;
  numbers = omega arith;
  sets = λ q. omega arith;
  few = omega arith;
  small = small;
}
  where
    zeros : (i : ℕ) → i < word_count search.nodes → slice_index words i ≡ 0
    zeros i lt = ap (λ (ws : List ℕ). slice_index ws i) are ∙ get_or-replicate (word_count search.nodes) i 0 0 lt
