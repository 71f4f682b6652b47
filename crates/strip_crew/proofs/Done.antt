-- Jobs that are done, and what becomes of passes on the way.
use Rattle.std.proofs.Common.{◌≡◌, ℕ, ◌≤◌, ◌||◌, Bool, true, false, Option, None, List, [], ◌∷◌, ◌++◌, All, length, refl, sym, subst, arith}
use Rattle.std.proofs.lemmas.List.Elements.{All-cons, All-head, All-nil, All-tail}
use Rattle.strip_film.specs.declared.shared.Known.{Known}
use Rattle.strip_lines.proofs.Grown.{grow_self}
use Rattle.strip_hand.specs.Hand.{HandData}
use Rattle.strip_least.specs.declared.least.Least.{Least}
use Rattle.strip_least.specs.declared.pass.LeastPass.{LeastPass}
use Rattle.strip_least.specs.declared.view.View.{View as LeastView}
use Rattle.strip_book.specs.declared.book.Book.{Book}
use Rattle.strip_book.specs.declared.pass.BookPass.{BookPass}
use Rattle.strip_book.specs.View.{ViewData}
use Rattle.strip_book.specs.Pass.{TableData, table_of}
use Rattle.strip_front.specs.Front.{FrontData}
use Rattle.strip_crew.specs.declared.asked.Asked.{Asked}
use Rattle.strip_crew.specs.declared.source.Source.{Source}
use Rattle.strip_crew.specs.Hub.{IsHub, hand_of}
use Rattle.strip_worker.specs.Team.{GoesOn, HasWorked}
use Rattle.strip_worker.proofs.Moved.{goes_then, moved_same}

pub or_second : (one other : Bool) → other ≡ true → (one || other) ≡ true
or_second true other is = refl
or_second false other is = is

pub goes_after : (one two three : HandData) → GoesOn one two → GoesOn two three → GoesOn one three
goes_after one two three = goes_then one two three

pub goes_self : (hand : HandData) → GoesOn hand hand
goes_self hand = record { search = refl; told = omega arith; grow = grow_self hand.lines; records = λ part entry is. is }

-- passes of a hub are those of the words and the book that it stands over
pub hub_is : (table : TableData) (least other_least : Least) (book other_book : Book) (source other_source : Source) (told other_told : LeastPass)
    (lines other_lines : BookPass) → least ≡ other_least → book ≡ other_book → other_source ≡ source → other_told ≡ told → other_lines ≡ lines
    → table_of other_book ≡ table → IsHub table least book source told lines → IsHub (table_of other_book) other_least other_book other_source other_told other_lines
hub_is table least other_least book other_book source other_source told other_told lines other_lines same_least same_book same_source same_told same_lines named hub =
    subst (λ (t : TableData). IsHub t other_least other_book other_source other_told other_lines) (sym named)
    (subst (λ (l : Least). IsHub table l other_book other_source other_told other_lines) same_least
    (subst (λ (b : Book). IsHub table least b other_source other_told other_lines) same_book
    (subst (λ (s : Source). IsHub table least book s other_told other_lines) (sym same_source)
    (subst (λ (t : LeastPass). IsHub table least book source t other_lines) (sym same_told)
    (subst (λ (l : BookPass). IsHub table least book source told l) (sym same_lines) hub)))))

-- what a hand has found doesn't depend on its last probe and its last note
pub unasked : (source : Source) (told : LeastView) (lines : ViewData) (asked : Option Asked) (noted : Option Known) (front : FrontData) (found : List ℕ) (spent : Bool)
    → length lines.lines ≤ lines.search.nodes → HasWorked (hand_of source told lines asked noted) front found spent → HasWorked (hand_of source told lines None None) front found spent
unasked source told lines asked noted front found spent few was =
    moved_same (hand_of source told lines asked noted) (hand_of source told lines None None)
    (record { search = refl; told = omega arith; grow = grow_self lines.lines; records = λ part entry is. is }) front found spent was (λ _. few) (λ part. refl)

-- and so it went on, whatever it probed and noted last
pub goes_unasked : (before : HandData) (source : Source) (told : LeastView) (lines : ViewData) (asked : Option Asked) (noted : Option Known)
    → GoesOn before (hand_of source told lines asked noted) → GoesOn before (hand_of source told lines None None)
goes_unasked before source told lines asked noted on = record { search = on.search; told = on.told; grow = on.grow; records = on.records }

pub goes_from_unasked : (source : Source) (told : LeastView) (lines : ViewData) (asked : Option Asked) (noted : Option Known) (after : HandData)
    → GoesOn (hand_of source told lines None None) after → GoesOn (hand_of source told lines asked noted) after
goes_from_unasked source told lines asked noted after on = record { search = on.search; told = on.told; grow = on.grow; records = on.records }

module _ {X : Type 0} (P : X → Type 0) where
  -- what holds of all holds of the last one, and of those before it
  pub all_last : (xs : List X) (x : X) → All P (xs ++ x ∷ []) → P x
  all_last [] x all = All-head P x [] all
  all_last (y ∷ ys) x all = all_last ys x (All-tail P y (ys ++ x ∷ []) all)

  pub all_before : (xs : List X) (x : X) → All P (xs ++ x ∷ []) → All P xs
  all_before [] x all = All-nil P
  all_before (y ∷ ys) x all = All-cons P y ys (All-head P y (ys ++ x ∷ []) all) (all_before ys x (All-tail P y (ys ++ x ∷ []) all))
