-- A pass gives a weight of 1 to a new one, and a copy is made that has none.
use Rattle.std.proofs.Common.{◌≡◌, ℕ, ◌<◌, ◌≤◌, true, false, List, [], ◌∷◌, ◌++◌, set, inl, inr, refl, sym, ◌∙◌, subst, arith}
use Rattle.std.proofs.lemmas.List.Elements.{All-nil}
use mathlib.Core.Option.{some}
use lib.ListN.{get_elem?}
use Rattle.atomic_table.specs.Table.{Splits, State}
use Rattle.atomic_table.proofs.Lists.{set_again}
use Rattle.strip_film.specs.declared.path.Path.{Path}
use Rattle.strip_hand.specs.Search.{SearchData}
use Rattle.strip_book.specs.View.{ViewData}
use Rattle.strip_book.specs.Rule.{Fits, IsBook, IsEntry, IsWritten, candidates_of, numbers_of, spent_weight, total, weight_of}
use Rattle.strip_book.specs.Steps.{copied, lightened, split_off}
use Rattle.strip_book.proofs.Views.{each_pushed, each_put, spent_weight-parted, total-push, total-put, written-pushed, written-put}
use Rattle.strip_book.proofs.RuleKept.{never_writes}

-- the rule with one view more, that has no entries and writes nothing
module _ (search : SearchData) (s : State Path ViewData) (k : IsBook search s) (views : List ViewData) where
  pub splits_to : ((j : ℕ) (u : ViewData) → get_elem? views j ≡ some u → Fits search s.words k.lines u)
      → ((number : ℕ) → IsWritten s.views number → IsWritten views number)
      → total weight_of views ≡ total weight_of s.views
      → total numbers_of views ≡ total numbers_of s.views
      → ((q : ℕ) → total (candidates_of search q) views ≡ total (candidates_of search q) s.views)
      → total spent_weight s.views ≤ total spent_weight views
      → IsBook search (record { words = s.words; homes = s.homes; views = views })
  splits_to fits written weights numbers sets spent = record {
    lines = k.lines;
    count = k.count;
    words = k.words;
    head = k.head;
    film = k.film;
    long = k.long;
    justified = k.justified;
    fits = fits;
    places = λ number lt. elim (k.places number lt) [
      | inl stands ↦ inl stands
      | inr by ↦ inr (written number by)
    ];
    fresh = k.fresh;
    whole = weights ∙ k.whole;
    numbers = numbers ∙ k.numbers;
    sets = λ q. omega (arith, k.sets q, sets q);
    few = omega (arith, k.few, spent);
    small = k.small;
  }

pub splits : (search : SearchData) (id : ℕ) (me : ViewData) → 2 ≤ me.weight → me.writing ≡ false → Splits {S = Path} (IsBook search) id me (lightened me) (split_off me)
splits search id me enough idle s k at =
    let heavy : 0 < me.weight = omega (arith, enough) in
    let mine = k.fits id me at in
    let views : List ViewData = set s.views id (lightened me) in
    splits_to search s k (views ++ split_off me ∷ [])
    (each_pushed (Fits search s.words k.lines) views (split_off me)
    (each_put (Fits search s.words k.lines) s.views id (lightened me) k.fits (record {
      knows = mine.knows;
      heard = mine.heard;
      goes_by = λ _. mine.goes_by heavy;
      entries = mine.entries;
      writes = λ is. never_writes me.writing idle is;
      light = λ none. absurd (omega (arith, none, enough));
      spent = mine.spent;
    }))
    (record {
      knows = mine.knows;
      heard = mine.heard;
      goes_by = λ _. mine.goes_by heavy;
      entries = All-nil (IsEntry search);
      writes = λ is. never_writes me.writing idle is;
      light = λ none. absurd (omega (arith, none));
      spent = mine.spent;
    }))
    (λ number by. written-pushed views (split_off me) number (written-put s.views id me (lightened me) number at (λ is. never_writes me.writing idle is) by))
    (let put = total-put weight_of s.views id me (lightened me) at in let push = total-push weight_of views (split_off me) in omega (arith, put, push, enough))
    (let put = total-put numbers_of s.views id me (lightened me) at in let push = total-push numbers_of views (split_off me) in omega (arith, put, push))
    (λ q. (let put = total-put (candidates_of search q) s.views id me (lightened me) at in let push = total-push (candidates_of search q) views (split_off me) in omega (arith, put, push)))
    (let put = total-put spent_weight s.views id me (lightened me) at in
    let push = total-push spent_weight views (split_off me) in
    let both = spent_weight-parted me heavy in omega (arith, put, push, both))

pub copies : (search : SearchData) (id : ℕ) (me : ViewData) → Splits {S = Path} (IsBook search) id me me (copied me)
copies search id me s k at =
    let mine = k.fits id me at in
    subst (λ (vs : List ViewData). IsBook search (record { words = s.words; homes = s.homes; views = vs ++ copied me ∷ [] })) (sym (set_again s.views id me at))
    (splits_to search s k (s.views ++ copied me ∷ [])
    (each_pushed (Fits search s.words k.lines) s.views (copied me) k.fits (record {
      knows = mine.knows;
      heard = mine.heard;
      goes_by = λ some_. absurd (omega (arith, some_));
      entries = All-nil (IsEntry search);
      writes = λ is. absurd (let e : false ≡ true = is in cc);
      light = λ _. (refl, refl);
      spent = λ is. absurd (let e : false ≡ true = is in cc);
    }))
    (λ number by. written-pushed s.views (copied me) number by)
    (let push = total-push weight_of s.views (copied me) in omega (arith, push))
    (let push = total-push numbers_of s.views (copied me) in omega (arith, push))
    (λ q. (let push = total-push (candidates_of search q) s.views (copied me) in omega (arith, push)))
    (let push = total-push spent_weight s.views (copied me) in omega (arith, push)))
