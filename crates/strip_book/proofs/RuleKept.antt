-- What a step of one view has to show, so that the rule is kept.
use Rattle.std.proofs.Common.{◌≡◌, ◌⊎◌, ℕ, ◌+◌, ◌<◌, ◌≤◌, Bool, true, false, cond, List, [], All, min, length, slice_set, set, inl, inr, refl, sym, ap, ◌∙◌, subst, arith}
use Rattle.std.specs.Prelude.{slice_index}
use Rattle.std.proofs.lemmas.List.{set-get_or}
use mathlib.Core.Option.{some}
use lib.ListN.{get_elem?}
use Rattle.atomic_table.specs.Table.{State}
use Rattle.strip_film.specs.declared.path.Path.{Path}
use Rattle.strip_film.specs.declared.shared.Line.{Line}
use Rattle.strip_lines.specs.Lines.{AreJustified, GrowTo, line_at}
use Rattle.strip_lines.proofs.Grown.{grow_self, grow_trans}
use Rattle.strip_hand.specs.Search.{SearchData, search_rules}
use Rattle.strip_book.specs.View.{EntryData, ViewData}
use Rattle.strip_book.specs.Words.{bound_word, count_word}
use Rattle.strip_book.specs.Rule.{Fits, IsBook, IsEntry, IsWriting, IsWritten, Stands, candidates_at, candidates_of, lines_of, number_of, numbers_of, spent_weight, total, weight_of}
use Rattle.strip_book.specs.Steps.{HasLearnt}
use Rattle.strip_book.proofs.Views.{each_put, total-put, written-put}

pub grow_none : (lines : List Line) → GrowTo [] lines
grow_none lines = record { count = omega arith; same_set = λ n lt. absurd (omega (arith, lt)); no_lower = λ n lt. absurd (omega (arith, lt)) }

-- a load leaves the words
pub word_stays : (words : List ℕ) (i : ℕ) → slice_set words i (slice_index words i) ≡ words
word_stays words i = set-get_or words i 0

-- a view that is idle doesn't write
pub never_writes : {P : Type 0} (writing : Bool) → writing ≡ false → writing ≡ true → P
never_writes writing idle is = absurd (let e : false ≡ true = sym idle ∙ is in cc)

module _ (search : SearchData) (s : State Path ViewData) (k : IsBook search s) (id : ℕ) (me : ViewData) (at : get_elem? s.views id ≡ some me) where
  -- the words, the lines, the count and this view after a step
  pub record Step (words : List ℕ) (lines : List Line) (count : ℕ) (w : ViewData) : Type 0 where
    pub long_words : length words ≡ length s.words
    pub head : slice_index words count_word ≡ count
    pub long : length lines ≡ min count search.nodes
    pub justified : AreJustified (search_rules search) lines
    pub grow : GrowTo k.lines lines
    pub writes : (u : ViewData) → IsWriting s.words k.lines u → IsWriting words lines u
    pub mine : Fits search words lines w
    pub places : (number : ℕ) → number < length lines → Stands words (line_at lines number) number ⊎ IsWritten (set s.views id w) number
    pub fresh : (number : ℕ) → length lines ≤ number → number < search.nodes → slice_index words (bound_word number) ≡ 0
    pub weight : w.weight ≡ me.weight
    pub numbers : numbers_of w + length k.lines ≡ numbers_of me + length lines
    pub sets : (q : ℕ) → lines_of q lines + candidates_of search q me ≤ lines_of q k.lines + candidates_of search q w
    pub few : count ≤ search.nodes + total spent_weight (set s.views id w)

  pub stepped_by : (words : List ℕ) (lines : List Line) (count : ℕ) (w : ViewData) → Step words lines count w
      → IsBook search (record { words = words; homes = s.homes; views = set s.views id w })
  stepped_by words lines count w by = record {
    lines = lines;
    count = count;
    words = by.long_words ∙ k.words;
    head = by.head;
    film = k.film;
    long = by.long;
    justified = by.justified;
    fits = each_put (Fits search words lines) s.views id w (λ j u e. (let was = k.fits j u e in record {
      knows = grow_trans u.lines k.lines lines was.knows by.grow;
      heard = grow_trans u.heard k.lines lines was.heard by.grow;
      goes_by = was.goes_by;
      entries = was.entries;
      writes = λ is. by.writes u (was.writes is);
      light = was.light;
      spent = λ is. omega (arith, was.spent is, by.grow.count, by.long);
    })) by.mine;
    places = by.places;
    fresh = by.fresh;
    whole = (let put = total-put weight_of s.views id me w at in omega (arith, put, k.whole, by.weight));
    numbers = (let put = total-put numbers_of s.views id me w at in omega (arith, put, k.numbers, by.numbers));
    sets = λ q. (let put = total-put (candidates_of search q) s.views id me w at in omega (arith, put, k.sets q, by.sets q));
    few = by.few;
    small = k.small;
  }

  pub mine_fits : Fits search s.words k.lines me
  mine_fits = k.fits id me at

  -- lines stand or are written still where the view wrote nothing
  pub stays : (w : ViewData) → me.writing ≡ false → (number : ℕ) → number < length k.lines
      → Stands s.words (line_at k.lines number) number ⊎ IsWritten (set s.views id w) number
  stays w idle number lt = elim (k.places number lt) [
    | inl stands ↦ inl stands
    | inr by ↦ inr (written-put s.views id me w number at (λ is. never_writes me.writing idle is) by)
  ]

  -- a step after which the words and the lines are the same, and the view but for what it knows, is about and began
  pub still : (w : ViewData) → me.writing ≡ false → w.writing ≡ false → w.weight ≡ me.weight → w.spent ≡ me.spent → w.search ≡ me.search
      → All (IsEntry search) w.entries → (me.weight ≡ 0 → w.entries ≡ []) → numbers_of w ≡ numbers_of me → ((q : ℕ) → candidates_of search q me ≤ candidates_of search q w)
      → GrowTo w.lines k.lines → GrowTo w.heard k.lines → Step s.words k.lines k.count w
  still w idle idle_then weight spent goes_by entries light numbers sets knows heard = record {
    long_words = refl;
    head = k.head;
    long = k.long;
    justified = k.justified;
    grow = grow_self k.lines;
    writes = λ u is. is;
    mine = record {
      knows = knows;
      heard = heard;
      goes_by = λ some_. goes_by ∙ mine_fits.goes_by (omega (arith, some_, weight));
      entries = entries;
      writes = λ is. never_writes w.writing idle_then is;
      light = λ none. (idle_then, light (omega (arith, none, weight)));
      spent = λ is. mine_fits.spent (sym spent ∙ is);
    };
    places = stays w idle;
    fresh = k.fresh;
    weight = weight;
    numbers = omega (arith, numbers);
    sets = λ q. omega (arith, sets q);
    few = (
        let put = total-put spent_weight s.views id me w at in
        let same : spent_weight w ≡ spent_weight me = (λ i. cond {A = ℕ} (spent i) (weight i) 0) in
        omega (arith, put, same, k.few));
  }

  -- the same where the entries stay too
  pub quiet : (w : ViewData) → me.writing ≡ false → w.writing ≡ false → w.weight ≡ me.weight → w.spent ≡ me.spent → w.search ≡ me.search → w.entries ≡ me.entries
      → GrowTo w.lines k.lines → GrowTo w.heard k.lines → Step s.words k.lines k.count w
  quiet w idle idle_then weight spent goes_by entries knows heard =
      still w idle idle_then weight spent goes_by (subst (All (IsEntry search)) (sym entries) mine_fits.entries) (λ none. entries ∙ (mine_fits.light none).1)
      (ap (λ (es : List EntryData). total number_of es) entries)
      (λ q. (let same : candidates_of search q w ≡ candidates_of search q me = ap (λ (es : List EntryData). total (candidates_at search q) es) entries in omega (arith, same)))
      knows heard

  -- what a view learns that goes by the search
  pub learnt_by : me.search ≡ search → HasLearnt me k.lines
  learnt_by same =
      let nodes : me.search.nodes ≡ search.nodes = ap (λ (q : SearchData). q.nodes) same in
      record {
        knew = mine_fits.knows;
        heard = mine_fits.heard;
        justified = subst (λ (q : SearchData). AreJustified (search_rules q) k.lines) (sym same) k.justified;
        few = omega (arith, k.long, nodes);
        full = λ is. omega (arith, mine_fits.spent is, nodes);
      }

  -- as one with weight does
  pub learnt : 0 < me.weight → HasLearnt me k.lines
  learnt heavy = learnt_by (mine_fits.goes_by heavy)

  -- the rule after a step that leaves the words
  pub kept_still : (words : List ℕ) (w : ViewData) → words ≡ s.words → Step s.words k.lines k.count w
      → IsBook search (record { words = words; homes = s.homes; views = set s.views id w })
  kept_still words w same by =
      subst (λ (ws : List ℕ). IsBook search (record { words = ws; homes = s.homes; views = set s.views id w })) (sym same)
      (stepped_by s.words k.lines k.count w by)
