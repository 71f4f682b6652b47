-- What a pass or a copy is after a call, and what the call made of what it knows.
use Rattle.std.proofs.Common.{◌≡◌, ℕ, ◌+◌, ◌<◌, ◌≤◌, true, false, List, [], ◌∷◌, ◌++◌, All, length, refl, sym, ap, ◌∙◌, subst, arith}
use Rattle.std.proofs.lemmas.List.{length-append}
use Rattle.std.proofs.lemmas.List.Elements.{All-append, All-push}
use Rattle.std.proofs.Math.Seq.{get_or-append_seam}
use Rattle.atomic_table.specs.Table.{Me}
use Rattle.strip_film.specs.declared.path.Path.{Path}
use Rattle.strip_film.specs.declared.shared.Line.{Line}
use Rattle.strip_film.specs.Film.{IsFilm}
use Rattle.strip_film.specs.Path.{PathData}
use Rattle.strip_lines.specs.Lines.{AreJustified, GrowTo, line_at, no_line}
use Rattle.strip_lines.proofs.Grown.{added-grows, grow_self, grow_trans}
use Rattle.strip_hand.specs.Search.{SearchData, search_rules}
use Rattle.strip_book.specs.declared.book.Book.{Book}
use Rattle.strip_book.specs.declared.pass.BookPass.{BookPass}
use Rattle.strip_book.specs.declared.pass.BookCopy.{BookCopy}
use Rattle.strip_book.specs.View.{ViewData, new_entry}
use Rattle.strip_book.specs.Rule.{IsEntry, draft_line}
use Rattle.strip_book.specs.Steps.{HasCompared, HasLearnt, HasMade, HasRaised, HasSeen, HasSpent, OwnsAll, about, copied, drawn, half_written, heard_from, joined, knowing, with_part, written}
use Rattle.strip_book.specs.Words.{bound_word}
use Rattle.strip_book.specs.Pass.{BeginsPart, Hears, IsCopyOf, IsPassOf, Joins, KeepsView, MakesLine, MayBegin, MayEnlistNext, Raises, Settles, TableData, ViewIsSpent, known, table_of}
use Rattle.strip_book.proofs.Entries.{begun-here, begun-there, enlisted-here, enlisted-parts, enlisted-there}
use Rattle.strip_book.proofs.Told.{new_is_entry}

-- ---- passes

-- a pass of the same words whose view is sound is one of the book
pub passes_on : (book : Book) (pass after : BookPass) (v : ViewData) → IsPassOf book pass → after.seat.table_id ≡ pass.seat.table_id → after.seat.me.1 ≡ [] → known after ≡ v
    → v.search ≡ (known pass).search → 0 < v.weight → v.writing ≡ false → AreJustified (search_rules (known pass).search) v.lines → length v.lines ≤ (known pass).search.nodes
    → All (IsEntry (known pass).search) v.entries → IsPassOf book after
passes_on book pass after v is table slots view search weight idle justified few entries = record {
  table = table ∙ is.table;
  search = ap (λ (u : ViewData). u.search) view ∙ search ∙ is.search;
  no_slots = slots;
  some_weight = omega (arith, ap (λ (u : ViewData). u.weight) view, weight);
  idle = ap (λ (u : ViewData). u.writing) view ∙ idle;
  justified = subst (λ (u : ViewData). AreJustified (search_rules u.search) u.lines) (sym view)
      (subst (λ (q : SearchData). AreJustified (search_rules q) v.lines) (sym search) justified);
  few = (
      let nodes : (known after).search.nodes ≡ (known pass).search.nodes = ap (λ (u : ViewData). u.search.nodes) view ∙ ap (λ (q : SearchData). q.nodes) search in
      let count : length (known after).lines ≡ length v.lines = ap (λ (u : ViewData). length u.lines) view in omega (arith, nodes, count, few));
  entries = subst (λ (u : ViewData). All (IsEntry u.search) u.entries) (sym view) (subst (λ (q : SearchData). All (IsEntry q) v.entries) (sym search) entries);
}

-- after a step at which it learnt all lines
pub learnt_pass : (book : Book) (pass after : BookPass) (before : ViewData) (lines : List Line) → IsPassOf book pass → after.seat.table_id ≡ pass.seat.table_id → after.seat.me.1 ≡ []
    → known after ≡ knowing before lines → before.search ≡ (known pass).search → 0 < before.weight → before.writing ≡ false → All (IsEntry (known pass).search) before.entries
    → HasLearnt before lines → IsPassOf book after
learnt_pass book pass after before lines is table slots view search weight idle entries learnt =
    passes_on book pass after (knowing before lines) is table slots view search weight idle
    (subst (λ (q : SearchData). AreJustified (search_rules q) lines) search learnt.justified)
    (let nodes : before.search.nodes ≡ (known pass).search.nodes = ap (λ (q : SearchData). q.nodes) search in omega (arith, nodes, learnt.few))
    entries

pub seen_pass : (book : Book) (pass after : BookPass) → IsPassOf book pass → after.seat.table_id ≡ pass.seat.table_id → after.seat.me.1 ≡ pass.seat.me.1
    → HasSeen (known pass) (known after) → IsPassOf book after
seen_pass book pass after is table slots seen =
    learnt_pass book pass after (known pass) seen.lines is table (slots ∙ is.no_slots) seen.only refl is.some_weight is.idle is.entries seen.learnt

pub raised_pass : (book : Book) (pass after : BookPass) (word bound : ℕ) → IsPassOf book pass → after.seat.table_id ≡ pass.seat.table_id → after.seat.me.1 ≡ pass.seat.me.1
    → HasRaised word bound (known pass) (known after) → IsPassOf book after
raised_pass book pass after word bound is table slots raised =
    learnt_pass book pass after (known pass) raised.lines is table (slots ∙ is.no_slots) raised.only refl is.some_weight is.idle is.entries raised.learnt

pub begun_pass : (book : Book) (pass after : BookPass) (part : ℕ) → IsPassOf book pass → after.seat.table_id ≡ pass.seat.table_id → after.seat.me.1 ≡ pass.seat.me.1
    → MayBegin (known pass) part → known after ≡ with_part (known pass) part → IsPassOf book after
begun_pass book pass after part is table slots may view =
    passes_on book pass after (with_part (known pass) part) is table (slots ∙ is.no_slots) view refl is.some_weight is.idle is.justified is.few
    (All-push (IsEntry (known pass).search) (known pass).entries (new_entry part) is.entries (new_is_entry (known pass).search part may.known_part))

-- after a line was drawn and written
pub made_pass : (book : Book) (pass after : BookPass) (part : ℕ) (path : PathData) (number : ℕ) (u : ViewData) → IsPassOf book pass → after.seat.table_id ≡ pass.seat.table_id
    → after.seat.me.1 ≡ [] → HasMade (about (known pass) part path) number u → number < (known pass).search.nodes → known after ≡ written (half_written u) → IsPassOf book after
made_pass book pass after part path number u is table slots made below view =
    let v : ViewData = written (half_written (drawn (about (known pass) part path) made.lines number)) in
    passes_on book pass after v is table slots (view ∙ ap (λ (w : ViewData). written (half_written w)) made.only) refl is.some_weight refl made.justified
    (omega (arith, length-append made.lines (draft_line (about (known pass) part path) ∷ []), made.count, below))
    made.entries

pub spent_pass : (book : Book) (pass after : BookPass) (part : ℕ) (path : PathData) → IsPassOf book pass → after.seat.table_id ≡ pass.seat.table_id → after.seat.me.1 ≡ []
    → HasSpent (about (known pass) part path) (known after) → IsPassOf book after
spent_pass book pass after part path is table slots spent =
    passes_on book pass after (record (about (known pass) part path) { lines = spent.lines; heard = []; spent = true }) is table slots spent.only refl is.some_weight is.idle
    spent.learnt.justified spent.learnt.few is.entries

pub joined_pass : (book : Book) (pass other after : BookPass) (u : ViewData) → IsPassOf book pass → IsPassOf book other → after.seat.table_id ≡ pass.seat.table_id
    → after.seat.me.1 ≡ [] → u ≡ joined (known pass) (known other) → HasSeen u (known after) → IsPassOf book after
joined_pass book pass other after u is other_is table slots view seen =
    let same : (known other).search ≡ (known pass).search = other_is.search ∙ sym is.search in
    learnt_pass book pass after (joined (known pass) (known other)) seen.lines is table slots (seen.only ∙ ap (λ (w : ViewData). knowing w seen.lines) view) refl
    (omega (arith, is.some_weight)) is.idle
    (All-append (IsEntry (known pass).search) (known pass).entries (known other).entries is.entries
    (subst (λ (q : SearchData). All (IsEntry q) (known other).entries) same other_is.entries))
    (subst (λ (w : ViewData). HasLearnt w seen.lines) view seen.learnt)

pub heard_pass : (book : Book) (pass after : BookPass) (other u : ViewData) → IsPassOf book pass → after.seat.table_id ≡ pass.seat.table_id → after.seat.me.1 ≡ []
    → u ≡ heard_from (known pass) other → HasSeen u (known after) → IsPassOf book after
heard_pass book pass after other u is table slots view seen =
    learnt_pass book pass after (heard_from (known pass) other) seen.lines is table slots (seen.only ∙ ap (λ (w : ViewData). knowing w seen.lines) view) refl is.some_weight is.idle
    is.entries (subst (λ (w : ViewData). HasLearnt w seen.lines) view seen.learnt)

-- ---- copies

-- a copy of these words whose view is sound is one of the table
pub copies_on : (table : TableData) (copy : BookCopy) (v : ViewData) → copy.seat.table_id ≡ table.words → copy.seat.me.1 ≡ [] → copy.seat.me.0 ≡ v → v.search ≡ table.search
    → v.weight ≡ 0 → v.writing ≡ false → IsFilm table.search.film → AreJustified (search_rules table.search) v.lines → length v.lines ≤ table.search.nodes → IsCopyOf table copy
copies_on table copy v words slots view search weight idle film justified few = record {
  words = words;
  search = ap (λ (u : ViewData). u.search) view ∙ search;
  film = film;
  no_slots = slots;
  no_weight = ap (λ (u : ViewData). u.weight) view ∙ weight;
  idle = ap (λ (u : ViewData). u.writing) view ∙ idle;
  justified = subst (λ (u : ViewData). AreJustified (search_rules table.search) u.lines) (sym view) justified;
  few = subst (λ (u : ViewData). length u.lines ≤ table.search.nodes) (sym view) few;
}

-- one of a pass, and one of a copy
pub copied_pass : (book : Book) (pass : BookPass) (copy : BookCopy) → IsPassOf book pass → copy.seat.table_id ≡ pass.seat.table_id → copy.seat.me ≡ (copied (known pass), [])
    → IsCopyOf (table_of book) copy
copied_pass book pass copy is words me =
    copies_on (table_of book) copy (copied (known pass)) (words ∙ is.table) (ap (λ (m : Me Path ViewData). m.1) me) (ap (λ (m : Me Path ViewData). m.0) me) is.search refl refl
    book.film (subst (λ (q : SearchData). AreJustified (search_rules q) (known pass).lines) is.search is.justified)
    (subst (λ (q : SearchData). length (known pass).lines ≤ q.nodes) is.search is.few)

pub copied_copy : (table : TableData) (copy other : BookCopy) → IsCopyOf table copy → other.seat.table_id ≡ copy.seat.table_id → other.seat.me ≡ (copied copy.seat.me.0, [])
    → IsCopyOf table other
copied_copy table copy other is words me =
    copies_on table other (copied copy.seat.me.0) (words ∙ is.words) (ap (λ (m : Me Path ViewData). m.1) me) (ap (λ (m : Me Path ViewData). m.0) me) is.search refl refl is.film
    is.justified is.few

-- one that stays as it is
pub same_copy : (table : TableData) (copy after : BookCopy) → IsCopyOf table copy → after.seat.table_id ≡ copy.seat.table_id → after.seat.me ≡ copy.seat.me → IsCopyOf table after
same_copy table copy after is words me =
    copies_on table after copy.seat.me.0 (words ∙ is.words) (ap (λ (m : Me Path ViewData). m.1) me ∙ is.no_slots) (ap (λ (m : Me Path ViewData). m.0) me) is.search is.no_weight
    is.idle is.film is.justified is.few

-- and one that heard of another
pub heard_copy : (table : TableData) (copy after : BookCopy) (other u : ViewData) → IsCopyOf table copy → after.seat.table_id ≡ copy.seat.table_id → after.seat.me.1 ≡ []
    → u ≡ heard_from copy.seat.me.0 other → HasCompared u after.seat.me.0 → IsCopyOf table after
heard_copy table copy after other u is words slots view compared =
    let learnt : HasLearnt (heard_from copy.seat.me.0 other) compared.lines = subst (λ (w : ViewData). HasLearnt w compared.lines) view compared.learnt in
    copies_on table after (knowing (heard_from copy.seat.me.0 other) compared.lines) (words ∙ is.words) slots
    (compared.only ∙ ap (λ (w : ViewData). knowing w compared.lines) view) is.search is.no_weight is.idle is.film
    (subst (λ (q : SearchData). AreJustified (search_rules q) compared.lines) is.search learnt.justified)
    (subst (λ (q : SearchData). length compared.lines ≤ q.nodes) is.search learnt.few)

-- ---- what the calls make of what is known

-- the view is the one before but for some of what a call doesn't show
pub learns : (before after : ViewData) (lines : List Line) → HasLearnt before lines → after ≡ knowing before lines → KeepsView before after
learns before after lines learnt view = subst (KeepsView before) (sym view) (record { weight = refl; search = refl; grow = learnt.knew })

pub settles_so : (before after : ViewData) → HasSeen before after → Settles before after
settles_so before after seen = record {
  stays = learns before after seen.lines seen.learnt seen.only;
  entries = ap (λ (u : ViewData). u.entries) seen.only;
  all = λ whole. subst OwnsAll (sym seen.only) (seen.all whole);
}

pub raises_so : (before after : ViewData) (word line bound : ℕ) → word ≡ bound_word line → HasRaised word bound before after → Raises before line bound after
raises_so before after word line bound there raised = record {
  stays = learns before after raised.lines raised.learnt raised.only;
  entries = ap (λ (u : ViewData). u.entries) raised.only;
  raised = subst (λ (u : ViewData). bound ≤ (line_at u.lines line).bound) (sym raised.only) (raised.raised_to line there);
}

pub begins_so : (before after : ViewData) (part : ℕ) → MayBegin before part → after ≡ with_part before part → BeginsPart before part after
begins_so before after part may view =
    subst (BeginsPart before part) (sym view)
    (record {
      stays = record { weight = refl; search = refl; grow = grow_self before.lines };
      lines = refl;
      entries = refl;
      here = begun-here part before.entries may.fresh;
      others = λ other apart. begun-there part other before.entries apart;
    })

pub makes_so : (before u after : ViewData) (part : ℕ) (path : PathData) (bound number : ℕ) → MayEnlistNext before part path bound → HasMade (about before part path) number u
    → after ≡ written (half_written u) → MakesLine before part path bound number after
makes_so before u after part path bound number may made view =
    let line : Line = draft_line (about before part path) in
    let v : ViewData = written (half_written (drawn (about before part path) made.lines number)) in
    let is : after ≡ v = view ∙ ap (λ (w : ViewData). written (half_written w)) made.only in
    let long : length (made.lines ++ line ∷ []) ≡ length made.lines + 1 = length-append made.lines (line ∷ []) in
    subst (MakesLine before part path bound number) (sym is)
    (record {
      stays = record {
        weight = refl;
        search = refl;
        grow = grow_trans before.lines made.lines (made.lines ++ line ∷ []) made.learnt.knew (added-grows made.lines line);
      };
      fresh = omega (arith, made.learnt.knew.count, made.count);
      there = omega (arith, long, made.count);
      made = ap (line_at (made.lines ++ line ∷ [])) (sym made.count) ∙ get_or-append_seam made.lines line [] no_line
          ∙ (λ i. record { set = path.rest; bound = sym may.static_bound i });
      counted = record {
        entry = may.next.entry;
        was = may.next.stands;
        is = enlisted-here part path before.entries may.next.entry may.next.stands;
        others = λ other apart. enlisted-there part path other before.entries apart;
        parts = enlisted-parts part path before.entries;
      };
    })

pub spends_so : (before after : ViewData) (part : ℕ) (path : PathData) (count : ℕ) → count ≡ before.search.nodes → HasSpent (about before part path) after → ViewIsSpent before count after
spends_so before after part path count full spent =
    subst (ViewIsSpent before count) (sym spent.only)
    (record {
      stays = record { weight = refl; search = refl; grow = spent.learnt.knew };
      entries = refl;
      counted = spent.count ∙ sym full;
      full = full;
    })

pub spent_so : (before after : ViewData) (count : ℕ) → count ≡ before.search.nodes → before.spent ≡ true → HasSeen before after → ViewIsSpent before count after
spent_so before after count full spent seen =
    subst (ViewIsSpent before count) (sym seen.only)
    (record {
      stays = record { weight = refl; search = refl; grow = seen.learnt.knew };
      entries = refl;
      counted = seen.learnt.full spent ∙ sym full;
      full = full;
    })

pub joins_so : (before other u after : ViewData) → u ≡ joined before other → HasSeen u after → Joins before other after
joins_so before other u after view seen =
    let is : after ≡ knowing (joined before other) seen.lines = seen.only ∙ ap (λ (w : ViewData). knowing w seen.lines) view in
    let learnt : HasLearnt (joined before other) seen.lines = subst (λ (w : ViewData). HasLearnt w seen.lines) view seen.learnt in
    subst (Joins before other) (sym is) (record { weight = refl; search = refl; entries = refl; grow = learnt.knew; others = learnt.heard })

pub hears_so : (before other u after : ViewData) → u ≡ heard_from before other → HasSeen u after → Hears before other.lines after
hears_so before other u after view seen =
    let is : after ≡ knowing (heard_from before other) seen.lines = seen.only ∙ ap (λ (w : ViewData). knowing w seen.lines) view in
    let learnt : HasLearnt (heard_from before other) seen.lines = subst (λ (w : ViewData). HasLearnt w seen.lines) view seen.learnt in
    subst (Hears before other.lines) (sym is) (record { stays = record { weight = refl; search = refl; grow = learnt.knew }; entries = refl; heard = learnt.heard })

pub compares_so : (before other u after : ViewData) → u ≡ heard_from before other → HasCompared u after → GrowTo before.lines after.lines × GrowTo other.lines after.lines
compares_so before other u after view compared =
    let is : after ≡ knowing (heard_from before other) compared.lines = compared.only ∙ ap (λ (w : ViewData). knowing w compared.lines) view in
    let learnt : HasLearnt (heard_from before other) compared.lines = subst (λ (w : ViewData). HasLearnt w compared.lines) view compared.learnt in
    subst (λ (v : ViewData). GrowTo before.lines v.lines × GrowTo other.lines v.lines) (sym is) (learnt.knew, learnt.heard)
