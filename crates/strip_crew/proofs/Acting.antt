-- The calls of two passes are those of a hand.
use Rattle.std.proofs.lemmas.Bool.{cases_Bool, eqb-true}
use Rattle.std.proofs.lemmas.List.{map-append}
use Rattle.strip_mask.proofs.Lists.{count-append, count-cons}
use Rattle.std.proofs.Common.{suc, Bool, cond, eqb, [], ◌∷◌, length, inl, inr, ◌≡◌, ℕ, ◌+◌, ◌<◌, ◌≤◌, Option, Some, None, Ok, List, refl, sym, ap, ◌∙◌, subst, arith}
use Rattle.strip_model.specs.Film.{FilmData}
use Rattle.strip_model.specs.Pay.{IsOptimum}
use Rattle.strip_film.specs.declared.shared.Known.{Known}
use Rattle.strip_film.specs.declared.shared.Line.{Line as LineOf}
use Rattle.strip_film.specs.declared.shared.Listed.TheVariants.{Line}
use Rattle.strip_film.specs.Film.{IsFilm}
use Rattle.strip_film.specs.Path.{PathData}
use Rattle.strip_film.specs.Shown.{CursorData}
use Rattle.strip_hand.specs.Hand.{HandData}
use Rattle.strip_hand.specs.Calls.{Claims, Enlists, MayEnlist, Tells}
use Rattle.strip_hand.specs.Search.{AreStarts, SearchData, search_rules}
use Rattle.strip_least.specs.declared.view.View.{View as LeastView}
use Rattle.strip_least.specs.Rule.{times}
use Rattle.strip_least.specs.Steps.{AreOnce, HasLooked, HasOffered}
use Rattle.strip_book.specs.View.{EntryData, ViewData, new_entry, parts_of, record_at}
use Rattle.strip_book.specs.Pass.{BeginsPart, Enlists as BookEnlists, MayBegin, MayEnlistNext}
use Rattle.strip_crew.specs.declared.asked.Asked.{Asked}
use Rattle.strip_crew.specs.declared.source.Source.{Source}
use Rattle.strip_crew.specs.Source.{DrawsNone, DrawsPart, IsSource}
use Rattle.strip_crew.specs.Hub.{GoTogether, IsSearch, hand_of}

module _ (source : Source) (told : LeastView) (lines : ViewData) (asked : Option Asked) (noted : Option Known) (together : GoTogether source told lines) where
  -- what is known of costs of the one film is known of those of the other
  by_film : (least : ℕ) → ((pay : ℕ) → IsOptimum told.film pay → pay ≤ least) → (pay : ℕ) → IsOptimum lines.search.film pay → pay ≤ least
  by_film least no_less pay optimum = no_less pay (subst (λ (film : FilmData). IsOptimum film pay) (sym together.film) optimum)

  pub looks : (least : ℕ) (after : LeastView) → HasLooked told least after → Tells (hand_of source told lines asked noted) least (hand_of source after lines asked noted)
  looks least after looked = record {
    only = ap (λ (v : LeastView). hand_of source v lines asked noted) looked.only;
    no_more = looked.tells.no_more;
    no_less = by_film least looked.tells.no_less;
  }

  pub offers : (paid least : ℕ) (after : LeastView) → HasOffered paid told least after → Tells (hand_of source told lines asked noted) least (hand_of source after lines asked noted)
  offers paid least after offered = record {
    only = ap (λ (v : LeastView). hand_of source v lines asked noted) offered.only;
    no_more = offered.tells.no_more;
    no_less = by_film least offered.tells.no_less;
  }

  -- another told cost, which is no dearer than the start
  told_together : (least : ℕ) → least ≤ told.start → GoTogether source (record told { told = least }) lines
  told_together least within = record {
    film = together.film;
    start = together.start;
    parts = together.parts;
    no_dearer = within;
    begun = together.begun;
    once = together.once;
    given = together.given;
  }

  pub looks_together : (least : ℕ) (after : LeastView) → HasLooked told least after → GoTogether source after lines
  looks_together least after looked = subst (λ (v : LeastView). GoTogether source v lines) (sym looked.only) (told_together least looked.tells.no_dearer)

  pub offers_together : (paid least : ℕ) (after : LeastView) → HasOffered paid told least after → GoTogether source after lines
  offers_together paid least after offered =
      subst (λ (v : LeastView). GoTogether source v lines) (sym offered.only)
      (let as_told = told_together least offered.tells.no_dearer in
      record { film = as_told.film; start = as_told.start; parts = as_told.parts; no_dearer = as_told.no_dearer; begun = as_told.begun; once = as_told.once; given = as_told.given })

  module _ (after_source : Source) (after : LeastView) (draws : DrawsNone source told after_source after) where
    pub ends_together : GoTogether after_source after lines
    ends_together =
        subst (λ (v : LeastView). GoTogether after_source v lines) (sym draws.only)
        (record {
          film = together.film;
          start = together.start;
          parts = together.parts;
          no_dearer = together.no_dearer;
          begun = λ part. omega (arith, together.begun part, draws.same part);
          once = together.once;
          given = draws.source;
        })

    pub ends : Claims (hand_of source told lines asked noted) None (hand_of after_source after lines asked noted)
    ends = λ i. record (hand_of source told lines asked noted) { told = (draws.only i).told; ended = draws.ended i }

  module _ (fresh : (entries : List EntryData) (part : ℕ) → times part (parts_of entries) ≡ 0 → record_at part entries ≡ None)
      (part : ℕ) (after_source : Source) (claimed : LeastView) (draws : DrawsPart source told part after_source claimed) where
    unbegun : times part (parts_of lines.entries) ≡ 0
    unbegun = omega (arith, together.begun part, draws.fresh)

    pub may_begin : MayBegin lines part
    may_begin = record {
      known_part = subst (λ (parts : ℕ). part < parts) together.parts draws.below;
      fresh = fresh lines.entries part unbegun;
    }

    module _ (begun : ViewData) (begins : BeginsPart lines part begun) where
      one_more : (other : ℕ) → times other (parts_of begun.entries) ≡ times other (parts_of lines.entries) + times other (part ∷ [])
      one_more other =
          ap (λ (entries : List EntryData). times other (parts_of entries)) begins.entries
          ∙ ap (times other) (map-append (λ (entry : EntryData). entry.part) lines.entries (new_entry part ∷ []))
          ∙ count-append other (parts_of lines.entries) (part ∷ [])

      -- the part is one more of those that were begun, where it stands once
      begun_once : AreOnce (parts_of begun.entries)
      begun_once other =
          let all = one_more other in
          let one : times other (part ∷ []) ≡ cond {A = ℕ} (eqb part other) 1 0 + 0 = count-cons other part [] in
          elim (cases_Bool (eqb part other)) [
            | inl here ↦ (
                let same : other ≡ part = sym (eqb-true part other here) in
                let none : times other (parts_of lines.entries) ≡ 0 = ap (λ (p : ℕ). times p (parts_of lines.entries)) same ∙ unbegun in
                let single : cond {A = ℕ} (eqb part other) 1 0 ≡ 1 = ap (λ (b : Bool). cond {A = ℕ} b 1 0) here in
                omega (arith, all, one, none, single))
            | inr apart ↦ (
                let nothing : cond {A = ℕ} (eqb part other) 1 0 ≡ 0 = ap (λ (b : Bool). cond {A = ℕ} b 1 0) apart in
                let most = together.once other in
                omega (arith, all, one, nothing, most))
          ]

      pub begins_together : GoTogether after_source claimed begun
      begins_together = record {
        film = ap (λ (v : LeastView). v.film) draws.only ∙ together.film ∙ ap (λ (search : SearchData). search.film) (sym begins.stays.search);
        start = ap (λ (v : LeastView). v.start) draws.only ∙ together.start ∙ ap (λ (search : SearchData). search.start) (sym begins.stays.search);
        parts = ap (λ (v : LeastView). v.parts) draws.only ∙ together.parts ∙ ap (λ (search : SearchData). suc (length search.tasks)) (sym begins.stays.search);
        no_dearer = subst (λ (v : LeastView). v.told ≤ v.start) (sym draws.only) together.no_dearer;
        begun = λ other. omega (arith, one_more other, together.begun other, draws.more other);
        once = begun_once;
        given = subst (λ (parts : ℕ). IsSource after_source parts claimed.claims) (sym (ap (λ (v : LeastView). v.parts) draws.only)) draws.source;
      }

      pub claims : Claims (hand_of source told lines asked noted) (Some part) (hand_of after_source claimed begun asked noted)
      claims =
          let of : SearchData → ℕ → List LineOf → HandData
          = λ search least known. record (hand_of after_source claimed begun asked noted) { search = search; told = least; lines = known } in
          let only : hand_of after_source claimed begun asked noted ≡ of lines.search told.told lines.lines
          = ap (λ (search : SearchData). of search claimed.told begun.lines) begins.stays.search
          ∙ ap (λ (least : ℕ). of lines.search least begun.lines) (ap (λ (v : LeastView). v.told) draws.only)
          ∙ ap (of lines.search told.told) begins.lines in
          (only, may_begin.known_part, may_begin.fresh, begins.here, begins.others)

  -- other lines of the same search, with entries of the same parts
  module _ (after : ViewData) (search : after.search ≡ lines.search) (parts : parts_of after.entries ≡ parts_of lines.entries) where
    pub lines_together : GoTogether source told after
    lines_together = record {
      film = together.film ∙ ap (λ (s : SearchData). s.film) (sym search);
      start = together.start ∙ ap (λ (s : SearchData). s.start) (sym search);
      parts = together.parts ∙ ap (λ (s : SearchData). suc (length s.tasks)) (sym search);
      no_dearer = together.no_dearer;
      begun = λ part. ap (times part) parts ∙ together.begun part;
      once = λ part. subst (λ (numbers : List ℕ). times part numbers ≤ 1) (sym parts) (together.once part);
      given = together.given;
    }

    pub search_still : IsSearch lines → IsSearch after
    search_still is = record {
      film = subst (λ (s : SearchData). IsFilm s.film) (sym search) is.film;
      tasks = subst AreStarts (sym search) is.tasks;
    }

  module _ (cursor : CursorData) (path : PathData) (bound : ℕ)
      (may : MayEnlist (hand_of source told lines asked noted) cursor path bound) where
    no_dearer : told.told ≤ lines.search.start
    no_dearer = subst (λ (start : ℕ). told.told ≤ start) together.start together.no_dearer

    pub may_enlist : MayEnlistNext lines cursor.task path bound
    may_enlist = record {
      next = record {
        entry = record { last = cursor.last; number = may.stands.0 };
        stands = may.stands.1;
        is_open = may.is_open;
        lies = may.lies;
        later = may.later;
        some = may.some;
        below = (let below : path.paid + (search_rules lines.search).bound path.rest < told.told
            = subst (λ (b : ℕ). path.paid + b < told.told) may.static_bound may.below in omega (arith, below, no_dearer));
      };
      static_bound = may.static_bound;
    }

    pub makes : (line : ℕ) (after : ViewData) → BookEnlists lines cursor.task path bound (Line line) after
        → Enlists (hand_of source told lines asked noted) cursor path bound (Ok (Line line)) (hand_of source told after asked noted) (record { task = cursor.task; last = Some path })
    makes line after made =
        let same : Some (record { last = cursor.last; number = may.stands.0 }) ≡ Some made.counted.entry = sym may.stands.1 ∙ made.counted.was in
        let number : made.counted.entry.number ≡ may.stands.0 = cc in
        record {
          only = ap (λ (search : SearchData). record (hand_of source told after asked noted) { search = search }) made.stays.search;
          grow = made.stays.grow;
          fresh = made.fresh;
          there = made.there;
          made = made.made;
          counted = (
            may.stands.0,
            may.stands.1,
            made.counted.is ∙ ap (λ (n : ℕ). Some (record { last = Some path; number = n + 1 })) number,
          );
          others = made.counted.others;
          moved = refl;
        }
