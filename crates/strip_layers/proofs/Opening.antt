-- A search with the line of all scenes alone.
use Rattle.std.proofs.Common.{◌≡◌, ◌≢◌, ℕ, ◌<◌, ◌≤◌, false, Option, Some, None, [], ◌∷◌, length, get_or, inr, refl, sym, ap, ◌∙◌, subst, arith}
use Rattle.std.proofs.lemmas.Bool.{false≢true}
use Rattle.std.proofs.lemmas.List.{get_or-set_same, length-set}
use Rattle.std.proofs.lemmas.List.Elements.{All-nil}
use Rattle.strip_mask.specs.Set.{size, without}
use Rattle.strip_mask.proofs.Below.{LiesBelow-full, size-full}
use Rattle.strip_mask.proofs.Sizes.{size-empty}
use Rattle.strip_model.specs.declared.kind.Kind.{Kind}
use Rattle.strip_model.specs.Film.{FilmData}
use Rattle.strip_film.specs.declared.shared.Line.{Line}
use Rattle.strip_film.specs.Film.{IsFilm, LiesIn, all_scenes}
use Rattle.strip_film.specs.Path.{IsComplete, PathData}
use Rattle.strip_film.specs.Rules.{Rules}
use Rattle.strip_bound.specs.Bounds.{bound}
use Rattle.strip_lines.specs.Lines.{line_at, no_line, raised, rules_of, with_raised}
use Rattle.strip_lines.proofs.Grown.{justified-added, justified-raised, known-static}
use Rattle.strip_lines.specs.Apart.{IsLeft}
use Rattle.strip_lines.proofs.Shares.{is_candidate_from}
use Rattle.strip_layers.specs.Begun.{HasBegun, LooksAhead}
use Rattle.strip_layers.specs.Search.{Adds, SearchData}

module _ (kind : Kind) (film : FilmData) (start : PathData) (nodes static least : ℕ) (is_film : IsFilm film) (complete : IsComplete film start)
    (some_lines : 1 ≤ nodes) (static_is : static ≡ bound kind film (all_scenes film)) (below : static < start.paid) where
  abbrev rules : Rules
  rules = rules_of kind film

  abbrev all : ℕ
  all = all_scenes film

  abbrev line : Line
  line = record { set = all; bound = static }

  abbrev first : SearchData
  first = record { lines = []; best = start; goal = start.paid; nodes = nodes; spent = false }

  abbrev second : SearchData
  second = record first { lines = line ∷ [] }

  -- the line is made, since there may be one
  pub added : (place : Option ℕ) (after : SearchData) → Adds first line place after → after ≡ second
  added None after (full, _) = absurd (omega (arith, full, some_lines))
  added (Some place) after (_, _, is) = is

  abbrev begun : SearchData
  begun = record second { lines = with_raised (line ∷ []) 0 least }

  one : length (with_raised (line ∷ []) 0 least) ≡ 1
  one = length-set (line ∷ []) 0 (raised (line_at (line ∷ []) 0) least)

  here : line_at (with_raised (line ∷ []) 0 least) 0 ≡ raised line least
  here = get_or-set_same (line ∷ []) 0 (raised line least) no_line (omega arith)

  all_lie : LiesIn film all
  all_lie = LiesBelow-full (length film.casts)

  some : all ≢ 0
  some none = omega (arith, size-full (length film.casts) is_film.scene_count.1, ap size none, size-empty, is_film.scene_count.0)

  left : IsLeft rules start.paid all
  left = record {
    path = record { scenes = []; rest = all; paid = 0 };
    unfinished = (record { remained = tt; left = refl; steps = refl }, some);
    candidate = is_candidate_from rules start.paid (record { scenes = []; rest = all; paid = 0 })
        ((record { remained = tt; left = refl; steps = refl }, tt), omega (arith, static_is, below));
    leaves = refl;
  }

  pub has_begun : LooksAhead rules least → HasBegun rules start nodes begun
  has_begun looks = record {
    search = record {
      justified = justified-raised rules (line ∷ []) 0 least
          (justified-added rules [] line (All-nil _) all_lie (omega (arith, static_is))) (omega arith)
          (inr (some, λ scene member. omega (arith, looks.most scene member, known-static rules (line ∷ []) (without all scene))));
      apart = λ i j d before within. absurd (omega (arith, before, within, one));
      left = λ place d within. (let first_place : place ≡ 0 = omega (arith, within, one) in
          subst (λ (l : Line). IsLeft rules start.paid l.set) (sym (at_first place d first_place)) left);
      few = omega (arith, one, some_lines);
      spent = λ spent. absurd (false≢true spent);
      whole = record {
        some = omega (arith, one);
        set = ap (λ (l : Line). l.set) here;
        ahead = omega (arith, looks.ahead, static_is, ap (λ (l : Line). l.bound) here);
      };
      best = complete;
      no_dearer = omega arith;
    };
    best = refl;
    goal = refl;
    nodes = refl;
    spent = refl;
  }
    where
      at_first : (place : ℕ) (d : Line) → place ≡ 0 → get_or (with_raised (line ∷ []) 0 least) place d ≡ raised line least
      at_first place d is = ap (λ (k : ℕ). get_or (with_raised (line ∷ []) 0 least) k d) is ∙ get_or-set_same (line ∷ []) 0 (raised line least) d (omega arith)
