-- Which children were ruled out so far.
use Rattle.std.proofs.Common.{Bool, ◌&&◌, not, ap, ap₂, refl, ◌≡◌, ℕ, ◌+◌, ◌^◌, ◌<◌, ◌≤◌, inl, inr, min, true, false, MatchBool, nat_lt, List, [], ◌∷◌, ◌++◌, length, slice_index, Contains, sym, ◌∙◌, subst, arith}
use Rattle.std.proofs.lemmas.Bool.{cases_eq, cases_lt, le-ltb, lt-ltb}
use Rattle.std.proofs.lemmas.Bool.Decides.{when_false, when_true}
use Rattle.std.proofs.lemmas.List.Elements.{Contains-append_cases, Contains-append_left, Contains-append_right, Contains-push, Contains-push_cases}
use Rattle.strip_mask.specs.Set.{has, members, with, without}
use Rattle.strip_mask.proofs.Below.{LiesBelow-without, is_set_below}
use Rattle.strip_mask.proofs.ByMembers.{has-empty, has-with_other, has-with_same}
use Rattle.strip_mask.proofs.Members.{Contains-members, has_from_members}
use Rattle.strip_model.specs.declared.kind.Kind.{Kind}
use Rattle.strip_model.specs.Film.{FilmData}
use Rattle.strip_model.proofs.Lists.{contains_none}
use Rattle.strip_film.specs.Film.{IsFilm, LiesIn}
use Rattle.strip_film.specs.Path.{IsPath, PathData}
use Rattle.strip_film.specs.Rules.{rank}
use Rattle.strip_film.specs.Shoot.{step_cost}
use Rattle.strip_film.specs.Turns.{GoBy, TurnsData}
use Rattle.strip_film.proofs.Costs.{step_limit}
use Rattle.strip_film.proofs.Paths.{rest_lies, rest_set}
use Rattle.strip_film.proofs.Ranks.{sooner_by}
use Rattle.strip_bound.specs.Bounds.{bound}
use Rattle.strip_bound.specs.Promise.{promised}
use Rattle.strip_bound.proofs.Small.{bound_small}
use Rattle.strip_lines.specs.Lines.{rules_of}
use Rattle.strip_rule.specs.Rule.{open_firsts}
use Rattle.strip_rule.proofs.Firsts.{first_there}
use Rattle.strip_walk.specs.declared.found.Sifted.{Sifted}
use Rattle.strip_walk.specs.declared.found.Weighed.{Weighed}
use Rattle.strip_walk.specs.Sifted.{AreRanked, AreSifted, AreWeighed, to_walk}

pub weighed_none : (kind : Kind) (film : FilmData) (set room least : ℕ) → room ≤ least
    → AreWeighed kind film set room [] (record { visit = record { 0 = 0 }; least = least })
weighed_none kind film set room least enough = record {
  within = λ scene visited. absurd (let e : has 0 scene ≡ false = has-empty scene in cc);
  passed = λ scene there. absurd (contains_none scene there);
  enough = enough;
}

module _ (kind : Kind) (film : FilmData) (set room : ℕ) (done : List ℕ) (s rest : ℕ) (weighed : Weighed) (so : AreWeighed kind film set room done weighed) where
  -- it has to be walked
  weighed_visit : AreWeighed kind film set room (done ++ s ∷ []) (record { visit = record { 0 = with weighed.visit.0 s }; least = weighed.least })
  weighed_visit = record {
    within = λ scene visited. elim (cases_eq s scene) [
      | inl same ↦ subst (Contains (done ++ s ∷ [])) same (Contains-push done s)
      | inr other ↦ Contains-append_left done (s ∷ []) scene (so.within scene (sym (has-with_other weighed.visit.0 s scene other) ∙ visited))
    ];
    passed = λ scene there out. elim (cases_eq s scene) [
      | inl same ↦ absurd (let e : has (with weighed.visit.0 s) scene ≡ true = subst (λ (x : ℕ). has (with weighed.visit.0 s) x ≡ true) same (has-with_same weighed.visit.0 s) in cc)
      | inr other ↦ elim (Contains-push_cases done s scene there) [
        | inl earlier ↦ so.passed scene earlier (sym (has-with_other weighed.visit.0 s scene other) ∙ out)
        | inr same ↦ absurd (other same)
      ]
    ];
    enough = so.enough;
  }

  -- it is ruled out
  weighed_out : rest ≤ bound kind film (without set s) → room ≤ step_cost film set s + rest
      → AreWeighed kind film set room (done ++ s ∷ []) (record { visit = weighed.visit; least = min weighed.least (step_cost film set s + rest) })
  weighed_out most full = record {
    within = λ scene visited. Contains-append_left done (s ∷ []) scene (so.within scene visited);
    passed = λ scene there out. elim (Contains-push_cases done s scene there) [
      | inl earlier ↦ omega (arith, so.passed scene earlier out)
      | inr same ↦ subst (λ (x : ℕ). min weighed.least (step_cost film set s + rest) ≤ step_cost film set x + bound kind film (without set x)) same (omega (arith, most))
    ];
    enough = omega (arith, so.enough, full);
  }

  pub weighed_more : (next : Weighed) → rest ≤ bound kind film (without set s)
      → MatchBool (nat_lt (step_cost film set s + rest) room)
      (next ≡ record { visit = record { 0 = with weighed.visit.0 s }; least = weighed.least })
      (next ≡ record weighed { least = min weighed.least (step_cost film set s + rest) })
      → AreWeighed kind film set room (done ++ s ∷ []) next
  weighed_more next most chosen = elim (cases_lt (step_cost film set s + rest) room) [
    | inl less ↦ subst (AreWeighed kind film set room (done ++ s ∷ []))
        (sym (when_true (next ≡ record { visit = record { 0 = with weighed.visit.0 s }; least = weighed.least })
        (next ≡ record weighed { least = min weighed.least (step_cost film set s + rest) }) (lt-ltb (step_cost film set s + rest) room less) chosen)) weighed_visit
    | inr full ↦ subst (AreWeighed kind film set room (done ++ s ∷ []))
        (sym (when_false (next ≡ record { visit = record { 0 = with weighed.visit.0 s }; least = weighed.least })
        (next ≡ record weighed { least = min weighed.least (step_cost film set s + rest) }) (le-ltb (step_cost film set s + rest) room full) chosen)) (weighed_out most full)
  ]

module _ (kind : Kind) (film : FilmData) (path : PathData) (is_film : IsFilm film) (within : IsPath film path) where
  lies : LiesIn film path.rest
  lies = rest_lies film path within

  pub child_lies : (s : ℕ) → LiesIn film (without path.rest s)
  child_lies s = LiesBelow-without (length film.casts) path.rest s lies

  pub child_fits : (s rest : ℕ) → has (open_firsts film path.rest) s ≡ true → rest ≤ bound kind film (without path.rest s)
      → step_cost film path.rest s + rest < 2 ^ 64
  child_fits s rest first most =
      omega (
        arith,
        step_limit film path.rest s is_film (rest_set film path within is_film) (first_there film path.rest s first),
        bound_small kind film (without path.rest s) is_film (child_lies s),
        most,
      )

  both : (a b : Bool) → (a && not b) ≡ true → a ≡ true
  both true b is = refl
  both false b is = absurd (let e : false ≡ true = is in cc)

  -- those of two sets that were weighed and have to be walked are open firsts
  pub weighed_firsts : (room part others : ℕ) (weighed : Weighed)
      → ((scene : ℕ) → has part scene ≡ true → has (open_firsts film path.rest) scene ≡ true)
      → ((scene : ℕ) → has others scene ≡ (has (open_firsts film path.rest) scene && not (has part scene)))
      → AreWeighed kind film path.rest room (members part ++ members others) weighed
      → (scene : ℕ) → has weighed.visit.0 scene ≡ true → has (open_firsts film path.rest) scene ≡ true
  weighed_firsts room part others weighed within rest so scene visited =
      elim (Contains-append_cases (members part) (members others) scene (so.within scene visited)) [
        | inl first ↦ within scene (has_from_members part scene first)
        | inr second ↦ both (has (open_firsts film path.rest) scene) (has part scene) (sym (rest scene) ∙ has_from_members others scene second)
      ]

  -- where some of the open firsts are weighed, and then the others
  pub sifted_all : (told room part others : ℕ) (weighed : Weighed) (sifted : Sifted) → told ≤ path.paid + room
      → ((scene : ℕ) → has part scene ≡ true → has (open_firsts film path.rest) scene ≡ true)
      → ((scene : ℕ) → has others scene ≡ (has (open_firsts film path.rest) scene && not (has part scene)))
      → AreWeighed kind film path.rest room (members part ++ members others) weighed
      → to_walk sifted ≡ weighed.visit.0 → AreRanked kind film path.rest sifted → sifted.least ≡ weighed.least
      → AreSifted kind film path told sifted
  sifted_all told room part others weighed sifted whole within rest so left goes least = record {
    ranks = goes;
    within = λ scene visited. weighed_firsts room part others weighed within rest so scene (was scene true visited);
    passed = λ scene first out. omega (arith, least, so.passed scene (there scene first (has part scene) refl) (was scene false out));
    enough = omega (arith, whole, so.enough, least);
  }
    where
      was : (scene : ℕ) (b : Bool) → has (to_walk sifted) scene ≡ b → has weighed.visit.0 scene ≡ b
      was scene b is = ap (λ (set : ℕ). has set scene) (sym left) ∙ is

      below : (set scene : ℕ) → ((x : ℕ) → has set x ≡ true → has (open_firsts film path.rest) x ≡ true) → has set scene ≡ true → Contains (members set) scene
      below set scene inside is =
          Contains-members set scene (is_set_below (length film.casts) set is_film.scene_count.1 (λ x has_x. lies x (first_there film path.rest x (inside x has_x)))) is

      there : (scene : ℕ) → has (open_firsts film path.rest) scene ≡ true → (b : Bool) → has part scene ≡ b → Contains (members part ++ members others) scene
      there scene first true is = Contains-append_left (members part) (members others) scene (below part scene within is)
      there scene first false is =
          let mine : has others scene ≡ true = rest scene ∙ ap₂ (λ a b. a && not b) first is in
          Contains-append_right (members part) (members others) scene
          (below others scene (λ x has_x. both (has (open_firsts film path.rest) x) (has part x) (sym (rest x) ∙ has_x)) mine)

  -- open firsts that go by numbers that are their ranks
  pub ranked_by : (scenes : ℕ) (ranks : List ℕ) (turns : TurnsData)
      → ((scene : ℕ) → has scenes scene ≡ true → has (open_firsts film path.rest) scene ≡ true)
      → ((scene : ℕ) → Contains (members scenes) scene → slice_index ranks scene ≡ rank (rules_of kind film) path.rest scene)
      → turns.left ≡ scenes → GoBy (slice_index ranks) turns → GoBy (rank (rules_of kind film) path.rest) turns
  ranked_by scenes ranks turns firsts known left goes s t here there sooner =
      sooner_by (slice_index ranks) (rank (rules_of kind film) path.rest) s t (known s (among s here)) (known t (among t there)) (goes s t here there sooner)
    where
      among : (scene : ℕ) → has turns.left scene ≡ true → Contains (members scenes) scene
      among scene is =
          Contains-members scenes scene (is_set_below (length film.casts) scenes is_film.scene_count.1 (λ x has_x. lies x (first_there film path.rest x (firsts x has_x))))
          (ap (λ (set : ℕ). has set scene) (sym left) ∙ is)

-- scenes that all have the same number go by ranks that are all the same
pub level_by : (film : FilmData) (set : ℕ) (kind : Kind) (turns : TurnsData) → ((reach : ℕ) → promised kind reach ≡ 0)
    → GoBy (λ scene. 0) turns → GoBy (rank (rules_of kind film) set) turns
level_by film set kind turns level goes s t here there sooner =
    sooner_by (λ scene. 0) (rank (rules_of kind film) set) s t (sym (level _)) (sym (level _)) (goes s t here there sooner)
