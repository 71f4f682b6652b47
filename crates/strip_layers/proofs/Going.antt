-- The paths of a layer, looked at one after the other.
use Rattle.std.proofs.Common.{◌≡◌, ◌≢◌, ℕ, suc, ◌+◌, ◌<◌, ◌≤◌, fold, Option, Some, None, List, [], ◌∷◌, ◌++◌, length, All, get_or, inl, inr, refl, sym, ap, ◌∙◌, subst, arith}
use Rattle.std.proofs.lemmas.Bool.{cases_eq}
use Rattle.std.proofs.lemmas.List.{get_or_append_left, get_or_default, length-append}
use Rattle.std.proofs.lemmas.List.Elements.{All-nil}
use Rattle.std.proofs.Math.Seq.{get_or-append_seam}
use Rattle.strip_mask.specs.Set.{size, without}
use Rattle.strip_mask.proofs.Sizes.{size-empty}
use Rattle.strip_model.specs.declared.kind.Kind.{Kind}
use Rattle.strip_model.specs.Film.{FilmData}
use Rattle.strip_film.specs.Film.{IsFilm}
use Rattle.strip_film.specs.Path.{PathData}
use Rattle.strip_film.specs.Rules.{IsOpen, Rules}
use Rattle.strip_film.specs.Shoot.{step_cost}
use Rattle.strip_lines.specs.Lines.{rules_of}
use Rattle.strip_lines.specs.Parts.{no_task}
use Rattle.strip_paths.specs.Paths.{paths_after, with_path}
use Rattle.strip_paths.proofs.Added.{AreApart, Differs, pairs_of}
use Rattle.strip_paths.proofs.After.{apart_put, open_put, pays_on, pays_put, sizes_put}
use Rattle.strip_layers.specs.declared.ask.Ask.{Ask}
use Rattle.strip_layers.specs.declared.layer.Standing.{Standing}
use Rattle.strip_layers.specs.Layer.{no_standing, standing_at}
use Rattle.strip_layers.specs.Search.{Extends, IsSearch, SearchData}
use Rattle.strip_layers.specs.Walked.{AreLooked, GoesOn, IsLevel, IsLooked, IsStanding, LeadsOn, Stands}
use Rattle.strip_layers.proofs.Grown.{extends_grow, extends_self, extends_trans}
use Rattle.strip_layers.proofs.Looked.{HasStood, looked_stays, standing_stays, stood}
use Rattle.strip_layers.proofs.Places.{path_at, rests}

-- those before a place stand, and lead on to the next layer
pub record AreGone (rules : Rules) (before now : SearchData) (left limit number : ℕ) (paths : List PathData) (standings : List Standing) (next : List PathData)
    : Type 0 where
  pub search : IsSearch rules now
  pub extends : Extends before now
  pub count : length standings ≡ number
  pub stand : (place : ℕ) → place < number → place < length paths → IsStanding rules now limit (path_at paths place) (standing_at standings place)
  pub is_open : All (IsOpen rules) next
  pub sizes : All (λ path. size path.rest ≡ left) next
  pub apart : AreApart next
  pub lead : (place : ℕ) → place < number → place < length paths → LeadsOn rules (path_at paths place) (standing_at standings place) next

pub gone_none : (rules : Rules) (search : SearchData) (left limit : ℕ) (paths : List PathData) (standings : List Standing) (next : List PathData)
    → IsSearch rules search → standings ≡ [] → next ≡ [] → AreGone rules search search left limit 0 paths standings next
gone_none rules search left limit paths standings next is none no_next = subst (AreGone rules search search left limit 0 paths standings) (sym no_next) (record {
  search = is;
  extends = extends_self search;
  count = ap length none;
  stand = λ place less. absurd (omega (arith, less));
  is_open = All-nil (IsOpen rules);
  sizes = All-nil (λ path. size path.rest ≡ left);
  apart = tt;
  lead = λ place less. absurd (omega (arith, less));
})

module _ (kind : Kind) (film : FilmData) (before now after : SearchData) (left limit number : ℕ) (paths : List PathData) (asks : List Ask)
    (standings : List Standing) (next : List PathData) (is_film : IsFilm film) (goal : limit ≤ before.goal) (level : IsLevel (rules_of kind film) (suc left) paths)
    (looked : AreLooked kind film before.lines limit paths asks)
    (so : AreGone (rules_of kind film) before now left limit number paths standings next) (within : number < length paths) where
  abbrev rules : Rules
  rules = rules_of kind film

  abbrev path : PathData
  path = path_at paths number

  pub open_here : IsOpen rules path
  open_here = level.is_open number no_task within

  size_here : size path.rest ≡ suc left
  size_here = level.sizes number no_task within

  some_here : path.rest ≢ 0
  some_here none = omega (arith, size_here, ap size none, size-empty)

  module _ (ask : Ask) (unset : Ask) (ask_is : ask ≡ get_or asks number unset) (rest : ℕ) (rest_is : rest ≡ path.rest) (standing : Standing)
      (stands : Stands now rest ask standing after) where
    looked_here : IsLooked kind film now.lines limit path ask
    looked_here = looked_stays kind film before.lines now.lines limit path ask (extends_grow before now so.extends)
        (subst (IsLooked kind film before.lines limit path) (sym ask_is) (looked.1 number no_task unset within))

    pub done : HasStood rules now limit path standing after
    done = stood kind film now after limit path ask standing is_film so.search (omega (arith, goal, so.extends.goal)) open_here some_here looked_here rest rest_is stands

    abbrev standings_then : List Standing
    standings_then = standings ++ standing ∷ []

    at_before : (place : ℕ) → place < number → standing_at standings_then place ≡ standing_at standings place
    at_before place less = get_or_append_left standings (standing ∷ []) no_standing place (omega (arith, less, so.count))

    at_here : standing_at standings_then number ≡ standing
    at_here = ap (standing_at standings_then) (sym so.count) ∙ get_or-append_seam standings standing [] no_standing

    stand_then : (place : ℕ) → place < number + 1 → place < length paths → IsStanding rules after limit (path_at paths place) (standing_at standings_then place)
    stand_then place less there = elim (cases_eq place number) [
      | inl same ↦ subst (λ (k : ℕ). IsStanding rules after limit (path_at paths k) (standing_at standings_then k)) (sym same)
          (subst (IsStanding rules after limit path) (sym at_here) done.stands)
      | inr other ↦ subst (IsStanding rules after limit (path_at paths place)) (sym (at_before place (omega (arith, less, other))))
          (standing_stays rules now after limit (path_at paths place) (standing_at standings place) (extends_grow now after done.extends) done.extends.spent
          (so.stand place (omega (arith, less, other)) there))
    ]

    -- those before go on to lead on where paths are put to the next layer
    lead_before : (next_then : List PathData) → ((place : ℕ) → place < number → place < length paths
        → LeadsOn rules (path_at paths place) (standing_at standings place) next_then)
        → LeadsOn rules path standing next_then
        → (place : ℕ) → place < number + 1 → place < length paths → LeadsOn rules (path_at paths place) (standing_at standings_then place) next_then
    lead_before next_then old here place less there = elim (cases_eq place number) [
      | inl same ↦ subst (λ (k : ℕ). LeadsOn rules (path_at paths k) (standing_at standings_then k) next_then) (sym same)
          (subst (λ (s : Standing). LeadsOn rules path s next_then) (sym at_here) here)
      | inr other ↦ subst (λ (s : Standing). LeadsOn rules (path_at paths place) s next_then) (sym (at_before place (omega (arith, less, other))))
          (old place (omega (arith, less, other)) there)
    ]

    -- the set is closed
    pub gone_closed : standing.place ≡ None → AreGone rules before after left limit (number + 1) paths standings_then next
    gone_closed none = record {
      search = done.search;
      extends = extends_trans before now after so.extends done.extends;
      count = length-append standings (standing ∷ []) ∙ ap (λ (n : ℕ). n + 1) so.count;
      stand = stand_then;
      is_open = so.is_open;
      sizes = so.sizes;
      apart = so.apart;
      lead = lead_before next so.lead (λ place scene at. absurd (let e : None ≡ Some place = sym none ∙ at in cc));
    }

    abbrev more : List PathData
    more = fold with_path next (paths_after film path)

    -- it is open
    pub gone_open : AreGone rules before after left limit (number + 1) paths standings_then more
    gone_open = record {
      search = done.search;
      extends = extends_trans before now after so.extends done.extends;
      count = length-append standings (standing ∷ []) ∙ ap (λ (n : ℕ). n + 1) so.count;
      stand = stand_then;
      is_open = open_put kind film next path so.is_open open_here;
      sizes = sizes_put kind film is_film left next path so.sizes open_here size_here;
      apart = apart_put film next path so.apart;
      lead = lead_before more
          (λ place less there line scene at first. pays_on film next path (without (path_at paths place).rest scene)
          ((path_at paths place).paid + step_cost film (path_at paths place).rest scene) (so.lead place less there line scene at first))
          (λ line scene at first. pays_put kind film is_film next path scene open_here first);
    }

    pub gone_more : (next_then : List PathData) → (standing.place ≡ None → next_then ≡ next)
        → (standing.place ≢ None → next_then ≡ more) → AreGone rules before after left limit (number + 1) paths standings_then next_then
    gone_more next_then closed leads = by_place standing.place refl
      where
        by_place : (place : Option ℕ) → standing.place ≡ place → AreGone rules before after left limit (number + 1) paths standings_then next_then
        by_place None is = subst (AreGone rules before after left limit (number + 1) paths standings_then) (sym (closed is)) (gone_closed is)
        by_place (Some place) is = subst (AreGone rules before after left limit (number + 1) paths standings_then)
            (sym (leads (λ none. absurd (let e : None ≡ Some place = sym none ∙ is in cc)))) gone_open

-- at the end the layer goes on
pub gone_all : (rules : Rules) (before now : SearchData) (left limit number : ℕ) (paths : List PathData) (sets : List ℕ) (standings : List Standing)
    (next : List PathData) → AreGone rules before now left limit number paths standings next → number ≡ length paths → sets ≡ rests paths
    → GoesOn rules before left limit paths sets standings next now
gone_all rules before now left limit number paths sets standings next so all sets_are = record {
  search = so.search;
  extends = so.extends;
  sets_are = sets_are;
  count = so.count ∙ all;
  stand = λ place p within. subst (λ (path : PathData). IsStanding rules now limit path (standing_at standings place)) (get_or_default paths place no_task p within)
      (so.stand place (omega (arith, within, all)) within);
  level = record { is_open = so.is_open; sizes = so.sizes; apart = pairs_of Differs next so.apart };
  lead = λ place p within. subst (λ (path : PathData). LeadsOn rules path (standing_at standings place) next) (get_or_default paths place no_task p within)
      (so.lead place (omega (arith, within, all)) within);
}
