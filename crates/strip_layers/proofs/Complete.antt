-- Complete paths, of which the cheapest is kept.
use Rattle.std.proofs.Common.{◌≡◌, ℕ, ◌<◌, ◌≤◌, Bool, MatchBool, nat_lt, List, [], length, get_or, inl, inr, refl, sym, ap, subst, arith}
use Rattle.std.proofs.lemmas.Bool.{cases_lt, lt-ltb, le-ltb}
use Rattle.strip_film.specs.Path.{IsComplete, PathData}
use Rattle.strip_film.specs.Rules.{Rules}
use Rattle.strip_lines.proofs.Grown.{grow_self}
use Rattle.strip_layers.specs.declared.layer.Standing.{Standing}
use Rattle.strip_layers.specs.Layer.{value_in}
use Rattle.strip_layers.specs.Search.{IsSearch, Rises, SearchData}
use Rattle.strip_layers.specs.Walked.{IsLayer}
use Rattle.strip_layers.proofs.Grown.{rises_self}

-- the best path then pays no more than it did and than this one, and all else stays
pub record HasMet (before : SearchData) (path : PathData) (after : SearchData) : Type 0 where
  pub search : (rules : Rules) → IsSearch rules before → IsComplete rules.film path → IsSearch rules after
  pub rises : Rises before after
  pub cheaper : after.best.paid ≤ path.paid

pub met : (before after : SearchData) (path : PathData)
    → MatchBool (nat_lt path.paid before.best.paid) (after ≡ record before { best = path }) (after ≡ before) → HasMet before path after
met before after path kept = elim (cases_lt path.paid before.best.paid) [
  | inl less ↦ (let best : after ≡ record before { best = path }
      = subst (λ (b : Bool). MatchBool b (after ≡ record before { best = path }) (after ≡ before)) (lt-ltb path.paid before.best.paid less) kept in
      subst (HasMet before path) (sym best) (record {
        search = λ rules is complete. record {
          justified = is.justified;
          apart = is.apart;
          left = is.left;
          few = is.few;
          spent = λ spent. record { full = (is.spent spent).full; fewer = (is.spent spent).fewer };
          whole = record { some = is.whole.some; set = is.whole.set; ahead = is.whole.ahead };
          best = complete;
          no_dearer = omega (arith, less, is.no_dearer);
        };
        rises = record { goal = refl; nodes = refl; grow = grow_self before.lines; cheaper = omega (arith, less); spent = λ spent. spent };
        cheaper = omega arith;
      }))
  | inr more ↦ (let same : after ≡ before
      = subst (λ (b : Bool). MatchBool b (after ≡ record before { best = path }) (after ≡ before)) (le-ltb path.paid before.best.paid more) kept in
      subst (HasMet before path) (sym same) (record {
        search = λ rules is complete. is;
        rises = rises_self before;
        cheaper = omega (arith, more);
      }))
]

-- a layer of no sets, where each path is complete and no cheaper than the best
pub none_layer : (rules : Rules) (search : SearchData) (limit : ℕ) (paths : List PathData) (sets : List ℕ) (standings : List Standing) → sets ≡ []
    → ((place : ℕ) (p : PathData) → place < length paths → search.best.paid ≤ (get_or paths place p).paid) → IsLayer rules search limit paths sets standings
none_layer rules search limit paths sets standings none cheaper = record {
  most = λ set. omega (arith, ap (λ (xs : List ℕ). value_in xs standings set) none);
  reaches = λ _ place d within cost inside below. omega (arith, below, cheaper place d within);
}
