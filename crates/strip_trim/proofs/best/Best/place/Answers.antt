use Rattle.std.proofs.Common.{◌≡◌, ◌∙◌, ℕ, List, sym, subst}
use Rattle.std.specs.List.Sorted.{IsBinarySearchResult}
use Rattle.std.specs.Ordering.{nat_cmp}
use Rattle.strip_trim.specs.Best.{BestData, IsPlaceOf, sets_of}
use Rattle.strip_trim.proofs.BestFound.{place_found}
use Rattle.strip_trim.proofs.best.Best.place.Goals as goal

pub returns-clause-place : goal.returns-clause-place
returns-clause-place c =
    let sets : c.deref.result.now ≡ sets_of c.self.inside.entries.items = c.deref.ensures.value ∙ c.self.invariant.1 in
    let is = subst (λ (xs : List ℕ). IsBinarySearchResult (λ y. nat_cmp y c.args.set) xs c.binary_search.result) sets c.binary_search.ensures.position in
    let found = place_found c.self.inside.entries.items c.args.set c.binary_search.result c.self.invariant.0.rising is in
    let there = subst (IsPlaceOf c.self.inside.entries.items c.args.set) (sym c.ok.ensures.value) found in
    subst (λ (view : BestData). IsPlaceOf view.entries c.args.set c.ok.result) c.self.view_is there
