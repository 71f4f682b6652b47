use Rattle.std.proofs.Common.{ℕ, sym, ◌∙◌, length, subst}
use Rattle.std.proofs.lemmas.List.Elements.{All-contains}
use Rattle.strip_film.specs.declared.shared.Known.{Known}
use Rattle.strip_film.specs.Finish.{IsAtMostFinish}
use Rattle.strip_table.specs.Home.{bucket_of}
use Rattle.strip_table.specs.Stripe.{home}
use Rattle.strip_table.proofs.Homes.{bucket_below}
use Rattle.strip_hand.specs.Hand.{Knows}
use Rattle.strip_book.specs.Pass.{known, known_lines}
use Rattle.strip_hand.proofs.Grown.{knows_grow}
use Rattle.strip_stripes.proofs.shelf.Shelf.probe.Goals as goal

pub returns-in-Some-clause-probed : goal.returns-in-Some-clause-probed
returns-in-Some-clause-probed g c =
    let buckets = c.self.inside.stripe in
    let place : ℕ = bucket_of c.args.set (length buckets) in
    let within = bucket_below (length buckets) c.args.set c.keeps_limits.ensures.some in
    let found = (c.the_entry_of_a_set_is_found.ensures (length buckets) place (home buckets c.args.set) c.args.set c.in-Some.entry
    (c.keeps_limits.ensures.buckets place within)).0
    (sym c.find.ensures ∙ c.in-Some.is) in
    let knows : Knows (known_lines c.self.inside.copy) c.in-Some.entry
    = All-contains (Knows (known_lines c.self.inside.copy)) (home buckets c.args.set) c.in-Some.entry (c.self.invariant.entries place within) found.0 in
    record {
      stays = c.hear.ensures.heard.stays;
      entries = c.hear.ensures.heard.entries;
      told = (
        found.1,
        knows_grow (known_lines c.self.inside.copy) (known c.hear.new.self).lines c.in-Some.entry (rw c.copy.ensures.knows at c.hear.ensures.heard.heard) knows,
      );
    }

pub returns-in-Some-clause-true_bound : goal.returns-in-Some-clause-true_bound
returns-in-Some-clause-true_bound g c =
    let buckets = c.self.inside.stripe in
    let place : ℕ = bucket_of c.args.set (length buckets) in
    let within = bucket_below (length buckets) c.args.set c.keeps_limits.ensures.some in
    let found = (c.the_entry_of_a_set_is_found.ensures (length buckets) place (home buckets c.args.set) c.args.set c.in-Some.entry
    (c.keeps_limits.ensures.buckets place within)).0
    (sym c.find.ensures ∙ c.in-Some.is) in
    let are = c.the_entries_of_a_shelf_are_true.ensures g.N.Named.table c.self.inside.copy buckets c.self.invariant place within in
    subst (λ (set : ℕ). IsAtMostFinish g.N.Named.table.search.film set c.in-Some.entry.bound) found.1
    (All-contains (λ (entry : Known). IsAtMostFinish g.N.Named.table.search.film entry.set entry.bound) (home buckets c.args.set) c.in-Some.entry are found.0)
