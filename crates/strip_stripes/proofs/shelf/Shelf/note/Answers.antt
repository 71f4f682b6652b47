use Rattle.std.proofs.Common.{ℕ, length, sym, subst}
use Rattle.strip_table.specs.Home.{bucket_of}
use Rattle.strip_table.specs.Stripe.{home}
use Rattle.strip_table.proofs.Homes.{bucket_below}
use Rattle.strip_book.specs.Pass.{IsCopyOf, TableData, known_lines}
use Rattle.strip_stripes.specs.Shelf.{AreKnown}
use Rattle.strip_hand.proofs.Grown.{knows_grow}
use Rattle.strip_stripes.proofs.Entries.{known_put}
use Rattle.strip_stripes.proofs.shelf.Shelf.note.Goals as goal

pub invariant_of-self : goal.invariant_of-self
invariant_of-self g c =
    let buckets = c.self.inside.stripe in
    let set : ℕ = c.args.line.now.set in
    let more = known_lines c.hear.new.self in
    record {
      copy_of = subst (λ (table : TableData). IsCopyOf table c.hear.new.self) c.requires.named c.hear.ensures.copy;
      entries = subst (AreKnown more) (sym c.put.ensures.others)
          (known_put (known_lines c.self.inside.copy) more buckets (bucket_of set (length buckets)) c.args.line.now (home c.put.new.self set) c.put.result
          (bucket_below (length buckets) set c.keeps_limits.ensures.some) c.hear.ensures.grow c.self.invariant.entries
          (knows_grow (known_lines c.copy.result) more c.args.line.now c.hear.ensures.heard (rw c.copy.ensures.knows c.requires.knows)) c.put.ensures.puts);
    }
