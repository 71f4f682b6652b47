use Rattle.std.proofs.Common.{ℕ, ◌<◌, ◌∙◌, arith, length, take, slice_index_or}
use Rattle.std.proofs.lemmas.List.{length-replicate, take_more}
use Rattle.std.proofs.Math.ListN.{length-set}
use Rattle.strip_model.specs.declared.pair.Pair.{Pair}
use Rattle.strip_film.proofs.Table.{TellsBefore-none, TellsBefore-more}
use Rattle.strip_film.proofs.film.directly_before.Goals as goal

pub loop-pair-init : goal.loop-pair-init
loop-pair-init c = record { long = length-replicate {A = ℕ} 64 0; tells = TellsBefore-none 64 }

pub loop-pair-preserved : goal.loop-pair-preserved
loop-pair-preserved c =
    let none : Pair = record { first = 0; then = 0 } in
    let pair : Pair = slice_index_or c.args.pairs.now c.loop-pair.pair-index none in
    let known = c.requires c.loop-pair.pair-index none c.loop-pair-test.true in
    let within : pair.then < length c.loop-pair.before = omega (arith, known.1) in
    record {
      long = length-set {A = ℕ} c.loop-pair.before pair.then c.with.result.0 ∙ c.loop-pair.invariant.long;
      tells = rw (take_more c.args.pairs.now c.loop-pair.pair-index none c.loop-pair-test.true, c.with.ensures)
          (TellsBefore-more (take c.loop-pair.pair-index c.args.pairs.now) c.loop-pair.before pair c.loop-pair.invariant.tells within);
    }
