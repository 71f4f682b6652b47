use Rattle.std.proofs.Common.{◌<◌, length, arith}
use Rattle.strip_reduce.proofs.Removed.{two_fit}
use Rattle.strip_reduce.proofs.edits.sum_up.Goals as goal

pub overflow_add-index_mut : goal.overflow_add-index_mut
overflow_add-index_mut c =
    let below : c.args.b < length c.args.values.now.items = omega arith in
    omega (
      arith,
      two_fit c.args.values.now.items c.remove-gone.new.self.items c.args.a c.args.b c.index_mut.result.now c.remove-gone.result
          c.requires.places below c.remove-gone.ensures.items c.index_mut.ensures.value c.remove-gone.ensures.value,
    )
