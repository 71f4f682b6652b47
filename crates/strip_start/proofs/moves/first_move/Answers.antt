use Rattle.std.proofs.Common.{ℕ, inl, inr, sym, subst, arith}
use Rattle.std.proofs.lemmas.Bool.Decides.{eqb_tells}
use Rattle.strip_film.specs.Shown.{path_data}
use Rattle.strip_film.proofs.Moves.{scenes_known}
use Rattle.strip_start.specs.Moves.{IsBetter}
use Rattle.strip_start.proofs.moves.first_move.Goals as goal

pub of-sides-requires-clause-known : goal.of-sides-requires-clause-known
of-sides-requires-clause-known c = rw c.scenes-scenes.ensures (scenes_known c.args.film.now (path_data c.args.path.now) c.requires.0)

pub loop-from-preserved : goal.loop-from-preserved
loop-from-preserved c = record {
  none = λ from to before better. elim (eqb_tells c.loop-from.from from) [
    | inl same ↦ c.first_place.ensures.none c.in_default.is to (omega arith) better.put
        (subst (λ (i : ℕ). IsBetter c.args.film.now (path_data c.args.path.now).scenes i to) (sym same.1) better)
    | inr other ↦ c.loop-from.invariant.none from to (omega (arith, before, other.1)) better
  ];
}
