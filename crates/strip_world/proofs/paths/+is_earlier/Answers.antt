use Rattle.std.proofs.Common.{ℕ, length, sym, ap, ◌∙◌, subst, arith}
use Rattle.strip_mask.specs.Set.{without}
use Rattle.strip_mask.proofs.Below.{LiesBelow-without}
use Rattle.strip_film.specs.Film.{LiesIn}
use Rattle.strip_film.specs.Finish.{Remained}
use Rattle.strip_world.proofs.Walked.{remained_first}
use Rattle.strip_world.proofs.paths.+is_earlier.Goals as goal

pub without-requires : goal.without-requires
without-requires g t c =
    let one = remained_first g.B.Bounds.film c.args.set.0 c.args.first.now c.in-Some-split_first.one.now c.in-Some-split_first.after_one.now
    c.in-Some-split_first.ensures.cases.0 c.requires.first in
    omega (arith, c.requires.lies c.in-Some-split_first.one.now one.0, c.keeps_limits.ensures.scene_count.1, ap length (ap (λ f. f.casts) c.film.ensures))

pub is_earlier-requires : goal.is_earlier-requires
is_earlier-requires g t c κs within =
    let film = g.B.Bounds.film in
    let set : ℕ = c.args.set.0 in
    let s : ℕ = c.in-Some-split_first.one.now in
    let one = remained_first film set c.args.first.now s c.in-Some-split_first.after_one.now c.in-Some-split_first.ensures.cases.0 c.requires.first in
    let other = remained_first film set c.args.second.now c.in-Some.other.now c.in-Some.after_other.now c.in-Some.ensures.cases.0 c.requires.second in (
      omega (arith, c.decreases, ap length c.in-Some-split_first.ensures.cases.0),
      (
        within,
        (
          subst (LiesIn film) (sym c.without.ensures) (LiesBelow-without (length film.casts) set s c.requires.lies),
          (
            subst (λ (q : ℕ). Remained film q c.in-Some-split_first.after_one.now) (sym c.without.ensures) one.1,
            subst (λ (q : ℕ). Remained film q c.in-Some.after_other.now) (ap (without set) (sym c.if-one-other.true) ∙ sym c.without.ensures) other.1,
          ),
        ),
      ),
    )

pub is_sooner-requires-clause-one : goal.is_sooner-requires-clause-one
is_sooner-requires-clause-one g t c =
    (remained_first g.B.Bounds.film c.args.set.0 c.args.first.now c.in-Some-split_first.one.now c.in-Some-split_first.after_one.now
    c.in-Some-split_first.ensures.cases.0 c.requires.first).0

pub is_sooner-requires-clause-other : goal.is_sooner-requires-clause-other
is_sooner-requires-clause-other g t c =
    (remained_first g.B.Bounds.film c.args.set.0 c.args.second.now c.in-Some.other.now c.in-Some.after_other.now
    c.in-Some.ensures.cases.0 c.requires.second).0
