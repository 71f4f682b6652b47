use Rattle.std.proofs.Common.{subst}
use Rattle.strip_film.specs.Film.{IsFilm}
use Rattle.strip_model.specs.FilmOf.{film_of}
use Rattle.strip_proof.specs.Plan.{plan_data}
use Rattle.strip_reduce.specs.Reduction.{reduced}
use Rattle.strip_reduce.specs.State.{State}
use Rattle.strip_solve.proofs.Readable.{chosen_readable}
use Rattle.strip_top.proofs.solve.solve_beside.Goals as goal

pub returns-in-Ok : goal.returns-in-Ok
returns-in-Ok g c =
    let classes = c.in_ok-reduced.ensures.classes in
    let film : IsFilm (reduced (film_of c.args.inst.now)).film = subst (λ (s : State). IsFilm s.film) classes c.keeps_limits-2.ensures in
    let solved = c.in-Ok.ensures classes c.in_ok-reduced.ensures.stands in
    record {
      solved = solved;
      readable = chosen_readable c.args.inst.now c.args.options.auto c.args.options.kind c.args.options.nodes (plan_data c.in-Ok.plan) c.keeps_limits.ensures film
          (λ kind. c.the_rules_are_true.ensures.bounds kind _ film) (λ kind. c.the_rules_are_true.ensures.begin kind _ film)
          c.requires.options.few_lines solved;
      few = c.in_ok-reduced.ensures.few;
      too_many = λ count same. cc;
    }
