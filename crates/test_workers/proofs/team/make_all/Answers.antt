use Rattle.std.proofs.Common.{◌∙◌, ap, arith, subst, sym}
use Rattle.std.proofs.lemmas.List.Elements.{All-push}
use Rattle.strip_book.specs.View.{ViewData}
use Rattle.test_workers.specs.Team.{IsOfWholes, IsWorker}
use Rattle.test_workers.proofs.team.make_all.Goals as goal

pub loop-desk-preserved : goal.loop-desk-preserved
loop-desk-preserved g c =
    let was = c.loop-desk.invariant in
    let kind = g.B.Bounds.kind in
    let film = g.B.Bounds.film in
    record {
      pass = record {
        pass_of = c.split.ensures.pass;
        search = subst (λ (v : ViewData). IsOfWholes kind film 2500 v.search) (sym c.split.ensures.lighter) was.pass.search;
        none = ap (λ (v : ViewData). v.entries) c.split.ensures.lighter ∙ was.pass.none;
      };
      weight = omega (arith, ap (λ (v : ViewData). v.weight) c.split.ensures.lighter, was.weight, c.loop-desk-test.true);
      count = omega (arith, was.count, c.in_ok-push.ensures.len);
      workers = rw c.in_ok-push.ensures.items (All-push (IsWorker kind film 2500 c.args.book.now) c.loop-desk.passes.items c.split.result was.workers (record {
        new = record {
          pass_of = c.split.ensures.new_pass;
          search = subst (λ (v : ViewData). IsOfWholes kind film 2500 v.search) (sym c.split.ensures.knows) was.pass.search;
          none = ap (λ (v : ViewData). v.entries) c.split.ensures.knows;
        };
        one = ap (λ (v : ViewData). v.weight) c.split.ensures.knows;
      }));
    }
