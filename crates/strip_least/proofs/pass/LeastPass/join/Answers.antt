use Rattle.std.proofs.Common.{◌≡◌, ◌∙◌, ap, arith, subst, sym}
use Rattle.std.specs.Prelude.{⊤}
use Rattle.atomic_table.specs.Table.{Me}
use Rattle.strip_model.specs.Film.{FilmData}
use Rattle.strip_film.specs.Path.{IsComplete, PathData}
use Rattle.strip_film.specs.Shown.{path_data}
use Rattle.strip_least.specs.declared.view.View.{View}
use Rattle.strip_least.specs.Steps.{AreOnce}
use Rattle.strip_least.proofs.Cheaper.{cheaper_is}
use Rattle.strip_least.proofs.Joined.{joins}
use Rattle.strip_least.proofs.Settled.{counts_at}
use Rattle.strip_least.proofs.pass.LeastPass.join.Goals as goal

pub join_seat-requires : goal.join_seat-requires
join_seat-requires c = (
  c.requires.pass.table,
  c.requires.other.table,
  c.requires.other.no_slots,
  omega (arith, c.args.least.now.two_words),
  joins c.args.least.now.table.shared.key c.args.self.now.seat.id c.args.self.now.seat.me.0 c.args.other.seat.id c.args.other.seat.me.0
      c.requires.pass.some_weight c.requires.other.some_weight,
)

pub load-requires : goal.load-requires
load-requires c =
    let me = c.join_seat.ensures.2 in (
      c.join_seat.ensures.0 ∙ c.requires.pass.table,
      omega (arith, c.args.least.now.two_words),
      counts_at c.args.least.now.table.shared.key c.args.least.now.table.shared.table_id.slots c.join_seat.new.seat.id c.join_seat.new.seat.me
          (omega (arith, ap (λ (m : Me ⊤ View). m.0.weight) me, c.requires.pass.some_weight)) (ap (λ (m : Me ⊤ View). m.1) me ∙ c.requires.pass.no_slots),
    )

pub returns-clause-pass : goal.returns-clause-pass
returns-clause-pass c =
    let me = c.join_seat.ensures.2 in
    let view = c.load.ensures.2.0.only ∙ ap (λ (m : Me ⊤ View). m.0) me in
    let film : c.load.new.seat.me.0.film ≡ c.args.self.now.seat.me.0.film = ap (λ (v : View). v.film) view in
    let others : c.args.other.seat.me.0.film ≡ c.load.new.seat.me.0.film = c.requires.other.film ∙ sym c.requires.pass.film ∙ sym film in
    let complete : (path : PathData) → IsComplete c.args.self.now.seat.me.0.film path → IsComplete c.load.new.seat.me.0.film path
    = λ path. subst (λ (f : FilmData). IsComplete f path) (sym film) in
    record {
      table = c.load.ensures.0 ∙ (c.join_seat.ensures.0 ∙ c.requires.pass.table);
      film = film ∙ c.requires.pass.film;
      parts = ap (λ (v : View). v.parts) view ∙ c.requires.pass.parts;
      no_slots = c.load.ensures.2.1 ∙ (ap (λ (m : Me ⊤ View). m.1) me ∙ c.requires.pass.no_slots);
      some_weight = omega (arith, ap (λ (v : View). v.weight) view, c.requires.pass.some_weight);
      complete = subst (IsComplete c.load.new.seat.me.0.film) (sym c.cheaper-self.ensures)
          (cheaper_is (IsComplete c.load.new.seat.me.0.film) (path_data c.args.self.now.best) (path_data c.args.other.best)
          (complete (path_data c.args.self.now.best) c.requires.pass.complete)
          (subst (λ (f : FilmData). IsComplete f (path_data c.args.other.best)) others c.requires.other.complete));
    }

pub returns-clause-once : goal.returns-clause-once
returns-clause-once c = subst (λ (v : View). AreOnce v.claims) (sym c.load.ensures.2.0.only) c.load.ensures.2.0.once
