use Rattle.std.proofs.Common.{◌∙◌, true≢false, length, ap, sym, subst}
use Rattle.strip_model.specs.Order.{Keeps}
use Rattle.strip_model.specs.Pay.{pay_of}
use Rattle.strip_model.specs.FilmOf.{film_of}
use Rattle.strip_solve.proofs.Rows.{numbers_order, rows_of, rows_order}
use Rattle.strip_solve.proofs.own.own_order.Goals as goal

pub returns-then-not-keeps_pairs : goal.returns-then-not-keeps_pairs
returns-then-not-keeps_pairs c = λ kept.
    let rows = rows_of c.args.inst.now (length c.scenes.result.now) c.in_ok-order.order.items c.scenes.ensures.count c.in_ok-order.ensures in
    let keeps = c.keeps_pairs.ensures.1 (subst (Keeps c.args.inst.now.pairs) (sym (c.deref.ensures.value ∙ rows)) kept.keeps) in
    true≢false (sym keeps ∙ c.if-not-keeps_pairs.true)

pub pay-cost-requires : goal.pay-cost-requires
pay-cost-requires c =
    let rows = rows_of c.args.inst.now (length c.scenes.result.now) c.in_ok-order.order.items c.scenes.ensures.count c.in_ok-order.ensures in
    rows_order c.args.inst.now c.deref-2.result.now (c.deref-2.ensures.value ∙ rows)

pub returns : goal.returns
returns c =
    let film = film_of c.args.inst.now in
    let rows = rows_of c.args.inst.now (length c.scenes.result.now) c.in_ok-order.order.items c.scenes.ensures.count c.in_ok-order.ensures in
    let keeps : Keeps c.args.inst.now.pairs c.deref.result.now = c.keeps_pairs.ensures.0 c.if-not-keeps_pairs.false in (
      rows,
      record {
        is_order = numbers_order (length film.casts);
        keeps = subst (Keeps c.args.inst.now.pairs) (c.deref.ensures.value ∙ rows) keeps;
      },
      c.pay-cost.ensures ∙ ap (pay_of film) (c.deref-2.ensures.value ∙ rows),
    )
