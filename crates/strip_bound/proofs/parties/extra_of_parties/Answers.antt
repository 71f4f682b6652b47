use Rattle.std.proofs.Common.{ℕ, ◌-◌, ◌^◌, ◌≤◌, max, min, length, slice_index, inl, inr, ap, ◌∙◌, arith}
use Rattle.std.proofs.Math.Nat.{le-max_left, le-max_right}
use Rattle.std.proofs.Math.Pow.{pow_mono}
use Rattle.strip_mask.specs.Set.{members}
use Rattle.strip_film.proofs.Located.{location_lies}
use Rattle.strip_bound.specs.Bounds.{parties_extra}
use Rattle.strip_bound.specs.Falling.{by_falling}
use Rattle.strip_bound.proofs.Asked.{all_of_few, few_le, located_count, reached_or_all}
use Rattle.strip_bound.proofs.parties.extra_of_parties.Goals.{then-few-need-2-via-then-few-need-2, then-few-need-2-via-else-few-need-2+then-here-le-FEW}
use Rattle.strip_bound.proofs.parties.extra_of_parties.Goals as goal

pub located-located-requires-clause-lies : goal.located-located-requires-clause-lies
located-located-requires-clause-lies c = rw c.on-on.ensures (location_lies c.args.film.now c.args.q.0 c.keeps_limits.ensures)

pub returns-then-few-need-clause-most : goal.returns-then-few-need-clause-most
returns-then-few-need-clause-most c = few_le c.args.film.now c.args.q.0 c.ask.new.self c.ask.ensures.parties (c.ask.ensures.same.0 ∙ c.new-few.ensures.parties.many)

pub returns-then-few-need-2-clause-most : goal.returns-then-few-need-2-clause-most
returns-then-few-need-2-clause-most c = few_le c.args.film.now c.args.q.0 c.ask_all.new.self c.ask_all.ensures.parties (c.ask_all.ensures.same.0 ∙ c.ask.ensures.same.0 ∙ c.new-few.ensures.parties.many)

pub returns-then-few-need-2-clause-reaches : goal.returns-then-few-need-2-clause-reaches
returns-then-few-need-2-clause-reaches c = elim c.then-few-need-2.branch [
  | then-few-need-2-via-then-few-need-2 w ↦ inl w.if-few-need-2.true
  | then-few-need-2-via-else-few-need-2+then-here-le-FEW w ↦ elim (reached_or_all c.args.film.now c.args.q.0 c.ask_all.new.self 7 c.args.need c.ask_all.ensures.parties
      c.ask_all.ensures.asked c.ask_all.ensures.all (c.ask_all.ensures.same.0 ∙ c.ask.ensures.same.0 ∙ c.new-few.ensures.parties.many) (c.ask_all.ensures.same.1 ∙ c.ask.ensures.same.1 ∙ c.new-few.ensures.need)) [
        | inl reached ↦ inl reached
        | inr all ↦ inr (all_of_few c.args.film.now c.args.q.0 c.ask_all.new.self.extra
            (omega (arith, ap length c.deref.ensures.0, ap length c.located-located.ensures, ap (λ (on : ℕ). length (by_falling (slice_index c.args.film.now.holds) (members on))) c.on-on.ensures, located_count c.args.film.now c.args.q.0, w.if-here-le-FEW.true)) all)
      ]
]

pub returns-clause-most : goal.returns-clause-most
returns-clause-most c =
    let few : c.ask_all.new.self.extra ≤ max (parties_extra c.args.film.now c.args.q.0 7) (parties_extra c.args.film.now c.args.q.0 10)
    = few_le c.args.film.now c.args.q.0 c.ask_all.new.self c.ask_all.ensures.parties (c.ask_all.ensures.same.0 ∙ c.ask.ensures.same.0 ∙ c.new-few.ensures.parties.many) in
    omega (
      arith,
      c.max.ensures,
      few,
      c.extra_of_many.ensures.most,
      le-max_right (parties_extra c.args.film.now c.args.q.0 7) (parties_extra c.args.film.now c.args.q.0 10),
      le-max_left (parties_extra c.args.film.now c.args.q.0 7) (parties_extra c.args.film.now c.args.q.0 10),
    )

pub returns-clause-reaches : goal.returns-clause-reaches
returns-clause-reaches c = elim (reached_or_all c.args.film.now c.args.q.0 c.ask_all.new.self 7 c.args.need c.ask_all.ensures.parties c.ask_all.ensures.asked
    c.ask_all.ensures.all (c.ask_all.ensures.same.0 ∙ c.ask.ensures.same.0 ∙ c.new-few.ensures.parties.many) (c.ask_all.ensures.same.1 ∙ c.ask.ensures.same.1 ∙ c.new-few.ensures.need)) [
      | inl reached ↦ absurd (omega (arith, reached, c.if-few-need-2.false))
      | inr few ↦ elim c.extra_of_many.ensures.reaches [
        | inl reached ↦ inl (omega (arith, reached, c.max.ensures, le-max_right c.ask_all.new.self.extra c.extra_of_many.result))
        | inr many ↦ inr (c.max.ensures ∙ (λ i. max (few i) (many i)))
      ]
    ]
