use Rattle.std.proofs.Common.{◌≡◌, ℕ, suc, ◌+◌, ◌-◌, ◌*◌, ◌^◌, ◌<◌, ◌≤◌, max, min, true, All, List, drop, length, take, slice_index, slice_set, inl, inr, refl, sym, ap, ◌∙◌, subst, arith}
use Rattle.std.proofs.lemmas.Bool.{cases_lt}
use Rattle.std.proofs.lemmas.List.{get_or-set_other}
use Rattle.std.proofs.Math.Nat.{mul-le-mul}
use Rattle.std.proofs.Math.Pow.{pow_mono}
use Rattle.strip_mask.specs.Set.{has, size}
use Rattle.strip_film.specs.Shoot.{on_location}
use Rattle.strip_group.specs.Group.{GroupData}
use Rattle.strip_arrivals.specs.Arrivals.{arrivals_value}
use Rattle.strip_bound.specs.declared.parties.Parties.{Parties}
use Rattle.strip_bound.specs.Bounds.{greatest_below, group_at, newcomers_at, number_of_parties, party_value, set_of}
use Rattle.strip_bound.specs.Parties.{AreParties}
use Rattle.strip_bound.proofs.Asked.{coming_is, located_count, no_more, raised_are, raised_fits, raised_here}
use Rattle.strip_bound.proofs.Party.{group_few, group_known, group_within, located_small, newcomer_apart, newcomers_few, newcomers_known, value_rises}
use Rattle.strip_bound.proofs.parties.Parties.ask.Goals as goal

pub loop-place-init : goal.loop-place-init
loop-place-init c = record {
  parties =
      let are = c.requires.parties in
      record { many = are.many; number = are.number; few = are.few; long = are.long; most = are.most; extra = are.extra };
  need = refl;
  more = refl;
  asked = elim c.requires.asked [
    | inl reached ↦ inl reached
    | inr known ↦ inr ((λ place none. absurd (omega (arith, none))), (λ place _ there. known place there))
  ];
}

pub set_from-group-requires-clause-listed : goal.set_from-group-requires-clause-listed
set_from-group-requires-clause-listed c =
    subst (All (λ actor. actor < 64)) (sym c.args.here.now.located) (located_small c.args.here.now.film.now c.args.here.now.q.0 c.keeps_limits.ensures c.args.here.now.lies)

pub value-value-requires-clause-few : goal.value-value-requires-clause-few
value-value-requires-clause-few c =
    let film = c.args.here.now.film.now in
    let q : ℕ = c.args.here.now.q.0 in
    let many : ℕ = c.args.self.now.many in
    let place : ℕ = c.loop-place.place in
    let group_is : c.set_from-group.result.0 ≡ group_at film q many place
    = c.set_from-group.ensures ∙ (λ i. set_of (take (c.loop-place.invariant.parties.many i) (drop (place * c.loop-place.invariant.parties.many i) (c.args.here.now.located i)))) in
    let few : size (group_at film q many place) ≤ many = group_few film q c.keeps_limits.ensures c.args.here.now.lies many place in
    let same : size c.set_from-group.result.0 ≡ size (group_at film q many place) = ap size group_is in
    elim c.requires.many [
      | inl seven ↦ omega (arith, few, same, seven)
      | inr ten ↦ omega (arith, few, same, ten)
    ]

pub value-value-requires-clause-few_newcomers : goal.value-value-requires-clause-few_newcomers
value-value-requires-clause-few_newcomers c =
    let film = c.args.here.now.film.now in
    let q : ℕ = c.args.here.now.q.0 in
    let many : ℕ = c.args.self.now.many in
    let place : ℕ = c.loop-place.place in
    let there : place < number_of_parties film q many
    = omega (arith, c.loop-place-test.true, c.requires.parties.number) in
    let coming : c.at-newcomers.result.0 ≡ newcomers_at film q many c.args.count place
    = coming_is film q many c.args.count place c.at-newcomers.result.0 c.args.choices.now c.requires.choices there
    c.at-newcomers.ensures.none c.at-newcomers.ensures.first c.at-newcomers.ensures.both c.requires.count in
    omega (arith, ap size coming, newcomers_few film q c.keeps_limits.ensures c.args.here.now.lies many c.args.count place, c.requires.count)

pub value-value-requires-clause-known : goal.value-value-requires-clause-known
value-value-requires-clause-known c i member =
    let film = c.args.here.now.film.now in
    let q : ℕ = c.args.here.now.q.0 in
    let many : ℕ = c.args.self.now.many in
    let place : ℕ = c.loop-place.place in
    let group_is : c.set_from-group.result.0 ≡ group_at film q many place
    = c.set_from-group.ensures ∙ (λ i. set_of (take (c.loop-place.invariant.parties.many i) (drop (place * c.loop-place.invariant.parties.many i) (c.args.here.now.located i)))) in
    let holds : length c.args.here.now.tables.now.arrivals.holds ≡ length film.rates
    = ap (λ (film : GroupData). length film.holds) c.args.here.now.are_tables.arrivals ∙ c.keeps_limits.ensures.hold_count in
    let known : i < length film.rates = group_known film q c.keeps_limits.ensures c.args.here.now.lies many place i (subst (λ (set : ℕ). has set i ≡ true) group_is member) in
    omega (arith, known, holds)

pub value-value-requires-clause-known_newcomers : goal.value-value-requires-clause-known_newcomers
value-value-requires-clause-known_newcomers c i member =
    let film = c.args.here.now.film.now in
    let q : ℕ = c.args.here.now.q.0 in
    let many : ℕ = c.args.self.now.many in
    let place : ℕ = c.loop-place.place in
    let there : place < number_of_parties film q many
    = omega (arith, c.loop-place-test.true, c.requires.parties.number) in
    let coming : c.at-newcomers.result.0 ≡ newcomers_at film q many c.args.count place
    = coming_is film q many c.args.count place c.at-newcomers.result.0 c.args.choices.now c.requires.choices there
    c.at-newcomers.ensures.none c.at-newcomers.ensures.first c.at-newcomers.ensures.both c.requires.count in
    let holds : length c.args.here.now.tables.now.arrivals.holds ≡ length film.rates
    = ap (λ (film : GroupData). length film.holds) c.args.here.now.are_tables.arrivals ∙ c.keeps_limits.ensures.hold_count in
    let known : i < length film.rates = newcomers_known film q c.keeps_limits.ensures c.args.here.now.lies many c.args.count place i (subst (λ (set : ℕ). has set i ≡ true) coming member) in
    omega (arith, known, holds)

pub value-value-requires-clause-apart : goal.value-value-requires-clause-apart
value-value-requires-clause-apart c i member =
    let film = c.args.here.now.film.now in
    let q : ℕ = c.args.here.now.q.0 in
    let many : ℕ = c.args.self.now.many in
    let place : ℕ = c.loop-place.place in
    let group_is : c.set_from-group.result.0 ≡ group_at film q many place
    = c.set_from-group.ensures ∙ (λ i. set_of (take (c.loop-place.invariant.parties.many i) (drop (place * c.loop-place.invariant.parties.many i) (c.args.here.now.located i)))) in
    let there : place < number_of_parties film q many
    = omega (arith, c.loop-place-test.true, c.requires.parties.number) in
    let coming : c.at-newcomers.result.0 ≡ newcomers_at film q many c.args.count place
    = coming_is film q many c.args.count place c.at-newcomers.result.0 c.args.choices.now c.requires.choices there
    c.at-newcomers.ensures.none c.at-newcomers.ensures.first c.at-newcomers.ensures.both c.requires.count in
    ap (λ (set : ℕ). has set i) group_is ∙ newcomer_apart film q many place c.args.count place i (subst (λ (set : ℕ). has set i ≡ true) coming member)

pub raise-requires-clause-fits : goal.raise-requires-clause-fits
raise-requires-clause-fits c =
    let film = c.args.here.now.film.now in
    let q : ℕ = c.args.here.now.q.0 in
    let many : ℕ = c.args.self.now.many in
    let place : ℕ = c.loop-place.place in
    let group_is : c.set_from-group.result.0 ≡ group_at film q many place
    = c.set_from-group.ensures ∙ (λ i. set_of (take (c.loop-place.invariant.parties.many i) (drop (place * c.loop-place.invariant.parties.many i) (c.args.here.now.located i)))) in
    let there : place < number_of_parties film q many
    = omega (arith, c.loop-place-test.true, c.requires.parties.number) in
    let coming : c.at-newcomers.result.0 ≡ newcomers_at film q many c.args.count place
    = coming_is film q many c.args.count place c.at-newcomers.result.0 c.args.choices.now c.requires.choices there
    c.at-newcomers.ensures.none c.at-newcomers.ensures.first c.at-newcomers.ensures.both c.requires.count in
    let value_is : c.value-value.result ≡ party_value film q many c.args.count place
    = c.value-value.ensures.same ∙ (λ i. arrivals_value (c.args.here.now.are_tables.arrivals i) q (group_is i) (coming i)) in
    let inside : place < c.loop-place.self.number
    = omega (arith, c.loop-place-test.true, c.loop-place.invariant.parties.number, c.requires.parties.number) in
    raised_fits film q many c.args.count place c.value-value.result c.loop-place.self c.loop-place.invariant.parties inside c.requires.count value_is
    c.keeps_limits.ensures c.args.here.now.lies c.requires.many

-- a party that was asked with the same newcomers
pub loop-place-preserved-then-at-newcomers : goal.loop-place-preserved-then-at-newcomers
loop-place-preserved-then-at-newcomers c =
    let film = c.args.here.now.film.now in
    let q : ℕ = c.args.here.now.q.0 in
    let many : ℕ = c.args.self.now.many in
    let place : ℕ = c.loop-place.place in
    let there : place < number_of_parties film q many
    = omega (arith, c.loop-place-test.true, c.requires.parties.number) in
    let coming : c.at-newcomers.result.0 ≡ newcomers_at film q many c.args.count place
    = coming_is film q many c.args.count place c.at-newcomers.result.0 c.args.choices.now c.requires.choices there
    c.at-newcomers.ensures.none c.at-newcomers.ensures.first c.at-newcomers.ensures.both c.requires.count in
    let before : ℕ = c.args.self.now.asked - 1 in
    let asked : c.args.self.now.asked ≡ suc before = omega (arith, c.if-asked-gt0.true) in
    let earlier : c.at.result.0 ≡ newcomers_at film q many before place
    = coming_is film q many before place c.at.result.0 c.args.choices.now (elim c.requires.choices [
      | inl none ↦ absurd (omega (arith, none, c.requires.fewer, asked))
      | inr choices ↦ inr choices
    ]) there c.at.ensures.none c.at.ensures.first c.at.ensures.both (omega (arith, c.requires.fewer, asked, c.requires.count)) in
    let same : newcomers_at film q many c.args.count place ≡ newcomers_at film q many before place
    = sym coming ∙ sym c.if-at-newcomers.true ∙ earlier in
    record {
      parties = c.loop-place.invariant.parties;
      need = c.loop-place.invariant.need;
      more = c.loop-place.invariant.more;
      asked = elim c.loop-place.invariant.asked [
        | inl reached ↦ inl reached
        | inr known ↦ inr (
          (λ other less. elim (cases_lt other place) [
            | inl done ↦ known.0 other done
            | inr from ↦ (
                let here : other ≡ place = omega (arith, from, less) in
                known.1 other from (omega (arith, here, c.loop-place-test.true, c.loop-place.invariant.parties.number, c.requires.parties.number))
                ∙ ap (λ (n : ℕ). greatest_below film q many n other) asked ∙ ap (greatest_below film q many (suc before)) here
                ∙ sym (no_more film q many place (value_rises film q c.keeps_limits.ensures c.args.here.now.lies c.fewer_newcomers_wait_no_more.ensures many place) before c.args.count same)
                ∙ ap (greatest_below film q many (suc c.args.count)) (sym here))
          ]),
          (λ other past within. known.1 other (omega (arith, past)) within),
        )
      ];
    }

pub loop-place-preserved : goal.loop-place-preserved
loop-place-preserved c =
    let film = c.args.here.now.film.now in
    let q : ℕ = c.args.here.now.q.0 in
    let many : ℕ = c.args.self.now.many in
    let place : ℕ = c.loop-place.place in
    let group_is : c.set_from-group.result.0 ≡ group_at film q many place
    = c.set_from-group.ensures ∙ (λ i. set_of (take (c.loop-place.invariant.parties.many i) (drop (place * c.loop-place.invariant.parties.many i) (c.args.here.now.located i)))) in
    let there : place < number_of_parties film q many
    = omega (arith, c.loop-place-test.true, c.requires.parties.number) in
    let coming : c.at-newcomers.result.0 ≡ newcomers_at film q many c.args.count place
    = coming_is film q many c.args.count place c.at-newcomers.result.0 c.args.choices.now c.requires.choices there
    c.at-newcomers.ensures.none c.at-newcomers.ensures.first c.at-newcomers.ensures.both c.requires.count in
    let value_is : c.value-value.result ≡ party_value film q many c.args.count place
    = c.value-value.ensures.same ∙ (λ i. arrivals_value (c.args.here.now.are_tables.arrivals i) q (group_is i) (coming i)) in
    let inside : place < c.loop-place.self.number
    = omega (arith, c.loop-place-test.true, c.loop-place.invariant.parties.number, c.requires.parties.number) in
    let count : ℕ = c.args.count in
    let before : Parties = c.loop-place.self in
    let values : List ℕ = slice_set before.values place (max (slice_index before.values place) c.value-value.result) in
    record {
      parties = subst (AreParties film q many) (sym c.raise.ensures)
          (raised_are film q many count place c.value-value.result before c.loop-place.invariant.parties inside c.requires.count value_is);
      need = ap (λ (parties : Parties). parties.need) c.raise.ensures ∙ c.loop-place.invariant.need;
      more = ap (λ (parties : Parties). parties.asked) c.raise.ensures ∙ c.loop-place.invariant.more;
      asked = elim c.loop-place.invariant.asked [
        | inl reached ↦ absurd (omega (arith, reached, c.if-self.false))
        | inr known ↦ inr (
          (λ other less. ap (λ (parties : Parties). slice_index parties.values other) c.raise.ensures ∙ elim (cases_lt other place) [
            | inl earlier ↦ get_or-set_other before.values place other (max (slice_index before.values place) c.value-value.result) 0
                (λ same. omega (arith, same, earlier)) ∙ known.0 other earlier
            | inr from ↦ (
                let same : other ≡ place = omega (arith, from, less) in
                ap (slice_index values) same
                ∙ raised_here film q many count place c.value-value.result before c.loop-place.invariant.parties inside c.requires.count value_is
                c.args.self.now.asked c.requires.fewer
                (value_rises film q c.keeps_limits.ensures c.args.here.now.lies c.fewer_newcomers_wait_no_more.ensures many place)
                (known.1 place (omega arith) inside)
                ∙ ap (greatest_below film q many (suc count)) (sym same))
          ]),
          (λ other past within. ap (λ (parties : Parties). slice_index parties.values other) c.raise.ensures
              ∙ get_or-set_other before.values place other (max (slice_index before.values place) c.value-value.result) 0 (λ same. omega (arith, same, past))
              ∙ known.1 other (omega (arith, past)) (subst (λ (parties : Parties). other < parties.number) c.raise.ensures within)),
        )
      ];
    }

pub returns-clause-asked : goal.returns-clause-asked
returns-clause-asked c =
    let film = c.args.here.now.film.now in
    let q : ℕ = c.args.here.now.q.0 in
    let parties : Parties = c.loop-place.self in
    let many : c.args.self.now.many ≡ parties.many = sym c.loop-place.invariant.parties.many in
    let next : suc c.args.count ≡ parties.asked = omega (arith, c.loop-place.invariant.more) in
    elim c.loop-place.invariant.asked [
      | inl reached ↦ inl reached
      | inr known ↦ inr (λ place within.
          known.0 place (omega (arith, within, c.loop-place-test.false, c.loop-place.invariant.parties.number, c.requires.parties.number))
          ∙ (λ i. greatest_below film q (many i) (next i) place))
    ]
