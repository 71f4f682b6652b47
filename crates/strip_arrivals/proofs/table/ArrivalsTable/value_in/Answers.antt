use Rattle.std.proofs.Common.{◌≡◌, ℕ, ◌+◌, ◌*◌, ◌≤◌, length, sum, sym, ap, ◌∙◌, subst, arith}
use Rattle.std.proofs.Math.Nat.{mul-le-mul}
use Rattle.strip_mask.specs.Set.{sum_over}
use Rattle.strip_mask.specs.declared.mask.Mask.{Mask}
use Rattle.strip_group.specs.Group.{GroupData}
use Rattle.strip_arrivals.specs.Arrivals.{arrivals_value, at_first}
use Rattle.strip_arrivals.specs.Company.{IsCompany}
use Rattle.strip_arrivals.specs.declared.crew.Crew.{Crew}
use Rattle.strip_arrivals.specs.Gross.{IsGross, own_pay}
use Rattle.strip_arrivals.proofs.Own.{value_from}
use Rattle.strip_mask.proofs.Totals.{sum_over_le_sum}
use Rattle.strip_arrivals.proofs.Small.{value_low}
use Rattle.strip_arrivals.proofs.table.ArrivalsTable.value_in.Goals as goal

-- what is paid is the value and what was added
paid : {film : GroupData} {crew row : Crew} {row_newcomers newcomers : Mask} {gross own : ℕ}
    → row ≡ crew → row_newcomers ≡ newcomers → IsCompany film crew.set.0 crew.group.0 newcomers.0
    → IsGross film row.set.0 row.group.0 (at_first row_newcomers.0) gross → own ≡ own_pay film crew.set.0 crew.group.0 (at_first newcomers.0)
    → gross ≡ arrivals_value film crew.set.0 crew.group.0 newcomers.0 + own
paid {film} {crew} {row} {row_newcomers} {newcomers} {gross} {own} of_crew of_newcomers company is_gross own_is =
    let on_crew = subst (λ (s : Crew). IsGross film s.set.0 s.group.0 (at_first row_newcomers.0) gross) of_crew is_gross in
    let on_newcomers = subst (λ (s : Mask). IsGross film crew.set.0 crew.group.0 (at_first s.0) gross) of_newcomers on_crew in
    value_from film crew.set.0 crew.group.0 newcomers.0 gross company.small company.small_newcomers on_newcomers
    ∙ ap (λ (n : ℕ). arrivals_value film crew.set.0 crew.group.0 newcomers.0 + n) (sym own_is)

pub overflow_sub-result : goal.overflow_sub-result
overflow_sub-result g c =
    let crew = c.args.crew.now in
    let is : c.gross.result ≡ arrivals_value c.args.self.now crew.set.0 crew.group.0 c.args.newcomers.0 + c.own_pay.result
    = paid c.party-party.ensures.same.0 c.party-party.ensures.same.1 c.requires.company c.gross.ensures (c.own_pay.ensures c.args.newcomers.0) in
    omega (arith, is)

pub returns-clause-same : goal.returns-clause-same
returns-clause-same g c =
    let crew = c.args.crew.now in
    let is : c.gross.result ≡ arrivals_value c.args.self.now crew.set.0 crew.group.0 c.args.newcomers.0 + c.own_pay.result
    = paid c.party-party.ensures.same.0 c.party-party.ensures.same.1 c.requires.company c.gross.ensures (c.own_pay.ensures c.args.newcomers.0) in
    omega (arith, is)

pub returns-clause-small : goal.returns-clause-small
returns-clause-small g c =
    let film : GroupData = c.args.self.now in
    let crew = c.args.crew.now in
    let set : ℕ = crew.set.0 in
    let known = c.requires.company in
    let is : c.gross.result ≡ arrivals_value film set crew.group.0 c.args.newcomers.0 + c.own_pay.result
    = paid c.party-party.ensures.same.0 c.party-party.ensures.same.1 known c.gross.ensures (c.own_pay.ensures c.args.newcomers.0) in
    let short : length film.days ≤ 64 = omega (arith, known.limits.day_count, known.limits.scene_count) in
    let low = value_low film crew.group.0 c.args.newcomers.0 (sum film.holds) (λ actors. sum_over_le_sum film.holds actors known.limits.actor_count)
    set known.small_set known.small known.small_newcomers known.apart in
    let same : sum film.holds ≤ sum film.holds = omega arith in
    let most : sum_over film.days set * sum film.holds ≤ sum film.days * sum film.holds = mul-le-mul (sum_over_le_sum film.days set short) same in
    omega (arith, is, low, most)
