use Rattle.std.proofs.Common.{◌∙◌, ℕ, suc, ◌+◌, ◌-◌, ap, arith, subst, sym}
use Rattle.std.proofs.lemmas.List.Elements.{All-push}
use Rattle.strip_front.specs.Shown.{front_data}
use Rattle.strip_hand.specs.Hand.{HandData}
use Rattle.strip_hand.specs.Search.{GoesBy}
use Rattle.strip_worker.specs.Team.{IsFresh}
use Rattle.strip_crew.specs.Crew.{AreDealt, IsJob, Weigh, shown}
use Rattle.strip_crew.specs.Sources.{Deals, split_home}
use Rattle.strip_crew.proofs.working.deal.Goals as goal

pub split-requires-clause-weight : goal.split-requires-clause-weight
split-requires-clause-weight g c =
    let rest : ℕ = c.requires.weight.0 + (c.args.race.now.limits.workers - c.loop-desk.desk - 1) in (
      rest,
      c.loop-desk.invariant.weight (suc (suc rest))
          (subst (λ (w : ℕ). Weigh w c.args.passes.now) (omega (arith, c.loop-desk-test.true)) c.requires.weight.1),
    )

pub split-requires-clause-deals : goal.split-requires-clause-deals
split-requires-clause-deals g c =
    subst (Deals c.loop-desk.desk) (sym c.loop-desk.invariant.home) (c.requires.deals c.loop-desk.desk (omega (arith, c.loop-desk-test.true)))

pub loop-desk-preserved : goal.loop-desk-preserved
loop-desk-preserved g c =
    let was = c.loop-desk.invariant in
    let split = c.in_ok-split.ensures in
    let kind = g.B.Bounds.kind in
    let film = g.B.Bounds.film in
    let front = front_data c.args.front.now in
    let home = split_home c.args.passes.now.source in
    record {
      passes = split.passes;
      same = split.same ∙ was.same;
      weight = λ rest weigh. split.lighter rest
          (was.weight (suc rest) (subst (λ (w : ℕ). Weigh w c.args.passes.now) (omega arith) weigh));
      count = omega (arith, was.count, c.in_ok-push.ensures.len);
      home = split.home ∙ was.home;
      jobs_are = rw c.in_ok-push.ensures.items (All-push (IsJob kind film front c.args.tables.now.least c.args.tables.now.book home) c.loop-desk.jobs.items
          (record { number = c.loop-desk.desk; passes = c.in_ok-split.field-0; walked = c.in_ok-walked.walked; memo = c.in_ok-memo.memo }) was.jobs_are (record {
            passes = split.new_passes;
            light = split.light;
            worker = split.worker;
            from = split.from ∙ was.home;
            search = subst (GoesBy kind film) (sym (split.fresh.search ∙ ap (λ (h : HandData). h.search) was.same)) c.requires.search;
            worked = c.in_ok-walked.ensures.worked (shown c.args.passes.now) (shown c.in_ok-split.field-0) c.requires.worked.0 c.requires.worked.1
                (subst (λ (h : HandData). IsFresh h (shown c.in_ok-split.field-0)) was.same split.fresh);
          }));
    }

pub returns : goal.returns
returns g c =
    subst (λ (n : ℕ). AreDealt g.B.Bounds.kind g.B.Bounds.film (front_data c.args.front.now) c.args.tables.now.least c.args.tables.now.book c.args.passes.now c.loop-desk.passes
    c.loop-desk.jobs.items n) (omega (arith, c.loop-desk-test.false, c.loop-desk.auto.desk-end)) c.loop-desk.invariant
