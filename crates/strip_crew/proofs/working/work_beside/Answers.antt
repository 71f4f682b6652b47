use Rattle.std.proofs.Common.{◌≡◌, ◌∙◌, ℕ, ◌+◌, All, IfOk, List, Ok, Result, [], ◌∷◌, ◌++◌, length, vec_len, rules, ap, arith, subst, sym, inl, inr}
use Rattle.strip_io.specs.declared.files.Memory.{Memory}
use Rattle.strip_front.specs.Shown.{front_data}
use Rattle.strip_hand.specs.Hand.{HandData}
use Rattle.strip_worker.specs.Team.{GoesOn, HasWorked}
use Rattle.strip_crew.specs.Source.{SourceHome}
use Rattle.strip_crew.specs.Crew.{IsDone, IsJob, Weigh, shown}
use Rattle.strip_crew.proofs.Done.{all_before, all_last, goes_after, goes_self}
use Rattle.strip_crew.proofs.working.work_beside.Goals as goal

pub deal-requires-clause-worked : goal.deal-requires-clause-worked
deal-requires-clause-worked g c = (
  c.args.walked.now.found.items,
  subst (HasWorked (shown c.args.passes.now) (front_data c.args.front.now) c.args.walked.now.found.items) c.requires.whole c.requires.worked.worked,
)

pub loop-one-init : goal.loop-one-init
loop-one-init g c =
    let dealt = c.in_ok-jobs.ensures in
    record {
      passes = dealt.passes;
      goes_on = subst (GoesOn (shown c.args.passes.now)) (sym dealt.same) (goes_self (shown c.args.passes.now));
      weight = λ total weigh. (
        1 + c.requires.split.weight.0,
        omega (arith, weigh.told, c.requires.split.weight.1.told, c.in_ok-all.ensures.count, dealt.count),
        dealt.weight (1 + c.requires.split.weight.0) c.requires.split.weight.1,
      );
      worked = subst (λ (h : HandData). HasWorked h (front_data c.args.front.now) c.args.walked.now.found.items c.args.walked.now.spent) (sym dealt.same) c.requires.worked.worked;
      all = c.in_ok-all.ensures.each;
      home = dealt.home ∙ c.requires.split.home_is;
      left = inl (omega (arith, c.in_ok-all.ensures.count, dealt.count));
    }

-- the job that was popped is done
is_done : {J : Type 0} (P : J → Type 0) (before after : List (Result J Memory)) (one : Result J Memory) (job : J)
    → All (λ r. IfOk r P) before → before ≡ after ++ one ∷ [] → one ≡ Ok job → P job
is_done {J = J} P before after one job all items is = subst (λ (r : Result J Memory). IfOk r P) is (all_last (λ r. IfOk r P) after one (subst (All (λ r. IfOk r P)) items all))

pub gather-requires-clause-other : goal.gather-requires-clause-other
gather-requires-clause-other g c =
    (is_done (IsDone g.B.Bounds.kind g.B.Bounds.film (front_data c.args.front.now) c.args.tables.now.least c.args.tables.now.book g.S.Rooted.home)
    c.loop-one.all.items c.pop.new.self.items c.in-Some.one c.in_ok-one.field-0 c.loop-one.invariant.all c.in-Some.ensures.items c.in_ok-one.was).is_job.passes

pub gather-requires-clause-long : goal.gather-requires-clause-long
gather-requires-clause-long g c =
    c.loop-one.invariant.worked.long ∙ sym (is_done (IsDone g.B.Bounds.kind g.B.Bounds.film (front_data c.args.front.now) c.args.tables.now.least c.args.tables.now.book g.S.Rooted.home)
    c.loop-one.all.items c.pop.new.self.items c.in-Some.one c.in_ok-one.field-0 c.loop-one.invariant.all c.in-Some.ensures.items c.in_ok-one.was).is_job.worked.long

pub gather-requires-clause-from : goal.gather-requires-clause-from
gather-requires-clause-from g c =
    (is_done (IsDone g.B.Bounds.kind g.B.Bounds.film (front_data c.args.front.now) c.args.tables.now.least c.args.tables.now.book g.S.Rooted.home)
    c.loop-one.all.items c.pop.new.self.items c.in-Some.one c.in_ok-one.field-0 c.loop-one.invariant.all c.in-Some.ensures.items c.in_ok-one.was).is_job.from
    ∙ sym c.loop-one.invariant.home

pub do_jobs-requires-clause-jobs : goal.do_jobs-requires-clause-jobs
do_jobs-requires-clause-jobs g c = λ κs outlives.
    subst (λ (home : SourceHome). All (IsJob g.B.Bounds.kind g.B.Bounds.film (front_data c.args.front.now) c.args.tables.now.least c.args.tables.now.book home) c.in_ok-jobs.jobs.items)
    c.requires.split.home_is c.in_ok-jobs.ensures.jobs_are

pub loop-one-preserved : goal.loop-one-preserved
loop-one-preserved g c =
    let was = c.loop-one.invariant in
    let done = is_done (IsDone g.B.Bounds.kind g.B.Bounds.film (front_data c.args.front.now) c.args.tables.now.least c.args.tables.now.book g.S.Rooted.home)
    c.loop-one.all.items c.pop.new.self.items c.in-Some.one c.in_ok-one.field-0 was.all c.in-Some.ensures.items c.in_ok-one.was in
    let gathered = c.gather.ensures.gathered in
    record {
      passes = gathered.passes;
      goes_on = goes_after (shown c.args.passes.now) (shown c.loop-one.passes) (shown c.gather.new.passes) was.goes_on gathered.goes_on;
      weight = λ total weigh. (
          let got = was.weight total weigh in
          (got.0 + 1, omega (arith, got.1, ap length c.in-Some.ensures.items, c.in-Some.ensures.len), gathered.weight got.0 got.2 done.is_job.light));
      worked = gathered.worked (front_data c.args.front.now) was.worked done.is_job.worked;
      all = all_before (λ r. IfOk r (IsDone g.B.Bounds.kind g.B.Bounds.film (front_data c.args.front.now) c.args.tables.now.least c.args.tables.now.book g.S.Rooted.home)) c.pop.new.self.items c.in-Some.one
          (subst (All (λ r. IfOk r (IsDone g.B.Bounds.kind g.B.Bounds.film (front_data c.args.front.now) c.args.tables.now.least c.args.tables.now.book g.S.Rooted.home))) c.in-Some.ensures.items was.all);
      home = gathered.home ∙ was.home;
      left = inr (gathered.left done.left);
    }

pub returns : goal.returns
returns g c =
    let was = c.loop-one.invariant in
    let empty : vec_len c.loop-one.all ≡ 0 = search rules in
    record {
      worked = λ so_much. record {
        passes = was.passes;
        goes_on = was.goes_on;
        weight = λ weigh. (let got = was.weight so_much weigh in subst (λ (n : ℕ). Weigh n c.loop-one.passes) (omega (arith, got.1, empty)) got.2);
        worked = was.worked;
        left = elim was.left [
          | inl all ↦ absurd (omega (arith, all, empty, c.requires.workers.0))
          | inr is ↦ is
        ];
      };
    }
