use Rattle.std.proofs.Common.{◌≡◌, ◌∙◌, ap, sym, subst}
use Rattle.strip_front.specs.Shown.{front_data}
use Rattle.strip_hand.specs.Hand.{HandData}
use Rattle.strip_least.specs.declared.pass.LeastPass.{LeastPass}
use Rattle.strip_least.specs.Pass.{known as known_least}
use Rattle.strip_book.specs.declared.pass.BookPass.{BookPass}
use Rattle.strip_book.specs.Pass.{known}
use Rattle.strip_worker.specs.Team.{GoesOn, HasWorked}
use Rattle.strip_crew.specs.declared.hub.HubParts.{HubParts}
use Rattle.strip_crew.specs.Source.{source_home}
use Rattle.strip_crew.specs.Hub.{HubHome, hand_of}
use Rattle.strip_crew.specs.Crew.{NoPartLeft, shown}
use Rattle.strip_crew.proofs.Done.{goes_unasked, hub_is, unasked}
use Rattle.strip_crew.proofs.Parted.{bears_still, none_left, workers_still}
use Rattle.strip_crew.proofs.working.work_alone.Goals as goal

pub returns-clause-home : goal.returns-clause-home
returns-clause-home g c =
    ap source_home c.parts.ensures.2 ∙ ap (λ (h : HubHome). h.source) c.work.ensures.home ∙ ap source_home c.of-hub.ensures.passes.2

pub returns-clause-worker : goal.returns-clause-worker
returns-clause-worker g c = workers_still c.args.passes.source c.parts.result.source (returns-clause-home g c) c.requires.worker

pub returns-clause-worked : goal.returns-clause-worked
returns-clause-worked g c = λ weight. (
    let hub = c.work.new.hand in
    let given = c.args.passes in
    let back : c.parts.result ≡ record { told = hub.told; lines = hub.lines; source = hub.source }
    = (λ i. record { told = c.parts.ensures.0 i; lines = c.parts.ensures.1 i; source = c.parts.ensures.2 i }) in
    let given_told : c.of-hub.result.told ≡ given.told = c.of-hub.ensures.passes.0 in
    let given_lines : c.of-hub.result.lines ≡ given.lines = c.of-hub.ensures.passes.1 in
    let given_source : c.of-hub.result.source ≡ given.source = c.of-hub.ensures.passes.2 in
    let same : hand_of c.of-hub.result.source (known_least c.of-hub.result.told) (known c.of-hub.result.lines) c.of-hub.result.asked c.of-hub.result.noted ≡ shown given
    = (λ i. hand_of (given_source i) (known_least (given_told i)) (known (given_lines i)) (c.of-hub.ensures.unasked.0 i) (c.of-hub.ensures.unasked.1 i)) in
    record {
      passes = hub_is g.N.Named.table hub.least.now c.args.tables.now.least hub.book.now c.args.tables.now.book hub.source c.parts.result.source hub.told c.parts.result.told
          hub.lines c.parts.result.lines
          (ap (λ (h : HubHome). h.least) c.work.ensures.home ∙ c.of-hub.ensures.least)
          (ap (λ (h : HubHome). h.book) c.work.ensures.home ∙ c.of-hub.ensures.book)
          c.parts.ensures.2 c.parts.ensures.0 c.parts.ensures.1 c.requires.named c.work.ensures.sound;
      goes_on = subst (λ (p : HubParts). GoesOn (shown given) (shown p)) (sym back)
          (goes_unasked (shown given) hub.source (known_least hub.told) (known hub.lines) hub.asked hub.noted
          (subst (λ (h : HandData). GoesOn h (hand_of hub.source (known_least hub.told) (known hub.lines) hub.asked hub.noted)) same c.work.ensures.works_on.goes_on));
      weight = λ weigh. record {
        told = ap (λ (p : LeastPass). (known_least p).weight) c.parts.ensures.0 ∙ ap (λ (h : HubHome). h.told_weight) c.work.ensures.home
            ∙ ap (λ (p : LeastPass). (known_least p).weight) given_told ∙ weigh.told;
        lines = ap (λ (p : BookPass). (known p).weight) c.parts.ensures.1 ∙ ap (λ (h : HubHome). h.lines_weight) c.work.ensures.home
            ∙ ap (λ (p : BookPass). (known p).weight) given_lines ∙ weigh.lines;
        source = bears_still weight given.source c.parts.result.source (returns-clause-home g c) weigh.source;
      };
      worked = subst (λ (p : HubParts). HasWorked (shown p) (front_data c.args.front.now) c.work.new.walked.found.items c.work.new.walked.spent) (sym back)
          (unasked hub.source (known_least hub.told) (known hub.lines) hub.asked hub.noted (front_data c.args.front.now) c.work.new.walked.found.items
          c.work.new.walked.spent c.work.ensures.sound.book_pass.few c.in_ok-work.ensures.ended.worked);
      left = subst NoPartLeft (sym back)
          (none_left given.source hub.source (ap (λ (h : HubHome). h.source) c.work.ensures.home ∙ ap source_home given_source) c.requires.worker
          (known_least hub.told).ended c.in_ok-work.ensures.ended.ended);
    })
