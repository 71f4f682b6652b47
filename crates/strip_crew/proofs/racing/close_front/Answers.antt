use Rattle.std.proofs.Common.{◌≡◌, ◌∙◌, ap, sym, subst}
use Rattle.strip_front.specs.Shown.{front_data}
use Rattle.strip_hand.specs.Hand.{HandData}
use Rattle.strip_hand.specs.Search.{GoesBy}
use Rattle.strip_least.specs.declared.pass.LeastPass.{LeastPass}
use Rattle.strip_least.specs.Pass.{known as known_least}
use Rattle.strip_least.specs.Rule.{full_weight}
use Rattle.strip_book.specs.declared.pass.BookPass.{BookPass}
use Rattle.strip_book.specs.Pass.{known}
use Rattle.strip_worker.specs.Team.{GoesOn, HasWorkedOn}
use Rattle.strip_worker.proofs.Moved.{moved_same}
use Rattle.strip_crew.specs.declared.hub.HubParts.{HubParts}
use Rattle.strip_crew.specs.Source.{source_home}
use Rattle.strip_crew.specs.Hub.{HubHome, hand_of}
use Rattle.strip_crew.specs.Crew.{Weigh, shown}
use Rattle.strip_crew.proofs.Done.{goes_from_unasked}
use Rattle.strip_crew.proofs.Parted.{bears_still}
use Rattle.strip_crew.proofs.Shut.{closed_still}
use Rattle.strip_crew.proofs.racing.close_front.Goals as goal

pub close-requires-clause-worked : goal.close-requires-clause-worked
close-requires-clause-worked g c =
    let settled : HubParts = c.settle.new.passes in
    let hub = c.of-hub.result in
    let on = c.settle.ensures.settled.goes_on in
    let same : shown settled ≡ hand_of hub.source (known_least hub.told) (known hub.lines) hub.asked hub.noted
    = (λ i. hand_of (sym c.of-hub.ensures.passes.2 i) (known_least (sym c.of-hub.ensures.passes.0 i)) (known (sym c.of-hub.ensures.passes.1 i)) (sym c.of-hub.ensures.unasked.0 i) (sym c.of-hub.ensures.unasked.1 i)) in
    subst (λ (h : HandData). HasWorkedOn g.B.Bounds.kind g.B.Bounds.film h (front_data c.args.front.now) c.args.walked.now.found.items c.args.walked.now.spent) same (record {
      search = subst (GoesBy g.B.Bounds.kind g.B.Bounds.film) (sym on.search) c.requires.worked.search;
      worked = moved_same (shown c.args.passes) (shown settled) on (front_data c.args.front.now) c.args.walked.now.found.items c.args.walked.now.spent
          c.requires.worked.worked (λ _. c.settle.ensures.passes.book_pass.few) c.settle.ensures.settled.records;
    })

pub returns : goal.returns
returns g c =
    let first : HubParts = c.settle.new.passes in
    let hub = c.close.new.hand in
    let parts : HubParts = c.parts-passes.result in
    let went : HubParts = record { told = hub.told; lines = hub.lines; source = hub.source } in
    let settled : HubParts = c.settle-2.new.passes in
    let back : parts ≡ went = (λ i. record { told = c.parts-passes.ensures.0 i; lines = c.parts-passes.ensures.1 i; source = c.parts-passes.ensures.2 i }) in
    let weighed : Weigh full_weight first = c.settle.ensures.same full_weight c.requires.full in
    let full : Weigh full_weight parts = record {
      told = ap (λ (p : LeastPass). (known_least p).weight) c.parts-passes.ensures.0 ∙ ap (λ (h : HubHome). h.told_weight) c.close.ensures.home
          ∙ ap (λ (p : LeastPass). (known_least p).weight) c.of-hub.ensures.passes.0 ∙ weighed.told;
      lines = ap (λ (p : BookPass). (known p).weight) c.parts-passes.ensures.1 ∙ ap (λ (h : HubHome). h.lines_weight) c.close.ensures.home
          ∙ ap (λ (p : BookPass). (known p).weight) c.of-hub.ensures.passes.1 ∙ weighed.lines;
      source = bears_still full_weight first.source parts.source
          (ap source_home c.parts-passes.ensures.2 ∙ ap (λ (h : HubHome). h.source) c.close.ensures.home ∙ ap source_home c.of-hub.ensures.passes.2) weighed.source;
    } in
    let on : GoesOn (shown went) (shown settled) = subst (λ (p : HubParts). GoesOn (shown p) (shown settled)) back c.settle-2.ensures.settled.goes_on in
    record {
      passes = c.settle-2.ensures.passes;
      full = c.settle-2.ensures.same full_weight full;
      search = c.settle-2.ensures.settled.goes_on.search ∙ ap (λ (p : BookPass). (known p).search) c.parts-passes.ensures.1
          ∙ ap (λ (h : HandData). h.search) c.close.ensures.learns.only ∙ ap (λ (p : BookPass). (known p).search) c.of-hub.ensures.passes.1
          ∙ c.settle.ensures.settled.goes_on.search;
      closed = closed_still g.B.Bounds.kind g.B.Bounds.film (hand_of hub.source (known_least hub.told) (known hub.lines) hub.asked hub.noted) (shown settled)
          c.args.walked.now.spent c.in_ok-number.number
          (goes_from_unasked hub.source (known_least hub.told) (known hub.lines) hub.asked hub.noted (shown settled) on) c.settle-2.ensures.limits c.in_ok-number.ensures.closed;
      best = c.settle-2.ensures.best full;
    }
