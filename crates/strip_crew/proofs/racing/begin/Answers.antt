use Rattle.std.proofs.Common.{◌≡◌, ◌≤◌, ◌∙◌, ℕ, Option, Some, [], ap, sym, subst, arith}
use Rattle.strip_front.specs.Calls.{IsUnfilled}
use Rattle.strip_front.specs.Front.{FrontData}
use Rattle.strip_front.specs.Shown.{front_data}
use Rattle.strip_hand.specs.Hand.{HandData, RecordData}
use Rattle.strip_hand.specs.Search.{SearchData}
use Rattle.strip_least.specs.declared.pass.LeastPass.{LeastPass}
use Rattle.strip_least.specs.Pass.{known as known_least}
use Rattle.strip_least.specs.Rule.{full_weight}
use Rattle.strip_book.specs.declared.pass.BookPass.{BookPass}
use Rattle.strip_book.specs.Pass.{known}
use Rattle.strip_book.specs.View.{record_at}
use Rattle.strip_worker.specs.Team.{GoesOn, HasFront, OwnsFront}
use Rattle.strip_worker.proofs.Counted.{front_has_all}
use Rattle.strip_worker.proofs.Moved.{moved_same}
use Rattle.strip_crew.specs.declared.hub.HubParts.{HubParts}
use Rattle.strip_crew.specs.declared.source.Source.TheVariants.{Counter}
use Rattle.strip_crew.specs.Source.{source_home}
use Rattle.strip_crew.specs.Hub.{HubHome, hand_of}
use Rattle.strip_crew.specs.Crew.{Weigh, shown}
use Rattle.strip_crew.specs.Sources.{Bears}
use Rattle.strip_crew.proofs.Begun.{claim_stays, claimed_front, front_alone, nothing_claimed, owns_before}
use Rattle.strip_crew.proofs.Parted.{is_counter}
use Rattle.strip_crew.proofs.Done.{unasked}
use Rattle.strip_crew.proofs.racing.begin.Goals as goal

-- the first claim of the only passes that there are is the front
pub go_down_front-requires-clause-may : goal.go_down_front-requires-clause-may
go_down_front-requires-clause-may g c =
    let first = c.of-hub.result in
    let claimed = c.claim.new.self in
    let begin = c.requires.begin in
    let counter : first.source ≡ Counter = c.of-hub.ensures.passes.2 ∙ begin.counter in
    let unclaimed : (known_least c.args.passes.told).claims ≡ []
    = nothing_claimed c.args.passes.source (known_least c.args.passes.told) (known c.args.passes.lines) begin.are.together begin.unclaimed in
    let search : (hand_of claimed.source (known_least claimed.told) (known claimed.lines) claimed.asked claimed.noted).search ≡ (shown c.args.passes).search
    = claim_stays c.claim.result (hand_of first.source (known_least first.told) (known first.lines) first.asked first.noted)
    (hand_of claimed.source (known_least claimed.told) (known claimed.lines) claimed.asked claimed.noted) c.claim.ensures.claimed
    ∙ ap (λ (p : BookPass). (known p).search) c.of-hub.ensures.passes.1 in
    record {
      some_lines = subst (λ (s : SearchData). 1 ≤ s.nodes) (sym search) begin.some_lines;
      claimed = claimed_front (known_least first.told) (known_least claimed.told) c.claim.result (hand_of first.source (known_least first.told) (known first.lines) first.asked first.noted)
          (hand_of claimed.source (known_least claimed.told) (known claimed.lines) claimed.asked claimed.noted) (c.claim.ensures.next counter)
          (ap (λ (p : LeastPass). (known_least p).ended) c.of-hub.ensures.passes.0 ∙ begin.unended)
          (ap (λ (p : LeastPass). (known_least p).weight) c.of-hub.ensures.passes.0 ∙ begin.full.told)
          (ap (λ (p : LeastPass). (known_least p).claims) c.of-hub.ensures.passes.0 ∙ unclaimed)
          (omega (arith, ap (λ (p : LeastPass). (known_least p).parts) c.of-hub.ensures.passes.0, begin.are.together.parts))
          c.claim.ensures.claimed
          (λ part. ap (λ (p : BookPass). record_at part (known p).entries) c.of-hub.ensures.passes.1 ∙ ap (record_at part) begin.unclaimed);
      unfilled = subst (λ (s : SearchData). IsUnfilled s (front_data c.args.front.now)) (sym search) begin.unfilled;
    }

pub returns : goal.returns
returns g c =
    let first = c.of-hub.result in
    let claimed = c.claim.new.self in
    let hub = c.go_down_front.new.hand in
    let front : FrontData = front_data c.go_down_front.new.front in
    let parts : HubParts = c.parts-passes.result in
    let went : HubParts = record { told = hub.told; lines = hub.lines; source = hub.source } in
    let settled : HubParts = c.settle.new.passes in
    let begin = c.requires.begin in
    let counter : first.source ≡ Counter = c.of-hub.ensures.passes.2 ∙ begin.counter in
    let still : hub.source ≡ Counter
    = is_counter hub.source (ap (λ (h : HubHome). h.source) c.go_down_front.ensures.home ∙ ap source_home (c.claim.ensures.counter counter)) in
    let settled_counter : c.settle.new.passes.source ≡ Counter = c.settle.ensures.settled.source ∙ c.parts-passes.ensures.2 ∙ still in
    let unclaimed : (known_least c.args.passes.told).claims ≡ []
    = nothing_claimed c.args.passes.source (known_least c.args.passes.told) (known c.args.passes.lines) begin.are.together begin.unclaimed in
    let cursor = c.go_down_front.ensures.down.0 in
    let down = c.go_down_front.ensures.down.1 in
    let hub_record : ℕ → Option RecordData = (λ part. record_at part (known hub.lines).entries) in
    let back : parts ≡ went = (λ i. record { told = c.parts-passes.ensures.0 i; lines = c.parts-passes.ensures.1 i; source = c.parts-passes.ensures.2 i }) in
    let full : Weigh full_weight parts = record {
      told = ap (λ (p : LeastPass). (known_least p).weight) c.parts-passes.ensures.0 ∙ ap (λ (h : HubHome). h.told_weight) (c.go_down_front.ensures.home ∙ c.claim.ensures.home)
          ∙ ap (λ (p : LeastPass). (known_least p).weight) c.of-hub.ensures.passes.0 ∙ begin.full.told;
      lines = ap (λ (p : BookPass). (known p).weight) c.parts-passes.ensures.1 ∙ ap (λ (h : HubHome). h.lines_weight) (c.go_down_front.ensures.home ∙ c.claim.ensures.home)
          ∙ ap (λ (p : BookPass). (known p).weight) c.of-hub.ensures.passes.1 ∙ begin.full.lines;
      source = subst (Bears full_weight) (sym (c.parts-passes.ensures.2 ∙ still)) tt;
    } in
    let on : GoesOn (shown went) (shown settled) = subst (λ (p : HubParts). GoesOn (shown p) (shown settled)) back c.settle.ensures.settled.goes_on in
    let later : (part : ℕ) → (shown settled).records part ≡ (shown went).records part
    = (λ part. c.settle.ensures.settled.records part ∙ ap (λ (p : HubParts). (shown p).records part) back) in
    let has_front : HasFront (hand_of claimed.source (known_least claimed.told) (known claimed.lines) claimed.asked claimed.noted)
    = claimed_front (known_least first.told) (known_least claimed.told) c.claim.result (hand_of first.source (known_least first.told) (known first.lines) first.asked first.noted)
    (hand_of claimed.source (known_least claimed.told) (known claimed.lines) claimed.asked claimed.noted) (c.claim.ensures.next counter)
    (ap (λ (p : LeastPass). (known_least p).ended) c.of-hub.ensures.passes.0 ∙ begin.unended)
    (ap (λ (p : LeastPass). (known_least p).weight) c.of-hub.ensures.passes.0 ∙ begin.full.told)
    (ap (λ (p : LeastPass). (known_least p).claims) c.of-hub.ensures.passes.0 ∙ unclaimed)
    (omega (arith, ap (λ (p : LeastPass). (known_least p).parts) c.of-hub.ensures.passes.0, begin.are.together.parts))
    c.claim.ensures.claimed
    (λ part. ap (λ (p : BookPass). record_at part (known p).entries) c.of-hub.ensures.passes.1 ∙ ap (record_at part) begin.unclaimed) in
    let owns : OwnsFront (shown settled)
    = front_has_all (shown settled) (c.settle.ensures.settled.counts full) (λ part apart. later part ∙ down.others part apart ∙ has_front.others part apart) in
    record {
      passes = c.settle.ensures.passes;
      full = c.settle.ensures.same full_weight full;
      only = record {
        counter = settled_counter;
        claimed = front_alone c.other_parts_have_no_record.ensures settled.source (known_least settled.told) (known settled.lines) c.settle.ensures.passes.together settled_counter
            (later 0 ∙ subst (λ (task : ℕ). hub_record task ≡ Some (record { last = cursor.last; number = down.stands.0 })) down.task down.stands.1)
            (λ part apart. later part ∙ down.others part apart ∙ has_front.others part apart);
      };
      search = c.settle.ensures.settled.goes_on.search ∙ ap (λ (p : BookPass). (known p).search) c.parts-passes.ensures.1 ∙ ap (λ (h : HandData). h.search) down.only
          ∙ claim_stays c.claim.result (hand_of first.source (known_least first.told) (known first.lines) first.asked first.noted)
          (hand_of claimed.source (known_least claimed.told) (known claimed.lines) claimed.asked claimed.noted) c.claim.ensures.claimed
          ∙ ap (λ (p : BookPass). (known p).search) c.of-hub.ensures.passes.1;
      worked = moved_same (shown went) (shown settled) on front c.in_ok-walked.walked.found.items c.in_ok-walked.walked.spent
          (unasked hub.source (known_least hub.told) (known hub.lines) hub.asked hub.noted front c.in_ok-walked.walked.found.items c.in_ok-walked.walked.spent
          c.go_down_front.ensures.sound.book_pass.few
          (c.in_ok-walked.ensures.worked
          (owns_before (hand_of hub.source (known_least hub.told) (known hub.lines) hub.asked hub.noted) (shown settled) on.grow later owns)))
          (λ _. c.settle.ensures.passes.book_pass.few) later;
    }
