use Rattle.std.proofs.Common.{◌≡◌, ◌⊎◌, ◌+◌, ◌∙◌, ℕ, [], ◌∷◌, ◌++◌, map, ap, arith, inl, inr, length, refl, subst, sym, vec_capacity}
use Rattle.std.proofs.lemmas.List.{length-map}
use Rattle.strip_steal.specs.declared.taker.Taken.{Taken}
use Rattle.strip_steal.specs.Rule.{times}
use Rattle.strip_steal.specs.Seat.{queue_of, share_of}
use Rattle.strip_steal.specs.Steps.{IsAsked}
use Rattle.strip_steal.specs.Taker.{taker_shares}
use Rattle.strip_steal.proofs.Given.{given_one, gives, kept, room_for, stays}
use Rattle.strip_steal.proofs.Turns.{HasTurned, puts-turned, shares-turned, taken-turned, turned-all, turned-step}
use Rattle.strip_steal.proofs.taker.Taker.take.Goals as goal

pub ask-requires-clause-shares : goal.ask-requires-clause-shares
ask-requires-clause-shares g c = shares-turned (taker_shares c.args.self.now) c.args.self.now.place c.loop-turn.turn (taker_shares c.loop-turn.self) c.loop-turn.invariant.3 c.requires.taker.shares

-- what place_in_turn promises, of the place and the number of queues before the call
turn_is : (from place place_now turn count long : ℕ) → place_now ≡ place → count ≡ long → (from ≡ place_now + turn) ⊎ (from + count ≡ place_now + turn)
    → (from ≡ place + turn) ⊎ (from + long ≡ place + turn)
turn_is from place place_now turn count long same size is = elim is [
  | inl here ↦ inl (omega (arith, here, same))
  | inr round ↦ inr (omega (arith, round, same, size))
]

pub note-requires : goal.note-requires
note-requires g c =
    let was = c.loop-turn.invariant in
    let now = kept c.args.self.now c.loop-turn.self c.loop-turn.turn c.requires.taker was.0 was.1 was.3 in
    let room = room_for c.loop-turn.self c.place_in_turn-from.result c.in-Some.number (taker_shares c.ask.new.self) now
    (subst (λ answer. IsAsked (taker_shares c.loop-turn.self) c.place_in_turn-from.result answer (taker_shares c.ask.new.self)) c.in-Some.is c.ask.ensures.asked) in
    record { room = omega (arith, room, ap (λ v. length v.items) c.ask.ensures.given, ap vec_capacity c.ask.ensures.given) }

pub returns-in-Some-clause-taker : goal.returns-in-Some-clause-taker
returns-in-Some-clause-taker g c =
    let was = c.loop-turn.invariant in
    let one : Taken = record { number = c.in-Some.number; from = c.place_in_turn-from.result } in
    let now = kept c.args.self.now c.loop-turn.self c.loop-turn.turn c.requires.taker was.0 was.1 was.3 in
    given_one c.loop-turn.self c.note.new.self c.place_in_turn-from.result one now
    (subst (λ answer. IsAsked (taker_shares c.loop-turn.self) c.place_in_turn-from.result answer (taker_shares c.note.new.self)) c.in-Some.is
    (subst (λ seats. IsAsked (taker_shares c.loop-turn.self) c.place_in_turn-from.result c.ask.result (map share_of seats.items)) (sym c.note.ensures.seats) c.ask.ensures.asked))
    (c.note.ensures.place ∙ c.ask.ensures.place)
    (c.note.ensures.noted ∙ ap (λ v. v.items ++ one ∷ []) c.ask.ensures.given)
    (omega (arith, c.note.ensures.room, ap vec_capacity c.ask.ensures.given))

pub returns-in-Some-clause-stays : goal.returns-in-Some-clause-stays
returns-in-Some-clause-stays g c =
    let was = c.loop-turn.invariant in
    stays c.args.self.now c.loop-turn.self c.note.new.self c.loop-turn.turn c.place_in_turn-from.result c.in-Some.number was.3 was.2
    (ap (λ seats. map queue_of seats.items) c.note.ensures.seats ∙ c.ask.ensures.queues)
    (subst (λ answer. IsAsked (taker_shares c.loop-turn.self) c.place_in_turn-from.result answer (taker_shares c.note.new.self)) c.in-Some.is
    (subst (λ seats. IsAsked (taker_shares c.loop-turn.self) c.place_in_turn-from.result c.ask.result (map share_of seats.items)) (sym c.note.ensures.seats) c.ask.ensures.asked))

pub returns-in-Some-clause-answer : goal.returns-in-Some-clause-answer
returns-in-Some-clause-answer g c =
    let was = c.loop-turn.invariant in
    let one : Taken = record { number = c.in-Some.number; from = c.place_in_turn-from.result } in
    let size : c.len-count.result ≡ length c.args.self.now.seats.items = c.len-count.ensures ∙ c.args.self.now.seats.ok.0 in
    gives c.args.self.now c.loop-turn.self c.note.new.self c.loop-turn.turn c.place_in_turn-from.result one c.requires.taker was.3
    (subst (λ answer. IsAsked (taker_shares c.loop-turn.self) c.place_in_turn-from.result answer (taker_shares c.note.new.self)) c.in-Some.is
    (subst (λ seats. IsAsked (taker_shares c.loop-turn.self) c.place_in_turn-from.result c.ask.result (map share_of seats.items)) (sym c.note.ensures.seats) c.ask.ensures.asked))
    refl
    (turn_is c.place_in_turn-from.result c.args.self.now.place c.loop-turn.self.place c.loop-turn.turn c.len-count.result (length c.args.self.now.seats.items) was.0 size
    c.place_in_turn-from.ensures.turn)
    (omega (arith, c.place_in_turn-from.ensures.within, size))
    (c.note.ensures.noted ∙ (ap (λ v. v.items ++ one ∷ []) c.ask.ensures.given ∙ ap (λ v. v.items ++ one ∷ []) was.1))

pub loop-turn-preserved : goal.loop-turn-preserved
loop-turn-preserved g c =
    let was = c.loop-turn.invariant in
    let size : c.len-count.result ≡ length (taker_shares c.args.self.now)
    = c.len-count.ensures ∙ (c.args.self.now.seats.ok.0 ∙ sym (length-map c.args.self.now.seats.items share_of)) in (
      c.ask.ensures.place ∙ was.0,
      c.ask.ensures.given ∙ was.1,
      c.ask.ensures.queues ∙ was.2,
      turned-step (taker_shares c.args.self.now) (taker_shares c.loop-turn.self) c.args.self.now.place c.loop-turn.turn c.place_in_turn-from.result (taker_shares c.ask.new.self)
          (omega (arith, c.requires.taker.place, length-map c.args.self.now.seats.items share_of))
          (omega (arith, c.loop-turn-test.true, size))
          (omega (arith, c.place_in_turn-from.ensures.within, size))
          (turn_is c.place_in_turn-from.result c.args.self.now.place c.loop-turn.self.place c.loop-turn.turn c.len-count.result (length (taker_shares c.args.self.now)) was.0 size
          c.place_in_turn-from.ensures.turn)
          was.3
          (subst (λ answer. IsAsked (taker_shares c.loop-turn.self) c.place_in_turn-from.result answer (taker_shares c.ask.new.self)) c.in_default.is c.ask.ensures.asked),
    )

pub returns-clause-taker : goal.returns-clause-taker
returns-clause-taker g c = let was = c.loop-turn.invariant in kept c.args.self.now c.loop-turn.self c.loop-turn.turn c.requires.taker was.0 was.1 was.3

pub returns-clause-stays : goal.returns-clause-stays
returns-clause-stays g c = let was = c.loop-turn.invariant in
    record { queues = was.2; puts = puts-turned (taker_shares c.args.self.now) c.args.self.now.place c.loop-turn.turn (taker_shares c.loop-turn.self) was.3 }

pub returns-clause-answer : goal.returns-clause-answer
returns-clause-answer g c =
    let was = c.loop-turn.invariant in
    let size : c.len-count.result ≡ length (taker_shares c.args.self.now)
    = c.len-count.ensures ∙ (c.args.self.now.seats.ok.0 ∙ sym (length-map c.args.self.now.seats.items share_of)) in (
      turned-all (taker_shares c.args.self.now) c.args.self.now.place (taker_shares c.loop-turn.self)
          (subst (λ turn. HasTurned (taker_shares c.args.self.now) c.args.self.now.place turn (taker_shares c.loop-turn.self))
          (omega (arith, c.loop-turn-test.false, c.loop-turn.auto.turn-end, size)) was.3),
      ap (λ v. v.items) was.1,
      λ number. ap (times number) (taken-turned (taker_shares c.args.self.now) c.args.self.now.place c.loop-turn.turn (taker_shares c.loop-turn.self) was.3),
    )
