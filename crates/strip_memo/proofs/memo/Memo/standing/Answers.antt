use Rattle.std.proofs.Common.{◌≡◌, ℕ, true, false, inl, inr, subst, ap, ◌∙◌, append_assoc}
use Rattle.strip_mask.specs.Iter.{rest_of}
use Rattle.strip_mask.specs.Set.{has}
use Rattle.strip_mask.proofs.ByMembers.{has-empty, has_from_with}
use Rattle.strip_mask.proofs.Turns.{turn_below, turn_member}
use Rattle.strip_memo.proofs.memo.Memo.standing.Goals as goal

pub loop-s-init : goal.loop-s-init
loop-s-init g c = record {
  among = λ scene there. absurd (let e : has 0 scene ≡ false = has-empty scene in cc);
  turns = ap rest_of c.into_iter-s-iterator.ensures.into_iter_gives ∙ c.iter-s-items.ensures.left;
}

pub without-rest-requires : goal.without-rest-requires
without-rest-requires g c =
    turn_below c.args.scenes.0 c.in-Some.s c.loop-s.yielded (rest_of c.loop-s.s-iterator) (rest_of c.next.new.self)
    c.loop-s.invariant.turns c.in-Some.ensures.steps

pub with-standing-requires : goal.with-standing-requires
with-standing-requires g c =
    turn_below c.args.scenes.0 c.in-Some.s c.loop-s.yielded (rest_of c.loop-s.s-iterator) (rest_of c.next.new.self)
    c.loop-s.invariant.turns c.in-Some.ensures.steps

pub loop-s-preserved-then-index-rest : goal.loop-s-preserved-then-index-rest
loop-s-preserved-then-index-rest g c = record {
  among = λ scene there. elim (has_from_with c.loop-s.standing.0 c.in-Some.s scene (subst (λ (set : ℕ). has set scene ≡ true) c.with-standing.ensures there)) [
    | inl same ↦ subst (λ (x : ℕ). has c.args.scenes.0 x ≡ true) same
        (turn_member c.args.scenes.0 c.in-Some.s c.loop-s.yielded (rest_of c.loop-s.s-iterator) (rest_of c.next.new.self)
        c.loop-s.invariant.turns c.in-Some.ensures.steps)
    | inr earlier ↦ c.loop-s.invariant.among scene earlier
  ];
  turns = rw append_assoc (rw (← c.in-Some.ensures.steps) c.loop-s.invariant.turns);
}

pub returns : goal.returns
returns g c = c.loop-s.invariant.among
