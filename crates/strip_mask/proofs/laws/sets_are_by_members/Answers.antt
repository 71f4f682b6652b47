use Rattle.strip_mask.proofs.ByMembers.{below_64, has-empty, has-meet, has-minus, has-union, has-with, has-without, same_set}
use Rattle.strip_mask.proofs.Gaps.{has-closed_up, IsSet-closed_up}
use Rattle.strip_mask.proofs.Members.{Contains-members, has_from_members, members_rise}
use Rattle.strip_mask.proofs.Sizes.{first-empty, first_is, first_le, size-empty, size-without, some_first}
use Rattle.strip_mask.proofs.Totals.{sum_over-empty, sum_over_mono, sum_over-union, sum_over-with}
use Rattle.strip_mask.proofs.laws.sets_are_by_members.Goals as goal

pub returns : goal.returns
returns c = record {
  same = same_set;
  made = λ a b i j. (has-union a b j, has-meet a b j, has-minus a b j, has-with a i j, has-without a i j);
  closed = λ a i. (has-closed_up a i, IsSet-closed_up a i);
  fewer = size-without;
  adds = sum_over-with;
  apart = sum_over-union;
  part = sum_over_mono;
  empty = (has-empty, first-empty, size-empty, sum_over-empty);
  below = below_64;
  least = λ a is some.
      let found = some_first a is some in
      (found.0, found.1, (first_is a found.0 is found.1).0, λ j there. first_le a found.0 j is found.1 there);
  rising = λ a is. (members_rise a, λ i. (λ among. has_from_members a i among, λ there. Contains-members a i is there));
}
