use Rattle.std.proofs.Common.{◌≡◌, ℕ, true, length, slice_index, ap, ◌∙◌, subst, arith}
use Rattle.std.proofs.lemmas.Grind.{get_or_default_zero}
use Rattle.strip_mask.specs.Set.{IsSet, has, meet}
use Rattle.strip_mask.proofs.Below.{is_set_below}
use Rattle.strip_mask.proofs.ByMembers.{has_from_meet}
use Rattle.strip_film.specs.Shoot.{cast_of}
use Rattle.strip_bound.proofs.Coming.{scenes_of}
use Rattle.strip_bound.proofs.newcomers.company.Goals as goal

of_newcomer : (c : goal.After-meet-scenes) → c.meet-scenes.result.0 ≡ meet (slice_index c.args.tables.now.plays.items c.args.newcomer) c.args.q.0
of_newcomer c = c.meet-scenes.ensures ∙ ap (λ (set : ℕ). meet set c.args.q.0) (c.index.ensures
    ∙ get_or_default_zero c.args.tables.now.plays.items c.args.newcomer c.index.result.now (omega (arith, c.requires.known, c.requires.tables.plays.count)))

pub cast_of-requires : goal.cast_of-requires
cast_of-requires c i there = c.requires.lies i (has_from_meet (slice_index c.args.tables.now.plays.items c.args.newcomer) c.args.q.0 i
    (subst (λ (set : ℕ). has set i ≡ true) (of_newcomer c) there)).1

pub returns-clause-company : goal.returns-clause-company
returns-clause-company c =
    let is : IsSet c.args.q.0 = is_set_below (length c.args.film.now.casts) c.args.q.0 c.keeps_limits.ensures.scene_count.1 c.requires.lies in
    c.meet.ensures ∙ ap (meet c.args.group.0) (c.cast_of.ensures
    ∙ ap (cast_of c.args.film.now) (of_newcomer c.before.before ∙ scenes_of c.args.film.now c.args.tables.now.plays.items c.args.q.0 c.args.newcomer is c.requires.tables.plays))

pub returns-clause-known : goal.returns-clause-known
returns-clause-known c i there = c.requires.group i (has_from_meet c.args.group.0 c.cast_of.result.0 i (subst (λ (set : ℕ). has set i ≡ true) c.meet.ensures there)).0
