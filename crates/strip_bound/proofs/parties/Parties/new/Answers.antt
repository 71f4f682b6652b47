use Rattle.std.proofs.Common.{◌≡◌, ℕ, ◌+◌, ◌-◌, ◌/◌, length, ap, ◌∙◌}
use Rattle.strip_mask.specs.Set.{size}
use Rattle.strip_film.specs.Shoot.{on_location}
use Rattle.strip_bound.proofs.Asked.{located_count, none_known}
use Rattle.strip_bound.proofs.parties.Parties.new.Goals as goal

pub returns-clause-parties : goal.returns-clause-parties
returns-clause-parties c =
    let film = c.args.here.now.film.now in
    let q = c.args.here.now.q.0 in
    let count : length c.args.here.now.actors.now ≡ size (on_location film q) = ap length c.args.here.now.located ∙ located_count film q in
    let number : (length c.args.here.now.actors.now + (c.args.many - 1)) / c.args.many ≡ (size (on_location film q) + (c.args.many - 1)) / c.args.many
    = ap (λ (n : ℕ). (n + (c.args.many - 1)) / c.args.many) count in
    none_known film q c.args.many ((length c.args.here.now.actors.now + (c.args.many - 1)) / c.args.many) c.args.need number c.requires
