use Rattle.std.proofs.Common.{◌≡◌, ℕ, List, [], ◌∷◌, get_or, map, arith, sym, refl, ◌∙◌, ap, Bor, slice_index}
use Rattle.std.proofs.lemmas.List.{map-append, get_or-map}
use Rattle.std.proofs.lemmas.List.FromFn.{map-range_with_len_more}
use Rattle.strip_model.specs.Instance.{actor_data}
use Rattle.strip_instance.specs.Shown.{strs}
use Rattle.strip_instance.specs.Text.{actor_of}
use Rattle.strip_instance.proofs.rates.actors_of.Goals as goal

pub loop-actor-preserved : goal.loop-actor-preserved
loop-actor-preserved c =
    let k = c.loop-actor.actor in
    let none : Bor (List ℕ) = record { ref_ptr = (0, 0); now = [] } in
    let named : get_or (strs c.args.names.now) k [] ≡ (get_or c.args.names.now k none).now
    = get_or-map (λ text. text.now) c.args.names.now k none [] c.loop-actor-test.true in
    ap (map actor_data) c.in_ok-push.ensures.items
    ∙ map-append actor_data c.loop-actor.actors.items (record {
      name = c.in_ok-name.name;
      rate = slice_index c.args.rates.now k;
      hold = slice_index c.args.holds.now k;
    } ∷ [])
    ∙ rw (c.loop-actor.invariant, c.in_ok-name.ensures.ok, sym named) refl
    ∙ sym (map-range_with_len_more (actor_of (strs c.args.names.now) c.args.rates.now c.args.holds.now) 0 k k (omega arith))
