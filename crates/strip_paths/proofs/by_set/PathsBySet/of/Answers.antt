use Rattle.std.proofs.Common.{◌≡◌, ◌∙◌, ◌<◌, ℕ, List, ap, arith, get_or, length, map, sym, subst}
use Rattle.std.proofs.lemmas.List.{get_or-map, length-map}
use Rattle.strip_film.specs.declared.path.Path.{Path}
use Rattle.strip_film.specs.Path.{PathData}
use Rattle.strip_film.specs.Shown.{path_data}
use Rattle.strip_paths.proofs.Rests.{LeaveOthers, others_from, rests, rests_taken}
use Rattle.strip_paths.proofs.by_set.PathsBySet.of.Goals as goal

-- how many sets there are, and which is the one of a path
count : (items : List Path) → length (rests (map path_data items)) ≡ length items
count items = length-map (map path_data items) (λ (p : PathData). p.rest) ∙ length-map items path_data

rest_at : (items : List Path) (path : Path) (index : ℕ) → index < length items → path ≡ get_or items index path
    → (path_data path).rest ≡ get_or (rests (map path_data items)) index 0
rest_at items path index within is =
    ap (λ (p : Path). (path_data p).rest) is
    ∙ sym (ap (λ (p : PathData). p.rest) (get_or-map path_data items index path (path_data path) within))
    ∙ sym (get_or-map (λ (p : PathData). p.rest) (map path_data items) index (path_data path) 0 (omega (arith, within, length-map items path_data)))

pub loop-path-preserved : goal.loop-path-preserved
loop-path-preserved c =
    c.in_ok-insert.ensures.keys
    ∙ rests_taken c.loop-path.sets.keys (rests (map path_data c.deref-path-items.result.now)) c.loop-path.path-index c.rest.result.0
    (others_from (map path_data c.deref-path-items.result.now) (subst (λ (items : List Path). LeaveOthers (map path_data items)) (sym c.deref-path-items.ensures.value) c.requires.apart))
    c.loop-path.invariant
    (omega (arith, c.loop-path-test.true, count c.deref-path-items.result.now))
    (c.rest.ensures ∙ rest_at c.deref-path-items.result.now c.path-item.result c.loop-path.path-index c.loop-path-test.true c.path-item.is)
