use Rattle.std.proofs.Common.{◌≡◌, true, take, drop, map}
use Rattle.std.specs.List.{list_all}
use Rattle.strip_proof.specs.Field.{is_scene, scene_of}
use Rattle.strip_proof.proofs.order.order_in.Given as goal

abbrev pub invariant-loop-place : goal.invariant-loop-place
invariant-loop-place l = record {
  pass : list_all (is_scene l.inst) (take l.place (drop 1 l.row)) ≡ true;
  order : l.order.items ≡ map (scene_of l.inst) (take l.place (drop 1 l.row));
}
