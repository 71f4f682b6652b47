use Rattle.strip_layers.proofs.walking.+walk_layer.Given as goal

abbrev pub decreases-walk_layer : goal.decreases-walk_layer
decreases-walk_layer g l = l.left
