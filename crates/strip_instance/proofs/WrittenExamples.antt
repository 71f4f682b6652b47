-- Worked examples of canonical texts, by computation.
use Rattle.std.proofs.Common.{◌≡◌, [], ◌∷◌, codes, refl}
use Rattle.strip_text.proofs.OnLiterals.{written_on_literals}
use Rattle.strip_mask.specs.Set.{has}
use Rattle.strip_model.specs.Data.{InstanceData}
use Rattle.strip_instance.specs.Canonical.{canonical_text}

-- a hold row that tells nothing isn't written again
same_rates : InstanceData
same_rates = record {
  scenes = record { name = codes "s1"; days = 1; cast = 1 } ∷ [];
  actors = record { name = codes "a"; rate = 1; hold = 1 } ∷ record { name = codes "b"; rate = 2; hold = 2 } ∷ [];
  pairs = [];
}

same_rates_written : canonical_text same_rates ≡ codes "scene,days,a,b\nrate,,1,2\ns1,1,x,.\n"
unfolding written_on_literals has same_rates
same_rates_written = refl

-- hold rates, and pairs
triangle : InstanceData
triangle = record {
  scenes = record { name = codes "s1"; days = 1; cast = 3 } ∷ record { name = codes "s2"; days = 1; cast = 6 } ∷ record { name = codes "s3"; days = 1; cast = 5 } ∷ [];
  actors = record { name = codes "a"; rate = 1; hold = 5 } ∷ record { name = codes "b"; rate = 2; hold = 1 } ∷ record { name = codes "c"; rate = 3; hold = 4 } ∷ [];
  pairs = record { first = 0; then = 2 } ∷ record { first = 1; then = 2 } ∷ [];
}

triangle_written : canonical_text triangle ≡ codes "scene,days,a,b,c\nrate,,1,2,3\nhold,,5,1,4\ns1,1,x,x,.\ns2,1,.,x,x\ns3,1,x,.,x\nbefore,s1,s3\nbefore,s2,s3\n"
unfolding written_on_literals has triangle
triangle_written = refl
