-- Worked reports and sheets, by computation.
use Rattle.std.proofs.Common.{◌≡◌, ℕ, List, [], ◌∷◌, codes, refl}
use Rattle.strip_text.proofs.OnLiterals.{written_on_literals}
use Rattle.strip_mask.specs.Set.{has}
use Rattle.strip_mask.specs.Sums.{sum_below}
use Rattle.strip_model.specs.Data.{ActorData, InstanceData, SceneData}
use Rattle.strip_reports.specs.Text.{dood_text}
use Rattle.strip_reports.specs.Sheet.{sheet_text}

abbrev scene : List ℕ → ℕ → ℕ → SceneData
scene name days cast = record { name = name; days = days; cast = cast }

abbrev actor : List ℕ → ℕ → ℕ → ActorData
actor name rate hold = record { name = name; rate = rate; hold = hold }

-- three scenes of two actors each, one day each
abbrev triangle : InstanceData
triangle = record {
  scenes = scene (codes "s1") 1 3 ∷ scene (codes "s2") 1 6 ∷ scene (codes "s3") 1 5 ∷ [];
  actors = actor (codes "a") 1 1 ∷ actor (codes "b") 2 2 ∷ actor (codes "c") 3 3 ∷ [];
  pairs = [];
}

in_order : dood_text triangle (0 ∷ 1 ∷ 2 ∷ [])
    ≡ codes "actor,rate,1,2,3,work,hold,paid,pay\na,1,SW,H,WF,2,1,3,3\nb,2,SW,WF,,2,0,2,4\nc,3,,SW,WF,2,0,2,6\ntotal,,,,,6,1,7,13\n"
unfolding written_on_literals has sum_below
in_order = refl

last_two_turned : dood_text triangle (0 ∷ 2 ∷ 1 ∷ [])
    ≡ codes "actor,rate,1,2,3,work,hold,paid,pay\na,1,SW,WF,,2,0,2,2\nb,2,SW,H,WF,2,1,3,6\nc,3,,SW,WF,2,0,2,6\ntotal,,,,,6,1,7,14\n"
unfolding written_on_literals has sum_below
last_two_turned = refl

-- a scene of two days, a lesser hold rate, one day of work alone, and an actor without work
abbrev of_four_days : InstanceData
of_four_days = record {
  scenes = scene (codes "s1") 2 1 ∷ scene (codes "s2") 1 2 ∷ scene (codes "s3") 1 1 ∷ [];
  actors = actor (codes "a") 10 4 ∷ actor (codes "b") 5 5 ∷ actor (codes "d") 7 7 ∷ [];
  pairs = [];
}

each_code : dood_text of_four_days (0 ∷ 1 ∷ 2 ∷ [])
    ≡ codes "actor,rate,1,2,3,4,work,hold,paid,pay\na,10,SW,W,H,WF,3,1,4,34\nb,5,,,SWF,,1,0,1,5\nd,7,,,,,0,0,0,0\ntotal,,,,,,4,1,5,39\n"
unfolding written_on_literals has sum_below
each_code = refl

-- ---- sheets

sheet_of_triangle : sheet_text triangle (0 ∷ 1 ∷ 2 ∷ [])
    ≡ codes "position,scene,first,last,days,working,holding,pay\n1,s1,1,1,1,2,0,3\n2,s2,2,2,1,2,1,6\n3,s3,3,3,1,2,0,4\ntotal,,,,3,,,13\n"
unfolding written_on_literals has sum_below
sheet_of_triangle = refl

-- days of their own, hold rates of their own, and an actor who works in no scene
abbrev house : InstanceData
house = record {
  scenes = scene (codes "Yard") 2 1 ∷ scene (codes "Hall") 3 2 ∷ scene (codes "Roof") 1 1 ∷ [];
  actors = actor (codes "Ann") 10 4 ∷ actor (codes "Bob") 20 5 ∷ actor (codes "Cem") 30 6 ∷ [];
  pairs = [];
}

sheet_with_a_wait : sheet_text house (0 ∷ 1 ∷ 2 ∷ [])
    ≡ codes "position,scene,first,last,days,working,holding,pay\n1,Yard,1,2,2,1,0,20\n2,Hall,3,5,3,1,1,72\n3,Roof,6,6,1,1,0,10\ntotal,,,,6,,,102\n"
unfolding written_on_literals has sum_below
sheet_with_a_wait = refl

sheet_without_a_wait : sheet_text house (1 ∷ 0 ∷ 2 ∷ [])
    ≡ codes "position,scene,first,last,days,working,holding,pay\n1,Hall,1,3,3,1,0,60\n2,Yard,4,5,2,1,0,20\n3,Roof,6,6,1,1,0,10\ntotal,,,,6,,,90\n"
unfolding written_on_literals has sum_below
sheet_without_a_wait = refl
