-- Worked examples of what texts say, by computation.
use Rattle.std.proofs.Common.{◌≡◌, ℕ, List, [], ◌∷◌, ◌++◌, Ok, Err, codes, refl}
use Rattle.strip_text.proofs.OnLiterals.{read_on_literals}
use Rattle.strip_model.specs.declared.pair.Pair.{Pair}
use Rattle.strip_model.specs.Data.{InstanceData}
use Rattle.strip_instance.specs.Fault.{BadBefore, Cycle, Empty, BadHeader, NoRateRow, Width, BadName, DuplicateActor, BadDays, BadRate, BadHold, BadMark, NoScene, NotUtf8}
use Rattle.strip_instance.specs.Text.{says}

no_row : says (codes "") ≡ Err Empty
unfolding read_on_literals
no_row = refl

mark_at_start_alone : says (0xEF ∷ 0xBB ∷ 0xBF ∷ []) ≡ Err Empty
unfolding read_on_literals
mark_at_start_alone = refl

-- a text that is cut inside quotes, or behind a field
cut_in_quotes : says (codes "scene,days,a,b\nrate,,5,6\n\"s1,1,x,x\n") ≡ Err (Width 3)
unfolding read_on_literals
cut_in_quotes = refl

cut_behind_field : says (codes "scene,days,a,b\nrate,,5,6\ns1,1,x") ≡ Err (Width 3)
unfolding read_on_literals
cut_behind_field = refl

other_words : says (codes "scene,day,a\nrate,,5\ns1,1,x\n") ≡ Err BadHeader
unfolding read_on_literals
other_words = refl

no_rates : says (codes "scene,days,a\ns1,1,x\n") ≡ Err NoRateRow
unfolding read_on_literals
no_rates = refl

no_scene : says (codes "scene,days,a\nrate,,5\n") ≡ Err NoScene
unfolding read_on_literals
no_scene = refl

no_text_name : says (codes "scene,days," ++ 0xFF ∷ codes "\nrate,,5\ns1,1,x\n") ≡ Err (NotUtf8 1 3)
unfolding read_on_literals
no_text_name = refl

-- of two faults the first is said: a rate before a later row, a name before the rates, the width before a name in the row
rate_before_row : says (codes "scene,days,a\nrate,,y\ns1,1\n") ≡ Err (BadRate 3)
unfolding read_on_literals
rate_before_row = refl

name_before_rates : says (codes "scene,days,a,a\ns1,1,x,x\n") ≡ Err (DuplicateActor 4)
unfolding read_on_literals
name_before_rates = refl

width_before_name : says (codes "scene,days,a,b\nrate,,5,6\n,1,x\n") ≡ Err (Width 3)
unfolding read_on_literals
width_before_name = refl

no_days : says (codes "scene,days,a,b\nrate,,5,6\ns1,0,x,x\n") ≡ Err (BadDays 3)
unfolding read_on_literals
no_days = refl

kept_word : says (codes "scene,days,a,b\nrate,,5,6\nRATE,1,x,x\n") ≡ Err (BadName 3 1)
unfolding read_on_literals
kept_word = refl

-- a row of empty fields is passed over, and it is counted
counted_row : says (codes "scene,days,a,b\nrate,,5,6\n,,,\ns1,1,x,y\n") ≡ Err (BadMark 4 4)
unfolding read_on_literals
counted_row = refl

each_mark : says (codes "scene,days,a,b,c\nrate,,1,2,3\ns1,1,x,.,X\ns2,99,-,1,0\n") ≡ Ok (record {
  scenes = record { name = codes "s1"; days = 1; cast = 5 } ∷ record { name = codes "s2"; days = 99; cast = 2 } ∷ [];
  actors = record { name = codes "a"; rate = 1; hold = 1 } ∷ record { name = codes "b"; rate = 2; hold = 2 } ∷ record { name = codes "c"; rate = 3; hold = 3 } ∷ [];
  pairs = [];
})
unfolding read_on_literals
each_mark = refl

-- as a spreadsheet may write it
from_spreadsheet : says (codes "Scene, Days ,Ann,Bob\r\nRate,,100,0250\r\n Yard ,02,X, \r\n,,,\r\nHall,1,1,x\r\n") ≡ Ok (record {
  scenes = record { name = codes "Yard"; days = 2; cast = 1 } ∷ record { name = codes "Hall"; days = 1; cast = 3 } ∷ [];
  actors = record { name = codes "Ann"; rate = 100; hold = 100 } ∷ record { name = codes "Bob"; rate = 250; hold = 250 } ∷ [];
  pairs = [];
})
unfolding read_on_literals
from_spreadsheet = refl

-- names with commas and quotes
quoted_names : says (codes "scene,days,\"Ann, Jr.\"\nrate,,5\n\"\"\"Hall\"\", later\",3,x\n") ≡ Ok (record {
  scenes = record { name = codes "\"Hall\", later"; days = 3; cast = 1 } ∷ [];
  actors = record { name = codes "Ann, Jr."; rate = 5; hold = 5 } ∷ [];
  pairs = [];
})
unfolding read_on_literals
quoted_names = refl

-- hold rates
triangle : InstanceData
triangle = record {
  scenes = record { name = codes "s1"; days = 1; cast = 3 } ∷ record { name = codes "s2"; days = 1; cast = 6 } ∷ record { name = codes "s3"; days = 1; cast = 5 } ∷ [];
  actors = record { name = codes "a"; rate = 1; hold = 5 } ∷ record { name = codes "b"; rate = 2; hold = 1 } ∷ record { name = codes "c"; rate = 3; hold = 4 } ∷ [];
  pairs = [];
}

hold_row : says (codes "scene,days,a,b,c\nrate,,1,2,3\nhold,,5,1,4\ns1,1,x,x,\ns2,1,,x,x\ns3,1,x,,x\n") ≡ Ok triangle
unfolding read_on_literals triangle
hold_row = refl

-- the word in any case, and a field behind it that isn't read
in_capitals : says (codes "scene,days,a,b\nrate,,1,2\n HOLD\t,per day, 05 ,\t0\n,,,\ns1,1,x,.\n") ≡ Ok (record {
  scenes = record { name = codes "s1"; days = 1; cast = 1 } ∷ [];
  actors = record { name = codes "a"; rate = 1; hold = 5 } ∷ record { name = codes "b"; rate = 2; hold = 0 } ∷ [];
  pairs = [];
})
unfolding read_on_literals
in_capitals = refl

no_hold_rate : says (codes "scene,days,a,b,c\nrate,,1,2,3\nhold,,1,x,1\ns1,1,x\n") ≡ Err (BadHold 4)
unfolding read_on_literals
no_hold_rate = refl

-- its width is told before a bad hold rate, and a bad rate before its width
width_before_hold_rate : says (codes "scene,days,a,b,c\nrate,,1,2,3\nhold,,x,1\ns1,1,x\n") ≡ Err (Width 3)
unfolding read_on_literals
width_before_hold_rate = refl

rate_before_hold_row : says (codes "scene,days,a,b,c\nrate,,1,2,y\nhold,,x,1\n") ≡ Err (BadRate 5)
unfolding read_on_literals
rate_before_hold_row = refl

-- there is one hold row, and the rows behind it keep their numbers
second_hold_row : says (codes "scene,days,a\nrate,,1\nhold,,5\nhold,,5\ns1,1,x\n") ≡ Err (BadName 4 1)
unfolding read_on_literals
second_hold_row = refl

hold_behind_scene : says (codes "scene,days,a\nrate,,1\ns1,1,x\nhold,,5\n") ≡ Err (BadName 4 1)
unfolding read_on_literals
hold_behind_scene = refl

row_behind_hold_row : says (codes "scene,days,a\nrate,,1\nhold,,5\n,,\ns1,1,y\n") ≡ Err (BadMark 5 3)
unfolding read_on_literals
row_behind_hold_row = refl

hold_row_alone : says (codes "scene,days,a\nrate,,1\nhold,,5\n") ≡ Err NoScene
unfolding read_on_literals
hold_row_alone = refl

-- a hold row that tells nothing isn't written again
same_rates : InstanceData
same_rates = record {
  scenes = record { name = codes "s1"; days = 1; cast = 1 } ∷ [];
  actors = record { name = codes "a"; rate = 1; hold = 1 } ∷ record { name = codes "b"; rate = 2; hold = 2 } ∷ [];
  pairs = [];
}

same_rates_read : says (codes "scene,days,a,b\nrate,,1,2\nhold,,01,2\ns1,1,x,.\n") ≡ Ok same_rates
unfolding read_on_literals same_rates
same_rates_read = refl

-- ---- which scene is shot before which

three : List Pair → InstanceData
three pairs = record {
  scenes = record { name = codes "s1"; days = 1; cast = 3 } ∷ record { name = codes "s2"; days = 1; cast = 5 } ∷ record { name = codes "s3"; days = 1; cast = 6 } ∷ [];
  actors = record { name = codes "a"; rate = 1; hold = 1 } ∷ record { name = codes "b"; rate = 2; hold = 2 } ∷ record { name = codes "c"; rate = 3; hold = 3 } ∷ [];
  pairs = pairs;
}

abbrev three_rows : List ℕ
three_rows = codes "scene,days,a,b,c\nrate,,1,2,3\ns1,1,x,x,.\ns2,1,x,.,x\ns3,1,.,x,x\n"

two_pairs : says (three_rows ++ codes "before,s1,s2\nbefore,s3,s2\n") ≡ Ok (three (record { first = 0; then = 1 } ∷ record { first = 2; then = 1 } ∷ []))
unfolding read_on_literals three
two_pairs = refl

-- the word in any case, blanks, a row that is passed over, empty fields behind the names, and a pair that was said before
said_again : says (three_rows ++ codes "BEFORE, s1 ,s2\n,,\nbefore,s3,s2,,\nbefore,s1,s2\n") ≡ Ok (three (record { first = 0; then = 1 } ∷ record { first = 2; then = 1 } ∷ []))
unfolding read_on_literals three
said_again = refl

cycle_of_three : says (three_rows ++ codes "before,s1,s2\nbefore,s2,s3\nbefore,s3,s1\n") ≡ Err (Cycle 8 (0 ∷ 1 ∷ 2 ∷ []) (codes "s1" ∷ codes "s2" ∷ codes "s3" ∷ []))
unfolding read_on_literals
cycle_of_three = refl

no_such_scene : says (three_rows ++ codes "before,s1,s9\n") ≡ Err (BadBefore 6)
unfolding read_on_literals
no_such_scene = refl

equal_names : says (three_rows ++ codes "before,s1,s1\n") ≡ Err (BadBefore 6)
unfolding read_on_literals
equal_names = refl

two_fields : says (three_rows ++ codes "before,s1\n") ≡ Err (BadBefore 6)
unfolding read_on_literals
two_fields = refl

fourth_field : says (three_rows ++ codes "before,s1,s2,s3\n") ≡ Err (BadBefore 6)
unfolding read_on_literals
fourth_field = refl

scene_behind : says (three_rows ++ codes "before,s1,s2\ns4,1,x,x,x\n") ≡ Err (BadBefore 7)
unfolding read_on_literals
scene_behind = refl

-- a pair in a text without scenes is no pair, and where all rows are passed over there is no scene
pair_alone : says (codes "scene,days,a\nrate,,5\nbefore,s1,s2\n") ≡ Err (BadBefore 3)
unfolding read_on_literals
pair_alone = refl

-- the least of the shortest ways
shortest_way_back : says (codes "scene,days\nrate,\ns1,1\ns2,1\ns3,1\ns4,1\nbefore,s1,s3\nbefore,s1,s2\nbefore,s3,s4\nbefore,s2,s4\nbefore,s4,s1\n")
    ≡ Err (Cycle 11 (0 ∷ 1 ∷ 3 ∷ []) (codes "s1" ∷ codes "s2" ∷ codes "s4" ∷ []))
unfolding read_on_literals
shortest_way_back = refl
