-- Worked examples of what plan texts say, by computation.
use Rattle.std.proofs.Common.{◌≡◌, [], ◌∷◌, Ok, Err, Some, codes, refl}
use Rattle.strip_text.proofs.OnLiterals.{read_on_literals}
use Rattle.strip_model.specs.declared.kind.Kind.TheVariants.{Pairs, Groups, Arrivals}
use Rattle.strip_model.specs.Data.{InstanceData}
use Rattle.strip_proof.specs.declared.plan.Status.TheVariants.{Optimal, Bounded}
use Rattle.strip_proof.specs.declared.fault.PlanFault.TheVariants.{BadRow, Missing, UnknownScene, TooManyLines}
use Rattle.strip_text.specs.Checks.{first_fault}
use Rattle.strip_proof.specs.Faults.{count_checks, line_checks}
use Rattle.strip_proof.specs.Text.{says}

-- two scenes of one day
abbrev two : InstanceData
two = record { scenes = record { name = codes "s1"; days = 1; cast = 0 } ∷ record { name = codes "EXT. ROAD, DAY"; days = 1; cast = 0 } ∷ []; actors = []; pairs = [] }

-- the first format: any number of line rows, and pairs
first_format :
    says two (codes "status,bounded\ncost,013\nbound,12\nlines,5\norder,\"EXT. ROAD, DAY\",s1\nline,fF,13\nline,0000000000000001,0\n")
    ≡ Ok (record {
      status = Bounded;
      kind = Pairs;
      cost = 13;
      bound = 12;
      held = 5;
      order = 1 ∷ 0 ∷ [];
      lines = record { set = 255; bound = 13 } ∷ record { set = 1; bound = 0 } ∷ [];
    })
unfolding read_on_literals
first_format = refl

-- the second: a mark in front, returns, blanks round fields, no line feed at the end
second_format :
    says two (0xEF ∷ 0xBB ∷ 0xBF ∷ codes "plan,2\r\nbounds, groups\r\nstatus,optimal\r\ncost,1 \r\nbound,1\r\nlines,2\r\norder,s1,s1\r\n\r\nproof,1\r\nline,3,9")
    ≡ Ok (record { status = Optimal; kind = Groups; cost = 1; bound = 1; held = 2; order = 0 ∷ 0 ∷ []; lines = record { set = 3; bound = 9 } ∷ [] })
unfolding read_on_literals
second_format = refl

kind_of_arrivals :
    says two (codes "plan,2\nbounds,arrivals\nstatus,optimal\ncost,1\nbound,1\nlines,0\norder,s1\nproof,0\n")
    ≡ Ok (record { status = Optimal; kind = Arrivals; cost = 1; bound = 1; held = 0; order = 0 ∷ []; lines = [] })
unfolding read_on_literals
kind_of_arrivals = refl

-- a row that isn't there
empty : says two (codes "") ≡ Err (Missing 1)
unfolding read_on_literals
empty = refl

no_order : says two (codes "status,optimal\ncost,1\nbound,1\nlines,0\n") ≡ Err (Missing 5)
unfolding read_on_literals
no_order = refl

no_bounds : says two (codes "plan,2\n") ≡ Err (Missing 2)
unfolding read_on_literals
no_bounds = refl

no_count : says two (codes "plan,2\nbounds,plain\nstatus,optimal\ncost,1\nbound,1\nlines,1\norder,s1\n") ≡ Err (Missing 8)
unfolding read_on_literals
no_count = refl

no_last_line :
    says two (codes "plan,2\nbounds,plain\nstatus,optimal\ncost,1\nbound,1\nlines,2\norder,s1\nproof,2\nline,3,9\n") ≡ Err (Missing 10)
unfolding read_on_literals
no_last_line = refl

-- a row that isn't the one due
surplus_row : says two (codes "plan,2\nbounds,plain\nstatus,optimal\ncost,1\nbound,1\nlines,1\norder,s1\nproof,0\nline,3,9\n") ≡ Err (BadRow 9)
unfolding read_on_literals
surplus_row = refl

other_format : says two (codes "plan,3\nbounds,plain\n") ≡ Err (BadRow 1)
unfolding read_on_literals
other_format = refl

format_in_capitals : says two (codes "Plan,2\nbounds,plain\n") ≡ Err (BadRow 1)
unfolding read_on_literals
format_in_capitals = refl

other_kind : says two (codes "plan,2\nbounds,pair\n") ≡ Err (BadRow 2)
unfolding read_on_literals
other_kind = refl

third_field : says two (codes "status,optimal,\ncost,1\n") ≡ Err (BadRow 1)
unfolding read_on_literals
third_field = refl

empty_fields : says two (codes "status,optimal\n,,\ncost,1\n") ≡ Err (BadRow 2)
unfolding read_on_literals
empty_fields = refl

greatest_number : says two (codes "status,optimal\ncost,9223372036854775808\n") ≡ Err (BadRow 2)
unfolding read_on_literals
greatest_number = refl

seventeen_digits : says two (codes "status,optimal\ncost,1\nbound,1\nlines,0\norder,s1\nline,00000000000000001,1\n") ≡ Err (BadRow 6)
unfolding read_on_literals
seventeen_digits = refl

-- the order's row is told before its names, and they before a later row
no_name : says two (codes "status,optimal\ncost,1\nbound,1\nlines,0\norder\n") ≡ Err (BadRow 5)
unfolding read_on_literals
no_name = refl

unknown_scene : says two (codes "status,optimal\ncost,1\nbound,1\nlines,0\norder,s1,s2\nline\n") ≡ Err (UnknownScene 5)
unfolding read_on_literals
unknown_scene = refl

unknown_scene_second : says two (codes "plan,2\nbounds,plain\nstatus,optimal\ncost,1\nbound,1\nlines,1\norder,S1\nproof\n") ≡ Err (UnknownScene 7)
unfolding read_on_literals
unknown_scene_second = refl

-- a line more than there may be, in the one format and in the other
too_many : first_fault (line_checks 16_777_216 16_777_222 (codes "line" ∷ codes "3" ∷ codes "9" ∷ [])) ≡ Some TooManyLines
too_many = refl

no_line : first_fault (line_checks 16_777_216 16_777_222 (codes "line" ∷ codes "3" ∷ [])) ≡ Some (BadRow 16_777_222)
no_line = refl

too_great_a_count : first_fault (count_checks 8 (codes "proof" ∷ codes "16777217" ∷ [])) ≡ Some TooManyLines
too_great_a_count = refl
