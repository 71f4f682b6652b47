-- Worked rows and texts of plans, by computation.
use Rattle.std.proofs.Common.{◌≡◌, [], ◌∷◌, codes, refl}
use Rattle.csv.specs.Writing.{escaped}
use Rattle.strip_text.proofs.OnLiterals.{written_on_literals}
use Rattle.strip_text.specs.Rows.{csv_row}
use Rattle.strip_model.specs.declared.kind.Kind.TheVariants.{Plain, Pairs, Groups, Arrivals}
use Rattle.strip_model.specs.Data.{InstanceData}
use Rattle.strip_proof.specs.declared.plan.Status.TheVariants.{Optimal, Bounded}
use Rattle.strip_proof.specs.Plan.{PlanData}
use Rattle.strip_proof.specs.Rows.{hex_digits, line_row, plan_text, bare_text}

small_line : csv_row (line_row (record { set = 7; bound = 13 })) ≡ codes "line,0000000000000007,13\n"
unfolding written_on_literals hex_digits
small_line = refl

-- all digits, and the greatest bound
great_line : csv_row (line_row (record { set = 0xFEDCBA9876543210; bound = 0xFFFFFFFFFFFFFFFF })) ≡ codes "line,fedcba9876543210,18446744073709551615\n"
unfolding written_on_literals hex_digits
great_line = refl

-- three scenes of two actors each, one day each
abbrev triangle : InstanceData
triangle = record {
  scenes =
      record { name = codes "s1"; days = 1; cast = 3 } ∷ record { name = codes "s2"; days = 1; cast = 6 } ∷ record { name = codes "s3"; days = 1; cast = 5 } ∷ [];
  actors = record { name = codes "a"; rate = 1; hold = 1 } ∷ record { name = codes "b"; rate = 2; hold = 2 } ∷ record { name = codes "c"; rate = 3; hold = 3 } ∷ [];
  pairs = [];
}

abbrev proved : PlanData
proved = record { status = Optimal; kind = Pairs; cost = 13; bound = 13; held = 1; order = 0 ∷ 1 ∷ 2 ∷ []; lines = record { set = 7; bound = 13 } ∷ [] }

proved_text :
    plan_text triangle proved
    ≡ codes "plan,2\nbounds,pairs\nstatus,optimal\ncost,13\nbound,13\nlines,1\norder,s1,s2,s3\nproof,1\nline,0000000000000007,13\n"
unfolding written_on_literals hex_digits
proved_text = refl

-- a search that ended early has more lines than are printed
abbrev ended_early : PlanData
ended_early = record { status = Bounded; kind = Groups; cost = 14; bound = 12; held = 5; order = 1 ∷ 2 ∷ 0 ∷ []; lines = [] }

bare : bare_text triangle ended_early ≡ codes "plan,2\nbounds,groups\nstatus,bounded\ncost,14\nbound,12\nlines,5\norder,s2,s3,s1\nproof,0\n"
unfolding written_on_literals hex_digits
bare = refl

bare_of_arrivals :
    bare_text triangle (record { status = Optimal; kind = Arrivals; cost = 13; bound = 13; held = 0; order = 0 ∷ 1 ∷ 2 ∷ []; lines = [] })
    ≡ codes "plan,2\nbounds,arrivals\nstatus,optimal\ncost,13\nbound,13\nlines,0\norder,s1,s2,s3\nproof,0\n"
unfolding written_on_literals hex_digits
bare_of_arrivals = refl

-- a name is quoted where it has to be
abbrev one_scene : InstanceData
one_scene = record { scenes = record { name = codes "INT. HOUSE, DAY"; days = 2; cast = 0 } ∷ []; actors = []; pairs = [] }

quoted_name :
    bare_text one_scene (record { status = Optimal; kind = Plain; cost = 0; bound = 0; held = 0; order = 0 ∷ []; lines = [] })
    ≡ codes "plan,2\nbounds,plain\nstatus,optimal\ncost,0\nbound,0\nlines,0\norder,\"INT. HOUSE, DAY\"\nproof,0\n"
unfolding written_on_literals escaped
quoted_name = refl
