-- What a field of a plan text may be, by its bytes without the blanks at its ends.
use Rattle.std.specs.Prelude.{ℕ, Bool, ◌&&◌, ◌||◌, nat_le, nat_lt, length, map, if◌then◌else◌}
use Rattle.std.specs.List.{list_all, position_or_len}
use Rattle.std.specs.Char.{is_ascii_hexdigit}
use Rattle.std.specs.Str.{bytes_eq}
use Rattle.std.specs.Str.Parse.{digits_value}
use Rattle.strip_model.specs.declared.kind.Kind.{Kind}
use Rattle.strip_model.specs.declared.kind.Kind.TheVariants.{Plain, Pairs, Groups, Arrivals}
use Rattle.strip_model.specs.Data.{InstanceData}
use Rattle.strip_text.specs.Field.{Field}
use Rattle.strip_text.specs.Number.{is_number}
use Rattle.strip_proof.specs.declared.plan.Status.{Status}
use Rattle.strip_proof.specs.declared.plan.Status.TheVariants.{Optimal, Bounded}
use Rattle.strip_proof.specs.Rows.{status_word, kind_word}

-- the word of a status, and the status
abbrev pub is_status : Field → Bool
is_status field = bytes_eq field (status_word Optimal) || bytes_eq field (status_word Bounded)

abbrev pub status_of : Field → Status
status_of field = if bytes_eq field (status_word Optimal) then Optimal else Bounded

-- the word of a kind of bounds, and the kind
abbrev pub is_kind : Field → Bool
is_kind field =
    bytes_eq field (kind_word Plain) || bytes_eq field (kind_word Pairs) || bytes_eq field (kind_word Groups) || bytes_eq field (kind_word Arrivals)

abbrev pub kind_of : Field → Kind
kind_of field =
    if bytes_eq field (kind_word Plain) then Plain else (
    if bytes_eq field (kind_word Pairs) then Pairs else (if bytes_eq field (kind_word Groups) then Groups else Arrivals)
    )

-- a number below 2 ^ 63
abbrev pub is_amount : Field → Bool
is_amount field = is_number 0 9_223_372_036_854_775_807 field

-- 1 to 16 hexadecimal digits in either case, and the set that they spell
abbrev pub is_set : Field → Bool
is_set field = nat_le 1 (length field) && nat_le (length field) 16 && list_all is_ascii_hexdigit field

abbrev pub set_of : Field → ℕ
set_of field = digits_value 16 field

-- the number of the first scene with this name; where no scene has it, as many as there are scenes
abbrev pub scene_of : InstanceData → Field → ℕ
scene_of inst name = position_or_len (bytes_eq name) (map (λ scene. scene.name) inst.scenes)

-- some scene has the name
abbrev pub is_scene : InstanceData → Field → Bool
is_scene inst name = nat_lt (scene_of inst name) (length inst.scenes)
