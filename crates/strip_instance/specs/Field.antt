-- What a field of an instance text may be, by its bytes without the blanks at its ends.
use Rattle.std.specs.Prelude.{ℕ, Bool, not, ◌==◌, ◌&&◌, ◌||◌, nat_le, [], length, codes}
use Rattle.std.specs.List.{list_all}
use Rattle.std.specs.Str.{bytes_eq, str_eq_ignore_ascii_case}
use Rattle.strip_text.specs.Field.{Field}

-- the word in any case of ASCII letters
abbrev pub is_word : Field → Field → Bool
is_word word field = str_eq_ignore_ascii_case field word

-- no control byte
abbrev pub is_name_byte : ℕ → Bool
is_name_byte byte = nat_le 32 byte && not (byte == 127)

-- of 1 to 64 bytes without control bytes
abbrev pub is_name : Field → Bool
is_name field = nat_le 1 (length field) && nat_le (length field) 64 && list_all is_name_byte field

-- a word that is kept for rows of other kinds
abbrev pub is_kept : Field → Bool
is_kept field = is_word (codes "rate") field || is_word (codes "hold") field || is_word (codes "before") field

abbrev pub is_scene_name : Field → Bool
is_scene_name field = is_name field && not (is_kept field)

-- the mark of an actor who works in the scene, and that of one who doesn't
abbrev pub is_work_mark : Field → Bool
is_work_mark field = bytes_eq field (codes "x") || bytes_eq field (codes "X") || bytes_eq field (codes "1")

abbrev pub is_rest_mark : Field → Bool
is_rest_mark field = bytes_eq field [] || bytes_eq field (codes ".") || bytes_eq field (codes "-") || bytes_eq field (codes "0")

abbrev pub is_mark : Field → Bool
is_mark field = is_work_mark field || is_rest_mark field
