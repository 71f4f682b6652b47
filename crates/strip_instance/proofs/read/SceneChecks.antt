-- The checks of a scene's row, one behind the other.
use Rattle.std.proofs.Common.{◌≡◌, ◌<◌, ◌==◌, ◌∙◌, ℕ, nat_lt, Bool, true, false, not, List, [], ◌∷◌, length, map, None, Some, inr, sym, ap, arith}
use Rattle.std.specs.Str.{is_utf8}
use Rattle.std.proofs.lemmas.Bool.{eq-eqb, lt-ltb}
use Rattle.std.proofs.lemmas.List.{length-map}
use Rattle.strip_text.specs.Field.{Field}
use Rattle.strip_text.specs.Number.{is_number}
use Rattle.strip_text.specs.Rows.{Row, field_of}
use Rattle.strip_text.specs.Checks.{check, checks_of_one, first_fault}
use Rattle.strip_text.proofs.Making.{fails, makes-behind, passes}
use Rattle.strip_text.proofs.Passed.{held}
use Rattle.strip_model.specs.Data.{SceneData}
use Rattle.strip_instance.specs.Fault.{FaultData, TooManyScenes, Width, NotUtf8, BadName, DuplicateScene, BadDays}
use Rattle.strip_instance.specs.Checks.{Checks}
use Rattle.strip_instance.specs.Field.{is_scene_name}
use Rattle.strip_instance.specs.Faults.{contains, mark_checks, scene_checks}
use Rattle.strip_instance.specs.Text.{scene_of}
use Rattle.strip_instance.proofs.read.EarlierNames.{scene_names}
use Rattle.strip_instance.proofs.read.Whole.{Tells}

-- text that passed the check
pub is_text : (field : Field) (row : Row) (number : ℕ) → field ≡ field_of row 0 → first_fault (checks_of_one (is_utf8 field) (NotUtf8 number 1)) ≡ None
    → is_utf8 (field_of row 0) ≡ true
is_text field row number its none = ap is_utf8 (sym its) ∙ held (is_utf8 field) (NotUtf8 number 1) [] (record { none = none })

-- a row that passed the first checks, up to that of its name, where these are the scenes before, made of the earlier rows
module _ (header row : Row) (number : ℕ) (scenes : List SceneData) (known : Bool) (few : length scenes < 200) (wide : length row ≡ length header)
    (text : is_utf8 (field_of row 0) ≡ true) (named : is_scene_name (field_of row 0) ≡ true)
    (is : known ≡ contains (map (λ (scene : SceneData). scene.name) scenes) (field_of row 0)) (earlier : List Row) (same : scenes ≡ map scene_of earlier) where
  abbrev own : Bool
  own = not (contains (map (λ (other : Row). field_of other 0) earlier) (field_of row 0))

  abbrev dated : Bool
  dated = is_number 1 99 (field_of row 1)

  abbrev later : Checks
  later = check own (DuplicateScene number) ∷ check dated (BadDays number) ∷ mark_checks number row

  few_before : nat_lt (length earlier) 200 ≡ true
  few_before = lt-ltb (length earlier) 200 (omega (arith, few, ap length same, length-map earlier scene_of))

  own-is : not known ≡ own
  own-is = ap not (is ∙ ap (λ (names : List Field). contains names (field_of row 0)) (scene_names scenes earlier same))

  abbrev named_later : Checks
  named_later = check (is_scene_name (field_of row 0)) (BadName number 1) ∷ later

  abbrev text_later : Checks
  text_later = check (is_utf8 (field_of row 0)) (NotUtf8 number 1) ∷ named_later

  abbrev wide_later : Checks
  wide_later = check (length row == length header) (Width number) ∷ text_later

  -- the fault of what follows
  behind : (fault : FaultData) → Tells fault later → Tells fault (scene_checks header earlier number row)
  behind fault tells =
      makes-behind (nat_lt (length earlier) 200) TooManyScenes wide_later fault few_before
      (makes-behind (length row == length header) (Width number) text_later fault (eq-eqb (length row) (length header) wide)
      (makes-behind (is_utf8 (field_of row 0)) (NotUtf8 number 1) named_later fault text
      (makes-behind (is_scene_name (field_of row 0)) (BadName number 1) later fault named tells)))

  pub name-fault : known ≡ true → Tells (DuplicateScene number) (scene_checks header earlier number row)
  name-fault found =
      behind (DuplicateScene number) (inr (fails own (DuplicateScene number) (check dated (BadDays number) ∷ mark_checks number row) (sym own-is ∙ ap not found)))

  pub days-fault : known ≡ false → dated ≡ false → Tells (BadDays number) (scene_checks header earlier number row)
  days-fault new none =
      behind (BadDays number) (inr (passes own (DuplicateScene number) (check dated (BadDays number) ∷ mark_checks number row) (Some (BadDays number)) (sym own-is ∙ ap not new)
      (fails dated (BadDays number) (mark_checks number row) none)))

  pub marks-fault : (fault : FaultData) → known ≡ false → dated ≡ true → Tells fault (mark_checks number row) → Tells fault (scene_checks header earlier number row)
  marks-fault fault new some tells =
      behind fault (makes-behind own (DuplicateScene number) (check dated (BadDays number) ∷ mark_checks number row) fault (sym own-is ∙ ap not new)
      (makes-behind dated (BadDays number) (mark_checks number row) fault some tells))

  pub no-fault : known ≡ false → dated ≡ true → first_fault (mark_checks number row) ≡ None → first_fault (scene_checks header earlier number row) ≡ None
  no-fault new some none =
      passes (nat_lt (length earlier) 200) TooManyScenes wide_later None few_before
      (passes (length row == length header) (Width number) text_later None (eq-eqb (length row) (length header) wide)
      (passes (is_utf8 (field_of row 0)) (NotUtf8 number 1) named_later None text
      (passes (is_scene_name (field_of row 0)) (BadName number 1) later None named
      (passes own (DuplicateScene number) (check dated (BadDays number) ∷ mark_checks number row) None (sym own-is ∙ ap not new)
      (passes dated (BadDays number) (mark_checks number row) None some none)))))
