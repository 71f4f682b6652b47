-- Rows that are read one at a time, each with its checks.
use Rattle.std.proofs.Common.{◌≡◌, ◌<◌, ◌+◌, ℕ, Bool, true, false, List, [], ◌∷◌, ◌++◌, length, take, None, refl, sym, ap, ◌∙◌, subst, arith, append_assoc}
use Rattle.std.proofs.Math.Seq.{take-append_seam, get_or-append_seam}
use Rattle.std.proofs.lemmas.List.{append-nil, length-append}
use Rattle.strip_text.specs.Rows.{Row, row_of}
use Rattle.strip_text.specs.Checks.{below, first_fault}
use Rattle.strip_text.proofs.Making.{makes-at, below-more}
use Rattle.strip_instance.specs.Fault.{FaultData}
use Rattle.strip_instance.specs.Checks.{Checks}
use Rattle.strip_instance.specs.Shown.{rows_from}
use Rattle.strip_instance.proofs.read.Whole.{Tells, tells-same}

-- the checks of the row at a place, by the rows before it, its number and itself
abbrev pub checks_of : (List Row → ℕ → Row → Checks) → ℕ → List Row → ℕ → Checks
checks_of its first rows place = its (take place rows) (first + place) (row_of rows place)

-- the checks of a row, what is made of rows, and the rows, of which the first has this number
module _ {X : Type 0} (its : List Row → ℕ → Row → Checks) (made_of : List Row → X) (first : ℕ) (rows : List Row) where
  -- the rows before those that are left hold, and this was made of them; the first that is left has this number
  pub record IsRead (there : Bool) (number : ℕ) (left : List Row) (so_far : X) : Type 0 where
    pub earlier : List Row
    pub whole : rows ≡ earlier ++ left
    pub counted : (there ≡ true) → number ≡ first + length earlier
    pub pass : first_fault (below (length earlier) (checks_of its first rows)) ≡ None
    pub made : so_far ≡ made_of earlier

  -- before the first row none was read
  pub none_read : (there : Bool) {so_far : X} → so_far ≡ made_of [] → IsRead there first rows so_far
  none_read there none = record { earlier = []; whole = refl; counted = λ is. omega arith; pass = refl; made = none }

  -- of the rows that are left, or a part of them, the one at hand is the first
  pub at_hand : (part : List Row → List Row) (row : Row) (number told : ℕ) (left : List Row) (there : Bool) (so_far : X)
      → there ≡ true → told ≡ number → IsRead there number (part (rows_from there row left)) so_far → IsRead true told (part (row ∷ left)) so_far
  at_hand part row number told left true so_far is same read = subst (λ n. IsRead true n (part (row ∷ left)) so_far) (sym same) read
  at_hand part row number told left false so_far is same read = cc is

  -- none is left
  pub at_end : (part : List Row → List Row) (row : Row) (number : ℕ) (left : List Row) (there : Bool) (so_far : X)
      → there ≡ false → IsRead there number (part (rows_from there row left)) so_far → IsRead false number (part []) so_far
  at_end part row number left true so_far is read = cc is
  at_end part row number left false so_far is read = read

  -- the checks of the row at its place
  checks-at : (row : Row) (number : ℕ) (earlier left : List Row) → rows ≡ earlier ++ row ∷ left → number ≡ first + length earlier
      → checks_of its first rows (length earlier) ≡ its earlier number row
  checks-at row number earlier left whole counted =
      ap (λ (list : List Row). checks_of its first list (length earlier)) whole
      ∙ ap (λ (list : List Row). its list (first + length earlier) (row_of (earlier ++ row ∷ left) (length earlier))) (take-append_seam earlier (row ∷ left))
      ∙ ap (λ (r : Row). its earlier (first + length earlier) r) (get_or-append_seam earlier row left [])
      ∙ ap (λ n. its earlier n row) (sym counted)

  -- what the checks of the row at hand say, whichever rows this was made of
  abbrev pub TellsRow : ℕ → Row → X → (Checks → Type 0) → Type 0
  TellsRow number row so_far Say = (earlier : List Row) → so_far ≡ made_of earlier → Say (its earlier number row)

  -- one row more
  pub one_more_read : (row : Row) (number : ℕ) (left : List Row) (so_far : X) (there_next : Bool) (number_next : ℕ) (left_next : List Row) (so_far_next : X)
      → IsRead true number (row ∷ left) so_far → TellsRow number row so_far (λ checks. first_fault checks ≡ None)
      → ((earlier : List Row) → so_far ≡ made_of earlier → so_far_next ≡ made_of (earlier ++ row ∷ []))
      → left ≡ left_next → ((there_next ≡ true) → number_next ≡ number + 1)
      → IsRead there_next number_next left_next so_far_next
  one_more_read row number left so_far there_next number_next left_next so_far_next is holds joined next counted =
      let earlier = is.earlier in
      let own = is.counted refl in
      let long : length earlier + 1 ≡ length (earlier ++ row ∷ []) = sym (length-append earlier (row ∷ [])) in
      let here : first_fault (checks_of its first rows (length earlier)) ≡ None
      = ap first_fault (checks-at row number earlier left is.whole own) ∙ holds earlier is.made in
      record {
        earlier = earlier ++ row ∷ [];
        whole = is.whole ∙ sym (append_assoc earlier (row ∷ []) left) ∙ ap (λ (list : List Row). (earlier ++ row ∷ []) ++ list) next;
        counted = λ there. omega (arith, counted there, own, long);
        pass = subst (λ n. first_fault (below n (checks_of its first rows)) ≡ None) long (below-more (length earlier) (checks_of its first rows) is.pass here);
        made = joined earlier is.made;
      }

  -- a fault of the row at hand
  pub row-fault : (row : Row) (number : ℕ) (left : List Row) (so_far : X) (fault : FaultData)
      → IsRead true number (row ∷ left) so_far → TellsRow number row so_far (Tells fault)
      → Tells fault (below (length rows) (checks_of its first rows))
  row-fault row number left so_far fault is tells =
      let earlier = is.earlier in
      let within : length earlier < length rows = omega (arith, ap length is.whole ∙ length-append earlier (row ∷ left)) in
      makes-at (length earlier) (length rows) (checks_of its first rows) fault within is.pass
      (tells-same fault _ _ (checks-at row number earlier left is.whole (is.counted refl)) (tells earlier is.made))

  -- where no row is left all were read
  pub all_read : (there : Bool) (number : ℕ) (so_far : X) → (is : IsRead there number [] so_far) → is.earlier ≡ rows
  all_read there number so_far is = sym (is.whole ∙ append-nil is.earlier)

  pub all_pass : (there : Bool) (number : ℕ) (so_far : X) → IsRead there number [] so_far
      → first_fault (below (length rows) (checks_of its first rows)) ≡ None
  all_pass there number so_far is =
      subst (λ (list : List Row). first_fault (below (length list) (checks_of its first rows)) ≡ None) (all_read there number so_far is) is.pass

  -- and what was made is made of all
  pub all_made : (there : Bool) (number : ℕ) (so_far : X) → IsRead there number [] so_far → so_far ≡ made_of rows
  all_made there number so_far is = is.made ∙ ap made_of (all_read there number so_far is)

  pub all_counted : (number : ℕ) (so_far : X) → IsRead true number [] so_far → number ≡ first + length rows
  all_counted number so_far is = is.counted refl ∙ ap (λ (list : List Row). first + length list) (all_read true number so_far is)
