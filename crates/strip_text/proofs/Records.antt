-- A text has one list of records, which is taken record by record.
use Rattle.std.proofs.Common.{◌≡◌, ◌<◌, ◌≤◌, ◌+◌, ◌-◌, add-one, ℕ, zero, suc, Bool, true, false, List, [], ◌∷◌, length, map, Option, None, Some, if◌then◌else◌, inl, inr, sym, ap, ◌∙◌, refl, subst, arith}
use Rattle.std.proofs.lemmas.Bool.{cases_Bool, cond-true, cond-false}
use Rattle.std.proofs.lemmas.List.{length-map}
use Rattle.csv.specs.Machine.{Read, next_record, step, is_end, ends_at_end, fields_after, field_after}
use Rattle.csv.specs.Reading.{AreRecords, Reached, default_config, is_bom, strip_bom, records, records_from, records_next}
use Rattle.csv.specs.declared.parser.Config.{Config}
use Rattle.csv.specs.declared.parser.State.{State}
use Rattle.csv.specs.declared.parser.State.TheVariants as st
use Rattle.strip_text.specs.Field.{Field, trimmed}
use Rattle.strip_text.specs.Rows.{rows_of}
use Rattle.strip_text.specs.Reader.{records_in}

some_same : (a b : Read) → Some a ≡ Some b → a ≡ b
some_same a b same = cc

no_read : (read : Read) → None ≡ Some read → ⊥
no_read read same = cc

-- a record that was read takes a byte, where there is one
rest-fits : (cfg : Config) (s : State) (fields : List Field) (field : Field) (text : List ℕ) (read : Read)
    → next_record cfg s fields field text ≡ Some read → length read.2 ≤ length text - 1
unfolding next_record
rest-fits cfg s fields field [] read is = elim (cases_Bool (ends_at_end s)) [
  | inl ends ↦ (let same = some_same _ read (sym (cond-true (ends_at_end s) _ None ends) ∙ is) in
      let none : 0 ≡ length read.2 = ap (λ p. length p.2) same in omega arith)
  | inr goes_on ↦ absurd (no_read read (sym (cond-false (ends_at_end s) _ None goes_on) ∙ is))
]
rest-fits cfg s fields field (c ∷ rest) read is = elim (cases_Bool (is_end (step cfg s c).1)) [
  | inl ends ↦ (let same = some_same _ read (sym (cond-true (is_end (step cfg s c).1) _ _ ends) ∙ is) in
      let left : length rest ≡ length read.2 = ap (λ p. length p.2) same in omega arith)
  | inr goes_on ↦ (let later = rest-fits cfg (step cfg s c).0 (fields_after (step cfg s c).1 fields field) (field_after (step cfg s c).1 c field) rest read
      (sym (cond-false (is_end (step cfg s c).1) _ _ goes_on) ∙ is) in omega arith)
]

-- behind the end of a text there is nothing
nothing-behind : (cfg : Config) (n : ℕ) → AreRecords cfg st.StartRecord [] (records_from cfg n st.StartRecord [])
unfolding next_record records_from Reached
nothing-behind cfg zero = (st.StartRecord, [], (refl, refl), refl)
nothing-behind cfg (suc n) = (st.StartRecord, [], (refl, refl), refl)

-- behind a record that is read at the end of a text there is nothing either
behind-end : (cfg : Config) (n : ℕ) (s : State) (read : Read) → next_record cfg s [] [] [] ≡ Some read
    → AreRecords cfg read.1 read.2 (records_from cfg n read.1 read.2)
unfolding next_record
behind-end cfg n s read is = elim (cases_Bool (ends_at_end s)) [
  | inl ends ↦ subst (λ (p : Read). AreRecords cfg p.1 p.2 (records_from cfg n p.1 p.2))
      (some_same (([] ∷ []), st.StartRecord, []) read (sym (cond-true (ends_at_end s) _ None ends) ∙ is)) (nothing-behind cfg n)
  | inr goes_on ↦ absurd (no_read read (sym (cond-false (ends_at_end s) (Some (([] ∷ []), st.StartRecord, [])) None goes_on) ∙ is))
]

-- a text's records are the first one, where there is one, and those behind it
records-one_more : (cfg : Config) (s : State) (text : List ℕ) (later : State → List ℕ → List (List Field)) (found : Option Read)
    → next_record cfg s [] [] text ≡ found → ((read : Read) → found ≡ Some read → AreRecords cfg read.1 read.2 (later read.1 read.2))
    → AreRecords cfg s text (records_next later found)
unfolding Reached
records-one_more cfg s text later None is behind = (s, text, (refl, refl), is)
records-one_more cfg s text later (Some read) is behind =
    let rest = behind read refl in
    (rest.0, rest.1, (read, is, refl, rest.2), rest.3)

-- every text has records, from every state
records-are : (n : ℕ) (cfg : Config) (s : State) (text : List ℕ) → length text < n → AreRecords cfg s text (records_from cfg n s text)
unfolding records_from
records-are zero cfg s text fits = absurd (omega arith)
records-are (suc n) cfg s [] fits =
    records-one_more cfg s [] (records_from cfg n) (next_record cfg s [] [] []) refl (behind-end cfg n s)
records-are (suc n) cfg s (c ∷ rest) fits =
    records-one_more cfg s (c ∷ rest) (records_from cfg n) (next_record cfg s [] [] (c ∷ rest)) refl
    (λ read is. records-are n cfg read.1 read.2 (omega (arith, rest-fits cfg s [] [] (c ∷ rest) read is)))

-- what is at the end of a text isn't followed by a record
no_more : {A : Type 0} (found : Option A) (x : A) → found ≡ Some x → found ≡ None → ⊥
no_more found x some none = cc

-- the records up to a text's end are determined
reached_alone : (cfg : Config) (s : State) (xs : List ℕ) (a b : List (List Field)) (s1 : State) (ys1 : List ℕ) (s2 : State) (ys2 : List ℕ)
    → Reached cfg s xs a s1 ys1 → next_record cfg s1 [] [] ys1 ≡ None
    → Reached cfg s xs b s2 ys2 → next_record cfg s2 [] [] ys2 ≡ None → a ≡ b
unfolding Reached
reached_alone cfg s xs [] [] s1 ys1 s2 ys2 one end1 two end2 = refl
reached_alone cfg s xs [] (r ∷ rs) s1 ys1 s2 ys2 one end1 two end2 =
    absurd (no_more _ two.0 two.1 (ap (λ state. next_record cfg state [] [] xs) one.0 ∙ ap (λ text. next_record cfg s1 [] [] text) one.1 ∙ end1))
reached_alone cfg s xs (r ∷ rs) [] s1 ys1 s2 ys2 one end1 two end2 =
    absurd (no_more _ one.0 one.1 (ap (λ state. next_record cfg state [] [] xs) two.0 ∙ ap (λ text. next_record cfg s2 [] [] text) two.1 ∙ end2))
reached_alone cfg s xs (r ∷ rs) (q ∷ qs) s1 ys1 s2 ys2 one end1 two end2 =
    let same : one.0 ≡ two.0 = some_same one.0 two.0 (sym one.1 ∙ two.1) in
    let rest : rs ≡ qs = reached_alone cfg two.0.1 two.0.2 rs qs s1 ys1 s2 ys2
    (subst (λ p. Reached cfg p.1 p.2 rs s1 ys1) same one.3) end1 two.3 end2 in
    ap (λ first. first ∷ rs) (one.2 ∙ ap (λ p. p.0) same ∙ sym two.2) ∙ ap (λ list. q ∷ list) rest
  where
    some_same : (p r : Read) → Some p ≡ Some r → p ≡ r
    some_same p r same = cc

-- a text has one list of records
one_list : (cfg : Config) (s : State) (text : List ℕ) (a b : List (List Field)) → AreRecords cfg s text a → AreRecords cfg s text b → a ≡ b
one_list cfg s text a b one two = reached_alone cfg s text a b one.0 one.1 two.0 two.1 one.2 one.3 two.2 two.3

-- the records behind one that was read, from whatever length they were counted
behind-first : (n : ℕ) (cfg : Config) (s : State) (text : List ℕ) (read : Read) → length text ≤ n → next_record cfg s [] [] text ≡ Some read
    → records_from cfg n read.1 read.2 ≡ records_from cfg (length read.2 + 1) read.1 read.2
behind-first n cfg s [] read fits is =
    one_list cfg read.1 read.2 _ _ (behind-end cfg n s read is) (behind-end cfg (length read.2 + 1) s read is)
behind-first n cfg s (c ∷ rest) read fits is =
    one_list cfg read.1 read.2 _ _ (records-are n cfg read.1 read.2 (omega (arith, rest-fits cfg s [] [] (c ∷ rest) read is)))
    (records-are (length read.2 + 1) cfg read.1 read.2 (omega arith))

-- the records of a text are the first and those behind it
pub records_in-first : (s : State) (text : List ℕ) (read : Read) → next_record default_config s [] [] text ≡ Some read
    → records_in s text ≡ read.0 ∷ records_in read.1 read.2
unfolding records_from
records_in-first s text read is =
    ap (λ n. records_from default_config n s text) (add-one (length text))
    ∙ ap (records_next (records_from default_config (length text))) is
    ∙ ap (λ (more : List (List Field)). read.0 ∷ more) (behind-first (length text) default_config s text read (omega arith) is)

-- there is none where no first one is read
pub records_in-none : (s : State) (text : List ℕ) → next_record default_config s [] [] text ≡ None → records_in s text ≡ []
unfolding records_from
records_in-none s text is =
    ap (λ n. records_from default_config n s text) (add-one (length text)) ∙ ap (records_next (records_from default_config (length text))) is

-- the records of a whole text
pub records-alone : (text : List ℕ) (list : List (List Field)) → AreRecords default_config st.StartRecord text list → records default_config text ≡ list
records-alone text list are = one_list default_config st.StartRecord text _ _ (records-are (length text + 1) default_config st.StartRecord text (omega arith)) are

-- a text has no more records than bytes, but for one
counted : (n : ℕ) (s : State) (text : List ℕ) → length (records_from default_config n s text) ≤ n
unfolding records_from
counted zero s text = omega arith
counted (suc n) s text = counted-first (next_record default_config s [] [] text) (λ state bytes. counted n state bytes)
  where
    counted-first : (found : Option Read) → ((state : State) (bytes : List ℕ) → length (records_from default_config n state bytes) ≤ n)
        → length (records_next (records_from default_config n) found) ≤ suc n
    counted-first None behind = omega arith
    counted-first (Some read) behind = omega (arith, behind read.1 read.2)

unmarked-shorter : (text : List ℕ) → length (strip_bom text) ≤ length text
unfolding strip_bom
unmarked-shorter [] = omega arith
unmarked-shorter (a ∷ []) = omega arith
unmarked-shorter (a ∷ b ∷ []) = omega arith
unmarked-shorter (a ∷ b ∷ c ∷ rest) = either (is_bom a b c)
  where
    either : (marked : Bool) → length (if marked then rest else a ∷ b ∷ c ∷ rest) ≤ length (a ∷ b ∷ c ∷ rest)
    either true = omega arith
    either false = omega arith

pub rows-few : (text : List ℕ) → length (rows_of text) ≤ length text + 1
rows-few text = omega (
  arith,
  length-map (records default_config (strip_bom text)) (map trimmed),
  counted (length (strip_bom text) + 1) st.StartRecord (strip_bom text),
  unmarked-shorter text,
)
