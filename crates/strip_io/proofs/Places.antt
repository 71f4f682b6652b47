-- The place of a name among a table's entries.
use Rattle.std.proofs.Common.{◌≡◌, ℕ, zero, suc, ◌+◌, ◌<◌, Bool, true, false, cond, List, [], ◌∷◌, ◌++◌, length, get_or, map, string_bytes, Option, Some, None, Vec, Global, refl, sym, ◌∙◌, ap, arith}
use Rattle.std.specs.List.{position, position_from}
use Rattle.std.specs.Str.{bytes_eq}
use Rattle.std.proofs.Math.ListN.{set}
use Rattle.std.proofs.lemmas.Slice.Eq.{bytes_eq-Decides}
use Rattle.std.proofs.lemmas.List.Quantifiers.{position-Some}
use Rattle.std.proofs.lemmas.List.{map-set, map-append}
use Rattle.std.proofs.lemmas.Iterator.Adapters.{position_from-zero}
use Rattle.strip_io.specs.Held.{HeldFile, entry_of, found, put, change}
use Rattle.strip_io.specs.Shown.{held_file}
use Rattle.strip_io.specs.declared.table.Entry.{Entry}

-- whether an entry has the name
abbrev pub is_named : List ℕ → Entry → Bool
is_named name entry = bytes_eq (string_bytes entry.name) name

-- the first entry of a name
pub record IsFirst (name : List ℕ) (entries : List Entry) (i : ℕ) (d : Entry) : Type 0 where
  pub within : i < length entries
  pub here : is_named name (get_or entries i d) ≡ true
  pub before : (k : ℕ) → k < i → is_named name (get_or entries k d) ≡ false

later : (name : List ℕ) (x : Entry) (xs : List Entry) (i : ℕ) (d : Entry) → IsFirst name (x ∷ xs) (suc i) d → IsFirst name xs i d
later name x xs i d first = record {
  within = let h = first.within in omega arith;
  here = first.here;
  before = λ k h. first.before (suc k) (omega arith);
}

pub found_first : (name : List ℕ) (xs : List Entry) (i : ℕ) (d : Entry) → IsFirst name xs i d → found (map held_file xs) name ≡ Some (held_file (get_or xs i d))
found_first name [] i d first = absurd (let h = first.within in omega arith)
found_first name (x ∷ xs) zero d first = rw first.here refl
found_first name (x ∷ xs) (suc i) d first = rw (first.before zero (omega arith)) (found_first name xs i d (later name x xs i d first))

pub entry_first : (name : List ℕ) (xs : List Entry) (i : ℕ) (d : Entry) → IsFirst name xs i d → entry_of (map held_file xs) name ≡ i
entry_first name [] i d first = absurd (let h = first.within in omega arith)
entry_first name (x ∷ xs) zero d first = rw first.here refl
entry_first name (x ∷ xs) (suc i) d first = rw (first.before zero (omega arith)) (omega (arith, entry_first name xs i d (later name x xs i d first)))

pub put_first : (name bytes : List ℕ) (xs : List Entry) (i : ℕ) (d : Entry) → IsFirst name xs i d → put (map held_file xs) name bytes ≡ set (map held_file xs) i (record (held_file (get_or xs i d)) { bytes = bytes })
put_first name bytes [] i d first = absurd (let h = first.within in omega arith)
put_first name bytes (x ∷ xs) zero d first = rw first.here refl
put_first name bytes (x ∷ xs) (suc i) d first =
    rw (first.before zero (omega arith)) (ap (λ (l : List HeldFile). held_file x ∷ l) (put_first name bytes xs i d (later name x xs i d first)))

pub change_first : (how : HeldFile → HeldFile) (name : List ℕ) (xs : List Entry) (i : ℕ) (d : Entry) → IsFirst name xs i d
    → change how (map held_file xs) name ≡ set (map held_file xs) i (how (held_file (get_or xs i d)))
change_first how name [] i d first = absurd (let h = first.within in omega arith)
change_first how name (x ∷ xs) zero d first = rw first.here refl
change_first how name (x ∷ xs) (suc i) d first =
    rw (first.before zero (omega arith)) (ap (λ (l : List HeldFile). held_file x ∷ l) (change_first how name xs i d (later name x xs i d first)))

-- no entry has the name
abbrev pub NoneNamed : List ℕ → List Entry → Type 0
NoneNamed name [] = Unit {0}
NoneNamed name (x ∷ xs) = (is_named name x ≡ false) × NoneNamed name xs

none_step : (b : Bool) (n : ℕ) (r : Option ℕ) → cond b (Some n) r ≡ None → (b ≡ false) × (r ≡ None)
none_step true n r e = cc
none_step false n r e = (refl, e)

none_from : (name : List ℕ) (xs : List Entry) (i : ℕ) → position_from (is_named name) i xs ≡ None → NoneNamed name xs
none_from name [] i e = tt
none_from name (x ∷ xs) i e =
    let step = none_step (is_named name x) i (position_from (is_named name) (i + 1) xs) e in
    (step.0, none_from name xs (i + 1) step.1)

pub none_named : (name : List ℕ) (xs : List Entry) → position (is_named name) xs ≡ None → NoneNamed name xs
none_named name xs e = none_from name xs 0 (sym (position_from-zero (is_named name) xs) ∙ e)

pub found_none : (name : List ℕ) (xs : List Entry) → NoneNamed name xs → found (map held_file xs) name ≡ None
found_none name [] none = refl
found_none name (x ∷ xs) none = rw none.0 (found_none name xs none.1)

pub put_none : (name bytes : List ℕ) (xs : List Entry) → NoneNamed name xs → put (map held_file xs) name bytes ≡ map held_file xs ++ record { name = name; bytes = bytes; faults = 0; came = 0 } ∷ []
put_none name bytes [] none = refl
put_none name bytes (x ∷ xs) none = rw none.0 (ap (λ (l : List HeldFile). held_file x ∷ l) (put_none name bytes xs none.1))

pub change_none : (how : HeldFile → HeldFile) (name : List ℕ) (xs : List Entry) → NoneNamed name xs → change how (map held_file xs) name ≡ map held_file xs
change_none how name [] none = refl
change_none how name (x ∷ xs) none = rw none.0 (ap (λ (l : List HeldFile). held_file x ∷ l) (change_none how name xs none.1))

-- what the look-up of a name says of the entries
pub is_first : (name : List ℕ) (seen xs : List Entry) (i : ℕ) (d : Entry) → seen ≡ xs → Some i ≡ position (is_named name) seen → IsFirst name xs i d
is_first name seen xs i d same at =
    let facts = position-Some (is_named name) xs i d (ap (position (is_named name)) (sym same) ∙ sym at) in
    record { within = facts.0; here = facts.1; before = facts.2 }

pub is_nowhere : (name : List ℕ) (seen xs : List Entry) → seen ≡ xs → None ≡ position (is_named name) seen → NoneNamed name xs
is_nowhere name seen xs same at = none_named name xs (ap (position (is_named name)) (sym same) ∙ sym at)

-- the name of the first entry of a name
pub first_named : (name : List ℕ) (xs : List Entry) (i : ℕ) (entry : Entry) → IsFirst name xs i entry → entry ≡ get_or xs i entry → string_bytes entry.name ≡ name
first_named name xs i entry first at =
    ap (λ (e : Entry). string_bytes e.name) at ∙ (bytes_eq-Decides (string_bytes (get_or xs i entry).name) name).0 first.here

-- what a write to the first entry of a name leaves
pub altered : (how : HeldFile → HeldFile) (name : List ℕ) (xs : List Entry) (i : ℕ) (entry after : Entry) (files : List HeldFile) → IsFirst name xs i entry → entry ≡ get_or xs i entry → held_file after ≡ how (held_file entry) → map held_file xs ≡ files
    → map held_file (set xs i after) ≡ change how files name
altered how name xs i entry after files first at is all =
    map-set held_file xs i after
    ∙ ap (λ (file : HeldFile). set (map held_file xs) i file) is
    ∙ ap (λ (e : Entry). set (map held_file xs) i (how (held_file e))) at
    ∙ sym (change_first how name xs i entry first)
    ∙ ap (λ (l : List HeldFile). change how l name) all

pub changed : (name bytes : List ℕ) (xs : List Entry) (i : ℕ) (entry : Entry) (held : Vec ℕ Global) (files : List HeldFile) → IsFirst name xs i entry → entry ≡ get_or xs i entry → held.items ≡ bytes → map held_file xs ≡ files
    → map held_file (set xs i (record entry { bytes = held })) ≡ put files name bytes
changed name bytes xs i entry held files first at is all =
    map-set held_file xs i (record entry { bytes = held })
    ∙ ap (λ (l : List ℕ). set (map held_file xs) i (record (held_file entry) { bytes = l })) is
    ∙ ap (λ (e : Entry). set (map held_file xs) i (record (held_file e) { bytes = bytes })) at
    ∙ sym (put_first name bytes xs i entry first)
    ∙ ap (λ (l : List HeldFile). put l name bytes) all

-- what a new entry at the end leaves
pub added : (name bytes : List ℕ) (xs pushed : List Entry) (entry : Entry) (files : List HeldFile) → NoneNamed name xs → pushed ≡ xs ++ entry ∷ [] → held_file entry ≡ record { name = name; bytes = bytes; faults = 0; came = 0 } → map held_file xs ≡ files
    → map held_file pushed ≡ put files name bytes
added name bytes xs pushed entry files none push is all =
    ap (map held_file) push
    ∙ map-append held_file xs (entry ∷ [])
    ∙ ap (λ (file : HeldFile). map held_file xs ++ file ∷ []) is
    ∙ sym (put_none name bytes xs none)
    ∙ ap (λ (l : List HeldFile). put l name bytes) all
