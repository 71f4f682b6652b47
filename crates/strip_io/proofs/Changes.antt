-- What counting a fault or bytes changes, and what it leaves.
use Rattle.std.proofs.Common.{◌≡◌, ◌≢◌, ℕ, ◌+◌, ◌-◌, ◌^◌, ◌≤◌, min, true, false, List, [], ◌∷◌, length, Option, Some, None, ◌⊎◌, inl, inr, refl, sym, ◌∙◌, ap, arith}
use Rattle.std.specs.Option.{is_some, option_map, unwrap_or}
use Rattle.std.specs.Str.{bytes_eq}
use Rattle.std.proofs.lemmas.Bool.{cases_Bool}
use Rattle.std.proofs.lemmas.Bool.Decides.{nat_tests, not_from_Decides}
use Rattle.std.proofs.lemmas.Slice.Eq.{bytes_eq-Decides}
use Rattle.strip_io.specs.Counts.{Rose, CountsOnly, CameOnly, ReadFailed}
use Rattle.strip_io.specs.Held.{HeldFile, found, is_held, bytes_of, bytes_or_empty, faults_of, came_of, next_count, change, count_fault, count_came}

-- the file with one fault more, and with n bytes more
abbrev failed_once : HeldFile → HeldFile
failed_once file = record file { faults = next_count file.faults }

abbrev gave : ℕ → HeldFile → HeldFile
gave n file = record file { came = min (file.came + n) (2 ^ 64 - 1) }

-- a change that leaves the names
abbrev KeepsNames : (HeldFile → HeldFile) → Type 0
KeepsNames how = (file : HeldFile) → (how file).name ≡ file.name

found_same : (how : HeldFile → HeldFile) → KeepsNames how → (files : List HeldFile) (name : List ℕ) → found (change how files name) name ≡ option_map how (found files name)
found_same how keeps [] name = refl
found_same how keeps (file ∷ files) name = elim (cases_Bool (bytes_eq file.name name)) [
  | inl is ↦ rw (is, keeps file, is) refl
  | inr other ↦ rw (other, other) (found_same how keeps files name)
]

found_other : (how : HeldFile → HeldFile) → KeepsNames how → (files : List HeldFile) (name other : List ℕ) → other ≢ name → found (change how files name) other ≡ found files other
found_other how keeps [] name other differs = refl
found_other how keeps (file ∷ files) name other differs = elim (cases_Bool (bytes_eq file.name name)) [
  | inl is ↦
      let same : file.name ≡ name = (bytes_eq-Decides file.name name).0 is in
      elim (cases_Bool (bytes_eq file.name other)) [
        | inl too ↦ absurd (differs (sym ((bytes_eq-Decides file.name other).0 too) ∙ same))
        | inr apart ↦ rw (is, keeps file, apart) refl
      ]
  | inr out ↦ rw out (elim (cases_Bool (bytes_eq file.name other)) [
    | inl too ↦ rw (too) refl
    | inr apart ↦ rw (apart) (found_other how keeps files name other differs)
  ])
]

-- a function of the found file that doesn't read what changes
kept : {X : Type 0} (F : Option HeldFile → X) (how : HeldFile → HeldFile) → KeepsNames how → ((o : Option HeldFile) → F (option_map how o) ≡ F o)
    → (files : List HeldFile) (name other : List ℕ) → F (found (change how files name) other) ≡ F (found files other)
kept F how keeps same files name other = elim (cases_Bool (bytes_eq other name)) [
  | inl is ↦
      let one : other ≡ name = (bytes_eq-Decides other name).0 is in
      rw one (ap F (found_same how keeps files name) ∙ same (found files name))
  | inr apart ↦ ap F (found_other how keeps files name other (not_from_Decides (bytes_eq other name) (bytes_eq-Decides other name) apart))
]

-- what a fault leaves
pub held_fault : (files : List HeldFile) (name : List ℕ) → is_held (count_fault files name) ≡ is_held files
held_fault files name = λ i other. kept is_some failed_once (λ file. refl) (elim [ Some file ↦ refl | None ↦ refl ]) files name other i

pub bytes_fault : (files : List HeldFile) (name : List ℕ) → bytes_of (count_fault files name) ≡ bytes_of files
bytes_fault files name = λ i other. kept (option_map (λ (file : HeldFile). file.bytes)) failed_once (λ file. refl) (elim [ Some file ↦ refl | None ↦ refl ]) files name other i

pub came_fault : (files : List HeldFile) (name : List ℕ) → came_of (count_fault files name) ≡ came_of files
came_fault files name = λ i other. kept (λ (o : Option HeldFile). unwrap_or (option_map (λ (file : HeldFile). file.came) o) 0) failed_once (λ file. refl) (elim [ Some file ↦ refl | None ↦ refl ]) files name other i

-- what bytes that came leave
pub held_came : (files : List HeldFile) (name : List ℕ) (n : ℕ) → is_held (count_came files name n) ≡ is_held files
held_came files name n = λ i other. kept is_some (gave n) (λ file. refl) (elim [ Some file ↦ refl | None ↦ refl ]) files name other i

pub bytes_came : (files : List HeldFile) (name : List ℕ) (n : ℕ) → bytes_of (count_came files name n) ≡ bytes_of files
bytes_came files name n = λ i other. kept (option_map (λ (file : HeldFile). file.bytes)) (gave n) (λ file. refl) (elim [ Some file ↦ refl | None ↦ refl ]) files name other i

pub faults_came : (files : List HeldFile) (name : List ℕ) (n : ℕ) → faults_of (count_came files name n) ≡ faults_of files
faults_came files name n = λ i other. kept (λ (o : Option HeldFile). unwrap_or (option_map (λ (file : HeldFile). file.faults) o) 0) (gave n) (λ file. refl) (elim [ Some file ↦ refl | None ↦ refl ]) files name other i

-- the count of faults
le_next : (n : ℕ) → n ≤ next_count n
le_next n = grind (arith, nat_tests)

pub one_more : (a b : ℕ) → b ≡ next_count a → b ≤ a + 1
one_more a b is = grind (arith, is, nat_tests)

rose_next : (n : ℕ) → Rose n (next_count n)
rose_next n = grind (arith, nat_tests)

rises : (o : Option HeldFile) → unwrap_or (option_map (λ (file : HeldFile). file.faults) o) 0 ≤ unwrap_or (option_map (λ (file : HeldFile). file.faults) (option_map failed_once o)) 0
rises None = omega arith
rises (Some file) = le_next file.faults

pub counts_fault : (files : List HeldFile) (name : List ℕ) → CountsOnly name (faults_of files) (faults_of (count_fault files name))
counts_fault files name = record {
  later = rw (found_same failed_once (λ file. refl) files name) (rises (found files name));
  others = λ other differs. rw (found_other failed_once (λ file. refl) files name other differs) refl;
}

-- a failed read of a held name is counted, and one of another name isn't held
failed : (o : Option HeldFile) → Rose (unwrap_or (option_map (λ (file : HeldFile). file.faults) o) 0) (unwrap_or (option_map (λ (file : HeldFile). file.faults) (option_map failed_once o)) 0) ⊎ (is_some o ≡ false)
failed None = inr refl
failed (Some file) = inl (rose_next file.faults)

pub read_failed : (files : List HeldFile) (name : List ℕ) → ReadFailed name (is_held files) (faults_of files) (faults_of (count_fault files name))
read_failed files name = rw (found_same failed_once (λ file. refl) files name) (failed (found files name))

-- the count of bytes that came, which a name that isn't held doesn't have
counted : (o : Option HeldFile) (n : ℕ) → (is_some o ≡ true) ⊎ (n ≡ 0)
    → unwrap_or (option_map (λ (file : HeldFile). file.came) (option_map (gave n) o)) 0 ≡ min (unwrap_or (option_map (λ (file : HeldFile). file.came) o) 0 + n) (2 ^ 64 - 1)
counted (Some file) n held = refl
counted None n (inl held) = cc
counted None n (inr none) = rw none refl

pub came_only : (files : List HeldFile) (name : List ℕ) (n : ℕ) → (is_held files name ≡ true) ⊎ (n ≡ 0) → CameOnly name n (came_of files) (came_of (count_came files name n))
came_only files name n held = record {
  here = rw (found_same (gave n) (λ file. refl) files name) (counted (found files name) n held);
  others = λ other differs. rw (found_other (gave n) (λ file. refl) files name other differs) refl;
}

-- a name that isn't held has no count
pub none_counted : (files : List HeldFile) (name : List ℕ) → bytes_of files name ≡ None → count_fault files name ≡ files
none_counted [] name out = refl
none_counted (file ∷ files) name out = elim (cases_Bool (bytes_eq file.name name)) [
  | inl is ↦
      let some : Some file.bytes ≡ None = rw is at out in
      cc
  | inr other ↦
      let rest : bytes_of files name ≡ None = rw other at out in
      rw other (ap (λ (l : List HeldFile). file ∷ l) (none_counted files name rest))
]

pub not_held : (files : List HeldFile) (name : List ℕ) → is_held files name ≡ false → count_fault files name ≡ files
not_held files name out = none_counted files name (nothing (found files name) out)
  where
    nothing : (o : Option HeldFile) → is_some o ≡ false → option_map (λ (file : HeldFile). file.bytes) o ≡ None
    nothing None out = refl
    nothing (Some file) out = cc

-- a name with bytes is held
pub told_held : (files : List HeldFile) (name text : List ℕ) → bytes_of files name ≡ Some text → is_held files name ≡ true
told_held files name text told = something (found files name) told
  where
    something : (o : Option HeldFile) → option_map (λ (file : HeldFile). file.bytes) o ≡ Some text → is_some o ≡ true
    something None told = cc
    something (Some file) told = refl

pub told_or_empty_came : (files : List HeldFile) (name : List ℕ) (n : ℕ) → bytes_or_empty (count_came files name n) ≡ bytes_or_empty files
told_or_empty_came files name n = λ i other. Some (unwrap_or (bytes_came files name n i other) [])

-- what was copied of a name's bytes, or of none for a name that isn't held, came
pub came_or_none : (files : List HeldFile) (name : List ℕ) (n room at : ℕ) → n ≡ min room (length (unwrap_or (bytes_of files name) []) - at)
    → CameOnly name n (came_of files) (came_of (count_came files name n))
came_or_none files name n room at copied = came_only files name n (held_or_none (found files name) copied)
  where
    held_or_none : (o : Option HeldFile) → n ≡ min room (length (unwrap_or (option_map (λ (file : HeldFile). file.bytes) o) []) - at) → (is_some o ≡ true) ⊎ (n ≡ 0)
    held_or_none None copied = inr (omega arith)
    held_or_none (Some file) copied = inl refl
