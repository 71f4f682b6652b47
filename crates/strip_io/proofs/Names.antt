-- Which names are held, and with what bytes, after a name was put.
use Rattle.std.proofs.Math.Bool.{or-true}
use Rattle.std.proofs.Common.{◌≡◌, ◌≢◌, ℕ, ◌+◌, ◌<◌, Some, ◌↔◌, ◌||◌, List, [], ◌∷◌, ◌++◌, length, get_or, take, map, string_bytes, String, Global, IsTrue, inl, inr, refl, sym, ◌∙◌, ap, subst}
use Rattle.std.specs.List.{Contains}
use Rattle.std.specs.Option.{option_map, unwrap_or}
use Rattle.std.specs.Str.{bytes_eq}
use Rattle.std.proofs.lemmas.Bool.{cases_Bool, or_cases}
use Rattle.std.proofs.lemmas.List.{map_more}
use Rattle.std.proofs.lemmas.List.Elements.{Contains-append_left, Contains-push, Contains-push_cases}
use Rattle.std.proofs.lemmas.Slice.Eq.{bytes_eq-Decides}
use Rattle.strip_io.specs.Held.{HeldFile, found, is_held, bytes_of, faults_of, came_of, put}

-- the put name is held, and the others as before
pub held_put : (files : List HeldFile) (word bytes name : List ℕ) → is_held (put files word bytes) name ≡ (bytes_eq word name || is_held files name)
held_put [] word bytes name = elim (cases_Bool (bytes_eq word name)) [
  | inl is ↦ rw is refl
  | inr other ↦ rw other refl
]
held_put (file ∷ files) word bytes name = elim (cases_Bool (bytes_eq file.name word)) [
  | inl is ↦
      let same : file.name ≡ word = (bytes_eq-Decides file.name word).0 is in
      rw (is, ← same) (elim (cases_Bool (bytes_eq file.name name)) [
        | inl here ↦ rw here refl
        | inr other ↦ rw other refl
      ])
  | inr apart ↦ rw apart (elim (cases_Bool (bytes_eq file.name name)) [
    | inl here ↦ rw here (sym (or-true (bytes_eq word name)))
    | inr other ↦ rw other (held_put files word bytes name)
  ])
]

-- putting a name changes no count
counts_put : (count : HeldFile → ℕ) → ((name bytes : List ℕ) → count (record { name = name; bytes = bytes; faults = 0; came = 0 }) ≡ 0)
    → ((file : HeldFile) (bytes : List ℕ) → count (record file { bytes = bytes }) ≡ count file)
    → (files : List HeldFile) (word bytes name : List ℕ) → unwrap_or (option_map count (found (put files word bytes) name)) 0 ≡ unwrap_or (option_map count (found files name)) 0
counts_put count none same [] word bytes name = elim (cases_Bool (bytes_eq word name)) [
  | inl is ↦ rw is (none word bytes)
  | inr other ↦ rw other refl
]
counts_put count none same (file ∷ files) word bytes name = elim (cases_Bool (bytes_eq file.name word)) [
  | inl is ↦ rw is (elim (cases_Bool (bytes_eq file.name name)) [
    | inl here ↦ rw here (same file bytes)
    | inr other ↦ rw other refl
  ])
  | inr apart ↦ rw apart (elim (cases_Bool (bytes_eq file.name name)) [
    | inl here ↦ rw here refl
    | inr other ↦ rw other (counts_put count none same files word bytes name)
  ])
]

pub faults_put : (files : List HeldFile) (word bytes name : List ℕ) → faults_of (put files word bytes) name ≡ faults_of files name
faults_put files word bytes name = counts_put (λ (file : HeldFile). file.faults) (λ w b. refl) (λ file b. refl) files word bytes name

pub came_put : (files : List HeldFile) (word bytes name : List ℕ) → came_of (put files word bytes) name ≡ came_of files name
came_put files word bytes name = counts_put (λ (file : HeldFile). file.came) (λ w b. refl) (λ file b. refl) files word bytes name

pub held_more : (files : List HeldFile) (seen : List (List ℕ)) (word bytes : List ℕ) → ((name : List ℕ) → IsTrue (is_held files name) ↔ Contains seen name)
    → (name : List ℕ) → IsTrue (is_held (put files word bytes) name) ↔ Contains (seen ++ word ∷ []) name
held_more files seen word bytes held name =
    let after = held_put files word bytes name in (
      λ is. elim (or_cases (bytes_eq word name) (is_held files name) (sym after ∙ is)) [
        | inl same ↦ subst (Contains (seen ++ word ∷ [])) ((bytes_eq-Decides word name).0 same) (Contains-push seen word)
        | inr was ↦ Contains-append_left seen (word ∷ []) name ((held name).0 was)
      ],
      λ among. after ∙ elim (Contains-push_cases seen word name among) [
        | inl was ↦ rw ((held name).1 was) (or-true (bytes_eq word name))
        | inr same ↦ rw ((bytes_eq-Decides word name).1 same) refl
      ],
    )

-- the put name has the put bytes
pub bytes_put : (files : List HeldFile) (name bytes : List ℕ) → bytes_of (put files name bytes) name ≡ Some bytes
bytes_put [] name bytes = rw ((bytes_eq-Decides name name).1 refl) refl
bytes_put (file ∷ files) name bytes = elim (cases_Bool (bytes_eq file.name name)) [
  | inl is ↦ rw (is, is) refl
  | inr apart ↦ rw (apart, apart) (bytes_put files name bytes)
]

-- another name has the bytes that it had
pub bytes_put_other : (files : List HeldFile) (name bytes other : List ℕ) → other ≢ name → bytes_of (put files name bytes) other ≡ bytes_of files other
bytes_put_other [] name bytes other differs = elim (cases_Bool (bytes_eq name other)) [
  | inl same ↦ absurd (differs (sym ((bytes_eq-Decides name other).0 same)))
  | inr apart ↦ rw apart refl
]
bytes_put_other (file ∷ files) name bytes other differs = elim (cases_Bool (bytes_eq file.name name)) [
  | inl is ↦
      let same : file.name ≡ name = (bytes_eq-Decides file.name name).0 is in
      elim (cases_Bool (bytes_eq file.name other)) [
        | inl too ↦ absurd (differs (sym ((bytes_eq-Decides file.name other).0 too) ∙ same))
        | inr apart ↦ rw (is, apart) refl
      ]
  | inr out ↦ rw out (elim (cases_Bool (bytes_eq file.name other)) [
    | inl too ↦ rw too refl
    | inr apart ↦ rw apart (bytes_put_other files name bytes other differs)
  ])
]

-- one word more
pub words_more : (words : List (String Global)) (i : ℕ) (word : String Global) → i < length words → word ≡ get_or words i word → map string_bytes (take i words) ++ string_bytes word ∷ [] ≡ map string_bytes (take (i + 1) words)
words_more words i word within at =
    ap (λ (w : String Global). map string_bytes (take i words) ++ string_bytes w ∷ []) at ∙ sym (map_more string_bytes words i word within)
