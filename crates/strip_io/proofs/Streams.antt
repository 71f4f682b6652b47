-- A read at a place of a stream.
use Rattle.std.proofs.Common.{◌≡◌, ℕ, ◌+◌, ◌<◌, ◌≤◌, List, [], ◌++◌, length, take, drop, Option, Some, None, refl, sym, ◌∙◌, ap, subst, arith, drop-drop, length-drop}
use Rattle.std.specs.Option.{unwrap_or}
use Rattle.std.specs.Io.Cursor.{cursor_inner, cursor_position, cursor_remaining}
use Rattle.std.specs.declared.io.impls.Cursor.{Cursor}
use Rattle.std.specs.Io.KnownBytes.{Keeps, Consumes, IsAtEnd}
use Rattle.std.proofs.Math.Seq.{drop-append_seam, take-append_seam}
use Rattle.std.proofs.lemmas.List.{length-take-le}
use Rattle.strip_io.specs.Files.{CopiesFrom}
use Rattle.strip_io.specs.Streams.{GivesFromItsPlace, HasGiven}

keeps_some : (xs : List ℕ) (now : Option (List ℕ)) → Keeps (Some xs) now → now ≡ Some xs
keeps_some xs None keeps = absurd keeps
keeps_some xs (Some ys) keeps = ap Some keeps

consumes_some : (xs bytes : List ℕ) (now : Option (List ℕ)) → Consumes (Some xs) now bytes → (ys : List ℕ) × (now ≡ Some ys) × (xs ≡ bytes ++ ys)
consumes_some xs bytes None consumes = absurd consumes
consumes_some xs bytes (Some ys) consumes = (ys, refl, consumes)

-- bytes that were left before a read and are no more
copied : (text into : List ℕ) (at n : ℕ) (left now : Option (List ℕ)) → left ≡ Some (drop at text) → n ≤ length into → 0 < length into
    → Consumes left now (take n into) → (n ≡ 0 → 0 < length into → IsAtEnd now) → CopiesFrom text at n into
copied text into at n left now is within room consumes ends =
    let known : Consumes (Some (drop at text)) now (take n into) = subst (λ (l : Option (List ℕ)). Consumes l now (take n into)) is consumes in
    let rest = consumes_some (drop at text) (take n into) now known in
    let size = length-take-le n into within in
    record {
      bytes = sym (ap (take n) rest.2 ∙ subst (λ (k : ℕ). take k (take n into ++ rest.0) ≡ take n into) size (take-append_seam (take n into) rest.0));
      ends = λ none.
          let over : rest.0 ≡ [] = subst IsAtEnd rest.1 (ends none room) in
          let all : drop at text ≡ take n into ++ [] = rest.2 ∙ ap (λ (l : List ℕ). take n into ++ l) over in
          no_bytes text into at n none all;
    }
  where
    no_bytes : (text into : List ℕ) (at n : ℕ) → n ≡ 0 → drop at text ≡ take n into ++ [] → length text ≤ at
    no_bytes text into at n none all =
        let empty : drop at text ≡ [] = subst (λ (k : ℕ). drop at text ≡ take k into ++ []) none all in
        let size = length-drop at text in
        let zero = ap length empty in
        omega arith

-- what is left behind bytes that were read
left_behind : {F : Type 0} (left : F → Option (List ℕ)) (text into : List ℕ) (at n : ℕ) (before after : F) → left before ≡ Some (drop at text) → n ≤ length into
    → Consumes (left before) (left after) (take n into) → left after ≡ Some (drop (at + n) text)
left_behind left text into at n before after is within consumes =
    let known : Consumes (Some (drop at text)) (left after) (take n into) = subst (λ (l : Option (List ℕ)). Consumes l (left after) (take n into)) is consumes in
    let rest = consumes_some (drop at text) (take n into) (left after) known in
    let size = length-take-le n into within in
    let seam : drop n (take n into ++ rest.0) ≡ rest.0 = subst (λ (k : ℕ). drop k (take n into ++ rest.0) ≡ rest.0) size (drop-append_seam (take n into) rest.0) in
    rest.1 ∙ ap Some (sym seam ∙ sym (ap (drop n) rest.2) ∙ drop-drop n at text)

-- a read of a stream goes on where it stands
pub has_given : {F : Type 0} (left : F → Option (List ℕ)) (before after : F) (text : List ℕ) (at n : ℕ) (into : List ℕ) → left before ≡ Some (drop at text)
    → n ≤ length into → 0 < length into → Consumes (left before) (left after) (take n into) → (n ≡ 0 → 0 < length into → IsAtEnd (left after))
    → HasGiven left text at n into after
has_given left before after text at n into is within room consumes ends = record {
  copies = copied text into at n (left before) (left after) is within room consumes ends;
  rest = left_behind left text into at n before after is within consumes;
}

-- a cursor is such a stream
pub cursor_gives : {T : Type 0} (bytes : T → Option (List ℕ)) → GivesFromItsPlace (λ (c : Cursor T). bytes (cursor_inner c)) (λ (c : Cursor T). Some (cursor_position c)) (cursor_remaining bytes)
cursor_gives bytes stream text at told stands =
    let place : cursor_position stream ≡ at = ap (λ (place : Option ℕ). unwrap_or place 0) stands in
    rw (told, place) refl
