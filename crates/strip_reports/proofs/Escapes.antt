-- Escaped names: which bytes they have, and what is seen of them.
use Rattle.std.proofs.Common.{◌≡◌, ◌≢◌, ℕ, zero, suc, Bool, true, false, not, ◌&&◌, ◌==◌, if◌then◌else◌, List, [], ◌∷◌, ◌++◌, All, drop, slice_index, codes, inl, inr, refl, sym, ap, ◌∙◌, subst, arith, true≢false, eqb-true, ne_eqb}
use Rattle.std.specs.List.{list_all}
use Rattle.std.proofs.lemmas.Bool.{and_parts, eqb-false}
use Rattle.std.proofs.lemmas.List.Elements.{All-append, All-cons, All-nil, All-weaker}
use Rattle.std.proofs.lemmas.List.Sums.{AllPass-from_list_all}
use Rattle.strip_reports.specs.Html.{escape, escaped}
use Rattle.strip_reports.specs.Shown.{BeginsEntity, IsNoMarkup, shown}

-- ---- byte by byte

-- the byte is none of the five
record IsPlain (byte : ℕ) : Type 0 where
  amp : byte ≢ 38
  lt : byte ≢ 60
  gt : byte ≢ 62
  quot : byte ≢ 34
  apos : byte ≢ 39

chosen : (P : List ℕ → Type 0) (b : Bool) (first other : List ℕ) → (b ≡ true → P first) → (b ≡ false → P other) → P (if b then first else other)
chosen P true first other so otherwise = so refl
chosen P false first other so otherwise = otherwise refl

-- what holds of the texts of the five, and of that of each plain byte, holds of that of any byte
by_byte : (P : ℕ → List ℕ → Type 0) → P 38 (codes "&amp;") → P 60 (codes "&lt;") → P 62 (codes "&gt;") → P 34 (codes "&quot;") → P 39 (codes "&#39;")
    → ((byte : ℕ) → IsPlain byte → P byte (byte ∷ [])) → (byte : ℕ) → P byte (escape byte)
by_byte P amp lt gt quot apos plain byte =
    chosen (P byte) (byte == 38) _ _ (told 38 (codes "&amp;") amp) (λ no_amp.
    chosen (P byte) (byte == 60) _ _ (told 60 (codes "&lt;") lt) (λ no_lt.
    chosen (P byte) (byte == 62) _ _ (told 62 (codes "&gt;") gt) (λ no_gt.
    chosen (P byte) (byte == 34) _ _ (told 34 (codes "&quot;") quot) (λ no_quot.
    chosen (P byte) (byte == 39) _ _ (told 39 (codes "&#39;") apos) (λ no_apos.
    plain byte (record {
      amp = eqb-false byte 38 no_amp;
      lt = eqb-false byte 60 no_lt;
      gt = eqb-false byte 62 no_gt;
      quot = eqb-false byte 34 no_quot;
      apos = eqb-false byte 39 no_apos;
    }))))))
  where
    told : (n : ℕ) (text : List ℕ) → P n text → (byte == n) ≡ true → P byte text
    told n text is same = subst (λ k. P k text) (sym (eqb-true byte n same)) is

-- ---- no markup

abbrev is_no_markup : ℕ → Bool
is_no_markup byte = not (byte == 60) && not (byte == 62) && not (byte == 34) && not (byte == 39)

no_markup : (byte : ℕ) → is_no_markup byte ≡ true → IsNoMarkup byte
no_markup byte passes = (never 60 refl, never 62 refl, never 34 refl, never 39 refl)
  where
    never : (n : ℕ) → is_no_markup n ≡ false → byte ≢ n
    never n fails is = true≢false (sym passes ∙ ap is_no_markup is ∙ fails)

fixed : (text : List ℕ) → list_all is_no_markup text ≡ true → All IsNoMarkup text
fixed text passes = All-weaker (λ byte. is_no_markup byte ≡ true) IsNoMarkup no_markup text (AllPass-from_list_all is_no_markup text passes)

pub markup : (name : List ℕ) → All IsNoMarkup (escaped name)
markup [] = All-nil IsNoMarkup
markup (byte ∷ name) = All-append IsNoMarkup (escape byte) (escaped name) (of_byte byte) (markup name)
  where
    of_byte : (byte : ℕ) → All IsNoMarkup (escape byte)
    of_byte = by_byte (λ _ text. All IsNoMarkup text) (fixed (codes "&amp;") refl) (fixed (codes "&lt;") refl) (fixed (codes "&gt;") refl)
        (fixed (codes "&quot;") refl) (fixed (codes "&#39;") refl)
        (λ byte plain. All-cons IsNoMarkup byte [] (plain.lt, plain.gt, plain.quot, plain.apos) (All-nil IsNoMarkup))

-- ---- each `&` begins an entity

abbrev AreEntities : List ℕ → Type 0
AreEntities text = (place : ℕ) → slice_index text place ≡ 38 → BeginsEntity (drop place text)

one_more : (byte : ℕ) (text : List ℕ) → (byte ≡ 38 → BeginsEntity (byte ∷ text)) → AreEntities text → AreEntities (byte ∷ text)
one_more byte text first are zero is = first is
one_more byte text first are (suc place) is = are place is

others : (bytes : List ℕ) (text : List ℕ) → list_all (λ byte. not (byte == 38)) bytes ≡ true → AreEntities text → AreEntities (bytes ++ text)
others [] text passes are = are
others (byte ∷ bytes) text passes are =
    let both = and_parts (not (byte == 38)) (list_all (λ byte. not (byte == 38)) bytes) passes in
    one_more byte (bytes ++ text) (λ is. absurd (true≢false (sym both.0 ∙ ap (λ n. not (n == 38)) is))) (others bytes text both.1 are)

none : AreEntities []
none zero is = absurd (omega (arith, is))
none (suc place) is = absurd (omega (arith, is))

pub entities : (name : List ℕ) → AreEntities (escaped name)
entities [] = none
entities (byte ∷ name) = of_byte byte (escaped name) (entities name)
  where
    of_byte : (byte : ℕ) (text : List ℕ) → AreEntities text → AreEntities (escape byte ++ text)
    of_byte = by_byte (λ _ entity. (text : List ℕ) → AreEntities text → AreEntities (entity ++ text))
        (λ text are. one_more 38 (codes "amp;" ++ text) (λ _. inl refl) (others (codes "amp;") text refl are))
        (λ text are. one_more 38 (codes "lt;" ++ text) (λ _. inr (inl refl)) (others (codes "lt;") text refl are))
        (λ text are. one_more 38 (codes "gt;" ++ text) (λ _. inr (inr (inl refl))) (others (codes "gt;") text refl are))
        (λ text are. one_more 38 (codes "quot;" ++ text) (λ _. inr (inr (inr (inl refl)))) (others (codes "quot;") text refl are))
        (λ text are. one_more 38 (codes "#39;" ++ text) (λ _. inr (inr (inr (inr refl)))) (others (codes "#39;") text refl are))
        (λ byte plain text are. one_more byte text (λ is. absurd (plain.amp is)) are)

-- ---- what is seen

pub seen : (name : List ℕ) → shown (escaped name) ≡ name
seen [] = refl
seen (byte ∷ name) = of_byte byte (escaped name) ∙ ap (λ text. byte ∷ text) (seen name)
  where
    of_byte : (byte : ℕ) (text : List ℕ) → shown (escape byte ++ text) ≡ byte ∷ shown text
    of_byte = by_byte (λ byte entity. (text : List ℕ) → shown (entity ++ text) ≡ byte ∷ shown text)
        (λ text. refl) (λ text. refl) (λ text. refl) (λ text. refl) (λ text. refl)
        (λ byte plain text. rw (ne_eqb 38 byte (λ is. plain.amp (sym is))) refl)
