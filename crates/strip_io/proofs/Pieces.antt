-- A text read or written in pieces.
use Rattle.std.proofs.Common.{◌≡◌, ℕ, ◌+◌, ◌<◌, ◌≤◌, List, ◌++◌, length, take, drop, Option, Some, None, Result, Ok, Err, IfOk, OnErr, sym, ◌∙◌, ap, subst, arith, append_assoc, length-append, length-drop}
use Rattle.std.specs.Option.{option_map}
use Rattle.std.proofs.Math.Seq.{take-append_seam}
use Rattle.std.proofs.lemmas.List.{append-nil, take-append-drop, drop-drop, drop_all, take_all, take-take, take-append-le}
use Rattle.strip_io.specs.Files.{CopiesFrom}
use Rattle.strip_io.specs.Sink.{Took, TookFront}

-- what was read so far, and what is left
pub read_more : (all text into : List ℕ) (at n : ℕ) → all ++ drop at text ≡ text → CopiesFrom text at n into → (all ++ take n into) ++ drop (at + n) text ≡ text
read_more all text into at n read copied =
    append_assoc all (take n into) (drop (at + n) text)
    ∙ ap (λ (l : List ℕ). all ++ (l ++ drop (at + n) text)) copied.bytes
    ∙ ap (λ (l : List ℕ). all ++ (take n (drop at text) ++ l)) (sym (drop-drop n at text))
    ∙ ap (λ (l : List ℕ). all ++ l) (take-append-drop n (drop at text))
    ∙ read

-- where the text ends, all of it was read
pub read_whole : (all text : List ℕ) (at : ℕ) → all ++ drop at text ≡ text → length text ≤ at → all ≡ text
read_whole all text at read ends =
    sym (append-nil all) ∙ ap (λ (l : List ℕ). all ++ l) (sym (drop_all at text ends)) ∙ read

-- one piece after another
pub took_more : (a b c : Option (List ℕ)) (first next : List ℕ) → Took a b first → Took b c next → Took a c (first ++ next)
took_more None b c first next took more = more ∙ ap (option_map (λ (t : List ℕ). t ++ next)) took
took_more (Some t) b c first next took more =
    more ∙ ap (option_map (λ (t : List ℕ). t ++ next)) took ∙ ap Some (append_assoc t first next)

-- a part that isn't all of the text is a front of it
pub front_taken : (before after : Option (List ℕ)) (sent rest text : List ℕ) → sent ++ rest ≡ text → 0 < length rest → Took before after sent → TookFront before after text
front_taken before after sent rest text parts some took =
    let sizes = sym (length-append sent rest) ∙ ap length parts in
    let front : take (length sent) text ≡ sent = ap (take (length sent)) (sym parts) ∙ take-append_seam sent rest in
    (length sent, omega arith, subst (λ (t : List ℕ). Took before after t) (sym front) took)

-- a front of the first part, and of the next
pub front_early : (a b : Option (List ℕ)) (first next : List ℕ) → TookFront a b first → TookFront a b (first ++ next)
front_early a b first next front =
    front_taken a b (take front.0 first) (drop front.0 first ++ next) (first ++ next)
    (sym (append_assoc (take front.0 first) (drop front.0 first) next) ∙ ap (λ (l : List ℕ). l ++ next) (take-append-drop front.0 first))
    (omega (arith, front.1, length-drop front.0 first, length-append (drop front.0 first) next)) front.2

pub front_late : (a b c : Option (List ℕ)) (first next : List ℕ) → Took a b first → TookFront b c next → TookFront a c (first ++ next)
front_late a b c first next took front =
    front_taken a c (first ++ take front.0 next) (drop front.0 next) (first ++ next)
    (append_assoc first (take front.0 next) (drop front.0 next) ∙ ap (λ (l : List ℕ). first ++ l) (take-append-drop front.0 next))
    (omega (arith, front.1, length-drop front.0 next)) (took_more a b c first (take front.0 next) took front.2)

pub parts_more : (sent rest text : List ℕ) (n m : ℕ) → sent ++ rest ≡ text → length rest ≤ n + m → (sent ++ take n rest) ++ take m (drop n rest) ≡ text
parts_more sent rest text n m parts most =
    let left = length-drop n rest in
    append_assoc sent (take n rest) (take m (drop n rest))
    ∙ ap (λ (l : List ℕ). sent ++ (take n rest ++ l)) (take_all m (drop n rest) (omega arith))
    ∙ ap (λ (l : List ℕ). sent ++ l) (take-append-drop n rest)
    ∙ parts

-- what holds anyway holds on an error
pub on_err : {T E P : Type 0} (r : Result T E) → P → OnErr r P
on_err (Ok x) p = tt
on_err (Err e) p = p

-- the front of a buffer that was written over
pub buffer_front : (into buffer : List ℕ) (size n : ℕ) → n ≤ length into → length into ≡ size → take n (take size (into ++ drop (length into) buffer)) ≡ take n into
buffer_front into buffer size n within whole =
    take-take n size (into ++ drop (length into) buffer) (omega arith) ∙ take-append-le n into (drop (length into) buffer) within

pub if_ok : {T E : Type 0} (P : T → Type 0) (r : Result T E) → ((x : T) → P x) → IfOk r P
if_ok P (Ok x) each = each x
if_ok P (Err e) each = tt
