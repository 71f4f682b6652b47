-- Results and options at the exits of `?`.
use Rattle.std.proofs.Common.{◌≡◌, Option, None, Some, Result, Ok, Err, ok_or, IfNone, IfErr, IsErrAnd, sym, subst}
use Rattle.strip_words.specs.declared.fault.WordsFault.{WordsFault}
use Rattle.strip_words.specs.declared.fault.WordsFault.TheVariants.{BadWords, Memory}

pub if_none : {X : Type 0} (o : Option X) (P : Type 0) → P → IfNone o P
if_none None P holds = holds
if_none (Some x) P holds = tt

pub if_err : {X E : Type 0} (r : Result X E) (Q : E → Type 0) → ((e : E) → Q e) → IfErr r Q
if_err (Ok x) Q holds = tt
if_err (Err e) Q holds = holds e

pub err_from : {X E : Type 0} (r : Result X E) (R Q : E → Type 0) → IsErrAnd r R → ((e : E) → R e → Q e) → IfErr r Q
err_from (Ok x) R Q is holds = tt
err_from (Err e) R Q is holds = holds e is

-- an error where an option has no value
pub err_from_none : {X E : Type 0} (o : Option X) (e : E) (r : Result X E) (P Q : Type 0) → r ≡ ok_or o e → IfNone o P → (P → Q) → IfErr r (λ _. Q)
err_from_none {X} {E} None e r P Q is none holds = subst (λ (s : Result X E). IfErr s (λ _. Q)) (sym is) (holds none)
err_from_none {X} {E} (Some x) e r P Q is none holds = subst (λ (s : Result X E). IfErr s (λ _. Q)) (sym is) tt

-- what holds of an error follows from what was told of it
pub err_as : {X E : Type 0} (r : Result X E) (P Q : E → Type 0) → IfErr r P → ((e : E) → P e → Q e) → IfErr r Q
err_as (Ok x) P Q told follows = tt
err_as (Err e) P Q told follows = follows e told

-- want of memory says nothing of the words
pub no_memory : {X : Type 0} (r : Result X WordsFault) (Q : Type 0) → IsErrAnd r (λ e. e ≡ Memory) → IfErr r (λ e. e ≡ BadWords → Q)
no_memory (Ok x) Q is = tt
no_memory (Err e) Q is = λ bad. absurd (cc (is, bad))
