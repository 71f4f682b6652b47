-- Numbers of files at hand.
use Rattle.std.proofs.Common.{◌≡◌, ℕ, List, Option, Some, None, IfSome, Contains, String, string_bytes, sym, subst}
use Rattle.std.specs.declared.alloc.Global.{Global}
use Rattle.stripboard_cases.specs.declared.case.Bound.{Bound}
use Rattle.stripboard_cases.specs.declared.case.Bound.TheVariants.{In}
use Rattle.stripboard_cases.specs.declared.case.Held.{Held}
use Rattle.stripboard_cases.specs.Met.{HasNumber, IsBound, IsHeld}

pub held_number : (files : List Held) (file name : List ℕ) (held : Held) (read : List ℕ) (result : Option ℕ) → Contains files held → string_bytes held.name ≡ file
    → read ≡ held.bytes.items → IfSome result (HasNumber read name) → IfSome result (λ number. (bytes : List ℕ) × IsHeld files file bytes × HasNumber bytes name number)
held_number files file name held read None within same is has = tt
held_number files file name held read (Some number) within same is has = (read, (held, within, same, sym is), has)

pub held_bound : (files : List Held) (bound : Bound) (name file : String Global) (names place : List ℕ) (result : Option ℕ) → bound ≡ In name file
    → names ≡ string_bytes name → place ≡ string_bytes file
    → IfSome result (λ number. (bytes : List ℕ) × IsHeld files place bytes × HasNumber bytes names number) → IfSome result (IsBound files bound)
held_bound files bound name file names place None is same at has = tt
held_bound files bound name file names place (Some number) is same at has = subst (λ b. IsBound files b number) (sym is)
    (has.0, subst (λ (f : List ℕ). IsHeld files f has.0) at has.1, subst (λ (n : List ℕ). HasNumber has.0 n number) same has.2)
