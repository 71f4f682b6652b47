-- What `--auto` leaves to the program.
use Rattle.std.proofs.Common.{◌↔◌, Bool, true, false, not, ◌&&◌, true≢false, IsTrue, List, Contains, refl, sym}
use Rattle.strip_words.specs.Words.{Item, Flag}
use Rattle.strip_words.specs.Options.{IsLeftOut}
use Rattle.strip_words.specs.Solve.{LeavesOpen, table_option, steps_option, bounds_option, steal_flag}

-- the items leave it open just where four tests say so
pub leaves_so : (items : List Item) (table steps bounds steal : Bool)
    → (IsTrue table ↔ IsLeftOut table_option.name items) → (IsTrue steps ↔ IsLeftOut steps_option.name items)
    → (IsTrue bounds ↔ IsLeftOut bounds_option.name items) → (IsTrue steal ↔ Contains items (Flag steal_flag))
    → IsTrue (((table && steps) && bounds) && not steal) ↔ LeavesOpen items
leaves_so items true true true false t s b f =
    (λ _. record { table = t.0 refl; steps = s.0 refl; bounds = b.0 refl; steal = λ there. true≢false (sym (f.1 there)) }, λ _. refl)
leaves_so items true true true true t s b f = (λ is. absurd (true≢false (sym is)), λ left. absurd (left.steal (f.0 refl)))
leaves_so items true true false steal t s b f = (λ is. absurd (true≢false (sym is)), λ left. b.1 left.bounds)
leaves_so items true false bounds steal t s b f = (λ is. absurd (true≢false (sym is)), λ left. s.1 left.steps)
leaves_so items false steps bounds steal t s b f = (λ is. absurd (true≢false (sym is)), λ left. t.1 left.table)
