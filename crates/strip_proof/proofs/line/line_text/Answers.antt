use Rattle.std.proofs.Common.{◌≡◌, ◌≤◌, ℕ, List, [], ◌∷◌, ◌++◌, codes, length, length-append, ap, sym, ◌∙◌, arith}
use Rattle.std.specs.Fmt.{decimal}
use Rattle.strip_proof.specs.Rows.{set_field}
use Rattle.strip_proof.proofs.Plain.{plain-hex_digits, plain-decimal, line_written}
use Rattle.strip_proof.proofs.line.line_text.Goals as goal

-- the digits of a bound with the line feed behind them
short_bound : (start end bound digits : List ℕ) → start ≡ [] → end ≡ 10 ∷ start → bound ≡ digits ++ end → length digits ≤ 20 → length bound ≤ 21
short_bound start end bound digits none feed is short = omega (arith, ap length none, ap length feed, ap length is, length-append digits end, short)

pub prepend-requires-2 : goal.prepend-requires-2
prepend-requires-2 c = omega (arith, short_bound _ _ _ _ c.new-text.ensures c.prepend.ensures c.prepend_number.ensures.text c.prepend_number.ensures.short)

pub prepend-requires-3 : goal.prepend-requires-3
prepend-requires-3 c =
    let few = short_bound _ _ _ _ c.new-text.ensures c.prepend.ensures c.prepend_number.ensures.text c.prepend_number.ensures.short in
    omega (arith, few, ap length c.prepend-2.ensures, ap length c.set_digits.ensures)

pub prepend-requires-4 : goal.prepend-requires-4
prepend-requires-4 c =
    let few = short_bound _ _ _ _ c.new-text.ensures c.prepend.ensures c.prepend_number.ensures.text c.prepend_number.ensures.short in
    omega (arith, few, ap length c.prepend-2.ensures, ap length c.set_digits.ensures, ap length c.prepend-3.ensures, length-append c.set_digits.result c.prepend-2.new.self)

pub returns : goal.returns
returns c =
    let set : ℕ = c.args.line.now.set in
    let bound : ℕ = c.args.line.now.bound in
    let end = c.prepend.ensures ∙ ap (λ (text : List ℕ). codes "\n" ++ text) c.new-text.ensures in
    let with_bound = c.prepend_number.ensures.text ∙ ap (λ (text : List ℕ). decimal bound ++ text) end in
    let with_comma = c.prepend-2.ensures ∙ ap (λ (text : List ℕ). codes "," ++ text) with_bound in
    let with_set = c.prepend-3.ensures ∙ (λ i. c.set_digits.ensures i ++ with_comma i) in
    c.prepend-4.ensures ∙ ap (λ (text : List ℕ). codes "line," ++ text) with_set
    ∙ sym (line_written (set_field set) (decimal bound) (plain-hex_digits 16 set) (plain-decimal bound))
