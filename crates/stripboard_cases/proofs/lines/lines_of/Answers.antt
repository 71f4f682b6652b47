use Rattle.std.proofs.Common.{◌≡◌, ℕ, ◌≤◌, List, subst, ◌∙◌, ap}
use Rattle.std.specs.List.{count_by}
use Rattle.std.specs.Str.Iter.{lines_rest}
use Rattle.std.proofs.lemmas.Iterator.Consumers.{YieldsList-end}
use Rattle.std.proofs.lemmas.Iterator.Splits.{YieldsList-from_lines}
use Rattle.stripboard_cases.specs.CaseRows.{case_lines, is_case_row}
use Rattle.stripboard_cases.proofs.lines.lines_of.Goals as goal

pub returns : goal.returns
returns c =
    let rest : lines_rest c.into_iter-text-iterator.result ≡ c.args.text.now = ap lines_rest c.into_iter-text-iterator.ensures.into_iter_gives ∙ c.lines-text-items.ensures.rest in
    let all = YieldsList-end (YieldsList-from_lines c.args.text.now rest) c.loop-text.yielded _ c.loop-text.yielded_by c.next.result _ c.in-None.is c.next.ensures.steps in
    subst (λ (rows : List (List ℕ)). count_by is_case_row rows ≤ case_lines c.loop-text.lines.items) all.0 c.loop-text.invariant
