use Rattle.std.proofs.Common.{◌≡◌, ◌++◌, take}
use Rattle.strip_reports.specs.Html.{escaped}
use Rattle.strip_reports.proofs.html.push_escaped.Given as goal

abbrev pub invariant-loop-byte : goal.invariant-loop-byte
invariant-loop-byte l = l.page.items ≡ l.fn.page.items ++ escaped (take l.byte-index l.name)
