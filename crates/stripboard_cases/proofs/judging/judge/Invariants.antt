use Rattle.std.proofs.Common.{◌≡◌, ℕ, List, Option, take}
use Rattle.strip_io.specs.Sink.{Took}
use Rattle.strip_words.specs.Shown.{texts}
use Rattle.stripboard_cases.specs.declared.case.Cases.{Cases}
use Rattle.stripboard_cases.specs.Judged.{AreRead, IsCounted}
use Rattle.stripboard_cases.proofs.judging.judge.Given as goal

abbrev pub invariant-loop-name : goal.invariant-loop-name
invariant-loop-name g l = record {
  files : (files : List (Option Cases)) × AreRead (g.F.Files.state l.fn.files).bytes (texts (take l.name-index l.names)) files × IsCounted files l.tally.cases l.tally.differing l.tally.is_unread;
  told : (g.F.Files.state l.files).bytes ≡ (g.F.Files.state l.fn.files).bytes;
  took : (rows : List ℕ) × Took (g.S.Sink.state l.fn.out).taken (g.S.Sink.state l.out).taken rows;
  unfailed : (g.S.Sink.state l.out).faults ≡ (g.S.Sink.state l.fn.out).faults;
}
