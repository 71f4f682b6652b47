use Rattle.std.proofs.Common.{◌≡◌, ℕ, List, Result, Ok, Err, OnErr, ap}
use Rattle.strip_io.specs.declared.files.Memory.{Memory}
use Rattle.strip_io.specs.Held.{HeldFile}
use Rattle.strip_host.specs.Run.{IsUntouched, files_told, run_over, sink_told}
use Rattle.strip_host.proofs.Ends.{ends}
use Rattle.strip_words.specs.Shown.{texts}
use Rattle.strip_commands.specs.Due.{board_claims}
use Rattle.stripboard.proofs.outcome.run.Goals as goal

-- a host whose files and output are as they were is untouched
untouched : (words : List (List ℕ)) (before after : List HeldFile) (faults now : ℕ) (outcome : Result ℕ Memory) → OnErr outcome ((after ≡ before) × (now ≡ faults))
    → OnErr outcome (IsUntouched (run_over words before after faults now))
untouched words before after faults now (Ok status) same = tt
untouched words before after faults now (Err memory) same = (ap files_told same.0, ap sink_told same.1)

pub returns : goal.returns
returns g c =
    let words = texts c.args.host.now.words.items in
    let before = c.args.host.now.files.held in
    let after = c.run_host.new.host.files.held in
    let faults = c.args.host.now.out.faults in
    let now = c.run_host.new.host.out.faults in
    record {
      headline = ends board_claims (run_over words before after faults now) c.run_host.result _ c.run_host.ensures.ran
          (untouched words before after faults now c.run_host.result c.run_host.ensures.untouched) c.exit_code.ensures.status c.exit_code.ensures.memory;
    }
