-- A run over the host.
use Rattle.std.specs.Prelude.{◌≡◌, ◌↔◌, ℕ, true, List, None, Contains}
use Rattle.strip_io.specs.Files.{FilesData, files_data}
use Rattle.strip_io.specs.Held.{HeldFile, came_of, faults_of, is_held}
use Rattle.strip_io.specs.Sink.{SinkData, sink_data}
use Rattle.strip_answer.specs.Run.{RunData, run_data}

-- the host's files, whose bytes aren't told, and its output, of which it isn't told what it takes
abbrev pub files_told : List HeldFile → FilesData
files_told files = files_data (is_held files) (λ name. None) (faults_of files) (came_of files)

abbrev pub sink_told : ℕ → SinkData
sink_told faults = sink_data None faults

-- the files that may be read are those that the words name, and nothing has failed yet
pub record IsFresh (words : List (List ℕ)) (files : FilesData) (sink : SinkData) : Type 0 where
  pub held : (name : List ℕ) → (files.holds name ≡ true) ↔ Contains words name
  pub unread : (name : List ℕ) → files.faults name ≡ 0
  pub unwritten : sink.faults ≡ 0

-- the run of these words over the host, whose files and output stood so before it and after it
abbrev pub run_over : List (List ℕ) → List HeldFile → List HeldFile → ℕ → ℕ → RunData
run_over words before after faults_before faults_after =
    run_data words (files_told before) (files_told after) (sink_told faults_before) (sink_told faults_after)

-- nothing was read or written
abbrev pub IsUntouched : RunData → Type 0
IsUntouched run = (run.files_after ≡ run.files_before) × (run.sink_after ≡ run.sink_before)
