-- How a run ends with an answer, or without one.
use Rattle.std.specs.Prelude.{◌≡◌, ℕ, ◌⊎◌, List, ◌++◌, Option, Result, Ok, Err}
use Rattle.strip_io.specs.Counts.{Rose}
use Rattle.strip_io.specs.Sink.{Took, TookFront}
use Rattle.strip_proof.specs.Rows.{lines_text}
use Rattle.strip_answer.specs.declared.answer.Answer.{Answer}
use Rattle.strip_answer.specs.declared.ending.Stop.{Stop}
use Rattle.strip_answer.specs.declared.ending.Stop.TheVariants.{Read, Memory}
use Rattle.strip_answer.specs.declared.status.Status.{Status}
use Rattle.strip_answer.specs.declared.status.Status.TheVariants.{ReadFault, WriteFault, OutOfMemory}

-- all that an answer prints: its text, and the rows of its lines
abbrev pub answer_text : Answer → List ℕ
answer_text answer = answer.text.items ++ lines_text answer.lines.items

-- with an answer: its status and all of its text, or the status of a write that failed and less than its text;
-- without one: no text
abbrev pub IsEnd : Result Answer Stop → Option (List ℕ) → Option (List ℕ) → ℕ → ℕ → Status → Type 0
IsEnd (Ok answer) before after faults_before faults_after status =
    ((status ≡ answer.status) × Took before after (answer_text answer) × (faults_after ≡ faults_before))
    ⊎ ((status ≡ WriteFault) × TookFront before after (answer_text answer) × Rose faults_before faults_after)
IsEnd (Err Read) before after faults_before faults_after status = (status ≡ ReadFault) × (after ≡ before)
    × (faults_after ≡ faults_before)
IsEnd (Err Memory) before after faults_before faults_after status = (status ≡ OutOfMemory) × (after ≡ before)
    × (faults_after ≡ faults_before)
