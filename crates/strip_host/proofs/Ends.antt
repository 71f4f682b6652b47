-- How a run ends, by its exit code.
use Rattle.std.proofs.Common.{◌≡◌, ◌∙◌, ◌≤◌, ℕ, List, Result, Ok, Err, IfOk, OnErr, IsErr, inl, inr, refl, sym, subst, ap, arith}
use Rattle.strip_io.specs.declared.files.Memory.{Memory}
use Rattle.strip_io.specs.Files.{FilesData}
use Rattle.strip_io.specs.Sink.{SinkData}
use Rattle.strip_answer.specs.Claims.{AsksFor, Claims}
use Rattle.strip_answer.specs.Headline.{IsHeadline}
use Rattle.strip_answer.specs.Run.{FilesStay, RunData, SinkStays}
use Rattle.strip_answer.specs.declared.status.Status.TheVariants.{NoJob, OutOfMemory}
use Rattle.strip_host.specs.Run.{IsUntouched}

files_stay : (before after : FilesData) (Asked : List ℕ → Type 0) (failed : Type 0) → after ≡ before → FilesStay before after Asked failed
files_stay before after Asked failed same = subst (λ files. FilesStay before files Asked failed) (sym same) (record {
  held = refl;
  told = refl;
  later = λ name. omega arith;
  others = λ name other. refl;
  unfailed = λ well. refl;
  came_others = λ name other. refl;
})

sink_stays : (before after : SinkData) (failed : Type 0) → after ≡ before → SinkStays before after failed
sink_stays before after failed same = subst (λ sink. SinkStays before sink failed) (sym same) (record { later = omega arith; unfailed = λ well. refl })

-- a run that ended for want of memory before anything was read or written
out_of_memory : {Job : Type 0} (claims : Claims Job) (run : RunData) → IsUntouched run → IsHeadline claims run 9
out_of_memory claims run same = record {
  status = OutOfMemory;
  exit_status = refl;
  outcome = ap (λ (sink : SinkData). sink.taken) same.1;
  no_job = λ is. absurd (let e : OutOfMemory ≡ NoJob = is in cc);
  no_job_where = λ none. inr (inr refl);
  refused_where = λ job why named unfit. inr (inr (inr refl));
  complete = λ job named fit read unfailed. inr refl;
  files = files_stay run.files_before run.files_after (AsksFor claims run.words run.files_before) _ same.0;
  sink = sink_stays run.sink_before run.sink_after _ same.1;
}

-- the exit code is that of a run, or says that there was no memory for one
pub ends : {Job : Type 0} (claims : Claims Job) (run : RunData) (outcome : Result ℕ Memory) (code : ℕ) → IfOk outcome (IsHeadline claims run)
    → OnErr outcome (IsUntouched run) → ((status : ℕ) → outcome ≡ Ok status → code ≡ status) → (IsErr outcome → code ≡ 9) → IsHeadline claims run code
ends claims run (Ok status) code ran untouched ok err = subst (IsHeadline claims run) (sym (ok status refl)) ran
ends claims run (Err memory) code ran untouched ok err = subst (IsHeadline claims run) (sym (err refl)) (out_of_memory claims run untouched)
