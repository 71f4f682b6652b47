-- Files and a sink in memory, which fail at chosen calls.
use Rattle.std.specs.Prelude.{ℕ, List, Some}
use Rattle.strip_io.specs.Held.{HeldFile}
use Rattle.strip_io.specs.Sink.{SinkData, sink_data}

-- what files in memory hold, the most that a read gives, the numbers of the reads that fail, and how many reads
-- there have been
pub record MemoryFiles : Type 0 where
  pub files : List HeldFile
  pub piece : ℕ
  pub failing : List ℕ
  pub calls : ℕ

-- what a sink in memory has taken, the most it takes in all and at once, the numbers of the writes that fail, and
-- the counts of writes and of faults
pub record MemorySink : Type 0 where
  pub taken : List ℕ
  pub room : ℕ
  pub piece : ℕ
  pub failing : List ℕ
  pub calls : ℕ
  pub faults : ℕ

-- this sink at a moment, which tells what it has taken
abbrev pub memory_sink_data : MemorySink → SinkData
memory_sink_data sink = sink_data (Some sink.taken) sink.faults
