use Rattle.std.proofs.Common.{◌≡◌, ◌<◌, ◌≤◌, ℕ, drop, slice_index_or}
use Rattle.strip_words.specs.Options.{number_from}
use Rattle.strip_words.proofs.number.number_of.Given as goal

abbrev pub invariant-loop-byte : goal.invariant-loop-byte
invariant-loop-byte l = record {
  digits : (k : ℕ) → k < l.byte-index → (48 ≤ slice_index_or l.byte-items k 0) × (slice_index_or l.byte-items k 0 ≤ 57);
  value : number_from 0 l.byte-items ≡ number_from l.number (drop l.byte-index l.byte-items);
}
