use Rattle.std.proofs.Common.{◌≡◌, ◌↔◌, ℕ, List, take, map, string_bytes, IsTrue}
use Rattle.std.specs.List.{Contains}
use Rattle.strip_io.specs.Held.{came_of, faults_of, is_held}
use Rattle.strip_io.proofs.host.HostFiles.new.Given as goal

abbrev pub invariant-loop-word : goal.invariant-loop-word
invariant-loop-word g l = record {
  held : (name : List ℕ) → IsTrue (is_held l.table name) ↔ Contains (map string_bytes (take l.word-index l.words)) name;
  unfailed : (name : List ℕ) → faults_of l.table name ≡ 0;
  none_came : (name : List ℕ) → came_of l.table name ≡ 0;
}
