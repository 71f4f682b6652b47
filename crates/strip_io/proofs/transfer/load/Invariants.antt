use Rattle.std.proofs.Common.{◌≡◌, ℕ, ◌+◌, ◌≤◌, List, ◌++◌, drop, vec_len, Some}
use Rattle.strip_io.specs.Counts.{CountsOnly}
use Rattle.strip_io.proofs.Counts.{CameSoFar}
use Rattle.strip_io.proofs.transfer.load.Given as goal

abbrev pub invariant-loop-turn : goal.invariant-loop-turn
invariant-loop-turn g l = record {
  held : (g.F.Files.state l.files).holds ≡ (g.F.Files.state l.fn.files).holds;
  told : (g.F.Files.state l.files).bytes ≡ (g.F.Files.state l.fn.files).bytes;
  counts : CountsOnly l.fn.name (g.F.Files.state l.fn.files).faults (g.F.Files.state l.files).faults;
  unfailed : (g.F.Files.state l.files).faults ≡ (g.F.Files.state l.fn.files).faults;
  came : CameSoFar l.fn.name (vec_len l.all) (g.F.Files.state l.fn.files).came (g.F.Files.state l.files).came;
  reads : g.F.Files.reads l.files ≤ g.F.Files.reads l.fn.files + l._turn;
  name : l.name ≡ l.fn.name;
  limit : l.limit ≡ l.fn.limit;
  short : vec_len l.all ≤ l.fn.limit;
  turn : l._turn ≤ vec_len l.all;
  room : vec_len l.piece ≡ 65536;
  read : (text : List ℕ) → (g.F.Files.state l.fn.files).bytes l.fn.name ≡ Some text → l.all.items ++ drop (vec_len l.all) text ≡ text;
}
