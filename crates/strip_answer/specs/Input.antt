-- A file that was read.
use Rattle.std.specs.Prelude.{◌≡◌, ℕ, ◌+◌, ◌<◌, ◌≤◌, List, length, Some}
use Rattle.strip_io.specs.Counts.{CameAtLeast, CameOnly}
use Rattle.strip_io.specs.Files.{FilesData}

-- the file has a text of which this holds: the one that the files tell, where they tell it, and as many bytes came
-- between the two moments as it has, or more than the limit
pub record HasInput (name : List ℕ) (limit : ℕ) (before after : FilesData) (Holds : List ℕ → Type 0) : Type 0 where
  pub text : List ℕ
  pub told : (bytes : List ℕ) → before.bytes name ≡ Some bytes → text ≡ bytes
  pub came : length text ≤ limit → CameOnly name (length text) before.came after.came
  pub too_many : limit < length text → CameAtLeast (limit + 1) (before.came name) (after.came name)
  pub holds : Holds text
