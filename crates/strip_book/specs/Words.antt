-- Where the words of a book stand. What several workers write lies 128 bytes from what is only read, and each desk
-- 128 bytes from others.
use Rattle.std.specs.Prelude.{ℕ, ◌+◌, ◌*◌}

-- the word that is only read
abbrev pub quiet_word : ℕ
quiet_word = 0

-- the word of the count: how many lines were drawn, and how often none was left
abbrev pub count_word : ℕ
count_word = 16

-- the word of a desk, where a worker announces what it is about to do
abbrev pub desk_word : ℕ → ℕ
desk_word desk = 32 + 16 * desk

-- the two words of a line: its set, and its bound
abbrev pub set_word : ℕ → ℕ
set_word line = 1056 + 2 * line

abbrev pub bound_word : ℕ → ℕ
bound_word line = 1057 + 2 * line

-- how many words a book of so many lines has
abbrev pub word_count : ℕ → ℕ
word_count nodes = 1056 + 2 * nodes
