-- How asks are dealt to workers by turns, and the values that each worker finds.
use Rattle.std.specs.Prelude.{◌≡◌, ℕ, ◌+◌, ◌*◌, ◌<◌, ◌≤◌, ◌^◌, List, false, All, Result, IfOk, length, slice_index_or, vec_len}
use denote.Ref.{MutBor}
use Rattle.strip_io.specs.declared.files.Memory.{Memory}
use Rattle.strip_model.specs.declared.kind.Kind.{Kind}
use Rattle.strip_model.specs.Film.{FilmData}
use Rattle.strip_film.specs.Film.{LiesIn}
use Rattle.strip_layers.specs.declared.ask.Ask.{Ask}
use Rattle.strip_layers.specs.Asks.{AreAnswered, Suffices}
use Rattle.strip_crew.specs.declared.answering.Share.{Share}

-- the number of the ask that a worker has in a turn
abbrev pub ask_of : ℕ → ℕ → ℕ → ℕ
ask_of workers worker turn = turn * workers + worker

-- where the ask with this number exists and isn't known, the value suffices
pub record IsValue (kind : Kind) (film : FilmData) (asks : List Ask) (number value : ℕ) : Type 0 where
  pub asked : (d : Ask) → number < length asks → (slice_index_or asks number d).is_known ≡ false
      → Suffices kind film (slice_index_or asks number d).set (slice_index_or asks number d).need value

-- a worker's share has the value of its ask in each turn
pub record HasValues (kind : Kind) (film : FilmData) (asks : List Ask) (workers worker : ℕ) (share : Share) : Type 0 where
  pub each : (turn : ℕ) → turn < vec_len share.values
      → IsValue kind film asks (ask_of workers worker turn) (slice_index_or share.values.items turn 0)

-- a share has enough turns that all asks are dealt, and the asks of its turns can be numbered
pub record HasTurns (asks workers : ℕ) (share : Share) : Type 0 where
  pub all : asks ≤ vec_len share.values * workers
  pub few : vec_len share.values * workers < 2 ^ 64

-- each worker has such a share
pub record AreShares (asks workers : ℕ) (shares : List Share) : Type 0 where
  pub count : length shares ≡ workers
  pub each : All (HasTurns asks workers) shares

-- each worker's share has its values
pub record AreValues (kind : Kind) (film : FilmData) (asks : List Ask) (workers : ℕ) (shares : List Share) : Type 0 where
  pub are : AreShares (length asks) workers shares
  pub each : (worker : ℕ) (d : Share) → worker < workers
      → HasValues kind film asks workers worker (slice_index_or shares worker d)

-- the closure may be called with asks for sets of the film, and answers them
pub record AnswersAll (pre : MutBor (List Ask) → Type 0) (post : MutBor (List Ask) → Result (Unit {0}) Memory → MutBor (List Ask) → Type 0)
    (kind : Kind) (film : FilmData) : Type 0 where
  pub callable : (asks : MutBor (List Ask)) → All (λ ask. LiesIn film ask.set) asks.now → pre asks
  pub answers : (asks after : MutBor (List Ask)) (result : Result (Unit {0}) Memory) → All (λ ask. LiesIn film ask.set) asks.now
      → post asks result after → IfOk result (λ _. AreAnswered kind film asks.now after.now)
