-- What each step makes of the view of a pass, and what it tells the pass.
use Rattle.std.specs.Prelude.{◌≡◌, ℕ, ◌+◌, ◌-◌, ◌<◌, ◌≤◌, true, false, ◌||◌, List, [], ◌∷◌, ◌++◌, min, length}
use Rattle.strip_model.specs.Pay.{IsOptimum}
use Rattle.strip_least.specs.declared.view.View.{View}
use Rattle.strip_least.specs.Rule.{IsPaid, full_weight, once_below, times}

-- A cost that the pass may be told: at most all that it was told and offered, with what the start path paid, and
-- paid by a complete path of the film, so at least the optimum
pub record Tells (before : View) (cost : ℕ) : Type 0 where
  pub no_more : cost ≤ before.told
  pub no_dearer : cost ≤ before.start
  pub paid : IsPaid before.film cost
  pub no_less : (pay : ℕ) → IsOptimum before.film pay → pay ≤ cost

-- a look: the pass is told the least cost
pub record HasLooked (before : View) (least : ℕ) (after : View) : Type 0 where
  pub only : after ≡ record before { told = least }
  pub tells : Tells before least

-- an offer of a path that paid this: the pass is told the lesser of it and of what was the least cost until then,
-- and has the better path
pub record HasOffered (paid : ℕ) (before : View) (answer : ℕ) (after : View) : Type 0 where
  pub least : ℕ
  pub was : Tells before least
  pub lesser : answer ≡ min least paid
  pub only : after ≡ record before { told = answer; best = min before.best paid }
  pub tells : Tells before answer

-- the part is one more of the claims
abbrev pub with_claim : View → ℕ → View
with_claim view part = record view { claims = view.claims ++ part ∷ [] }

-- a part is claimed: one that the pass hadn't. While there is no other pass, it is the next one of those that the
-- pass has
pub record IsClaimed (before : View) (part : ℕ) (after : View) : Type 0 where
  pub unended : before.ended ≡ false
  pub below : part < before.parts
  pub fresh : times part before.claims ≡ 0
  pub only : after ≡ with_claim before part
  pub next : before.weight ≡ full_weight → part ≡ length before.claims

-- no part is left: the pass has ended. While there is no other pass, it has claimed all parts
pub record IsEnded (before after : View) : Type 0 where
  pub only : after ≡ record before { ended = true }
  pub all : before.ended ≡ false → before.weight ≡ full_weight → length before.claims ≡ before.parts

-- a draw of the next part, by a pass that hasn't ended
pub record HasDrawn (before : View) (found : ℕ) (after : View) : Type 0 where
  pub claimed : found < before.parts → IsClaimed before found after
  pub none_left : before.parts ≤ found → IsEnded before after

-- a split: the pass loses a weight of 1, which the new one has, that knows as much and claimed nothing
abbrev pub lightened : View → View
lightened view = record view { weight = view.weight - 1 }

abbrev pub split_off : View → View
split_off view = record view { weight = 1; claims = [] }

-- a join: what both know and have together; and nothing, which the other is left with
abbrev pub joined : View → View → View
joined view other = record view {
  weight = view.weight + other.weight;
  ended = view.ended || other.ended;
  told = min view.told other.told;
  best = min view.best other.best;
  claims = view.claims ++ other.claims;
}

abbrev pub spent_view : View
spent_view = record {
  weight = 0;
  ended = false;
  film = record { casts = []; days = []; rates = []; holds = []; pairs = [] };
  start = 0;
  parts = 0;
  told = 0;
  best = 0;
  claims = [];
}

-- no part stands twice among the claims
abbrev pub AreOnce : List ℕ → Type 0
AreOnce claims = (part : ℕ) → times part claims ≤ 1

-- a load that tells a pass of its own claims that none stands twice
pub record HasCounted (before after : View) : Type 0 where
  pub only : after ≡ before
  pub once : AreOnce before.claims

-- A settlement: the pass is told the least cost. Where it has all the weight, its best path paid that, and where it
-- has ended besides, it has claimed all parts, each once
pub record HasSettled (before : View) (least : ℕ) (after : View) : Type 0 where
  pub only : after ≡ record before { told = least }
  pub tells : Tells before least
  pub best : before.weight ≡ full_weight → before.best ≡ least
  pub each : before.weight ≡ full_weight → before.ended ≡ true → (part : ℕ)
      → times part before.claims ≡ once_below part before.parts
