-- What an event makes of a world, and what it replies.
use Rattle.std.specs.Prelude.{◌≡◌, ⊤, ℕ, zero, suc, ◌+◌, ◌==◌, nat_lt, min, if◌then◌else◌, Option, Some, None, List, [], ◌∷◌, ◌++◌, length, slice_set}
use Rattle.strip_film.specs.declared.shared.Known.{Known}
use Rattle.strip_film.specs.declared.shared.Line.{Line}
use Rattle.strip_film.specs.declared.shared.Listed.{Listed}
use Rattle.strip_film.specs.declared.shared.Listed.TheVariants.{Line as NewLine, Spent}
use Rattle.strip_film.specs.declared.shared.Noted.{Noted}
use Rattle.strip_film.specs.declared.shared.Probe.{Probe}
use Rattle.strip_film.specs.declared.shared.Probe.TheVariants.{Hit, Miss}
use Rattle.strip_film.specs.Path.{PathData}
use Rattle.strip_film.specs.Shown.{path_data}
use Rattle.strip_bound.specs.Bounds.{bound}
use Rattle.strip_lines.specs.Lines.{with_raised}
use Rattle.strip_table.specs.Home.{bucket_of, stripe_of}
use Rattle.strip_table.specs.Bucket.{Puts, find_in}
use Rattle.strip_table.specs.Stripe.{home}
use Rattle.strip_world.specs.declared.event.Event.{Event}
use Rattle.strip_world.specs.declared.event.Event.TheVariants.{Look, Offer, Claim, Enlist, Raise, Probe as Ask, Note}
use Rattle.strip_world.specs.declared.event.Reply.{Reply}
use Rattle.strip_world.specs.declared.event.Reply.TheVariants.{Least, Task, Listed as HasListed, Raised as HasRaised, Probed, Noted as HasNoted}
use Rattle.strip_world.specs.Allowed.{IsAllowed}
use Rattle.strip_world.specs.World.{WorkerData, WorldData, home_stripe, part_at, worker_at}

-- a worker is put in the place of what it was
abbrev pub with_worker : WorldData → ℕ → WorkerData → WorldData
with_worker world who worker = record world { workers = slice_set world.workers who worker }

-- a look: the worker is told the least cost
abbrev pub looked : WorldData → ℕ → WorldData
looked world who = with_worker world who (record (worker_at world who) { told = world.least })

-- an offer: the least cost is that of the path where it is cheaper, which the worker keeps where it is cheaper than
-- its best
abbrev pub offered : WorldData → ℕ → PathData → WorldData
offered world who path =
    with_worker (record world { least = min world.least path.paid }) who (record (worker_at world who) {
      told = min world.least path.paid;
      best = if nat_lt path.paid (worker_at world who).best.paid then path else (worker_at world who).best;
    })

-- a claim: the next part is the worker's, where one is left
abbrev pub claimed : WorldData → ℕ → WorldData
claimed world who = if nat_lt world.next (length world.parts)
    then record world {
      next = world.next + 1;
      parts = slice_set world.parts world.next (record (part_at world world.next) { claimer = Some who });
    }
    else world

abbrev pub claim_reply : WorldData → Option ℕ
claim_reply world = if nat_lt world.next (length world.parts) then Some world.next else None

-- an enlistment: a line of what remains, with its static bound; the path is its part's last. Nothing where the
-- lines are as many as they may be
abbrev pub new_line : WorldData → PathData → Line
new_line world path = record { set = path.rest; bound = bound world.search.kind world.search.film path.rest }

abbrev pub enlisted : WorldData → ℕ → PathData → WorldData
enlisted world part path = if length world.lines == world.search.nodes
    then world
    else record world {
      lines = world.lines ++ new_line world path ∷ [];
      parts = slice_set world.parts part (record (part_at world part) { last = Some path; number = (part_at world part).number + 1 });
    }

abbrev pub enlist_reply : WorldData → Listed
enlist_reply world = if length world.lines == world.search.nodes then Spent (length world.lines) else NewLine
    (length world.lines)

-- a raise: the line has the greater of its bound and this one
abbrev pub raised_in : WorldData → ℕ → ℕ → WorldData
raised_in world line bound = record world { lines = with_raised world.lines line bound }

-- a probe: what its stripe has of the set
abbrev pub answer_of : Option Known → Probe
answer_of None = Miss
answer_of (Some known) = Hit known

abbrev pub found : WorldData → ℕ → Probe
found world set = answer_of (find_in (home (home_stripe world set) set) set)

abbrev pub probed : WorldData → ℕ → ℕ → WorldData
probed world who set = with_worker world who (record (worker_at world who) { probe = Some (record { set = set; answer = found world set }) })

-- a note: the bucket of its set, and nothing else of the table, changes as a put says
pub record IsNoted (world : WorldData) (who : ℕ) (known : Known) (after : WorldData) (answer : Noted) : Type 0 where
  pub puts : Puts (home (home_stripe world known.set) known.set) known
      (home (home_stripe after known.set) known.set) answer
  pub table : after.stripes ≡ slice_set world.stripes (stripe_of known.set)
      (slice_set (home_stripe world known.set) (bucket_of known.set (length (home_stripe world known.set)))
      (home (home_stripe after known.set) known.set))
  pub others : after ≡ record (with_worker world who (record (worker_at world who) { note = Some known })) { stripes = after.stripes }

-- the event makes this of the world, with this reply
abbrev pub Steps : WorldData → Event → WorldData → Reply → Type 0
Steps world (Look who) after reply = (after ≡ looked world who) × (reply ≡ Least world.least)
Steps world (Offer who path) after reply =
    (after ≡ offered world who (path_data path)) × (reply ≡ Least (min world.least (path_data path).paid))
Steps world (Claim who) after reply = (after ≡ claimed world who) × (reply ≡ Task (claim_reply world))
Steps world (Enlist who task path) after reply =
    (after ≡ enlisted world task (path_data path)) × (reply ≡ HasListed (enlist_reply world))
Steps world (Raise who line bound) after reply = (after ≡ raised_in world line bound) × (reply ≡ HasRaised)
Steps world (Ask who set) after reply = (after ≡ probed world who set) × (reply ≡ Probed (found world set))
Steps world (Note who known) after reply = (answer : Noted) × IsNoted world who known after answer
    × (reply ≡ HasNoted answer)

-- no event is left, or the next one isn't allowed
abbrev pub StopsAt : WorldData → List Event → Type 0
StopsAt world [] = ⊤
StopsAt world (event ∷ events) = ¬ IsAllowed world event

-- the first n of the events, each allowed when it came, make this of the world, and no further one may come
abbrev pub Runs : WorldData → List Event → ℕ → WorldData → Type 0
Runs world events zero after = (after ≡ world) × StopsAt world events
Runs world [] (suc n) after = ⊥
Runs world (event ∷ events) (suc n) after =
    IsAllowed world event × ((between : WorldData) × (reply : Reply) × Steps world event between reply
    × Runs between events n after)
