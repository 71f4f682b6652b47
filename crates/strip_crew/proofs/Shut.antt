-- The front is closed up, and the race ends.
use Rattle.std.proofs.Common.{◌≡◌, ℕ, ◌*◌, ◌≤◌, ◌⊎◌, Bool, Result, Ok, Err, IfOk, inl, inr, sym, ap, ◌∙◌, subst, arith}
use Rattle.strip_io.specs.declared.files.Memory.{Memory}
use Rattle.strip_model.specs.declared.kind.Kind.{Kind}
use Rattle.strip_model.specs.Film.{FilmData}
use Rattle.strip_film.specs.Film.{all_scenes}
use Rattle.strip_film.specs.Path.{PathData}
use Rattle.strip_lines.specs.Lines.{ahead, known, rules_of}
use Rattle.strip_lines.proofs.Grown.{known-grows}
use Rattle.strip_lines.specs.Paths.{candidate_count}
use Rattle.strip_hand.specs.Hand.{HandData, IsHand}
use Rattle.strip_hand.specs.Search.{GoesBy, SearchData, search_rules}
use Rattle.strip_lines.specs.declared.ended.Ended.{Ended}
use Rattle.strip_worker.specs.Closed.{IsClosed, known_of_all}
use Rattle.strip_lines.specs.Ended.{EndedData, IsEnded}
use Rattle.strip_worker.specs.Team.{GoesOn}
use Rattle.strip_worker.proofs.Moved.{cut_still}

-- what was closed up is, where the hand goes on
pub closed_still : (kind : Kind) (film : FilmData) (before after : HandData) (spent : Bool) (number : ℕ) → GoesOn before after → IsHand after
    → IsClosed kind film before spent number → IsClosed kind film after spent number
closed_still kind film before after spent number on limits shut = record {
  search = subst (GoesBy kind film) (sym on.search) shut.search;
  limits = limits;
  most = (let same : known_of_all (record before { lines = after.lines }) after.lines ≡ known_of_all after after.lines
      = ap (λ (search : SearchData). known (search_rules search) after.lines (all_scenes search.film)) (sym on.search) in
      omega (arith, shut.most, same, known-grows (search_rules before.search) before.lines after.lines (all_scenes before.search.film) on.grow));
  whole = λ not. omega (arith, on.told, shut.whole not);
  cut = λ so. cut_still before after on limits.few (shut.cut so);
  reaches = λ so. subst (λ (search : SearchData). ahead (search_rules search) (all_scenes search.film) ≤ number) (sym on.search) (shut.reaches so);
}

-- what follows from an end follows where there is one
pub where_ended : {P Q : Ended → Type 0} (result : Result Ended Memory) → ((ended : Ended) → P ended → Q ended) → IfOk result P → IfOk result Q
where_ended (Ok ended) leads is = leads ended is
where_ended (Err memory) leads is = tt

-- a search that had room for twice as many lines as there are orders had as much room as it could use
pub ended_within : (kind : Kind) (film : FilmData) (start : PathData) (nodes room most : ℕ) (ended : EndedData) → room ≤ nodes
    → (room ≡ nodes) ⊎ (room ≡ 2 * most) → candidate_count (rules_of kind film) start.paid ≤ 2 * most → IsEnded kind film start room ended → IsEnded kind film start nodes ended
ended_within kind film start nodes room most ended within enough orders is = record {
  order = is.order;
  cost = is.cost;
  no_dearer = is.no_dearer;
  lines = is.lines;
  bound = is.bound;
  true_bound = is.true_bound;
  held = is.held;
  most = omega (arith, is.most, within);
  candidates = is.candidates;
  sets = is.sets;
  spent = λ so. (
      let out = is.spent so in
      elim enough [
        | inl whole ↦ record { full = out.full ∙ whole; fewer = omega (arith, out.fewer, whole); reaches = out.reaches }
        | inr all ↦ absurd (omega (arith, out.fewer, all, orders))
      ]);
  closed = is.closed;
}
