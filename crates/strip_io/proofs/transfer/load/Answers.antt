use Rattle.std.proofs.Common.{◌≡◌, ℕ, ◌+◌, ◌≤◌, List, ◌++◌, vec_len, length, take, ◌∙◌, ap, subst, refl, arith, rules, length-drop}
use Rattle.std.proofs.lemmas.List.{length-take, length-take-le}
use Rattle.std.proofs.lemmas.Result.{IfOk-from_err}
use Rattle.strip_io.specs.Counts.{CameOnly}
use Rattle.strip_io.specs.Files.{CopiesFrom}
use Rattle.strip_io.proofs.Counts.{counts_on, counts_stay, failed_since, none_so_far, came_all, came_more}
use Rattle.strip_io.proofs.Pieces.{buffer_front, read_more, read_whole}
use Rattle.strip_io.proofs.transfer.load.Goals as goal

pub loop-turn-init : goal.loop-turn-init
loop-turn-init g c = record {
  held = refl;
  told = refl;
  counts = counts_stay c.args.name.now (g.F.Files.state c.args.files.now).faults;
  unfailed = refl;
  came = none_so_far c.args.name.now _ (g.F.Files.state c.args.files.now).came c.new-all.ensures.len;
  reads = omega arith;
  name = refl;
  limit = refl;
  short = omega arith;
  turn = omega arith;
  room = search rules;
  read = λ text told. rw (c.new-all.ensures.items, c.new-all.ensures.len) refl;
}

pub returns-in_err-count-clause-read : goal.returns-in_err-count-clause-read
returns-in_err-count-clause-read g c =
    λ _. failed_since c.args.name.now (g.F.Files.state c.args.files.now).holds (g.F.Files.state c.loop-turn.files).holds (g.F.Files.state c.args.files.now).faults (g.F.Files.state c.loop-turn.files).faults (g.F.Files.state c.read.new.self).faults c.loop-turn.invariant.counts c.loop-turn.invariant.held c.in_err-count.ensures.cause

pub returns-then-count-eq0-clause-all : goal.returns-then-count-eq0-clause-all
returns-then-count-eq0-clause-all g c = λ text told.
    let here = ap (λ (bytes : List ℕ → _). bytes c.args.name.now) c.loop-turn.invariant.told ∙ told in
    let copied = c.in_ok-count.ensures.copied text here in
    read_whole _ _ _ (c.loop-turn.invariant.read text told) (omega (arith, copied.ends))

pub returns-in_err-extend_from_slice-clause-counts : goal.returns-in_err-extend_from_slice-clause-counts
returns-in_err-extend_from_slice-clause-counts g c =
    counts_on _ _ _ _ c.loop-turn.invariant.counts c.read.ensures.counts

pub loop-turn-preserved : goal.loop-turn-preserved
loop-turn-preserved g c =
    let within : c.in_ok-count.count ≤ length c.read.new.into = c.in_ok-count.ensures.within in
    let size : vec_len c.extend_from_slice.new.self ≡ vec_len c.loop-turn.all + length (take c.in_ok-count.count c.deref.result.now) = c.in_ok-extend_from_slice.ensures.len in
    let items : c.extend_from_slice.new.self.items ≡ c.loop-turn.all.items ++ take c.in_ok-count.count c.deref.result.now = c.in_ok-extend_from_slice.ensures.items in
    let viewed = c.deref.ensures.len in
    let whole : length c.read.new.into ≡ c.loop-turn.piece.len = omega arith in
    let front = length-take-le c.in_ok-count.count c.deref.result.now (omega arith) in
    let written : take c.in_ok-count.count c.deref.result.now ≡ take c.in_ok-count.count c.read.new.into =
    ap (take c.in_ok-count.count) c.deref.ensures.value ∙ buffer_front c.read.new.into c.loop-turn.piece.items c.loop-turn.piece.len c.in_ok-count.count within whole in
    let reached : vec_len c.extend_from_slice.new.self ≡ vec_len c.loop-turn.all + c.in_ok-count.count = omega arith in
    record {
      held = c.read.ensures.held ∙ c.loop-turn.invariant.held;
      told = c.read.ensures.told ∙ c.loop-turn.invariant.told;
      counts = counts_on _ _ _ _ c.loop-turn.invariant.counts c.read.ensures.counts;
      unfailed = c.in_ok-count.ensures.unfailed ∙ c.loop-turn.invariant.unfailed;
      came = rw reached (came_more _ _ _ _ _ _ c.loop-turn.invariant.came c.in_ok-count.ensures.came);
      reads = omega (arith, c.loop-turn.invariant.reads, c.read.ensures.one_read);
      name = refl;
      limit = refl;
      short = omega arith;
      turn = omega arith;
      room = c.loop-turn.invariant.room;
      read = λ text told.
          let here = ap (λ (bytes : List ℕ → _). bytes c.args.name.now) c.loop-turn.invariant.told ∙ told in
          let copied : CopiesFrom text (vec_len c.loop-turn.all) c.in_ok-count.count c.read.new.into = subst (λ (at : ℕ). CopiesFrom text at c.in_ok-count.count c.read.new.into) c.len.ensures (c.in_ok-count.ensures.copied text here) in
          rw (items, written, reached)
          (read_more c.loop-turn.all.items text c.read.new.into (vec_len c.loop-turn.all) c.in_ok-count.count (c.loop-turn.invariant.read text told) copied);
    }

pub returns-then-count-eq0-clause-came : goal.returns-then-count-eq0-clause-came
returns-then-count-eq0-clause-came g c =
    let all = came_all _ _ _ _ _ _ c.loop-turn.invariant.came c.in_ok-count.ensures.came in
    subst (λ (n : ℕ). CameOnly c.args.name.now n (g.F.Files.state c.args.files.now).came (g.F.Files.state c.read.new.self).came) (omega arith) all

pub returns-in_err-count-clause-all : goal.returns-in_err-count-clause-all
returns-in_err-count-clause-all g c = IfOk-from_err _ _ c.from_residual-in_err-count.ensures.0

pub returns-in_err-count-clause-short : goal.returns-in_err-count-clause-short
returns-in_err-count-clause-short g c = IfOk-from_err _ _ c.from_residual-in_err-count.ensures.0

pub returns-in_err-count-clause-came : goal.returns-in_err-count-clause-came
returns-in_err-count-clause-came g c = IfOk-from_err _ _ c.from_residual-in_err-count.ensures.0

pub returns-in_err-extend_from_slice-clause-all : goal.returns-in_err-extend_from_slice-clause-all
returns-in_err-extend_from_slice-clause-all g c = IfOk-from_err _ _ c.from_residual-in_err-extend_from_slice.ensures.0

pub returns-in_err-extend_from_slice-clause-short : goal.returns-in_err-extend_from_slice-clause-short
returns-in_err-extend_from_slice-clause-short g c = IfOk-from_err _ _ c.from_residual-in_err-extend_from_slice.ensures.0

pub returns-in_err-extend_from_slice-clause-came : goal.returns-in_err-extend_from_slice-clause-came
returns-in_err-extend_from_slice-clause-came g c = IfOk-from_err _ _ c.from_residual-in_err-extend_from_slice.ensures.0

pub returns-in_err-count-clause-unfailed : goal.returns-in_err-count-clause-unfailed
returns-in_err-count-clause-unfailed g c = λ other. absurd (other (search (rules, c.from_residual-in_err-count.ensures)))

pub returns-then-len-count-clause-too_long : goal.returns-then-len-count-clause-too_long
returns-then-len-count-clause-too_long g c = λ _ text told.
    let here = ap (λ (bytes : List ℕ → _). bytes c.args.name.now) c.loop-turn.invariant.told ∙ told in
    let copied = c.in_ok-count.ensures.copied text here in
    let sizes = simp (length-take, length-drop) at (ap length copied.bytes) in
    omega (arith, sizes, c.if-len-count.true, c.in_ok-count.ensures.within)

pub returns-in_err-extend_from_slice-clause-none_else : goal.returns-in_err-extend_from_slice-clause-none_else
returns-in_err-extend_from_slice-clause-none_else g c = λ other apart. c.in_ok-count.ensures.came.others other apart ∙ c.loop-turn.invariant.came.others other apart

pub returns-then-count-eq0-clause-none_else : goal.returns-then-count-eq0-clause-none_else
returns-then-count-eq0-clause-none_else g c = λ other apart. c.in_ok-count.ensures.came.others other apart ∙ c.loop-turn.invariant.came.others other apart

pub returns-then-len-count-clause-none_else : goal.returns-then-len-count-clause-none_else
returns-then-len-count-clause-none_else g c = λ other apart. c.in_ok-count.ensures.came.others other apart ∙ c.loop-turn.invariant.came.others other apart
