-- What trying paths leaves of a hand and its cursor.
use Rattle.std.proofs.Common.{◌≡◌, ℕ, ◌+◌, Option, Some, Result, Ok, Err, refl, sym, ap, ◌∙◌, subst, arith}
use Rattle.strip_film.specs.Path.{PathData}
use Rattle.strip_film.specs.Shown.{CursorData}
use Rattle.strip_io.specs.declared.files.Memory.{Memory}
use Rattle.strip_io.specs.Counts.{Rose}
use Rattle.strip_lines.proofs.Grown.{grow_self, grow_trans}
use Rattle.strip_hand.specs.Calls.{StandsAt}
use Rattle.strip_hand.specs.Hand.{HandData, RecordData}
use Rattle.strip_front.specs.declared.down.Tried.{Tried}
use Rattle.strip_front.specs.declared.down.Tried.TheVariants.{Line, Passed, Spent}
use Rattle.strip_front.specs.Calls.{GoesDown}
use Rattle.strip_front.specs.Tried.{Tries}
use Rattle.strip_front.proofs.Grown.{grow_same}

-- what may have changed: what was told, the lines, the records and the count of refusals
abbrev IsChanged : HandData → HandData → Type 0
IsChanged before after = after ≡ record before { told = after.told; lines = after.lines; records = after.records; refusals = after.refusals }

changed_as : (before after then : HandData) → after ≡ then → IsChanged before then → IsChanged before after
changed_as before after then same is = subst (IsChanged before) (sym same) is

-- a cursor that stays stands where its part's record stays
stands_still : (before after : HandData) (cursor cursor_after : CursorData) → after.records ≡ before.records → cursor_after ≡ cursor
    → StandsAt before cursor → StandsAt after cursor_after
stands_still before after cursor cursor_after records same stands = (
  stands.0,
  ap (λ (r : ℕ → Option RecordData). r cursor_after.task) records
      ∙ ap (λ (k : CursorData). before.records k.task) same ∙ stands.1
      ∙ ap (λ (k : CursorData). Some (record { last = k.last; number = stands.0 })) (sym same),
)

pub stays_down : (hand : HandData) (cursor : CursorData) → StandsAt hand cursor → cursor.task ≡ 0 → GoesDown hand hand cursor
stays_down hand cursor stands task = record {
  only = refl;
  no_more = omega arith;
  grow = grow_self hand.lines;
  no_fewer = omega arith;
  others = λ part other. refl;
  task = task;
  stands = stands;
}

pub down_then : (before between after : HandData) (cursor cursor_after : CursorData) → GoesDown before between cursor → GoesDown between after cursor_after
    → GoesDown before after cursor_after
down_then before between after cursor cursor_after one two = record {
  only = two.only ∙ ap (λ (h : HandData). record h { told = after.told; lines = after.lines; records = after.records; refusals = after.refusals }) one.only;
  no_more = omega (arith, one.no_more, two.no_more);
  grow = grow_trans before.lines between.lines after.lines one.grow two.grow;
  no_fewer = omega (arith, one.no_fewer, two.no_fewer);
  others = λ part other. two.others part other ∙ one.others part other;
  task = two.task;
  stands = two.stands;
}

module _ (before : HandData) (cursor : CursorData) (path : PathData) (after : HandData) (cursor_after : CursorData)
    (stands : StandsAt before cursor) (task : cursor.task ≡ 0) where
  looked : HandData
  looked = record before { told = after.told }

  same_cursor_task : cursor_after ≡ cursor → cursor_after.task ≡ 0
  same_cursor_task same = ap (λ (k : CursorData). k.task) same ∙ task

  pub tries_down : (result : Result Tried Memory) → Tries before cursor path result after cursor_after → GoesDown before after cursor_after
  tries_down (Ok Passed) tries = record {
    only = changed_as before after (record before { told = after.told }) tries.tried.0 refl;
    no_more = tries.no_more;
    grow = grow_same before.lines after.lines (ap (λ (h : HandData). h.lines) tries.tried.0);
    no_fewer = (let e : after.refusals ≡ before.refusals = ap (λ (h : HandData). h.refusals) tries.tried.0 in omega (arith, e));
    others = λ part other. ap (λ (h : HandData). h.records part) tries.tried.0;
    task = same_cursor_task tries.tried.1;
    stands = stands_still before after cursor cursor_after (ap (λ (h : HandData). h.records) tries.tried.0) tries.tried.1 stands;
  }
  tries_down (Ok (Line line)) tries = record {
    only = changed_as before after (record before { told = after.told; lines = after.lines; records = after.records }) tries.tried.only refl;
    no_more = tries.no_more;
    grow = tries.tried.grow;
    no_fewer = (let e : after.refusals ≡ before.refusals = ap (λ (h : HandData). h.refusals) tries.tried.only in omega (arith, e));
    others = λ part other. tries.tried.others part (λ same. other (same ∙ task));
    task = ap (λ (k : CursorData). k.task) tries.tried.moved ∙ task;
    stands = (
      tries.tried.counted.0 + 1,
      ap (λ (k : CursorData). after.records k.task) tries.tried.moved ∙ tries.tried.counted.2
          ∙ ap (λ (k : CursorData). Some (record { last = k.last; number = tries.tried.counted.0 + 1 })) (sym tries.tried.moved),
    );
  }
  tries_down (Ok Spent) tries = record {
    only = changed_as before after (record before { told = after.told; lines = after.lines }) tries.tried.0.only refl;
    no_more = tries.no_more;
    grow = tries.tried.0.grow;
    no_fewer = (let e : after.refusals ≡ before.refusals = ap (λ (h : HandData). h.refusals) tries.tried.0.only in omega (arith, e));
    others = λ part other. ap (λ (h : HandData). h.records part) tries.tried.0.only;
    task = same_cursor_task tries.tried.1;
    stands = stands_still before after cursor cursor_after (ap (λ (h : HandData). h.records) tries.tried.0.only) tries.tried.1 stands;
  }
  tries_down (Err fault) tries = record {
    only = changed_as before after (record before { told = after.told; lines = after.lines; refusals = after.refusals }) tries.tried.0.only refl;
    no_more = tries.no_more;
    grow = tries.tried.0.grow;
    no_fewer = tries.tried.0.no_fewer;
    others = λ part other. ap (λ (h : HandData). h.records part) tries.tried.0.only;
    task = same_cursor_task tries.tried.1;
    stands = stands_still before after cursor cursor_after (ap (λ (h : HandData). h.records) tries.tried.0.only) tries.tried.1 stands;
  }

-- where memory is refused after the front was gone down so far
pub down_refused : (before between after : HandData) (cursor cursor_after : CursorData) (path : PathData) (fault : Memory) → GoesDown before between cursor
    → Tries between cursor path (Err fault) after cursor_after → Rose before.refusals after.refusals
down_refused before between after cursor cursor_after path fault down tries = omega (arith, down.no_fewer, tries.tried.0.rose)
