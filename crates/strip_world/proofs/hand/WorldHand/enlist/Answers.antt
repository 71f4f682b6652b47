use Rattle.std.proofs.Common.{◌≡◌, ◌∙◌, ℕ, Some, Ok, ap, sym, subst}
use Rattle.strip_film.specs.Path.{PathData}
use Rattle.strip_film.specs.Shown.{CursorData, cursor_data, path_data}
use Rattle.strip_film.specs.declared.shared.Listed.{Listed}
use Rattle.strip_film.specs.declared.shared.Listed.TheVariants.{Line}
use Rattle.strip_hand.specs.Calls.{Enlists}
use Rattle.strip_world.specs.Hand.{IsOwned, hand_data}
use Rattle.strip_world.specs.Steps.{enlist_reply, enlisted}
use Rattle.strip_world.specs.World.{WorldData}
use Rattle.strip_world.proofs.Acting.{Enlisting, enlists, owned_enlisted}
use Rattle.strip_world.proofs.hand.WorldHand.enlist.Goals as goal

pub returns-in-Line-clause-sound : goal.returns-in-Line-clause-sound
returns-in-Line-clause-sound c =
    subst IsOwned (sym (c.enlist_as-listed.ensures.world ∙ ap (λ (task : ℕ). enlisted c.args.self.now task (path_data c.args.path.now)) c.task.ensures))
    (owned_enlisted c.args.self.now c.requires.sound (cursor_data c.args.cursor.now) (path_data c.args.path.now) c.args.bound c.requires.may)

pub returns-in-Line-clause-listed : goal.returns-in-Line-clause-listed
returns-in-Line-clause-listed c =
    let world : WorldData = c.args.self.now in
    let cursor : CursorData = cursor_data c.args.cursor.now in
    let path : PathData = path_data c.args.path.now in
    let made : enlist_reply world ≡ Line c.in-Line.field-0 = sym c.enlist_as-listed.ensures.listed ∙ c.in-Line.is in
    let after : enlisted world cursor.task path ≡ c.enlist_as-listed.new.self
    = ap (λ (task : ℕ). enlisted world task path) (sym c.task.ensures) ∙ sym c.enlist_as-listed.ensures.world in
    let own : Enlists (hand_data world) cursor path c.args.bound (Ok (Line c.in-Line.field-0)) (hand_data (enlisted world cursor.task path))
    (record { task = cursor.task; last = Some path })
    = subst (λ (reply : Listed). Enlisting world c.requires.sound cursor path c.args.bound c.requires.may reply (enlisted world cursor.task path)) made
    (enlists world c.requires.sound cursor path c.args.bound c.requires.may) in
    subst (λ (reply : Listed). Enlists (hand_data world) cursor path c.args.bound (Ok reply) (hand_data c.enlist_as-listed.new.self) (cursor_data c.moved.new.self))
    (sym c.in-Line.is)
    (subst (λ (cursor_after : CursorData). Enlists (hand_data world) cursor path c.args.bound (Ok (Line c.in-Line.field-0)) (hand_data c.enlist_as-listed.new.self) cursor_after)
    (sym c.moved.ensures)
    (subst (λ (w : WorldData). Enlists (hand_data world) cursor path c.args.bound (Ok (Line c.in-Line.field-0)) (hand_data w) (record { task = cursor.task; last = Some path }))
    after own))
