use Rattle.std.proofs.Common.{◌≡◌, ℕ, Ok, ap, sym, subst}
use Rattle.strip_film.specs.declared.shared.Listed.{Listed}
use Rattle.strip_film.specs.declared.shared.Listed.TheVariants.{Line, Spent}
use Rattle.strip_film.specs.Shown.{CursorData, cursor_data, path_data}
use Rattle.strip_film.specs.Path.{PathData}
use Rattle.strip_hand.specs.Calls.{Enlists}
use Rattle.strip_hand.specs.Hand.{HandData}
use Rattle.strip_least.specs.Pass.{known as known_least}
use Rattle.strip_book.specs.View.{ViewData, parts_of}
use Rattle.strip_book.specs.Pass.{Enlists as BookEnlists, MayEnlistNext, known}
use Rattle.strip_crew.specs.Hub.{hand_of}
use Rattle.strip_crew.proofs.Acting.{lines_together, makes, may_enlist, search_still}
use Rattle.strip_crew.proofs.calls.HubHand.enlist.Goals as goal

pub enlist-listed-requires-clause-may : goal.enlist-listed-requires-clause-may
enlist-listed-requires-clause-may g c =
    subst (λ (task : ℕ). MayEnlistNext (known c.args.self.now.lines) task (path_data c.args.path.now) c.args.bound) (sym c.task.ensures)
    (may_enlist c.args.self.now.source (known_least c.args.self.now.told) (known c.args.self.now.lines) c.args.self.now.asked c.args.self.now.noted c.requires.sound.together
    (cursor_data c.args.cursor.now) (path_data c.args.path.now) c.args.bound c.requires.may)

pub returns-in-Line-clause-listed : goal.returns-in-Line-clause-listed
returns-in-Line-clause-listed g c =
    let hand : HandData = hand_of c.args.self.now.source (known_least c.args.self.now.told) (known c.args.self.now.lines) c.args.self.now.asked c.args.self.now.noted in
    let after : HandData = hand_of c.args.self.now.source (known_least c.args.self.now.told) (known c.enlist-listed.new.self) c.args.self.now.asked c.args.self.now.noted in
    let cursor : CursorData = cursor_data c.args.cursor.now in
    let line : ℕ = c.in-Line.field-0 in
    let made : BookEnlists (known c.args.self.now.lines) cursor.task (path_data c.args.path.now) c.args.bound (Line line) (known c.enlist-listed.new.self)
    = subst (λ (task : ℕ). BookEnlists (known c.args.self.now.lines) task (path_data c.args.path.now) c.args.bound (Line line) (known c.enlist-listed.new.self)) c.task.ensures
    (subst (λ (listed : Listed). BookEnlists (known c.args.self.now.lines) c.task.result (path_data c.args.path.now) c.args.bound listed (known c.enlist-listed.new.self))
    c.in-Line.is c.enlist-listed.ensures.listed) in
    subst (λ (listed : Listed). Enlists hand cursor (path_data c.args.path.now) c.args.bound (Ok listed) after (cursor_data c.moved.new.self)) (sym c.in-Line.is)
    (subst (λ (moved : CursorData). Enlists hand cursor (path_data c.args.path.now) c.args.bound (Ok (Line line)) after moved) (sym c.moved.ensures)
    (makes c.args.self.now.source (known_least c.args.self.now.told) (known c.args.self.now.lines) c.args.self.now.asked c.args.self.now.noted c.requires.sound.together
    cursor (path_data c.args.path.now) c.args.bound c.requires.may line (known c.enlist-listed.new.self) made))

-- lines that were made leave the parts of the entries, and so do those that couldn't be
pub returns-in-Line-clause-sound : goal.returns-in-Line-clause-sound
returns-in-Line-clause-sound g c =
    let told = known_least c.args.self.now.told in
    let lines = known c.args.self.now.lines in
    let after = known c.enlist-listed.new.self in
    let made = subst (λ (listed : Listed). BookEnlists lines c.task.result (path_data c.args.path.now) c.args.bound listed after) c.in-Line.is c.enlist-listed.ensures.listed in
    record {
      least_pass = c.requires.sound.least_pass;
      book_pass = c.enlist-listed.ensures.pass;
      named = c.requires.sound.named;
      together = lines_together c.args.self.now.source told lines c.args.self.now.asked c.args.self.now.noted c.requires.sound.together after made.stays.search made.counted.parts;
      search = search_still c.args.self.now.source told lines c.args.self.now.asked c.args.self.now.noted c.requires.sound.together after made.stays.search made.counted.parts c.requires.sound.search;
    }

-- what an enlisting leaves of the search and the parts, whatever it answers
still : (listed : Listed) (lines after : ViewData) (task : ℕ) (path : PathData) (bound : ℕ) → BookEnlists lines task path bound listed after
    → (after.search ≡ lines.search) × (parts_of after.entries ≡ parts_of lines.entries)
still (Line line) lines after task path bound made = (made.stays.search, made.counted.parts)
still (Spent count) lines after task path bound spent = (spent.stays.search, ap parts_of spent.entries)

pub returns-in_default-clause-sound : goal.returns-in_default-clause-sound
returns-in_default-clause-sound g c =
    let told = known_least c.args.self.now.told in
    let lines = known c.args.self.now.lines in
    let after = known c.enlist-listed.new.self in
    let same = still c.enlist-listed.result lines after c.task.result (path_data c.args.path.now) c.args.bound c.enlist-listed.ensures.listed in
    record {
      least_pass = c.requires.sound.least_pass;
      book_pass = c.enlist-listed.ensures.pass;
      named = c.requires.sound.named;
      together = lines_together c.args.self.now.source told lines c.args.self.now.asked c.args.self.now.noted c.requires.sound.together after same.0 same.1;
      search = search_still c.args.self.now.source told lines c.args.self.now.asked c.args.self.now.noted c.requires.sound.together after same.0 same.1 c.requires.sound.search;
    }
