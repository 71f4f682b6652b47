use Rattle.std.proofs.Common.{◌≡◌, List, length, ◌∙◌, ap, rules}
use Rattle.strip_io.specs.Held.{HeldFile, count_came}
use Rattle.strip_io.proofs.Changes.{told_or_empty_came, came_or_none}
use Rattle.strip_io.proofs.no_fault.NoFaultFilesFiles.read.Goals as goal

files_after : (c : goal.After-count_came) → c.count_came.new.self ≡ count_came c.args.self.now c.args.name.now c.copy_from-count.result
files_after c = c.count_came.ensures ∙ ap (λ (files : List HeldFile). count_came files c.args.name.now c.copy_from-count.result) c.self.view_is

pub returns-clause-told : goal.returns-clause-told
returns-clause-told c = rw (files_after c) (told_or_empty_came c.args.self.now c.args.name.now c.copy_from-count.result)

pub returns-clause-came : goal.returns-clause-came
returns-clause-came c = rw (files_after c) (came_or_none c.args.self.now c.args.name.now c.copy_from-count.result (length c.args.into.now) c.args.at (search rules))
