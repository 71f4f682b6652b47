use Rattle.std.proofs.Common.{◌≡◌, inl, List, sym, ◌∙◌, ap}
use Rattle.strip_io.specs.Memory.{MemoryFiles}
use Rattle.strip_io.specs.Held.{HeldFile, bytes_of, count_fault, count_came}
use Rattle.strip_io.proofs.Counts.{counts_same}
use Rattle.strip_io.proofs.Changes.{read_failed, held_fault, bytes_fault, came_fault, counts_fault, held_came, bytes_came, faults_came, came_only, told_held, none_counted}
use Rattle.strip_io.proofs.mem_files.MemFilesFiles.read.Goals as goal

files_after : (c : goal.After-count_fault) → c.count_fault.new.self ≡ count_fault c.args.self.now.files c.args.name.now
files_after c = c.count_fault.ensures ∙ ap (λ (m : MemoryFiles). count_fault m.files c.args.name.now) c.self.view_is

pub returns-then-contains-clause-cause : goal.returns-then-contains-clause-cause
returns-then-contains-clause-cause c = rw (files_after c) (read_failed c.args.self.now.files c.args.name.now)

pub returns-then-contains-clause-held : goal.returns-then-contains-clause-held
returns-then-contains-clause-held c = rw (files_after c) (held_fault c.args.self.now.files c.args.name.now)

pub returns-then-contains-clause-told : goal.returns-then-contains-clause-told
returns-then-contains-clause-told c = rw (files_after c) (bytes_fault c.args.self.now.files c.args.name.now)

pub returns-then-contains-clause-counts : goal.returns-then-contains-clause-counts
returns-then-contains-clause-counts c = rw (files_after c) (counts_fault c.args.self.now.files c.args.name.now)

pub returns-then-contains-clause-none_came : goal.returns-then-contains-clause-none_came
returns-then-contains-clause-none_came c = rw (files_after c) (came_fault c.args.self.now.files c.args.name.now)

pub returns-in_default-clause-err : goal.returns-in_default-clause-err
returns-in_default-clause-err c =
    let files = ap (λ (m : MemoryFiles). m.files) c.self.view_is in
    let out = ap (λ (l : List HeldFile). bytes_of l c.args.name.now) (sym files) ∙ sym c.in_default.ensures in
    files ∙ sym (none_counted c.args.self.now.files c.args.name.now out)

files_read : (c : goal.After-count_came) → c.count_came.new.self ≡ count_came c.args.self.now.files c.args.name.now c.copy_from-count.result
files_read c = c.count_came.ensures ∙ ap (λ (m : MemoryFiles). count_came m.files c.args.name.now c.copy_from-count.result) c.self.view_is

pub returns-clause-held : goal.returns-clause-held
returns-clause-held c = rw (files_read c) (held_came c.args.self.now.files c.args.name.now c.copy_from-count.result)

pub returns-clause-told : goal.returns-clause-told
returns-clause-told c = rw (files_read c) (bytes_came c.args.self.now.files c.args.name.now c.copy_from-count.result)

pub returns-clause-unfailed : goal.returns-clause-unfailed
returns-clause-unfailed c = rw (files_read c) (faults_came c.args.self.now.files c.args.name.now c.copy_from-count.result)

pub returns-clause-counts : goal.returns-clause-counts
returns-clause-counts c = rw (files_read c) (counts_same c.args.name.now _ _ (faults_came c.args.self.now.files c.args.name.now c.copy_from-count.result))

pub returns-clause-came : goal.returns-clause-came
returns-clause-came c =
    let files = ap (λ (m : MemoryFiles). m.files) c.self.view_is in
    let told = ap (λ (l : List HeldFile). bytes_of l c.args.name.now) (sym files) ∙ sym c.in-Some.ensures in
    rw (files_read c) (came_only c.args.self.now.files c.args.name.now c.copy_from-count.result (inl (told_held c.args.self.now.files c.args.name.now _ told)))
