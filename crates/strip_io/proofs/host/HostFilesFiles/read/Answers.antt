use Rattle.std.proofs.Common.{◌≡◌, ℕ, inl, List, refl, sym, ◌∙◌, ap, subst}
use Rattle.strip_io.specs.Disk.{HostState, standing}
use Rattle.strip_io.specs.Held.{HeldFile, entry_of, is_held, count_fault, count_came}
use Rattle.strip_io.specs.Streams.{GaveFrom}
use Rattle.strip_io.proofs.Counts.{counts_same}
use Rattle.strip_io.proofs.Changes.{read_failed, held_fault, came_fault, counts_fault, held_came, faults_came, came_only, not_held}
use Rattle.strip_io.proofs.host.HostFilesFiles.read.Goals.{After-count_fault}
use Rattle.strip_io.proofs.host.HostFilesFiles.read.Goals as goal

pub returns-in_default-clause-err : goal.returns-in_default-clause-err
returns-in_default-clause-err g c =
    let files = ap (λ (s : HostState _ _). s.held) c.self.view_is in
    let out = ap (λ (l : List HeldFile). is_held l c.args.name.now) (sym files) ∙ sym c.in_default.ensures.held in
    files ∙ sym (not_held c.args.self.now.held c.args.name.now out)

files_after : (g : _) (c : After-count_fault g) → c.count_fault.new.self ≡ count_fault c.args.self.now.held c.args.name.now
files_after g c = c.count_fault.ensures ∙ ap (λ (s : HostState _ _). count_fault s.held c.args.name.now) c.self.view_is

pub returns-in_default-read_at-clause-cause : goal.returns-in_default-read_at-clause-cause
returns-in_default-read_at-clause-cause g c = rw (files_after g c) (read_failed c.args.self.now.held c.args.name.now)

pub returns-in_default-read_at-clause-held : goal.returns-in_default-read_at-clause-held
returns-in_default-read_at-clause-held g c = rw (files_after g c) (held_fault c.args.self.now.held c.args.name.now)

pub returns-in_default-read_at-clause-counts : goal.returns-in_default-read_at-clause-counts
returns-in_default-read_at-clause-counts g c = rw (files_after g c) (counts_fault c.args.self.now.held c.args.name.now)

pub returns-in_default-read_at-clause-none_came : goal.returns-in_default-read_at-clause-none_came
returns-in_default-read_at-clause-none_came g c = rw (files_after g c) (came_fault c.args.self.now.held c.args.name.now)

files_read : (g : _) (c : goal.After-count_came g) → c.count_came.new.self ≡ count_came c.args.self.now.held c.args.name.now c.in-Ok.count
files_read g c = c.count_came.ensures ∙ ap (λ (s : HostState _ _). count_came s.held c.args.name.now c.in-Ok.count) c.self.view_is

pub returns-clause-held : goal.returns-clause-held
returns-clause-held g c = rw (files_read g c) (held_came c.args.self.now.held c.args.name.now c.in-Ok.count)

pub returns-clause-counts : goal.returns-clause-counts
returns-clause-counts g c = rw (files_read g c) (counts_same c.args.name.now _ _ (faults_came c.args.self.now.held c.args.name.now c.in-Ok.count))

pub returns-clause-unfailed : goal.returns-clause-unfailed
returns-clause-unfailed g c = rw (files_read g c) (faults_came c.args.self.now.held c.args.name.now c.in-Ok.count)

pub returns-clause-came : goal.returns-clause-came
returns-clause-came g c =
    let files = ap (λ (s : HostState _ _). s.held) c.self.view_is in
    let held = ap (λ (l : List HeldFile). is_held l c.args.name.now) (sym files) ∙ sym c.in-Some.ensures.held in
    rw (files_read g c) (came_only c.args.self.now.held c.args.name.now c.in-Ok.count (inl held))

pub returns-clause-gave : goal.returns-clause-gave
returns-clause-gave g c =
    let held = ap (λ (s : HostState _ _). s.held) c.self.view_is in
    let entry : c.in-Some.entry ≡ entry_of c.args.self.now.held c.args.name.now =
    c.in-Some.ensures.entry ∙ ap (λ (l : List HeldFile). entry_of l c.args.name.now) held in
    let current : c.take-current.result ≡ c.args.self.now.current = c.take-current.ensures.value ∙ ap (λ (s : HostState _ _). s.current) c.self.view_is in
    let found = ap (λ (e : ℕ). standing e c.args.at c.take-current.result) entry ∙ ap (standing (entry_of c.args.self.now.held c.args.name.now) c.args.at) current in
    record {
      current = c.in-Ok.file;
      is_current = refl;
      entry_is = c.in-Ok.ensures.entry ∙ entry;
      moved = c.in-Ok.ensures.moved;
      gave = subst (λ f. GaveFrom g.D.File.Seek.stream_bytes g.D.File.Seek.stream_position g.D.File.Read.remaining f c.args.at c.in-Ok.count c.read_at.new.into c.in-Ok.file.file) found
          c.in-Ok.ensures.gave;
    }
