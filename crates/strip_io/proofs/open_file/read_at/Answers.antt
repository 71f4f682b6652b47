use Rattle.std.proofs.Common.{◌≡◌, None, Some, sym, ◌∙◌, ap, subst}
use Rattle.strip_io.specs.Disk.{standing}
use Rattle.strip_io.specs.Streams.{StandsAt}
use Rattle.strip_io.specs.declared.open_file.OpenFile.{OpenFile}
use Rattle.strip_io.proofs.OpenFiles.{gave_anew, gave_on, stands_there}
use Rattle.strip_io.proofs.open_file.read_at.Goals.{in-Some, in-None+in_ok-file-in-None}
use Rattle.strip_io.proofs.open_file.read_at.Goals as goal

pub returns-clause-gave : goal.returns-clause-gave
returns-clause-gave g c = elim c.match-standing.branch [
  | in-Some w ↦
      let is : standing c.args.entry c.args.at c.args.current ≡ Some c.match-standing.file = sym c.standing.ensures ∙ w.in-Some.is ∙ ap Some (sym w.file-is) in
      gave_on g.D.File.Seek.stream_bytes g.D.File.Seek.stream_position g.D.File.Read.remaining (standing c.args.entry c.args.at c.args.current) c.match-standing.file c.args.at
      c.in_ok-count.count c.read.new.into c.read.new.self.file (stands_there c.args.entry c.args.at c.args.current c.match-standing.file is) c.in_ok-count.ensures.gave is
  | in-None+in_ok-file-in-None w ↦
      let is : standing c.args.entry c.args.at c.args.current ≡ None = sym c.standing.ensures ∙ w.in-None.is in
      gave_anew g.D.File.Seek.stream_bytes g.D.File.Seek.stream_position g.D.File.Read.remaining (standing c.args.entry c.args.at c.args.current) c.match-standing.file c.args.at
      c.in_ok-count.count c.read.new.into c.read.new.self.file (ap (λ (f : OpenFile _). f.at) w.file-is ∙ w.in_ok-file-in-None.ensures.place) c.in_ok-count.ensures.gave is
      (subst (λ (f : OpenFile _). StandsAt g.D.File.Seek.stream_bytes g.D.File.Seek.stream_position g.D.File.Read.remaining c.args.at f.file) (sym w.file-is)
      w.in_ok-file-in-None.ensures.stands)
]
