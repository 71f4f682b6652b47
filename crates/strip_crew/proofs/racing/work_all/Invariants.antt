use Rattle.strip_crew.specs.Sources.{split_home}
use Rattle.strip_crew.proofs.racing.work_all.Given as goal

-- what the workers take is gathered in this source
abbrev pub ghosts-work_beside : goal.ghosts-work_beside
ghosts-work_beside g a = record { home = split_home a.passes.now.source }
