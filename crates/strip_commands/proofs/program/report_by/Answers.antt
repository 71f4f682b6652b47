use Rattle.strip_words.specs.Shown.{texts}
use Rattle.strip_answer.specs.Run.{RunData}
use Rattle.strip_answer.proofs.Endings.{headline}
use Rattle.strip_commands.specs.Due.{board_claims}
use Rattle.strip_commands.proofs.Boards.{board_shown}
use Rattle.strip_commands.proofs.Proved.{run_proves}
use Rattle.strip_commands.proofs.program.report_by.Goals as goal

pub returns : goal.returns
returns g c =
    let run : RunData = record {
      words = texts c.args.words.now;
      files_before = g.F.Files.state c.args.files.now;
      files_after = g.F.Files.state c.answer_words-answer.new.files;
      sink_before = g.S.Sink.state c.args.out.now;
      sink_after = g.S.Sink.state c.finish.new.out;
    } in
    let once = c.words_name_one_job.ensures in
    let holds = headline board_claims (board_shown once) run c.answer_words-answer.result c.finish.result c.finish.ensures.ends _ c.code.ensures
    c.answer_words-answer.ensures.due c.answer_words-answer.ensures.read c.answer_words-answer.ensures.files c.finish.ensures.later in
    record { headline = holds; proved = run_proves once run _ holds }
