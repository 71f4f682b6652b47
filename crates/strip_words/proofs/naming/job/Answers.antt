use Rattle.std.proofs.Common.{arith, ap, codes, take, drop, length, ◌-◌, sym, ◌∙◌, subst, string_bytes}
use Rattle.std.proofs.lemmas.List.{nil_from_length}
use Rattle.std.proofs.lemmas.Slice.Eq.{bytes_eq-Decides}
use Rattle.strip_words.specs.Solve.{NameSolve}
use Rattle.strip_words.specs.Films.{NameFilmFile}
use Rattle.strip_words.specs.Plans.{NamePlanFiles}
use Rattle.strip_words.specs.Gen.{NameGen, NameTrial}
use Rattle.strip_words.specs.Jobs.{Solve, Price, Arrange, Check, Convert, Dood, Sheet, Board, Gen, Trial}
use Rattle.strip_words.specs.Shown.{gen_data, plan_files_data, solve_data, texts, trial_data}
use Rattle.strip_words.proofs.Results.{err_from}
use Rattle.strip_words.proofs.Shows.{texts_begin}
use Rattle.strip_words.proofs.OneJob.{no_command, no_words, none_of}
use Rattle.strip_words.proofs.Solving.{differ}
use Rattle.strip_words.proofs.naming.job.Goals as goal

pub returns-in_err-solve_job-clause-bad : goal.returns-in_err-solve_job-clause-bad
returns-in_err-solve_job-clause-bad c = err_from c.from_residual.result _ _ c.from_residual.ensures.1 (λ e given is.
    let later = texts (take (length c.args.words.now - 1) (drop 1 c.args.words.now)) in
    let begins = texts_begin c.args.words.now c.word-item.result (codes "solve") c.in-len1-up.len_at_least c.word-item.is
    (sym c.as_str-word.ensures.value ∙ (bytes_eq-Decides c.as_str-word.result.now (codes "solve")).0 (sym c.eq.ensures ∙ c.if-eq.true)) in
    none_of (texts c.args.words.now) later (codes "solve") begins Solve (λ job is. is) (λ job names. c.in_err-solve_job.ensures.bad (sym given ∙ is) job
    (subst (λ ws. NameSolve ws job) begins names)))

pub returns-in_err-film_file-clause-bad : goal.returns-in_err-film_file-clause-bad
returns-in_err-film_file-clause-bad c = err_from c.from_residual-in_err-film_file.result _ _ c.from_residual-in_err-film_file.ensures.1 (λ e given is.
    let later = texts (take (length c.args.words.now - 1) (drop 1 c.args.words.now)) in
    let begins = texts_begin c.args.words.now c.word-item.result (codes "price") c.in-len1-up.len_at_least c.word-item.is
    (sym c.as_str-word.ensures.value ∙ (bytes_eq-Decides c.as_str-word.result.now (codes "price")).0 (sym c.eq-else-eq.ensures ∙ c.if-eq-2.true)) in
    none_of (texts c.args.words.now) later (codes "price") begins Price (λ job is. is) (λ file names. c.in_err-film_file.ensures.bad (sym given ∙ is) file
    (subst (λ ws. NameFilmFile (codes "price") ws file) begins names)))

pub returns-in_err-plan_files-clause-bad : goal.returns-in_err-plan_files-clause-bad
returns-in_err-plan_files-clause-bad c = err_from c.from_residual-in_err-plan_files.result _ _ c.from_residual-in_err-plan_files.ensures.1 (λ e given is.
    let later = texts (take (length c.args.words.now - 1) (drop 1 c.args.words.now)) in
    let begins = texts_begin c.args.words.now c.word-item.result (codes "arrange") c.in-len1-up.len_at_least c.word-item.is
    (sym c.as_str-word.ensures.value ∙ (bytes_eq-Decides c.as_str-word.result.now (codes "arrange")).0 (sym c.eq-else-eq-2.ensures ∙ c.if-eq-3.true)) in
    none_of (texts c.args.words.now) later (codes "arrange") begins Arrange (λ job is. is) (λ files names. c.in_err-plan_files.ensures.bad (sym given ∙ is) files
    (subst (λ ws. NamePlanFiles (codes "arrange") ws files) begins names)))

pub returns-in_err-plan_files-2-clause-bad : goal.returns-in_err-plan_files-2-clause-bad
returns-in_err-plan_files-2-clause-bad c = err_from c.from_residual-in_err-plan_files-2.result _ _ c.from_residual-in_err-plan_files-2.ensures.1 (λ e given is.
    let later = texts (take (length c.args.words.now - 1) (drop 1 c.args.words.now)) in
    let begins = texts_begin c.args.words.now c.word-item.result (codes "check") c.in-len1-up.len_at_least c.word-item.is
    (sym c.as_str-word.ensures.value ∙ (bytes_eq-Decides c.as_str-word.result.now (codes "check")).0 (sym c.eq-else-eq-3.ensures ∙ c.if-eq-4.true)) in
    none_of (texts c.args.words.now) later (codes "check") begins Check (λ job is. is) (λ files names. c.in_err-plan_files-2.ensures.bad (sym given ∙ is) files
    (subst (λ ws. NamePlanFiles (codes "check") ws files) begins names)))

pub returns-in_err-plan_files-3-clause-bad : goal.returns-in_err-plan_files-3-clause-bad
returns-in_err-plan_files-3-clause-bad c = err_from c.from_residual-in_err-plan_files-3.result _ _ c.from_residual-in_err-plan_files-3.ensures.1 (λ e given is.
    let later = texts (take (length c.args.words.now - 1) (drop 1 c.args.words.now)) in
    let begins = texts_begin c.args.words.now c.word-item.result (codes "convert") c.in-len1-up.len_at_least c.word-item.is
    (sym c.as_str-word.ensures.value ∙ (bytes_eq-Decides c.as_str-word.result.now (codes "convert")).0 (sym c.eq-else-eq-4.ensures ∙ c.if-eq-5.true)) in
    none_of (texts c.args.words.now) later (codes "convert") begins Convert (λ job is. is) (λ files names. c.in_err-plan_files-3.ensures.bad (sym given ∙ is) files
    (subst (λ ws. NamePlanFiles (codes "convert") ws files) begins names)))

pub returns-in_err-plan_files-4-clause-bad : goal.returns-in_err-plan_files-4-clause-bad
returns-in_err-plan_files-4-clause-bad c = err_from c.from_residual-in_err-plan_files-4.result _ _ c.from_residual-in_err-plan_files-4.ensures.1 (λ e given is.
    let later = texts (take (length c.args.words.now - 1) (drop 1 c.args.words.now)) in
    let begins = texts_begin c.args.words.now c.word-item.result (codes "dood") c.in-len1-up.len_at_least c.word-item.is
    (sym c.as_str-word.ensures.value ∙ (bytes_eq-Decides c.as_str-word.result.now (codes "dood")).0 (sym c.eq-else-eq-5.ensures ∙ c.if-eq-6.true)) in
    none_of (texts c.args.words.now) later (codes "dood") begins Dood (λ job is. is) (λ files names. c.in_err-plan_files-4.ensures.bad (sym given ∙ is) files
    (subst (λ ws. NamePlanFiles (codes "dood") ws files) begins names)))

pub returns-in_err-plan_files-5-clause-bad : goal.returns-in_err-plan_files-5-clause-bad
returns-in_err-plan_files-5-clause-bad c = err_from c.from_residual-in_err-plan_files-5.result _ _ c.from_residual-in_err-plan_files-5.ensures.1 (λ e given is.
    let later = texts (take (length c.args.words.now - 1) (drop 1 c.args.words.now)) in
    let begins = texts_begin c.args.words.now c.word-item.result (codes "sheet") c.in-len1-up.len_at_least c.word-item.is
    (sym c.as_str-word.ensures.value ∙ (bytes_eq-Decides c.as_str-word.result.now (codes "sheet")).0 (sym c.eq-else-eq-6.ensures ∙ c.if-eq-7.true)) in
    none_of (texts c.args.words.now) later (codes "sheet") begins Sheet (λ job is. is) (λ files names. c.in_err-plan_files-5.ensures.bad (sym given ∙ is) files
    (subst (λ ws. NamePlanFiles (codes "sheet") ws files) begins names)))

pub returns-in_err-plan_files-6-clause-bad : goal.returns-in_err-plan_files-6-clause-bad
returns-in_err-plan_files-6-clause-bad c = err_from c.from_residual-in_err-plan_files-6.result _ _ c.from_residual-in_err-plan_files-6.ensures.1 (λ e given is.
    let later = texts (take (length c.args.words.now - 1) (drop 1 c.args.words.now)) in
    let begins = texts_begin c.args.words.now c.word-item.result (codes "board") c.in-len1-up.len_at_least c.word-item.is
    (sym c.as_str-word.ensures.value ∙ (bytes_eq-Decides c.as_str-word.result.now (codes "board")).0 (sym c.eq-else-eq-7.ensures ∙ c.if-eq-8.true)) in
    none_of (texts c.args.words.now) later (codes "board") begins Board (λ job is. is) (λ files names. c.in_err-plan_files-6.ensures.bad (sym given ∙ is) files
    (subst (λ ws. NamePlanFiles (codes "board") ws files) begins names)))

pub returns-in_err-gen_job-clause-bad : goal.returns-in_err-gen_job-clause-bad
returns-in_err-gen_job-clause-bad c = err_from c.from_residual-in_err-gen_job.result _ _ c.from_residual-in_err-gen_job.ensures.1 (λ e given is.
    let later = texts (take (length c.args.words.now - 1) (drop 1 c.args.words.now)) in
    let begins = texts_begin c.args.words.now c.word-item.result (codes "gen") c.in-len1-up.len_at_least c.word-item.is
    (sym c.as_str-word.ensures.value ∙ (bytes_eq-Decides c.as_str-word.result.now (codes "gen")).0 (sym c.eq-else-eq-8.ensures ∙ c.if-eq-9.true)) in
    none_of (texts c.args.words.now) later (codes "gen") begins Gen (λ job is. is) (λ film names. c.in_err-gen_job.ensures.bad (sym given ∙ is) film
    (subst (λ ws. NameGen ws film) begins names)))

pub returns-in_err-trial_job-clause-bad : goal.returns-in_err-trial_job-clause-bad
returns-in_err-trial_job-clause-bad c = err_from c.from_residual-in_err-trial_job.result _ _ c.from_residual-in_err-trial_job.ensures.1 (λ e given is.
    let later = texts (take (length c.args.words.now - 1) (drop 1 c.args.words.now)) in
    let begins = texts_begin c.args.words.now c.word-item.result (codes "trial") c.in-len1-up.len_at_least c.word-item.is
    (sym c.as_str-word.ensures.value ∙ (bytes_eq-Decides c.as_str-word.result.now (codes "trial")).0 (sym c.eq-else-eq-9.ensures ∙ c.if-eq-10.true)) in
    none_of (texts c.args.words.now) later (codes "trial") begins Trial (λ job is. is) (λ job names. c.in_err-trial_job.ensures.bad (sym given ∙ is) job
    (subst (λ ws. NameTrial ws job) begins names)))

pub returns-in_ok-solve_job-clause-named : goal.returns-in_ok-solve_job-clause-named
returns-in_ok-solve_job-clause-named c =
    let begins = texts_begin c.args.words.now c.word-item.result (codes "solve") c.in-len1-up.len_at_least c.word-item.is
    (sym c.as_str-word.ensures.value ∙ (bytes_eq-Decides c.as_str-word.result.now (codes "solve")).0 (sym c.eq.ensures ∙ c.if-eq.true)) in
    subst (λ ws. NameSolve ws (solve_data c.in_ok-solve_job.field-0)) (sym begins) c.in_ok-solve_job.ensures.named

pub returns-in_ok-film_file-clause-named : goal.returns-in_ok-film_file-clause-named
returns-in_ok-film_file-clause-named c =
    let begins = texts_begin c.args.words.now c.word-item.result (codes "price") c.in-len1-up.len_at_least c.word-item.is
    (sym c.as_str-word.ensures.value ∙ (bytes_eq-Decides c.as_str-word.result.now (codes "price")).0 (sym c.eq-else-eq.ensures ∙ c.if-eq-2.true)) in
    subst (λ ws. NameFilmFile (codes "price") ws (string_bytes c.in_ok-film_file.field-0.film)) (sym begins) c.in_ok-film_file.ensures.named

pub returns-in_ok-plan_files-clause-named : goal.returns-in_ok-plan_files-clause-named
returns-in_ok-plan_files-clause-named c =
    let begins = texts_begin c.args.words.now c.word-item.result (codes "arrange") c.in-len1-up.len_at_least c.word-item.is
    (sym c.as_str-word.ensures.value ∙ (bytes_eq-Decides c.as_str-word.result.now (codes "arrange")).0 (sym c.eq-else-eq-2.ensures ∙ c.if-eq-3.true)) in
    subst (λ ws. NamePlanFiles (codes "arrange") ws (plan_files_data c.in_ok-plan_files.field-0)) (sym begins) c.in_ok-plan_files.ensures.named

pub returns-in_ok-plan_files-2-clause-named : goal.returns-in_ok-plan_files-2-clause-named
returns-in_ok-plan_files-2-clause-named c =
    let begins = texts_begin c.args.words.now c.word-item.result (codes "check") c.in-len1-up.len_at_least c.word-item.is
    (sym c.as_str-word.ensures.value ∙ (bytes_eq-Decides c.as_str-word.result.now (codes "check")).0 (sym c.eq-else-eq-3.ensures ∙ c.if-eq-4.true)) in
    subst (λ ws. NamePlanFiles (codes "check") ws (plan_files_data c.in_ok-plan_files-2.field-0)) (sym begins) c.in_ok-plan_files-2.ensures.named

pub returns-in_ok-plan_files-3-clause-named : goal.returns-in_ok-plan_files-3-clause-named
returns-in_ok-plan_files-3-clause-named c =
    let begins = texts_begin c.args.words.now c.word-item.result (codes "convert") c.in-len1-up.len_at_least c.word-item.is
    (sym c.as_str-word.ensures.value ∙ (bytes_eq-Decides c.as_str-word.result.now (codes "convert")).0 (sym c.eq-else-eq-4.ensures ∙ c.if-eq-5.true)) in
    subst (λ ws. NamePlanFiles (codes "convert") ws (plan_files_data c.in_ok-plan_files-3.field-0)) (sym begins) c.in_ok-plan_files-3.ensures.named

pub returns-in_ok-plan_files-4-clause-named : goal.returns-in_ok-plan_files-4-clause-named
returns-in_ok-plan_files-4-clause-named c =
    let begins = texts_begin c.args.words.now c.word-item.result (codes "dood") c.in-len1-up.len_at_least c.word-item.is
    (sym c.as_str-word.ensures.value ∙ (bytes_eq-Decides c.as_str-word.result.now (codes "dood")).0 (sym c.eq-else-eq-5.ensures ∙ c.if-eq-6.true)) in
    subst (λ ws. NamePlanFiles (codes "dood") ws (plan_files_data c.in_ok-plan_files-4.field-0)) (sym begins) c.in_ok-plan_files-4.ensures.named

pub returns-in_ok-plan_files-5-clause-named : goal.returns-in_ok-plan_files-5-clause-named
returns-in_ok-plan_files-5-clause-named c =
    let begins = texts_begin c.args.words.now c.word-item.result (codes "sheet") c.in-len1-up.len_at_least c.word-item.is
    (sym c.as_str-word.ensures.value ∙ (bytes_eq-Decides c.as_str-word.result.now (codes "sheet")).0 (sym c.eq-else-eq-6.ensures ∙ c.if-eq-7.true)) in
    subst (λ ws. NamePlanFiles (codes "sheet") ws (plan_files_data c.in_ok-plan_files-5.field-0)) (sym begins) c.in_ok-plan_files-5.ensures.named

pub returns-in_ok-plan_files-6-clause-named : goal.returns-in_ok-plan_files-6-clause-named
returns-in_ok-plan_files-6-clause-named c =
    let begins = texts_begin c.args.words.now c.word-item.result (codes "board") c.in-len1-up.len_at_least c.word-item.is
    (sym c.as_str-word.ensures.value ∙ (bytes_eq-Decides c.as_str-word.result.now (codes "board")).0 (sym c.eq-else-eq-7.ensures ∙ c.if-eq-8.true)) in
    subst (λ ws. NamePlanFiles (codes "board") ws (plan_files_data c.in_ok-plan_files-6.field-0)) (sym begins) c.in_ok-plan_files-6.ensures.named

pub returns-in_ok-gen_job-clause-named : goal.returns-in_ok-gen_job-clause-named
returns-in_ok-gen_job-clause-named c =
    let begins = texts_begin c.args.words.now c.word-item.result (codes "gen") c.in-len1-up.len_at_least c.word-item.is
    (sym c.as_str-word.ensures.value ∙ (bytes_eq-Decides c.as_str-word.result.now (codes "gen")).0 (sym c.eq-else-eq-8.ensures ∙ c.if-eq-9.true)) in
    subst (λ ws. NameGen ws (gen_data c.in_ok-gen_job.field-0)) (sym begins) c.in_ok-gen_job.ensures.named

pub returns-in_ok-trial_job-clause-named : goal.returns-in_ok-trial_job-clause-named
returns-in_ok-trial_job-clause-named c =
    let begins = texts_begin c.args.words.now c.word-item.result (codes "trial") c.in-len1-up.len_at_least c.word-item.is
    (sym c.as_str-word.ensures.value ∙ (bytes_eq-Decides c.as_str-word.result.now (codes "trial")).0 (sym c.eq-else-eq-9.ensures ∙ c.if-eq-10.true)) in
    subst (λ ws. NameTrial ws (trial_data c.in_ok-trial_job.field-0)) (sym begins) c.in_ok-trial_job.ensures.named

pub returns-in_default-clause-bad : goal.returns-in_default-clause-bad
returns-in_default-clause-bad c = λ _. no_words (texts c.args.words.now) (ap texts (nil_from_length c.args.words.now (omega arith)))

pub returns-else-eq-10-clause-bad : goal.returns-else-eq-10-clause-bad
returns-else-eq-10-clause-bad c = λ _.
    let later = texts (take (length c.args.words.now - 1) (drop 1 c.args.words.now)) in
    let word = c.as_str-word.result.now in
    let begins = texts_begin c.args.words.now c.word-item.result word c.in-len1-up.len_at_least c.word-item.is (sym c.as_str-word.ensures.value) in
    no_command (texts c.args.words.now) later word begins
    (differ word (codes "solve") (sym c.eq.ensures ∙ c.if-eq.false))
    (differ word (codes "price") (sym c.eq-else-eq.ensures ∙ c.if-eq-2.false))
    (differ word (codes "arrange") (sym c.eq-else-eq-2.ensures ∙ c.if-eq-3.false))
    (differ word (codes "check") (sym c.eq-else-eq-3.ensures ∙ c.if-eq-4.false))
    (differ word (codes "convert") (sym c.eq-else-eq-4.ensures ∙ c.if-eq-5.false))
    (differ word (codes "dood") (sym c.eq-else-eq-5.ensures ∙ c.if-eq-6.false))
    (differ word (codes "sheet") (sym c.eq-else-eq-6.ensures ∙ c.if-eq-7.false))
    (differ word (codes "board") (sym c.eq-else-eq-7.ensures ∙ c.if-eq-8.false))
    (differ word (codes "gen") (sym c.eq-else-eq-8.ensures ∙ c.if-eq-9.false))
    (differ word (codes "trial") (sym c.eq-else-eq-9.ensures ∙ c.if-eq-10.false))
