use Rattle.std.proofs.Common.{◌++◌, get_or, ap, ◌∙◌}
use Rattle.strip_model.specs.declared.pair.Pair.{Pair}
use Rattle.strip_text.specs.Rows.{csv_row}
use Rattle.strip_instance.specs.Shown.{names_of as scene_names}
use Rattle.strip_instance.specs.Canonical.{pair_fields}
use Rattle.strip_instance.proofs.back.Written.{next_piece, pieces}
use Rattle.strip_instance.proofs.writing.write_pairs.Goals as goal

pub loop-pair-preserved : goal.loop-pair-preserved
loop-pair-preserved c =
    let piece = λ (pair : Pair). csv_row (pair_fields (scene_names c.args.scenes.now) pair) in
    let pairs = c.args.pairs.now in
    let none : Pair = record { first = 0; then = 0 } in
    c.in_ok-write_pair.ensures ∙ ap (λ text. text ++ piece (get_or pairs c.loop-pair.pair-index none)) c.loop-pair.invariant
    ∙ next_piece piece c.args.text.now pairs c.loop-pair.pair-index none c.loop-pair-test.true

pub returns : goal.returns
returns c =
    c.loop-pair.invariant ∙ pieces (pair_fields (scene_names c.args.scenes.now)) c.args.text.now c.args.pairs.now c.loop-pair.pair-index c.loop-pair-test.false
