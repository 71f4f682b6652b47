use Rattle.std.proofs.Common.{Option, MatchOption, Contains, Bor, subst, true≢false, sym, ◌∙◌}
use Rattle.strip_words.specs.Words.{Word, IsPlain}
use Rattle.strip_words.specs.Shown.{command_data}
use Rattle.strip_words.proofs.Names.{names_from, same_cut, valued_is, has_equals}
use Rattle.strip_words.proofs.Cuts.{IsCut, cut_parts}
use Rattle.strip_words.proofs.reader.cut.Goals as goal
use Rattle.strip_words.proofs.reader.cut.Goals.{in_default-via-in-Some+then-has_valued+else-is_plain, in_default-via-in-Some+else-has_valued, in_default-via-in_default}

abbrev Parts : Word → Option (Bor Word × Bor Word) → Type 0
Parts word r = MatchOption r (¬ Contains word 61) (λ parts. IsCut word parts.0.now parts.1.now)

pub returns-in-Some-clause-ok : goal.returns-in-Some-clause-ok
returns-in-Some-clause-ok c =
    let cut = subst (Parts c.args.word.now) c.in-Some.is (cut_parts c.args.word.now c.split_once.result c.split_once.ensures.cases) in
    (cut.whole, (c.has_valued.ensures.0 c.if-has_valued.true, c.is_plain.ensures.0 c.if-is_plain.true))

pub returns-in_default-clause-bad : goal.returns-in_default-clause-bad
returns-in_default-clause-bad c = λ name value is belongs.
    let command = command_data c.args.command.now in
    let lacks = (valued_is command (names_from command c.requires) name belongs.0).lacks in
    let parts = cut_parts c.args.word.now c.split_once.result c.split_once.ensures.cases in
    elim c.in_default.branch [
      | in_default-via-in-Some+then-has_valued+else-is_plain w ↦
          let cut = subst (Parts c.args.word.now) w.in-Some.is parts in
          let same = same_cut name value w.in-Some.name.now w.in-Some.value.now lacks cut.lacks (sym is ∙ cut.whole) in
          true≢false (sym (w.is_plain.ensures.1 (subst IsPlain same.1 belongs.1)) ∙ w.if-is_plain.false)
      | in_default-via-in-Some+else-has_valued w ↦
          let cut = subst (Parts c.args.word.now) w.in-Some.is parts in
          let same = same_cut name value w.in-Some.name.now w.in-Some.value.now lacks cut.lacks (sym is ∙ cut.whole) in
          true≢false (sym (w.has_valued.ensures.1 (subst (Contains command.valued) same.0 belongs.0)) ∙ w.if-has_valued.false)
      | in_default-via-in_default w ↦
          subst (Parts c.args.word.now) w.in_default.is parts (subst (λ (w : Word). Contains w 61) (sym is) (has_equals name value))
    ]
