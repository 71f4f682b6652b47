use Rattle.std.proofs.Common.{◌≡◌, ◌++◌, ◌-◌, length, take, drop, flat_map, codes, true≢false, sym, ap, ◌∙◌, subst}
use Rattle.std.proofs.lemmas.Slice.Eq.{bytes_eq-Decides}
use Rattle.strip_words.specs.Words.{spelling, BelongsTo}
use Rattle.strip_words.specs.Reader.{Spells}
use Rattle.strip_words.specs.Shown.{texts, command_data, items_data}
use Rattle.strip_words.proofs.Results.{err_from}
use Rattle.strip_words.proofs.Names.{names_from}
use Rattle.strip_words.proofs.Spelled.{goes_on, nothing_on}
use Rattle.strip_words.proofs.Shows.{texts_begin, spelled_more, belong_more}
use Rattle.strip_words.proofs.reader.read_items.Goals as goal

pub returns-then-eq-clause-ok : goal.returns-then-eq-clause-ok
returns-then-eq-clause-ok c =
    let is : c.as_str-word.result.now ≡ codes "--" = (bytes_eq-Decides c.as_str-word.result.now (codes "--")).0 (sym c.eq.ensures ∙ c.if-eq.true) in
    record {
      spelled = c.loop-later.invariant.spelled ∙ ap (λ ws. flat_map spelling (items_data c.loop-later.items.items) ++ ws)
          (texts_begin c.loop-later.later.now c.word-item.result (codes "--") c.in-len1-up.len_at_least c.word-item.is (sym c.as_str-word.ensures.value ∙ is));
      belong = c.loop-later.invariant.belong;
    }

pub returns-in_err-item-clause-bad : goal.returns-in_err-item-clause-bad
returns-in_err-item-clause-bad c = err_from c.from_residual.result _ _ c.from_residual.ensures.1 (λ e given is items rest spells.
    let command = command_data c.args.command.now in
    let names = names_from command c.requires in
    let word = c.as_str-word.result.now in
    let later = c.loop-later.later.now in
    let begins = texts_begin later c.word-item.result word c.in-len1-up.len_at_least c.word-item.is (sym c.as_str-word.ensures.value) in
    let on = goes_on command names (items_data c.loop-later.items.items) (texts c.args.words.now) (texts later) c.loop-later.invariant.spelled c.loop-later.invariant.belong items rest spells in
    nothing_on command names word (texts (take (length later - 1) (drop 1 later)))
    (λ end. true≢false (sym ((bytes_eq-Decides word (codes "--")).1 end) ∙ sym c.eq.ensures ∙ c.if-eq.false))
    c.in_err-item.ensures.bad on.0 rest (subst (λ ws. Spells command ws on.0 rest) begins on.2))

pub loop-later-preserved : goal.loop-later-preserved
loop-later-preserved c =
    let later = c.loop-later.later.now in
    let begins = texts_begin later c.word-item.result c.as_str-word.result.now c.in-len1-up.len_at_least c.word-item.is (sym c.as_str-word.ensures.value) in
    record {
      spelled = spelled_more c.loop-later.items.items c.push.new.self.items c.in_ok-item.item (texts c.args.words.now) (texts later) (texts c.in_ok-item.behind.now)
          c.in_ok-push.ensures.items c.loop-later.invariant.spelled (begins ∙ c.in_ok-item.ensures.ok.begins);
      belong = belong_more (BelongsTo (command_data c.args.command.now)) c.loop-later.items.items c.push.new.self.items c.in_ok-item.item
          c.in_ok-push.ensures.items c.loop-later.invariant.belong c.in_ok-item.ensures.ok.belongs;
    }
