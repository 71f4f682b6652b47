use Rattle.std.proofs.Common.{Some, sym, ap, ◌∙◌}
use Rattle.strip_io.specs.Held.{bytes_of}
use Rattle.stripboard_cases.proofs.Hands.{source_more}
use Rattle.stripboard_cases.proofs.files.source.Goals as goal

pub loop-held-preserved : goal.loop-held-preserved
loop-held-preserved c =
    let held = c.held-item.result in
    let name = c.as_str.ensures.value in
    source_more c.args.files.now c.loop-held.held-index held c.loop-held.source.files c.add.new.self.files c.requires.apart c.loop-held-test.true c.held-item.is c.loop-held.invariant
    (ap (bytes_of c.add.new.self.files) (sym name) ∙ c.in_ok-add.ensures.told ∙ ap Some c.deref.ensures.value)
    (λ other differs. c.in_ok-add.ensures.others other (λ same. differs (same ∙ name)))
    c.in_ok-add.ensures.counts
