use Rattle.std.proofs.Common.{◌≡◌, ◌∙◌, ◌≤◌, None, sym, subst, ap, arith}
use Rattle.strip_lines.specs.Lines.{GrowTo}
use Rattle.strip_lines.proofs.Grown.{grow_self}
use Rattle.strip_least.specs.declared.view.View.{View as LeastView}
use Rattle.strip_least.specs.Pass.{known as known_least}
use Rattle.strip_least.specs.Steps.{lightened as least_lightened}
use Rattle.strip_book.specs.View.{ViewData, record_at}
use Rattle.strip_book.specs.Pass.{known}
use Rattle.strip_book.specs.Steps.{lightened, split_off}
use Rattle.strip_crew.specs.Hub.{GoTogether, IsSearch, hand_of}
use Rattle.strip_crew.proofs.Joined.{fresh_together, light_together}
use Rattle.strip_crew.proofs.passes.split.Goals as goal

pub returns : goal.returns
returns c =
    let told = known_least c.args.passes.now.told in
    let lines = known c.args.passes.now.lines in
    let before = c.args.passes.now.source in
    let part = c.in_ok-source.source in
    let after = c.split_source.new.source in
    let splits = c.in_ok-source.ensures in
    let lighter_told : known_least c.split.new.self ≡ least_lightened told = c.split.ensures.lighter in
    let lighter_lines : known c.split-2.new.self ≡ lightened lines = c.split-2.ensures.lighter in
    record {
      passes = record {
        least_pass = c.split.ensures.pass;
        book_pass = c.split-2.ensures.pass;
        named = c.requires.passes.named;
        together = subst (λ (v : ViewData). GoTogether after (known_least c.split.new.self) v) (sym lighter_lines)
            (subst (λ (v : LeastView). GoTogether after v (lightened lines)) (sym lighter_told) (light_together before part after told lines c.requires.passes.together splits));
        search = subst IsSearch (sym lighter_lines) (record { film = c.requires.passes.search.film; tasks = c.requires.passes.search.tasks });
      };
      same = ap (λ (v : ViewData). hand_of after (known_least c.split.new.self) v None None) lighter_lines
          ∙ ap (λ (v : LeastView). hand_of after v (lightened lines) None None) lighter_told
          ∙ (λ i. record (hand_of before told lines None None) { ended = splits.ended told.ended i });
      lighter = λ weight weigh. record {
        told = ap (λ (v : LeastView). v.weight) lighter_told ∙ (let is = weigh.told in omega (arith, is));
        lines = ap (λ (v : ViewData). v.weight) lighter_lines ∙ (let is = weigh.lines in omega (arith, is));
        source = splits.weight weight weigh.source;
      };
      new_passes = record {
        least_pass = c.split.ensures.new_pass;
        book_pass = c.split-2.ensures.new_pass;
        named = c.requires.passes.named;
        together = subst (λ (v : ViewData). GoTogether part (known_least c.split.result) v) (sym c.split-2.ensures.knows)
            (subst (λ (v : LeastView). GoTogether part v (split_off lines)) (sym c.split.ensures.knows) (fresh_together before part after told lines c.requires.passes.together splits));
        search = subst IsSearch (sym c.split-2.ensures.knows) (record { film = c.requires.passes.search.film; tasks = c.requires.passes.search.tasks });
      };
      light = record {
        told = ap (λ (v : LeastView). v.weight) c.split.ensures.knows;
        lines = ap (λ (v : ViewData). v.weight) c.split-2.ensures.knows;
        source = splits.light;
      };
      fresh = record {
        search = ap (λ (v : ViewData). v.search) c.split-2.ensures.knows;
        told = subst (λ (v : LeastView). v.told ≤ told.told) (sym c.split.ensures.knows) (omega arith);
        grow = subst (λ (v : ViewData). GrowTo lines.lines v.lines) (sym c.split-2.ensures.knows) (grow_self lines.lines);
        none = λ p. ap (λ (v : ViewData). record_at p v.entries) c.split-2.ensures.knows;
      };
      home = splits.home;
      worker = splits.worker;
      from = splits.from;
    }
