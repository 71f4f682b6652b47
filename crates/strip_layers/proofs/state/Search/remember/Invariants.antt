use Rattle.std.proofs.Common.{◌≡◌, All}
use Rattle.strip_model.specs.declared.kind.Kind.{Kind}
use Rattle.strip_model.specs.Film.{FilmData}
use Rattle.strip_layers.specs.Search.{AreTrue, AskedIsTrue}
use Rattle.strip_layers.specs.Shown.{search_data}
use Rattle.strip_layers.proofs.state.Search.remember.Given as goal

-- what was found is true, if all that is asked is
abbrev pub invariant-loop-ask : goal.invariant-loop-ask
invariant-loop-ask l = record {
  found : (kind : Kind) (film : FilmData) → AreTrue kind film l.fn.self.found.entries → All (AskedIsTrue kind film) l.fn.asks
      → AreTrue kind film l.self.found.entries;
  search : search_data l.self ≡ search_data l.fn.self;
}
