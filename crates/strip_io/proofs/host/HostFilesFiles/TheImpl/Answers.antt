use Rattle.std.proofs.Common.{◌≡◌, ℕ, List, None, Some, refl}
use Rattle.strip_io.specs.Files.{CopiesFrom}
use Rattle.strip_io.proofs.Changes.{one_more}
use Rattle.strip_io.proofs.Pieces.{if_ok}
use Rattle.strip_io.proofs.host.HostFilesFiles.TheImpl.Goals as goal

-- no bytes are told
pub read-tells : goal.read-tells
read-tells g c = record {
  within = c.ensures.within;
  copied = if_ok (λ (n : ℕ). (text : List ℕ) → None ≡ Some text → CopiesFrom text c.args.at n c.new.into.now) c.result (λ n text told. cc);
  cause = c.ensures.cause;
  held = c.ensures.held;
  told = refl;
  counts = c.ensures.counts;
  unfailed = c.ensures.unfailed;
  came = c.ensures.came;
  none_came = c.ensures.none_came;
  one_read = one_more c.args.self.now.reads c.new.self.now.reads c.ensures.counted;
}
