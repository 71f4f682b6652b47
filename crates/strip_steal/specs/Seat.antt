-- What a seat at a queue has.
use Rattle.std.specs.declared.alloc.Global.{Global}
use Rattle.atomic_blocks.specs.Lent.{RowsId}
use Rattle.crossbeam_deque.specs.Handles.{stealer_deque, view}
use Rattle.strip_steal.specs.declared.seat.Seat.{Seat}
use Rattle.strip_steal.specs.declared.share.Share.{Share}

-- which queue it is
abbrev pub QueueId : Type 0
QueueId = RowsId × Global

abbrev pub queue_of : Seat → QueueId
queue_of seat = stealer_deque seat.queue

-- what its pass knows
abbrev pub share_of : Seat → Share
share_of seat = view seat.pass
