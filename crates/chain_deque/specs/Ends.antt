-- What contracts see of an owner and of a thief.
use Rattle.std.specs.Prelude.{◌≡◌, ℕ, ◌≤◌, true, false, length}
use Rattle.std.specs.declared.alloc.Global.{Global}
use Rattle.atomic_blocks.specs.Lent.{RowsId}
use Rattle.crossbeam_deque.specs.declared.handles.{Worker.Worker, Stealer.Stealer}
use Rattle.crossbeam_deque.specs.Handles.{Pass, view, IsPassOf, worker_deque, stealer_deque, worker_flavor, stealer_flavor, worker_view, worker_capacity, worker_index}
use Rattle.chain_deque.specs.declared.rule.{Chain.Chain, Seen.Seen, InTurn.InTurn}

-- which deque it is, how many chains it has room for, and what the owner's pass has seen
pub record OwnerView : Type 0 where
  pub deque : RowsId × Global
  pub cap : ℕ
  pub seen : Seen

-- which deque it is, and what the thief's pass has seen
pub record ThiefView : Type 0 where
  pub deque : RowsId × Global
  pub seen : Seen

abbrev pub owner_view : Worker Chain Global Seen InTurn → ℕ → OwnerView
owner_view queue cap = record { deque = worker_deque queue; cap = cap; seen = worker_view queue }

abbrev pub thief_view : Stealer Chain Global Seen InTurn → Pass Chain Seen Global → ThiefView
thief_view front pass = record { deque = stealer_deque front; seen = view pass }

-- the owner's end of a first in, first out queue, with room for `cap` pushes
pub record IsOwner (queue : Worker Chain Global Seen InTurn) (cap : ℕ) : Type 0 where
  pub fifo : worker_flavor queue ≡ 0
  pub owns : (worker_view queue).owns ≡ true
  pub live : (worker_view queue).live ≡ true
  pub room : cap ≤ worker_capacity queue
  pub pushes : worker_index queue ≤ length (worker_view queue).pushed

-- a stealer of such a queue with a thief's pass of it
pub record IsThief (front : Stealer Chain Global Seen InTurn) (pass : Pass Chain Seen Global) : Type 0 where
  pub fifo : stealer_flavor front ≡ 0
  pub seated : IsPassOf (stealer_deque front) pass
  pub thief : (view pass).owns ≡ false
  pub live : (view pass).live ≡ true
