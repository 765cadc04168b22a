-- How three term buffers lie in a lease: the newest term's buffer ends somewhere, and after it the others follow, the
-- oldest first, going on at the front. The newest term's buffer has bytes of an earlier term behind what was written of it.
use Rattle.std.specs.Prelude.{◌≡◌, ℕ, ◌*◌, ◌<◌, ◌≤◌, ◌++◌, List, length, take, drop, IsTrue, ◌||◌, ◌==◌, ◌^◌}
use Rattle.log_arena.specs.Lease.{lease_bytes, lease_home, lease_place, lease_len}
use Rattle.term_log.specs.Buffers.{Filled, seen_of}
use Rattle.term_log.specs.declared.buffers.TermBuffers.TheInside.{Inside}

-- the bytes in the order of positions, where the newest term's buffer ends at `end`
abbrev pub in_order : ℕ → List ℕ → List ℕ
in_order end bytes = drop end bytes ++ take end bytes

abbrev pub buffers_of : Inside → Filled
buffers_of b = record {
  seen = record {
    home = lease_home b.lease;
    place = lease_place b.lease;
    term_length = b.term_length;
    bytes = seen_of b.term_length b.filled (in_order b.end (lease_bytes b.lease));
  };
  filled = b.filled;
}

-- one of the three buffers ends at `end`
abbrev pub IsEnd : ℕ → ℕ → Type 0
IsEnd term_length end = IsTrue (end == term_length || end == 2 * term_length || end == 3 * term_length)

pub record IsTurn (b : Inside) : Type 0 where
  pub len : lease_len b.lease ≡ 3 * b.term_length
  pub size : length (lease_bytes b.lease) ≡ 3 * b.term_length
  pub at : IsEnd b.term_length b.end
  pub low : b.term_length ≤ b.end
  pub high : b.end ≤ 3 * b.term_length
  pub within : b.filled ≤ b.term_length
  pub fits : b.term_length < 2 ^ 32
