-- When set-up numbers and a batch's length are refused (01, "Engine, desks, queue", the table).
use Rattle.std.specs.Prelude.{ℕ, ◌%◌, Bool, not, ◌||◌, ◌==◌, nat_lt}
use Rattle.engine_record.specs.declared.Setup.{Setup}

-- 1: "ring 0, over 32,768, or no multiple of 128"
abbrev pub bad_ring : Setup → Bool
bad_ring setup = setup.ring == 0 || nat_lt 32768 setup.ring || not (setup.ring % 128 == 0)

-- 2: "memory over 16,777,216, or common longer than memory"
abbrev pub bad_memory : Setup → Bool
bad_memory setup = nat_lt 16777216 setup.memory || nat_lt setup.memory setup.common

-- 6: "length 0, no multiple of 4, or over the ring length"
abbrev pub bad_length : (ring size : ℕ) → Bool
bad_length ring size = size == 0 || not (size % 4 == 0) || nat_lt ring size
