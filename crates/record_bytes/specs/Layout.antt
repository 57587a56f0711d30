-- Where the numbers of a record stand in its 272 bytes: 68 little-endian words of 32 bits.
--    0 ring, 1 memory, 2 common, 3 the reset rule's number, 4 zero, 5 read, 6 next, 7 zero
--    8, 12, 16, 20 a client's place: start, length, pending, 1 if it is open and 0 if it is not; of one that is not open the other three are free
--    24, 29, 34, 39, 44, 49, 54, 59 a slot: 0 if it is free and 1 if it is ready, client, ticket, offset, length; of a free one all five are zero
--    64 the staged submission: client, slot, total length, bytes so far; with none all four are zero
use Rattle.std.specs.Prelude.{ℕ, ◌%◌, List, get_or}

-- word k of a list of words
abbrev pub word_at : List ℕ → ℕ → ℕ
word_at ws k = get_or ws k 0

-- what of a number is written; of a valid record's numbers that is all
abbrev pub low : ℕ → ℕ
low n = n % 4294967296
