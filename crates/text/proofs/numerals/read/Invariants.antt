use Rattle.std.proofs.Common.{◌≡◌, ◌+◌, drop}
use Rattle.text.specs.Numerals.{numeral_from}
use Rattle.text.proofs.numerals.read.Given as goal

abbrev pub invariant-loop-byte : goal.invariant-loop-byte
invariant-loop-byte l = record {
  end : l.end ≡ l.at + l.byte-index;
  number : numeral_from l.largest 0 l.at (drop l.at l.text) ≡ numeral_from l.largest l.value l.end (drop l.byte-index l.rest);
}
