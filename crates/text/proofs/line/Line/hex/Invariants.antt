use Rattle.std.proofs.Common.{◌≡◌, ◌-◌, drop}
use Rattle.text.specs.Line.{appended}
use Rattle.text.specs.Written.{text_in}
use Rattle.text.specs.Hex.{hex_word}
use Rattle.text.proofs.line.Line.hex.Given as goal

abbrev pub invariant-loop-place : goal.invariant-loop-place
invariant-loop-place l = record {
  same_buffer : l.self.bytes.ghost_name ≡ l.fn.self.bytes.ghost_name;
  text : appended (text_in l.self) (drop l.place (hex_word l.word)) ≡ appended (text_in l.fn.self) (drop (8 - l.digits) (hex_word l.word));
}
