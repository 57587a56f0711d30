use Rattle.std.proofs.Common.{◌≡◌, drop}
use Rattle.text.specs.Line.{appended}
use Rattle.text.specs.Written.{text_in}
use Rattle.text.proofs.line.Line.append.Given as goal

abbrev pub invariant-loop-byte : goal.invariant-loop-byte
invariant-loop-byte l = record {
  same_buffer : l.self.bytes.ghost_name ≡ l.fn.self.bytes.ghost_name;
  text : appended (text_in l.self) (drop l.byte-index l.text) ≡ appended (text_in l.fn.self) l.text;
}
