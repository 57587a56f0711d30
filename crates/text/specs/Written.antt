-- Internal. A line that is being written.
use Rattle.text.specs.Line.{line_of, Line as Text}
use Rattle.text.specs.declared.line.Line.{Line}

-- the text of a line so far, in the buffer that is lent to it
abbrev pub text_in : Line → Text
text_in l = line_of l.bytes.now l.length
