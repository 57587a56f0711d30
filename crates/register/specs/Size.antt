-- The size of a surface (01, "Faults of a taken batch", 26; "Pixels": a source of w by h).
use Rattle.surface.specs.declared.Surface.{Surface}
use Rattle.transform.specs.declared.Size.{Size}

abbrev pub size_of : Surface → Size
size_of s = record { width = s.width; height = s.height }
