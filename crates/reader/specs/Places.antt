-- Where a reader stands once it has read a number. Assumes nothing.
use Rattle.std.specs.Prelude.{ℕ, ◌+◌}
use Rattle.reader.specs.declared.Reader.{Reader}

-- the reader behind the next n bytes
abbrev pub after : Reader → ℕ → Reader
after r n = record { bytes = r.bytes; at = r.at + n }
