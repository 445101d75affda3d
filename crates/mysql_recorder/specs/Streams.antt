-- One side's stream, in which each payload may begin with any number.
use Rattle.std.specs.Prelude.{ℕ, ◌&&◌, Bool, List, ◌++◌, length, nat_lt, nat_le, slice_index, if◌then◌else◌}
use Rattle.mysql_frames.specs.FrameReader.{ReaderState}

-- the expected number: the one in its header if that becomes complete now
abbrev pub number_sent : Bool → ReaderState → List ℕ → ℕ
number_sent is_there reader input = if is_there then slice_index (reader.held ++ input) 3 else reader.number

-- a header becomes complete with this input
abbrev pub header_comes : ReaderState → List ℕ → Bool
header_comes reader input = nat_lt (length reader.held) 4 && nat_le 4 (length (reader.held ++ input))

-- the reader, for the next payload's number
unfoldable pub as_sent : ReaderState → List ℕ → ReaderState
as_sent reader input = record { held = reader.held; number = number_sent (header_comes reader input) reader input; limit = reader.limit }
