-- What a server sends for the plugin parsec, apart from the scramble.
use Rattle.std.specs.Prelude.{ℕ, ◌*◌, ◌^◌, ◌==◌, ◌&&◌, List, Option, Some, None, drop, length, slice_index, nat_lt, if◌then◌else◌}

-- 20 bytes: `P`, a factor of at most 20, and the salt. There are 1024 rounds times two to the power of the factor.
abbrev pub parsec_salt : List ℕ → Option (ℕ × List ℕ)
parsec_salt payload =
    if length payload == 20 && (slice_index payload 0 == 80 && nat_lt (slice_index payload 1) 21)
    then Some (1024 * 2 ^ slice_index payload 1, drop 2 payload)
    else None
