-- The sequence number of a payload.
use Rattle.std.proofs.Common.{◌≡◌, ℕ, ◌≤◌, ◌<◌, ◌⊎◌, Bool, true, false, List, ◌++◌, length, slice_index, refl, sym, arith}
use Rattle.mysql_frames.specs.FrameReader.{ReaderState}
use Rattle.mysql_recorder.specs.Streams.{as_sent, number_sent, header_comes}

by-header : (is : Bool) (old : ReaderState) (input : List ℕ) (number : ℕ) → header_comes old input ≡ is
    → (length old.held < 4 → 4 ≤ length (old.held ++ input) → number ≡ slice_index (old.held ++ input) 3)
    → ((4 ≤ length old.held) ⊎ (length (old.held ++ input) < 4) → number ≡ old.number)
    → number ≡ number_sent is old input
by-header true old input number e there same = grind arith
by-header false old input number e there same = grind arith

ap3 : (old new : ReaderState) {number : ℕ} → new.held ≡ old.held → new.number ≡ number → new.limit ≡ old.limit → new ≡ record { held = old.held; number = number; limit = old.limit }
ap3 old new held number limit = rw (sym held, sym number, sym limit) refl

pub sent-number : (old new : ReaderState) (input : List ℕ) → new.held ≡ old.held
    → (length old.held < 4 → 4 ≤ length (old.held ++ input) → new.number ≡ slice_index (old.held ++ input) 3)
    → ((4 ≤ length old.held) ⊎ (length (old.held ++ input) < 4) → new.number ≡ old.number)
    → new.limit ≡ old.limit → new ≡ as_sent old input
unfolding as_sent
sent-number old new input held there same limit =
    ap3 old new held (by-header (header_comes old input) old input new.number refl there same) limit

pub ruleset sent = (sent-number)
