-- Where a stream is synchronized again, and the notices about one that isn't.
use Rattle.std.specs.Prelude.{◌≡◌, ℕ, ◌+◌, ◌-◌, ◌^◌, ◌==◌, ◌||◌, ◌&&◌, min, nat_lt, not, Bool, true, false, List, [], ◌∷◌, ◌++◌, Option, Some, None, is_some, codes, if◌then◌else◌}
use Rattle.std.specs.Str.{bytes_eq}
use Rattle.mysql_conversation.specs.declared.packet_kind.Side.{Side}
use Rattle.mysql_conversation.specs.declared.packet_kind.Side.TheVariants.{Client, Server}
use Rattle.mysql_observer.specs.Observed.{last_exchange}
use Rattle.mysql_show.specs.Fields.{Said, said, Number}
use Rattle.mysql_wire.specs.ServerCommand.{server_command_of}
use Rattle.mysql_recorder.specs.Entries.{notice_text}
use Rattle.mysql_recorder.specs.Frames.{is_side}
use Rattle.mysql_recorder.specs.Sides.{has_lost, layout, passed_of}
use Rattle.mysql_recorder.specs.declared.sides.Sides.{Sides}

-- ---- synchronized again

-- a line begins with a command: a frame with number 0, which is not empty, and whose first byte is a command's
abbrev pub begins_command : List ℕ → Bool
begins_command (low ∷ middle ∷ high ∷ number ∷ code ∷ line) = (number == 0) && (not (low == 0 && (middle == 0 && high == 0)) && is_some (server_command_of code))
begins_command _ = false

-- a line begins with a frame with this number
abbrev pub begins_with : ℕ → List ℕ → Bool
begins_with number (a ∷ b ∷ c ∷ first ∷ line) = first == number
begins_with number _ = false

abbrev pub answers : Option ℕ → List ℕ → Bool
answers None line = false
answers (Some number) line = begins_with number line

-- a line begins as the next exchange of its stream must: the client's with a command, the server's with the frame that answers it
abbrev pub begins : Side → Sides → List ℕ → Bool
begins Client s line = begins_command line
begins Server s line = answers s.answer line

-- if a stream is not synchronized and the line begins so, it is synchronized now; otherwise it is unchanged
abbrev pub StepsIn : Side → List ℕ → Sides → Sides → Type 0
StepsIn side line old new = (begins side old line ≡ true → passed_of side new ≡ None) × (begins side old line ≡ false → passed_of side new ≡ passed_of side old)

-- ---- notices

-- the last exchange; when the client's stream resumes, the one that begins
abbrev pub exchange_after : (is_next : Bool) → ℕ → ℕ
exchange_after true last = min (last + 1) (2 ^ 64 - 1)
exchange_after false last = last

abbrev pub notice_exchange : (kind : List ℕ) → Side → ℕ → ℕ
notice_exchange kind side last = exchange_after (bytes_eq kind (codes "resync") && is_side Client side) last

-- how many bytes of a stream were skipped
abbrev pub skipped_bytes : ℕ → List Said
skipped_bytes count = said (codes "skipped_bytes") (Number count) ∷ []

abbrev pub passed_text : Sides → (kind : List ℕ) → Side → ℕ → List ℕ
passed_text s kind side count = notice_text (layout s) side (notice_exchange kind side (last_exchange s.packets.observer)) kind (skipped_bytes count)

-- for a stream that is still not synchronized; nothing if nothing is lost or skipped
abbrev pub left_of : Sides → Side → Option ℕ → List ℕ
left_of s side None = []
left_of s side (Some count) = if has_lost s || nat_lt 0 count then passed_text s (codes "no_resync") side count else []

abbrev pub left_text : Side → Sides → List ℕ
left_text side s = left_of s side (passed_of side s)

-- the notices about both at the end, the client's first
abbrev pub SaysLeft : Sides → (old new : List ℕ) → Type 0
SaysLeft s old new = new ≡ (old ++ left_text Client s) ++ left_text Server s
