-- A binary log event, as it is sent.
use Rattle.std.specs.Prelude.{◌≡◌, ℕ, ◌<◌, ◌^◌, List, [], Option, Some, None, Bool, true, false, refl}
use Rattle.mysql_wire.specs.Codec.{Codec, Fields}
use Rattle.mysql_wire.specs.Codecs.{◌>>=◌, give, field, packet, when, without_context, const_u8, string_eof}
use Rattle.mysql_repl.specs.SemiSyncHeader.{flags, semi_sync_header}
use Rattle.mysql_repl.specs.declared.binlog_stream_event.BinlogStreamEvent.{BinlogStreamEvent}
use Rattle.mysql_repl.specs.declared.semi_sync_header.SemiSyncHeader.{SemiSyncHeader}

abbrev pub semi_sync : BinlogStreamEvent → Option SemiSyncHeader
semi_sync p = p.semi_sync

abbrev pub event_bytes : BinlogStreamEvent → List ℕ
event_bytes p = p.event

-- the packet with these fields
abbrev pub event_of : Option SemiSyncHeader → List ℕ → BinlogStreamEvent
event_of header event = record { header = record { 0 = record {} }; semi_sync = header; event = event }

-- the header of semi-synchronous replication, if agreed on
unfoldable pub agreed_header : Codec Bool (Option SemiSyncHeader)
agreed_header = when (λ agreed. agreed) (without_context semi_sync_header)

-- 00, the header of semi-synchronous replication, and the event to the end
abbrev pub stream_event_fields : Fields Bool BinlogStreamEvent BinlogStreamEvent
stream_event_fields = do
  header ← field (λ p. p.header) (const_u8 0x00)
  semi_sync ← field semi_sync agreed_header
  event ← field event_bytes string_eof
  give (record { header = header; semi_sync = semi_sync; event = event })

unfoldable pub stream_event : Codec Bool BinlogStreamEvent
stream_event = packet stream_event_fields (λ p. refl)

pub size-stream_event : (agreed : Bool) → (stream_event.form agreed).size ≡ None
unfolding stream_event
size-stream_event agreed = refl

-- ---- when an event is read back, in plain words

-- the header is present exactly if agreed on
abbrev pub HeaderFits : Bool → Option SemiSyncHeader → Type 0
HeaderFits agreed None = agreed ≡ false
HeaderFits agreed (Some header) = (agreed ≡ true) × (flags header < 2 ^ 8)

-- the header, and nothing follows
pub record StreamEventFits (agreed : Bool) (p : BinlogStreamEvent) (rest : List ℕ) : Type 0 where
  pub semi_sync : HeaderFits agreed (semi_sync p)
  pub event : rest ≡ []
