-- The parts of session changes that are one byte string each.
use Rattle.std.specs.Prelude.{ℕ, List, refl}
use Rattle.mysql_wire.specs.declared.eof.EofBytes.{EofBytes}
use Rattle.mysql_wire.specs.declared.lenenc.LenEnc.{LenEnc}
use Rattle.mysql_wire.specs.Codecs.{Codec, Fields, ◌>>=◌, give, field, packet, string_eof, string_lenenc}
use Rattle.mysql_wire.specs.Form as form
use Rattle.mysql_session.specs.declared.session_text.SessionText.{SessionText}
use Rattle.mysql_session.specs.declared.session_text.SchemaName.{SchemaName}
use Rattle.mysql_session.specs.declared.session_text.GtidsText.{GtidsText}
use Rattle.mysql_session.specs.declared.session_text.TransactionCharacteristicsText.{TransactionCharacteristicsText}
use Rattle.mysql_session.specs.declared.session_text.TransactionStateText.{TransactionStateText}
use Rattle.mysql_session.specs.declared.session_text.UnsupportedText.{UnsupportedText}

-- the bytes of a text, and the text of some bytes
abbrev pub text_bytes : {N R : Type 0} → SessionText N R → List ℕ
text_bytes text = text.0

abbrev pub text_of : {N R : Type 0} → List ℕ → SessionText N R
text_of bytes = record { 0 = bytes; 1 = record {} }

-- the wire form of a text
abbrev pub session_text : {N R : Type 0} → form.Form (List ℕ) → form.Form (SessionText N R)
session_text bytes = form.◌>>=◌ bytes (λ content. form.give (text_of content))

abbrev pub session_text_fields : {C N R : Type 0} → Codec C (List ℕ) → Fields C (SessionText N R) (SessionText N R)
session_text_fields bytes = do
  content ← field text_bytes bytes
  give (text_of content)

-- ---- the kinds of text

abbrev pub Schema : Type 0
Schema = SessionText SchemaName LenEnc

abbrev pub Gtids : Type 0
Gtids = SessionText GtidsText EofBytes

abbrev pub TransactionCharacteristics : Type 0
TransactionCharacteristics = SessionText TransactionCharacteristicsText LenEnc

abbrev pub TransactionState : Type 0
TransactionState = SessionText TransactionStateText LenEnc

abbrev pub Unsupported : Type 0
Unsupported = SessionText UnsupportedText LenEnc

-- all but GTIDs: length-encoded bytes
unfoldable pub lenenc_text : {N : Type 0} → Codec (Unit {0}) (SessionText N LenEnc)
lenenc_text = packet (session_text_fields string_lenenc) (λ text. refl)

-- GTIDs: the rest of the bytes
unfoldable pub gtids : Codec (Unit {0}) Gtids
gtids = packet (session_text_fields string_eof) (λ text. refl)
