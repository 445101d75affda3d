-- The data of a GTID change as servers send it.
use Rattle.std.specs.Prelude.{ℕ, List, refl}
use Rattle.mysql_wire.specs.Codecs.{Codec, Fields, ◌>>=◌, give, field, packet, const_u8, string_lenenc}
use Rattle.mysql_replies.specs.declared.sent_gtids.SentGtids.{SentGtids}

-- the text's bytes, and the set with that text
abbrev pub gtids_text : SentGtids → List ℕ
gtids_text g = g.text

abbrev pub sent_text : List ℕ → SentGtids
sent_text text = record { encoding = record { 0 = record {} }; text = text }

-- the encoding, 00, and the text, length-encoded
abbrev pub sent_gtids_fields : Fields (Unit {0}) SentGtids SentGtids
sent_gtids_fields = do
  encoding ← field (λ g. g.encoding) (const_u8 0x00)
  text ← field gtids_text string_lenenc
  give (record { encoding = encoding; text = text })

unfoldable pub sent_gtids : Codec (Unit {0}) SentGtids
sent_gtids = packet sent_gtids_fields (λ g. refl)
