-- The plain condition of a response is enough.
use Rattle.std.proofs.Common.{ℕ, List, Option, Some, None, Bool, true, false, refl}
use Rattle.std.specs.Option.{option_map}
use Rattle.mysql_wire.specs.declared.int.RawInt.{RawInt}
use Rattle.mysql_wire.specs.Codec.{Codec}
use Rattle.mysql_wire.specs.CodecFits.{option_fits}
use Rattle.mysql_wire.specs.Codecs.{one_of, string_null, string_u8, string_lenenc}
use Rattle.mysql_wire.specs.Null.{HasNoZero}
use Rattle.mysql_auth.specs.Attributes.{attributes, AttributesFit}
use Rattle.mysql_auth.specs.PluginName.{plugin_null_or_eof, PluginFits}
use Rattle.mysql_auth.specs.SslRequest.{ssl_request}
use Rattle.mysql_auth.specs.declared.handshake_response.HandshakeResponse.{HandshakeResponse}
use Rattle.mysql_auth.specs.HandshakeResponse.{handshake_response, scramble, database, plugin, sent_attributes, counts_by_lenenc, counts_by_byte, sends_database, sends_plugin, sends_attributes, sends_zstd_level, sent_zstd_level, level_codec, scramble_buf, db_name, auth_plugin, connect_attributes, ScrambleFits, PartFits, LevelFits, HandshakeResponseFits}

scramble-fits : (by_lenenc by_byte : Bool) (content rest : List ℕ) → ScrambleFits by_lenenc by_byte content
    → (one_of {C = Unit {0}} by_lenenc string_lenenc (one_of by_byte string_u8 string_null)).fits tt content rest
scramble-fits true by_byte content rest h = h
scramble-fits false true content rest h = h
scramble-fits false false content rest h = h

part-fits : {A : Type 0} (f : Codec (Unit {0}) A) (Fits : A → Type 0) → ((a : A) (rest : List ℕ) → Fits a → f.fits tt a rest)
    → (sent : Bool) (part : Option A) (rest : List ℕ) → PartFits Fits sent part → option_fits f sent tt part rest
part-fits f Fits enough sent None rest h = h
part-fits f Fits enough sent (Some a) rest h = (h.0, enough a rest h.1)

plugin-fits : (p : _) (rest : List ℕ) → PluginFits p → plugin_null_or_eof.fits tt p rest
unfolding plugin_null_or_eof
plugin-fits p rest h = h

attributes-fit : (pairs : _) (rest : List ℕ) → AttributesFit pairs → attributes.fits tt pairs rest
unfolding attributes
attributes-fit pairs rest h = h

level-fits : (sent : Bool) (level : Option (RawInt ℕ ℕ)) (rest : List ℕ) → LevelFits sent (option_map (λ n. n.0) level) rest → (level_codec sent).fits tt level rest
level-fits true None rest h = h
level-fits false None rest h = refl
level-fits true (Some level) rest h = h.1
level-fits false (Some level) rest h = h

pub response-fits : (p : HandshakeResponse) (rest : List ℕ) → HandshakeResponseFits p rest → handshake_response.fits tt p rest
unfolding handshake_response ssl_request scramble database plugin sent_attributes sent_zstd_level
response-fits p rest h = (
  (h.capabilities, (h.max_packet_size, (h.collation, (tt, (h.mariadb_ext_capabilities, tt))))),
  (
    h.user,
    (
      scramble-fits (counts_by_lenenc p.head) (counts_by_byte p.head) (scramble_buf p) _ h.scramble_buf,
      (
        part-fits string_null HasNoZero (λ a rest fits. fits) (sends_database p.head) (db_name p) _ h.db_name,
        (
          part-fits plugin_null_or_eof PluginFits plugin-fits (sends_plugin p.head) (auth_plugin p) _ h.auth_plugin,
          (
            part-fits attributes AttributesFit attributes-fit (sends_attributes p.head) (connect_attributes p) _ h.connect_attributes,
            (level-fits (sends_zstd_level p.head) p.zstd_level rest h.zstd_level, tt),
          ),
        ),
      ),
    ),
  ),
)

pub ruleset responses = (response-fits)
