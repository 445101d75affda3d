-- The plain condition is enough.
use Rattle.std.proofs.Common.{ℕ, ◌<◌, List, Option, Some, None, Bool, true, false, if◌then◌else◌, arith}
use Rattle.mysql_wire.specs.CodecFits.{option_fits}
use Rattle.mysql_wire.specs.Codecs.{string_bare}
use Rattle.mysql_auth.specs.EofName.{eof_name}
use Rattle.mysql_auth.specs.Handshake.{HandshakePacket, handshake, handshake_head, handshake_block, data_length, length_of, scramble_length, scramble_2, auth_plugin_name, capabilities, has_scramble, has_name, ScrambleFits, NameFits, HandshakeFits}

small : (named : Bool) (scramble : Option (List ℕ)) → (if named then length_of scramble else 0) < 256
small true None = omega arith
small true (Some scramble) = omega arith
small false scramble = omega arith

scramble-fits : (sent named : Bool) (scramble : Option (List ℕ)) (rest : List ℕ) → ScrambleFits sent named scramble
    → option_fits (string_bare {C = Unit {0}} 247 (scramble_length (if named then length_of scramble else 0))) sent tt scramble rest
scramble-fits sent true None rest h = h
scramble-fits sent false None rest h = h
scramble-fits sent true (Some scramble) rest h = (h.0, (omega (arith, h.1, h.2), omega (arith, h.1, h.2)))
scramble-fits sent false (Some scramble) rest h = (h.0, (omega (arith, h.1), omega arith))

name-fits : (sent : Bool) (name : Option (List ℕ)) (rest : List ℕ) → NameFits sent name rest → option_fits (eof_name {C = Unit {0}}) sent tt name rest
name-fits sent None rest h = h
name-fits sent (Some name) rest h = (h.0, (h.1, h.2))

pub handshake-fits : (p : HandshakePacket) (rest : List ℕ) → HandshakeFits p rest → handshake.fits tt p rest
unfolding handshake handshake_head handshake_block data_length
handshake-fits p rest h = ((h.protocol_version, (h.server_version, ((h.connection_id, (h.scramble_1, (tt, (h.capabilities_low, (h.default_collation, (h.status_flags, (h.capabilities_high, (small (has_name (capabilities p)) (scramble_2 p), (tt, (h.mariadb_ext_capabilities, tt)))))))))), tt))), (scramble-fits (has_scramble (capabilities p)) (has_name (capabilities p)) (scramble_2 p) _ h.scramble_2, (name-fits (has_name (capabilities p)) (auth_plugin_name p) rest h.auth_plugin_name, tt)))

pub ruleset handshakes = (handshake-fits)
