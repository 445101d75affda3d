-- A handshake is read back if its fields fit.
use Rattle.std.proofs.Common.{ℕ, zero, suc, List, [], ◌∷◌, length, Bool, true, false, IsTrue, not, nat_le, ◌&&◌, ◌==◌, refl, arith}
use Rattle.std.proofs.lemmas.Bool.{leb-true}
use Rattle.mysql_auth.specs.Handshake as handshake
use Rattle.mysql_auth.specs.Handshake.{HandshakePacket}
use Rattle.mysql_wire.specs.Null.{HasNoZero}
use Rattle.mysql_auth.specs.PluginName.{has_zero}
use Rattle.mysql_packets_c.specs.Handshake.{sends_scramble, sends_name, scramble_fits, name_fits, handshake_fits, if_sent, IsSent}
use Rattle.mysql_packets_c.specs.declared.handshake.CHandshake.{CHandshake}

both : (a b : Bool) → IsTrue (a && b) → IsTrue a × IsTrue b
both true b h = (refl, h)
both false b h = absurd cc

no-zero : (bytes : List ℕ) → IsTrue (not (has_zero bytes)) → HasNoZero bytes
no-zero [] h = tt
no-zero (zero ∷ bytes) h = absurd cc
no-zero (suc b ∷ bytes) h = no-zero bytes h

scramble-part : (sent named : Bool) (scramble : List ℕ) → IsTrue (scramble_fits sent named (length scramble)) → handshake.ScrambleFits sent named (if_sent sent scramble)
scramble-part true true scramble h =
    let sides = both (nat_le 13 (length scramble)) (nat_le (length scramble) 247) h in
    (refl, leb-true 13 (length scramble) sides.0, leb-true (length scramble) 247 sides.1)
scramble-part true false scramble h =
    let sides = both (nat_le 13 (length scramble)) (nat_le (length scramble) 13) h in
    (refl, omega (arith, leb-true 13 (length scramble) sides.0, leb-true (length scramble) 13 sides.1))
scramble-part false true scramble h = refl
scramble-part false false scramble h = refl

name-part : (sent : Bool) (name : List ℕ) → IsTrue (name_fits sent name) → handshake.NameFits sent (if_sent sent name) []
name-part true name h = (refl, no-zero name h, refl)
name-part false name h = refl

pub handshake-parts : (c : CHandshake) (p : HandshakePacket) → IsSent c p → IsTrue (handshake_fits c) → handshake.HandshakePartsFit p []
handshake-parts c p s h =
    let version = both (not (has_zero c.server_version.now)) _ h in
    let first = both (length c.scramble_1.now == 8) _ version.1 in
    let rest = both (scramble_fits (sends_scramble c) (sends_name c) (length c.scramble_2.now)) _ first.1 in
    record {
      server_version = rw (s.server_version) (no-zero c.server_version.now version.0);
      scramble_2 = rw (s.capabilities, s.scramble_2) (scramble-part (sends_scramble c) (sends_name c) c.scramble_2.now rest.0);
      auth_plugin_name = rw (s.capabilities, s.auth_plugin_name) (name-part (sends_name c) c.auth_plugin_name.now rest.1);
    }
