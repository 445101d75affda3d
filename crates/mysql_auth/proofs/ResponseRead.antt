-- A response ends in its attributes and a compression level, each with a reader of its own.
use Rattle.std.proofs.Common.{◌≡◌, ℕ, List, Ok, Err, Option, Bool, refl, sym, ap, ◌∙◌}
use Rattle.std.specs.Option.{option_map}
use Rattle.std.specs.Prelude.{false}
use Rattle.mysql_wire.specs.declared.fault.FaultOf.{FaultOf}
use Rattle.mysql_wire.specs.declared.int.RawInt.{RawInt}
use Rattle.mysql_wire.specs.Codec.{Codec}
use Rattle.mysql_wire.specs.Codecs.{packet}
use Rattle.mysql_wire.specs.Reading.{Reading, Faults, then_read}
use Rattle.mysql_wire.specs.Null.{null_string}
use Rattle.mysql_wire.specs.Seq.{counts_any}
use Rattle.mysql_auth.specs.Attributes.{Attribute, merged}
use Rattle.mysql_auth.specs.SslRequest.{ssl_request}
use Rattle.mysql_auth.specs.declared.ssl_request.SslRequest.{SslRequest}
use Rattle.mysql_auth.specs.declared.handshake_response.HandshakeResponse.{HandshakeResponse}
use Rattle.mysql_auth.specs.HandshakeResponse.{handshake_response, handshake_response_as_sent, handshake_response_fields, scramble, database, pairs_as_sent, plugin, sent_attributes, sent_zstd_level, sends_attributes, with_each_key_once}
use Rattle.mysql_auth.specs.HandshakeResponseRef.{before_attributes, with_last}
use Rattle.mysql_auth.specs.AttributeBytes.{in_response, sent_room}
use Rattle.mysql_auth.proofs.EachKeyOnce.{made, after-front, given-once}
use Rattle.mysql_auth.proofs.LastPart.{step, front-fault, last-fault}

-- ---- a response, with attributes read in either way

module _ (given : SslRequest → Codec (Unit {0}) (Option (List Attribute))) where
  abbrev whole_of : Codec (Unit {0}) HandshakeResponse
  whole_of = packet (handshake_response_fields given) (λ p. refl)

  -- the compression level, after the attributes
  abbrev level_after : HandshakeResponse → Option (List Attribute) → List ℕ → Reading HandshakeResponse
  level_after p found later = then_read (((sent_zstd_level p.head).form tt).reads later) (λ level rest. Ok (with_last found level p, rest))

  -- the attributes and the compression level, after the front of the packet
  abbrev last_after : HandshakeResponse → List ℕ → Reading HandshakeResponse
  last_after p mid = then_read (((given p.head).form tt).reads mid) (level_after p)

  whole-parts : (bytes : List ℕ) → (whole_of.form tt).reads bytes ≡ then_read (before_attributes.reads bytes) last_after
  whole-parts bytes =
      step ((ssl_request.form tt).reads bytes) _ last_after _ (λ head b1.
      step (null_string.reads b1) _ last_after _ (λ user b2.
      step (((scramble head).form tt).reads b2) _ last_after _ (λ answer b3.
      step (((database head).form tt).reads b3) _ last_after _ (λ db b4.
      step (((plugin head).form tt).reads b4) _ last_after _ (λ named b5. refl)))))

  pub whole-read : (p : HandshakeResponse) (found : Option (List Attribute)) (level : Option (RawInt ℕ ℕ)) (bytes mid later rest : List ℕ) → before_attributes.reads bytes ≡ Ok (p, mid)
      → ((given p.head).form tt).reads mid ≡ Ok (found, later) → ((sent_zstd_level p.head).form tt).reads later ≡ Ok (level, rest)
      → (whole_of.form tt).reads bytes ≡ Ok (with_last found level p, rest)
  whole-read p found level bytes mid later rest e h l = whole-parts bytes ∙ rw (e, h, l) refl

  pub whole-front_fault : (takes_memory : Bool) (e : FaultOf) (bytes : List ℕ) → Faults false e (before_attributes.reads bytes) → Faults takes_memory e ((whole_of.form tt).reads bytes)
  whole-front_fault takes_memory e bytes h = rw (whole-parts bytes) (front-fault takes_memory e (before_attributes.reads bytes) last_after h)

  pub whole-last_fault : (takes_memory : Bool) (e : FaultOf) (p : HandshakeResponse) (bytes mid : List ℕ) → before_attributes.reads bytes ≡ Ok (p, mid)
      → Faults takes_memory e (((given p.head).form tt).reads mid) → Faults takes_memory e ((whole_of.form tt).reads bytes)
  whole-last_fault takes_memory e p bytes mid same h = rw (whole-parts bytes, same) (last-fault takes_memory e (((given p.head).form tt).reads mid) _ h)

pub ruleset response_parts = (whole-read, whole-front_fault, whole-last_fault)

-- ---- each key once

pub attributes-fault : (e : FaultOf) (p : HandshakeResponse) (bytes mid : List ℕ) → before_attributes.reads bytes ≡ Ok (p, mid)
    → Faults (counts_any ((sent_room (sends_attributes p.head)).reads mid)) e (((sent_attributes p.head).form tt).reads mid)
    → Faults (counts_any (in_response.reads bytes)) e ((handshake_response.form tt).reads bytes)
unfolding handshake_response
attributes-fault e p bytes mid same h = rw same (whole-last_fault sent_attributes (counts_any ((sent_room (sends_attributes p.head)).reads mid)) e p bytes mid same h)

pub ruleset responses_read = (whole-read, whole-front_fault, attributes-fault)

-- ---- both agree, except for repeated keys

level-once : (p : HandshakeResponse) (found : Option (List Attribute)) (level : Reading (Option (RawInt ℕ ℕ)))
    → made with_each_key_once (then_read level (λ level rest. Ok (with_last found level p, rest))) ≡ then_read level (λ level rest. Ok (with_last (option_map merged found) level p, rest))
level-once p found (Ok x) = refl
level-once p found (Err e) = refl

last-once : (p : HandshakeResponse) (read : Reading (Option (List Attribute)))
    → made with_each_key_once (then_read read (level_after pairs_as_sent p)) ≡ then_read (made (option_map merged) read) (level_after sent_attributes p)
last-once p (Ok x) = level-once p x.0 (((sent_zstd_level p.head).form tt).reads x.1)
last-once p (Err e) = refl

attributes-once : (head : SslRequest) (mid : List ℕ) → made (option_map merged) (((pairs_as_sent head).form tt).reads mid) ≡ ((sent_attributes head).form tt).reads mid
unfolding pairs_as_sent sent_attributes
attributes-once head mid = given-once (sends_attributes head) mid

after-once : (p : HandshakeResponse) (mid : List ℕ) → made with_each_key_once (last_after pairs_as_sent p mid) ≡ last_after sent_attributes p mid
after-once p mid =
    last-once p (((pairs_as_sent p.head).form tt).reads mid)
    ∙ ap (λ (read : Reading (Option (List Attribute))). then_read read (level_after sent_attributes p)) (attributes-once p.head mid)

pub response-once : (bytes : List ℕ) → made with_each_key_once ((handshake_response_as_sent.form tt).reads bytes) ≡ (handshake_response.form tt).reads bytes
unfolding handshake_response handshake_response_as_sent
response-once bytes =
    ap (λ (read : Reading HandshakeResponse). made with_each_key_once read) (whole-parts pairs_as_sent bytes)
    ∙ after-front with_each_key_once (before_attributes.reads bytes) _ _ after-once
    ∙ sym (whole-parts sent_attributes bytes)

pub ruleset responses_once = (response-once)
