-- A packet that was classified by reading it is read again as that kind.
use Rattle.std.specs.Prelude.{◌≡◌, ℕ, List, Bool, true, false, Some, Ok, Err, refl}
use Rattle.mysql_wire.specs.declared.codes.column_type.ColumnType.{ColumnType}
use Rattle.mysql_wire.specs.Flags.{StatusFlags}
use Rattle.mysql_wire.specs.Reading.{Reading}
use Rattle.mysql_auth.specs.Handshake.{HandshakePacket, handshake}
use Rattle.mysql_replies.specs.OkPacket.{packet}
use Rattle.mysql_conversation.specs.Agreements.{Agreed, deprecates_eof}
use Rattle.mysql_conversation.specs.Conversation.{ending}
use Rattle.mysql_conversation.specs.Payloads.{IsOk, IsEnd, IsOldEnd, EndsWith, SpelledWith, terminator_form, old_end_form, IsCount, IsPrepared}
use Rattle.mysql_conversation.specs.SessionSteps.{greeting_in, greeting_at}
use Rattle.mysql_conversation.specs.declared.packet_kind.PacketKind.TheVariants as kind
use Rattle.mysql_observer.specs.Read.{IsRead}
use Rattle.mysql_observer.specs.declared.read_context.ReadContext.{ReadContext}
use Rattle.mysql_observer.specs.declared.server.ServerPacket.TheVariants as variant

module _ {C : Type 0} (type_of : C → ColumnType) (unsigned : C → Bool) where
  pub ok_is_read : (c : ReadContext C) (a : Agreed) (more : Bool) (p : List ℕ) → c.agreed ≡ Some a → IsOk a more p → IsRead type_of unsigned c kind.Ok p
  ok_is_read c a more p e h = rw e (variant.Ok (packet h.2.0), h.2.1, (packet h.2.0, refl, (h.2.0, refl, h.2.2)))

  terminator_is_read : (c : ReadContext C) (a : Agreed) (status : StatusFlags) (p : List ℕ) → c.agreed ≡ Some a → SpelledWith (terminator_form a) status p → IsRead type_of unsigned c kind.OkTerminator p
  terminator_is_read c a status p e h = rw e (variant.OkTerminator (packet h.0), h.1, (packet h.0, refl, (h.0, refl, h.2)))

  old_end_is_read : (c : ReadContext C) (a : Agreed) (status : StatusFlags) (p : List ℕ) → SpelledWith (old_end_form a) status p → IsRead type_of unsigned c kind.Eof p
  old_end_is_read c a status p h = (variant.Eof (packet h.0), h.1, (packet h.0, refl, (h.0, refl, h.2)))

  end_as : (c : ReadContext C) (a : Agreed) (deprecates : Bool) (status : StatusFlags) (p : List ℕ) → c.agreed ≡ Some a → EndsWith a deprecates status p → IsRead type_of unsigned c (ending deprecates) p
  end_as c a true status p e h = terminator_is_read c a status p e h
  end_as c a false status p e h = old_end_is_read c a status p h

  pub end_is_read : (c : ReadContext C) (a : Agreed) (more : Bool) (p : List ℕ) → c.agreed ≡ Some a → IsEnd a more p → IsRead type_of unsigned c (ending (deprecates_eof a)) p
  end_is_read c a more p e h = end_as c a (deprecates_eof a) h.1 p e h.2

  pub definitions_end_is_read : (c : ReadContext C) (a : Agreed) (status : StatusFlags) (p : List ℕ) → c.agreed ≡ Some a → IsOldEnd a status p → IsRead type_of unsigned c kind.Eof p
  definitions_end_is_read c a status p e h = old_end_is_read c a status p h.1

  pub count_is_read : (c : ReadContext C) (a : Agreed) (n : ℕ) (follow : Bool) (p : List ℕ) → c.agreed ≡ Some a → IsCount a n follow p → IsRead type_of unsigned c (kind.ColumnCount n follow) p
  count_is_read c a n follow p e h = rw e (variant.ColumnCount h.3, h.4, (h.3, refl, h.5))

  pub prepared_is_read : (c : ReadContext C) (a : Agreed) (columns params : ℕ) (follow : Bool) (p : List ℕ) → c.agreed ≡ Some a → IsPrepared a columns params follow p → IsRead type_of unsigned c (kind.PrepareOk columns params follow) p
  prepared_is_read c a columns params follow p e h = rw e (variant.PrepareOk h.0, h.1, (h.0, refl, h.2))

  greeting_as : (c : ReadContext C) (server : Agreed) (p : List ℕ) (r : Reading HandshakePacket) → (handshake.form tt).reads p ≡ r → greeting_in r ≡ Some server → IsRead type_of unsigned c kind.Handshake p
  greeting_as c server p (Ok x) e h = (variant.Handshake x.0, x.1, (x.0, refl, (handshake.form tt).found x.0 p x.1 e))
  greeting_as c server p (Err d) e h = absurd cc

  pub greeting_is_read : (c : ReadContext C) (server : Agreed) (p : List ℕ) → greeting_at p ≡ Some server → IsRead type_of unsigned c kind.Handshake p
  unfolding greeting_at
  greeting_is_read c server p h = greeting_as c server p ((handshake.form tt).reads p) refl h
