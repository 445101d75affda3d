-- What a payload says by itself.
use Rattle.std.specs.Prelude.{◌≡◌, ℕ, zero, suc, ◌<◌, List, [], ◌∷◌, length, Bool, true, false, Option, Some, None, ◌==◌, nat_lt, not, bit_and, ◌&&◌, if◌then◌else◌}
use Rattle.mysql_wire.specs.FlagMasks.{SERVER_MORE_RESULTS_EXISTS, SERVER_STATUS_CURSOR_EXISTS}
use Rattle.mysql_wire.specs.Flags.{StatusFlags, has}
use Rattle.mysql_wire.specs.Form.{Form}
use Rattle.mysql_replies.specs.ColumnCount.{column_count, count, metadata_follows}
use Rattle.mysql_replies.specs.OkKind.{common_ok_body, terminator_body, old_eof_body}
use Rattle.mysql_replies.specs.OkPacket.{ok_packet, status_flags}
use Rattle.mysql_replies.specs.declared.column_count.ColumnCount.{ColumnCount}
use Rattle.mysql_replies.specs.declared.ok_packet.OkPacketDeserializer.{OkPacketDeserializer}
use Rattle.mysql_replies.specs.declared.ok_kind.CommonOkPacket.{CommonOkPacket}
use Rattle.mysql_replies.specs.declared.ok_kind.ResultSetTerminator.{ResultSetTerminator}
use Rattle.mysql_replies.specs.declared.ok_kind.OldEofPacket.{OldEofPacket}
use Rattle.mysql_stmt.specs.Stmt.{num_columns, num_params}
use Rattle.mysql_stmt.specs.StmtWithMetadata.{stmt_with_metadata, packet_of, metadata_of}
use Rattle.mysql_stmt.specs.declared.stmt_with_metadata.StmtPacketWithMetadata.{StmtPacketWithMetadata}
use Rattle.mysql_conversation.specs.Agreements.{Agreed, deprecates_eof, reports_progress}
use Rattle.mysql_conversation.specs.declared.packet_kind.RowFormat.{RowFormat}
use Rattle.mysql_conversation.specs.declared.packet_kind.RowFormat.TheVariants.{Text, Binary}

-- more results follow
abbrev pub has_more : StatusFlags → Bool
has_more status = has status.0 SERVER_MORE_RESULTS_EXISTS

-- A cursor is open, if no more results follow: the results of a procedure have their rows in any case.
abbrev pub opens_cursor : StatusFlags → Bool
opens_cursor status = has status.0 SERVER_STATUS_CURSOR_EXISTS && not (has_more status)

abbrev pub first_is : ℕ → List ℕ → Bool
first_is b [] = false
first_is b (x ∷ xs) = x == b

-- ---- OK packets and ends, by the forms of these packets

abbrev pub ok_form : Agreed → Form (OkPacketDeserializer CommonOkPacket)
ok_form a = ok_packet 0 (common_ok_body a.mysql)

abbrev pub terminator_form : Agreed → Form (OkPacketDeserializer ResultSetTerminator)
terminator_form a = ok_packet 0xfe (terminator_body a.mysql)

abbrev pub old_end_form : Agreed → Form (OkPacketDeserializer OldEofPacket)
old_end_form a = ok_packet 0xfe (old_eof_body a.mysql)

-- the payload is such a packet, with this status; bytes may follow it
abbrev pub SpelledWith : {T : Type 0} → Form (OkPacketDeserializer T) → StatusFlags → List ℕ → Type 0
SpelledWith {T} form status p = (ok : OkPacketDeserializer T) × (rest : List ℕ) × form.Spells ok p rest × (status_flags ok.0 ≡ status)

-- the payload is an OK packet, whose status says whether more results follow
abbrev pub IsOk : Agreed → Bool → List ℕ → Type 0
IsOk a more p = (first_is 0 p ≡ true) × (status : StatusFlags) × SpelledWith (ok_form a) status p × (has_more status ≡ more)

-- fe, and fewer bytes than a row that begins with fe
abbrev pub end_below : Bool → ℕ
end_below true = 0xffffff
end_below false = 9

abbrev pub looks_like_end : Bool → List ℕ → Bool
looks_like_end deprecates p = if first_is 0xfe p then nat_lt (length p) (end_below deprecates) else false

-- the end of rows, with this status
abbrev pub EndsWith : Agreed → Bool → StatusFlags → List ℕ → Type 0
EndsWith a true status p = SpelledWith (terminator_form a) status p
EndsWith a false status p = SpelledWith (old_end_form a) status p

abbrev pub IsEnd : Agreed → Bool → List ℕ → Type 0
IsEnd a more p =
    (looks_like_end (deprecates_eof a) p ≡ true)
    × (status : StatusFlags) × EndsWith a (deprecates_eof a) status p × (has_more status ≡ more)

-- the EOF packet after definitions
abbrev pub IsOldEnd : Agreed → StatusFlags → List ℕ → Type 0
IsOldEnd a status p = (looks_like_end false p ≡ true) × SpelledWith (old_end_form a) status p

-- ---- other packets

abbrev pub IsInfileRequest : List ℕ → Type 0
IsInfileRequest p = first_is 0xfb p ≡ true

-- a column count of at least 1, and whether the definitions follow
abbrev pub IsCount : Agreed → ℕ → Bool → List ℕ → Type 0
IsCount a n follow p =
    (first_is 0 p ≡ false) × (first_is 0xfb p ≡ false) × (0 < n)
    × (c : ColumnCount) × (rest : List ℕ) × (column_count.form a).Spells c p rest × (count c ≡ n) × (metadata_follows c ≡ follow)

-- the first byte says that a packet among rows of this form is a row
abbrev pub begins_row : RowFormat → List ℕ → Bool
begins_row form [] = false
begins_row Text (first ∷ rest) = nat_lt first 0xfe
begins_row Binary (first ∷ rest) = first == 0

-- a text row doesn't begin as an end does, and a binary row begins with 00
abbrev pub IsRow : Agreed → RowFormat → List ℕ → Type 0
IsRow a Text p = looks_like_end (deprecates_eof a) p ≡ false
IsRow a Binary p = first_is 0 p ≡ true

-- the definitions of a prepared statement follow unless a byte says otherwise
abbrev pub follow : Option ℕ → Bool
follow None = true
follow (Some byte) = not (byte == 0)

abbrev pub definitions_follow : StmtPacketWithMetadata → Bool
definitions_follow s = follow (metadata_of s)

abbrev pub IsPrepared : Agreed → ℕ → ℕ → Bool → List ℕ → Type 0
IsPrepared a columns params follows p =
    (s : StmtPacketWithMetadata) × (rest : List ℕ) × (stmt_with_metadata.form a.mysql).Spells s p rest
    × (num_columns (packet_of s) ≡ columns) × (num_params (packet_of s) ≡ params) × (definitions_follow s ≡ follows)

-- ff and the code ffff, if progress reports are agreed on
abbrev pub begins_with_ff : ℕ → List ℕ → Bool
begins_with_ff zero p = true
begins_with_ff (suc n) [] = false
begins_with_ff (suc n) (b ∷ p) = b == 0xff && begins_with_ff n p

unfoldable pub is_report : Agreed → List ℕ → Bool
is_report a p = reports_progress a && begins_with_ff 3 p

abbrev pub IsError : Agreed → List ℕ → Type 0
IsError a p = (first_is 0xff p ≡ true) × (is_report a p ≡ false)

-- exactly one byte
abbrev pub is_one_byte : List ℕ → Bool
is_one_byte [] = false
is_one_byte (b ∷ []) = true
is_one_byte (b ∷ c ∷ p) = false

-- an execution requests a cursor: one of the three low bits of the flags, the sixth byte
abbrev pub asks_cursor : List ℕ → Bool
asks_cursor (code ∷ a ∷ b ∷ c ∷ d ∷ flags ∷ p) = not (bit_and flags 7 == 0)
asks_cursor _ = false
