-- A packet that continues each part of an answer.
use Rattle.std.proofs.Common.{◌≡◌, ℕ, zero, suc, List, [], ◌∷◌, inl, inr, Some, None, Ok, refl, Bool, true, false}
use Rattle.std.specs.Prelude.{◌&&◌}
use Rattle.mysql_wire.specs.Flags.{StatusFlags}
use Rattle.mysql_wire.specs.Form.{bytes, number}
use Rattle.mysql_wire.specs.Int.{raw, raw_int}
use Rattle.mysql_wire.specs.Constant.{const_byte}
use Rattle.mysql_wire.specs.ConstantValue.{coded}
use Rattle.mysql_wire.specs.LenEnc.{lenenc, lenenc_string}
use Rattle.mysql_wire.specs.Skip.{skip}
use Rattle.mysql_replies.specs.OkPacket.{ok_packet, ok_header, deserialized}
use Rattle.mysql_replies.specs.OkKind.{ok_end, ok_tail, body_of}
use Rattle.mysql_stmt.specs.Stmt.{stmt, stmt_packet_of}
use Rattle.mysql_stmt.specs.StmtWithMetadata.{stmt_with_metadata, sends_metadata}
use Rattle.mysql_stmt.specs.declared.stmt_with_metadata.StmtPacketWithMetadata.{StmtPacketWithMetadata}
use Rattle.mysql_conversation.specs.Parts.{◌or◌, times}
use Rattle.mysql_conversation.specs.Payloads.{ok_form, old_end_form, terminator_form, SpelledWith, EndsWith, looks_like_end, first_is, is_report, IsOk, IsEnd, IsPrepared}
use Rattle.mysql_conversation.specs.Agreements.{Agreed, deprecates_eof, reports_progress}
use Rattle.mysql_conversation.specs.Conversation as c
use Rattle.mysql_conversation.specs.Conversation.{Packet, served, ending, format_of, inside, authentication_kind}
use Rattle.mysql_conversation.specs.Machine.{rests}
use Rattle.mysql_conversation.specs.Taken.{packet}
use Rattle.mysql_conversation.proofs.Tails.{tail_of, following, following_all, serving, sending, round, last_result, many_none}
use Rattle.mysql_conversation.proofs.Backwards.{unanswered}
use Rattle.mysql_conversation.specs.declared.state.After.{After}
use Rattle.mysql_conversation.specs.declared.state.After.TheVariants as after
use Rattle.mysql_conversation.specs.declared.state.Request.{Request}
use Rattle.mysql_conversation.specs.declared.state.Request.TheVariants.{Query, Execution, Cursor}
use Rattle.mysql_conversation.specs.declared.packet_kind.RowFormat.TheVariants.{Binary}
use Rattle.mysql_conversation.specs.declared.packet_kind.PacketKind.TheVariants as kind
use Rattle.mysql_conversation.specs.declared.packet_kind.Side.TheVariants.{Client, Server}
use Rattle.mysql_conversation.specs.declared.state.State.{State}
use Rattle.mysql_conversation.specs.declared.state.State.TheVariants as state

pub tracks_nothing : (b : Bool) → (b && false) ≡ false
tracks_nothing true = refl
tracks_nothing false = refl

-- a single byte is no progress report
pub short_report : (a : Agreed) → is_report a (0xff ∷ []) ≡ false
unfolding is_report
short_report a = tracks_nothing (reports_progress a)

abbrev pub ok_bytes : List ℕ
ok_bytes = 0 ∷ 0 ∷ 0 ∷ 0 ∷ 0 ∷ 0 ∷ 0 ∷ []

abbrev pub old_end_bytes : List ℕ
old_end_bytes = 0xfe ∷ 0 ∷ 0 ∷ 0 ∷ 0 ∷ []

abbrev terminator_bytes : List ℕ
terminator_bytes = 0xfe ∷ 0 ∷ 0 ∷ 0 ∷ 0 ∷ 0 ∷ 0 ∷ []

abbrev pub statement_bytes : List ℕ
statement_bytes = 0 ∷ 0 ∷ 0 ∷ 0 ∷ 0 ∷ 0 ∷ 0 ∷ 0 ∷ 0 ∷ 0 ∷ 0 ∷ 0 ∷ 1 ∷ []

abbrev pub plain : StatusFlags
plain = record { 0 = 0; 1 = record {} }

old_end_reads : (a : Agreed) → (old_end_form a).reads old_end_bytes ≡ Ok (deserialized (body_of 0 0 plain 0 [] []), [])
unfolding ok_packet ok_header bytes number raw coded
old_end_reads a = refl

ok_reads : (a : Agreed) → (ok_form a).reads ok_bytes ≡ Ok (deserialized (body_of 0 0 plain 0 [] []), [])
unfolding ok_packet ok_header ok_end ok_tail bytes number raw coded lenenc lenenc_string
ok_reads a = rw tracks_nothing refl

terminator_reads : (a : Agreed) → (terminator_form a).reads terminator_bytes ≡ Ok (deserialized (body_of 0 0 plain 0 [] []), [])
unfolding ok_packet ok_header ok_end ok_tail bytes number raw coded lenenc lenenc_string
terminator_reads a = rw tracks_nothing refl

-- a statement without columns and parameters, and the byte under the flag
abbrev statement : Bool → StmtPacketWithMetadata
statement true = record { packet = stmt_packet_of 0 0 0 0; metadata = Some (raw_int 1) }
statement false = record { packet = stmt_packet_of 0 0 0 0; metadata = None }

abbrev left : Bool → List ℕ
left true = []
left false = 1 ∷ []

statement_reads : (a : Agreed) (b : Bool) → sends_metadata a.mysql ≡ b → (stmt_with_metadata.form a.mysql).reads statement_bytes ≡ Ok (statement b, left b)
unfolding stmt_with_metadata stmt bytes number raw const_byte skip
statement_reads a true e = rw e refl
statement_reads a false e = rw e refl

pub statement_is : (a : Agreed) (b : Bool) → sends_metadata a.mysql ≡ b → IsPrepared a 0 0 true statement_bytes
statement_is a true e = (statement true, left true, (stmt_with_metadata.form a.mysql).found (statement true) statement_bytes (left true) (statement_reads a true e), refl, refl, refl)
statement_is a false e = (statement false, left false, (stmt_with_metadata.form a.mysql).found (statement false) statement_bytes (left false) (statement_reads a false e), refl, refl, refl)

-- an OK packet, an old end, and the end of rows
pub ok_spelled : (a : Agreed) → SpelledWith (ok_form a) plain ok_bytes
ok_spelled a = (deserialized (body_of 0 0 plain 0 [] []), [], (ok_form a).found _ ok_bytes [] (ok_reads a), refl)

pub old_end_spelled : (a : Agreed) → SpelledWith (old_end_form a) plain old_end_bytes
old_end_spelled a = (deserialized (body_of 0 0 plain 0 [] []), [], (old_end_form a).found _ old_end_bytes [] (old_end_reads a), refl)

pub end_bytes : (a : Agreed) (d : Bool) → (p : List ℕ) × (first_is 0xff p ≡ false) × (looks_like_end d p ≡ true) × EndsWith a d plain p
end_bytes a true = (terminator_bytes, refl, refl, (deserialized (body_of 0 0 plain 0 [] []), [], (terminator_form a).found _ terminator_bytes [] (terminator_reads a), refl))
end_bytes a false = (old_end_bytes, refl, refl, old_end_spelled a)

ok_then : (a : Agreed) (rest : List Packet) → c.ok a false (packet Server ok_bytes kind.Ok ∷ rest) rest
ok_then a rest = serving kind.Ok (IsOk a false) ok_bytes rest rest refl refl (refl, plain, ok_spelled a, refl)

-- a packet inside an exchange
abbrev pub Inside : Packet → Type 0
Inside x = c.IsInside x

ending_inside : (d : Bool) → inside (ending d) ≡ true
ending_inside true = refl
ending_inside false = refl

end_then : (a : Agreed) (rest : List Packet) → (x : Packet) × Inside x × c.end a false (x ∷ rest) rest
end_then a rest =
    let e = end_bytes a (deprecates_eof a) in
    (packet Server e.0 (ending (deprecates_eof a)), ending_inside (deprecates_eof a), serving (ending (deprecates_eof a)) (IsEnd a false) e.0 rest rest refl e.1 (e.2, plain, e.3, refl))

-- ---- definitions

defs : ℕ → List Packet → List Packet
defs zero rest = rest
defs (suc n) rest = packet Server [] kind.Column ∷ defs n rest

defs_are : (n : ℕ) (rest : List Packet) → times n c.definition (defs n rest) rest
unfolding defs
defs_are zero rest = refl
defs_are (suc n) rest = (defs n rest, serving kind.Column _ [] (defs n rest) (defs n rest) refl refl tt, defs_are n rest)

definitions_ended : (a : Agreed) (d : Bool) (rest : List Packet) → (items : List Packet) × c.definitions_end a d items rest
definitions_ended a true rest = (rest, refl)
definitions_ended a false rest = (packet Server old_end_bytes kind.Eof ∷ rest, serving kind.Eof _ old_end_bytes rest rest refl refl (plain, (refl, old_end_spelled a)))

columns_ended : (a : Agreed) (r : Request) (d : Bool) (rest : List Packet) → (items : List Packet) × c.columns_end a r d items rest
columns_ended a Query d rest = definitions_ended a d rest
columns_ended a Execution d rest = definitions_ended a d rest
columns_ended a Cursor true rest = (rest, refl)
columns_ended a Cursor false rest = (packet Server old_end_bytes kind.Eof ∷ rest, serving kind.Eof _ old_end_bytes rest rest refl refl (plain, (refl, old_end_spelled a), refl))

all_definitions : (a : Agreed) (n : ℕ) → (items : List Packet) × c.definitions a true n items []
all_definitions a zero = ([], ([], refl, refl))
all_definitions a (suc n) =
    let e = definitions_ended a (deprecates_eof a) [] in
    (defs (suc n) e.0, (e.0, defs_are (suc n) e.0, e.1))

rows_end : (a : Agreed) (r : Request) → (x : Packet) × Inside x × following a (after.Rows r) (x ∷ []) []
rows_end a r = let e = end_then a [] in (e.0, e.1, (_, many_none (c.row a (format_of r)) _, inr e.2))

all_following : (a : Agreed) (d : Bool) (b : After) → (items : List Packet) × following_all a d b items []
all_following a d (after.Rows r) =
    let e = rows_end a r in
    let x = columns_ended a r d (e.0 ∷ []) in
    (x.0, inl (e.0 ∷ [], x.1, e.2))
all_following a d (after.Columns n) =
    let e = all_definitions a n in
    let x = definitions_ended a d e.0 in
    (x.0, (e.0, x.1, e.1))
all_following a d after.End =
    let e = definitions_ended a false [] in
    let x = definitions_ended a d e.0 in
    (x.0, (e.0, x.1, e.1))
all_following a d after.Rest = definitions_ended a d []

-- some packet leads to the end of an answer
abbrev pub ToCome : Agreed → State → Type 0
ToCome a s = (x : Packet) × (more : List Packet) × Inside x × tail_of a s (x ∷ more) []

old_end : Packet
old_end = packet Server old_end_bytes kind.Eof

old_end_comes : (a : Agreed) (b : After) → ToCome a (state.DefinitionsEnd b)
unfolding old_end
old_end_comes a (after.Rows Query) =
    let e = rows_end a Query in
    (old_end, e.0 ∷ [], refl, inl (e.0 ∷ [], serving kind.Eof _ old_end_bytes (e.0 ∷ []) (e.0 ∷ []) refl refl (plain, (refl, old_end_spelled a)), e.2))
old_end_comes a (after.Rows Execution) =
    let e = rows_end a Execution in
    (old_end, e.0 ∷ [], refl, inl (e.0 ∷ [], serving kind.Eof _ old_end_bytes (e.0 ∷ []) (e.0 ∷ []) refl refl (plain, (refl, old_end_spelled a)), e.2))
old_end_comes a (after.Rows Cursor) =
    let e = rows_end a Cursor in
    (old_end, e.0 ∷ [], refl, inl (e.0 ∷ [], serving kind.Eof _ old_end_bytes (e.0 ∷ []) (e.0 ∷ []) refl refl (plain, (refl, old_end_spelled a), refl), e.2))
old_end_comes a (after.Columns n) =
    let e = all_definitions a n in
    (old_end, e.0, refl, (e.0, serving kind.Eof _ old_end_bytes e.0 e.0 refl refl (plain, (refl, old_end_spelled a)), e.1))
old_end_comes a after.End =
    let e = definitions_ended a false [] in
    (old_end, e.0, refl, (e.0, serving kind.Eof _ old_end_bytes e.0 e.0 refl refl (plain, (refl, old_end_spelled a)), e.1))
old_end_comes a after.Rest =
    (old_end, [], refl, serving kind.Eof _ old_end_bytes [] [] refl refl (plain, (refl, old_end_spelled a)))

authentication_comes : (a : Agreed) → c.authentication a (packet Server ok_bytes kind.Ok ∷ []) []
authentication_comes a = (_, many_none (round a) _, ok_then a [])

-- some packet leads to the end of a running exchange
pub to_come : (a : Agreed) (s : State) → rests s ≡ false → ToCome a s
to_come a (state.Authentication login b) h = (packet Server ok_bytes kind.Ok, [], refl, unanswered a b _ [] (authentication_comes a))
to_come a (state.Infile r) h = (
  packet Client [] kind.InfileEnd,
  packet Server ok_bytes kind.Ok ∷ [],
  refl,
  (_, many_none c.infile_content _, (packet Server ok_bytes kind.Ok ∷ [], sending kind.InfileEnd (λ p. p ≡ []) [] _ _ refl refl, inr (ok_then a []))),
)
to_come a (state.Reply r) h = (packet Server ok_bytes kind.Ok, [], refl, last_result a r _ [] (inl (ok_then a [])))
to_come a (state.InfileReply r) h = (packet Server ok_bytes kind.Ok, [], refl, inr (ok_then a []))
to_come a (state.Definitions n b) h =
    let e = all_following a (deprecates_eof a) b in
    (packet Server [] kind.Column, defs n e.0, refl, (e.0, (defs n e.0, serving kind.Column _ [] (defs n e.0) (defs n e.0) refl refl tt, defs_are n e.0), e.1))
to_come a (state.DefinitionsEnd b) h = old_end_comes a b
to_come a (state.Rows r) h = let e = rows_end a r in (e.0, [], e.1, e.2)
to_come a state.Prepared h = (
  packet Server statement_bytes (kind.PrepareOk 0 0 true),
  [],
  refl,
  (0, (0, inl ([], serving (kind.PrepareOk 0 0 true) (IsPrepared a 0 0 true) statement_bytes [] [] refl refl (statement_is a (sends_metadata a.mysql) refl), ([], ([], refl, refl), ([], refl, refl))))),
)
to_come a state.Fetch h = let e = end_then a [] in (e.0, [], e.1, (_, many_none (c.row a Binary) _, inr e.2))
to_come a (state.Acknowledgement true) h = (packet Server ok_bytes kind.Ok, [], refl, inl (ok_then a []))
to_come a (state.Acknowledgement false) h = (packet Server ok_bytes kind.Ok, [], refl, ok_then a [])
to_come a state.Text h = (packet Server [] kind.Statistics, [], refl, serving kind.Statistics _ [] [] [] refl refl tt)
to_come a state.Fields h = let e = end_then a [] in (e.0, [], e.1, (_, many_none (c.field a) _, inr e.2))
to_come a state.Events h = let e = old_end_comes a after.Rest in (e.0, e.1, e.2, (_, many_none (c.event or c.ack) _, e.3))
to_come a state.SessionError h = (packet Server (0xff ∷ []) kind.Error, [], refl, (packet Server (0xff ∷ []) kind.Error, (refl, refl, (refl, short_report a)), refl))
to_come a state.CloneReply h = (packet Server (0xff ∷ []) kind.Error, [], refl, inr (packet Server (0xff ∷ []) kind.Error, (refl, refl, (refl, short_report a)), refl))
to_come a _ h = absurd cc
