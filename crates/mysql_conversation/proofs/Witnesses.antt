-- A packet of each kind that may come next.
use Rattle.std.proofs.Common.{◌≡◌, ◌<◌, ℕ, List, [], ◌∷◌, Some, None, Ok, refl, ap, ◌∙◌, Bool, true, false}
use Rattle.std.proofs.lemmas.Bool.{ltb-true, and_parts}
use Rattle.std.specs.Prelude.{◌&&◌}
use Rattle.mysql_wire.specs.Form.{bytes, number}
use Rattle.mysql_wire.specs.Int.{raw, raw_int}
use Rattle.mysql_wire.specs.LenEnc.{lenenc}
use Rattle.mysql_replies.specs.ColumnCount.{column_count, says_follow}
use Rattle.mysql_replies.specs.declared.column_count.ColumnCount.{ColumnCount}
use Rattle.mysql_stmt.specs.StmtWithMetadata.{sends_metadata}
use Rattle.mysql_conversation.specs.Agreements.{Agreed, deprecates_eof, asks_factors, reports_progress}
use Rattle.mysql_conversation.specs.Payloads.{first_is, is_report, IsOk, IsCount}
use Rattle.mysql_conversation.specs.Conversation.{ending, format_of}
use Rattle.mysql_conversation.specs.Machine.{take_step, serve, reports, error_step, reply_step, infile_reply_step, definitions_end_step, event_step, line_step, last_step, prepared_step, last_ok, acknowledgement_step, ended, counted, reply_of, line_of, old_end_of, ok_status}
use Rattle.mysql_conversation.specs.PacketKindTag.{name_of}
use Rattle.mysql_conversation.specs.Expected.{sent_names, end_name, row_name, asked_names, served_names, error_names, reported, names, may_receive}
use Rattle.mysql_conversation.proofs.Begun.{no_report}
use Rattle.mysql_conversation.proofs.Classes.{ok_status_of, statement_at_of, old_end_of_is, line_row, line_end, reply_ok, reply_infile, reply_count}
use Rattle.mysql_conversation.proofs.Ends.{short_report, ok_bytes, old_end_bytes, statement_bytes, plain, ok_spelled, old_end_spelled, end_bytes, statement_is}
use Rattle.mysql_conversation.proofs.Named.{All, pick, all_both}
use Rattle.mysql_conversation.proofs.States.{failed_no_report, reports_parts}
use Rattle.mysql_conversation.specs.declared.packet_kind.RowFormat.{RowFormat}
use Rattle.mysql_conversation.specs.declared.packet_kind.RowFormat.TheVariants.{Text, Binary}
use Rattle.mysql_conversation.specs.declared.packet_kind.PacketKind.{PacketKind}
use Rattle.mysql_conversation.specs.declared.packet_kind.PacketKind.TheVariants as kind
use Rattle.mysql_conversation.specs.declared.packet_kind.Side.{Side}
use Rattle.mysql_conversation.specs.declared.packet_kind.Side.TheVariants.{Client, Server}
use Rattle.mysql_conversation.specs.declared.packet_kind_tag.PacketKindTag.{PacketKindTag}
use Rattle.mysql_conversation.specs.declared.packet_kind_tag.PacketKindTag.TheVariants as name
use Rattle.mysql_conversation.specs.declared.state.After.{After}
use Rattle.mysql_conversation.specs.declared.state.After.TheVariants as after
use Rattle.mysql_conversation.specs.declared.state.Line.TheVariants as line
use Rattle.mysql_conversation.specs.declared.state.Reply.TheVariants as reply
use Rattle.mysql_conversation.specs.declared.state.Request.{Request}
use Rattle.mysql_conversation.specs.declared.state.Request.TheVariants.{Query, Execution, Cursor}
use Rattle.mysql_conversation.specs.declared.state.State.{State}
use Rattle.mysql_conversation.specs.declared.state.State.TheVariants as state

-- some packet of this side is of a kind with this name
abbrev pub Comes : Agreed → State → Side → PacketKindTag → Type 0
Comes a s side n = (p : List ℕ) × (k : PacketKind) × (m : State) × (name_of k ≡ n) × (take_step a s side p ≡ Some (k, m))

comes_served : (a : Agreed) (s : State) (n : PacketKindTag) (p : List ℕ) (k : PacketKind) (m : State) → name_of k ≡ n → first_is 0xff p ≡ false → serve a s p ≡ Some (k, m) → Comes a s Server n
comes_served a s n p k m e f h = (p, k, m, e, rw (no_report a p f, f) h)

-- ---- OK packets, rows and ends

is_ok : (a : Agreed) → IsOk a false ok_bytes
is_ok a = (refl, plain, ok_spelled a, refl)

ok_read : (a : Agreed) → ok_status a ok_bytes ≡ Some plain
ok_read a = ok_status_of a plain ok_bytes (ok_spelled a)

ok_reply : (a : Agreed) → reply_of a ok_bytes ≡ Some (reply.Ok false)
ok_reply a = reply_ok a false ok_bytes (is_ok a)

old_end_at : (a : Agreed) → old_end_of a old_end_bytes ≡ Some plain
old_end_at a = old_end_of_is a plain old_end_bytes (refl, old_end_spelled a)

row_bytes : List ℕ
row_bytes = 0 ∷ []

is_row : (a : Agreed) (format : RowFormat) → line_of a format row_bytes ≡ Some line.Row
unfolding row_bytes
is_row a Text = line_row a Text row_bytes refl
is_row a Binary = line_row a Binary row_bytes refl

is_end : (a : Agreed) (format : RowFormat) → line_of a format (end_bytes a (deprecates_eof a)).0 ≡ Some (line.End false)
is_end a format = let e = end_bytes a (deprecates_eof a) in line_end a format false e.0 (e.2, plain, e.3, refl)

end_is : (d : Bool) → name_of (ending d) ≡ end_name d
end_is true = refl
end_is false = refl

row_is : (r : Request) → name_of (kind.Row (format_of r)) ≡ row_name r
row_is Query = refl
row_is Execution = refl
row_is Cursor = refl

-- the end of rows, in a state that reads it so
comes_end : (a : Agreed) (s m : State) → ((p : List ℕ) → line_of a Text p ≡ Some (line.End false) → line_of a Binary p ≡ Some (line.End false) → serve a s p ≡ Some (ending (deprecates_eof a), m)) → Comes a s Server (end_name (deprecates_eof a))
comes_end a s m f =
    let e = end_bytes a (deprecates_eof a) in
    comes_served a s (end_name (deprecates_eof a)) e.0 (ending (deprecates_eof a)) m (end_is (deprecates_eof a)) e.1 (f e.0 (is_end a Text) (is_end a Binary))

-- ---- counts

-- a byte that says whether definitions follow, or no byte
count_of : Bool → ColumnCount
count_of true = record { count = raw_int 1; metadata_follows = Some (raw_int 1) }
count_of false = record { count = raw_int 1; metadata_follows = None }

left_of : Bool → List ℕ
left_of true = []
left_of false = 1 ∷ []

count_bytes : List ℕ
count_bytes = 1 ∷ 1 ∷ []

count_reads : (a : Agreed) (f : Bool) → says_follow a ≡ f → (column_count.form a).reads count_bytes ≡ Ok (count_of f, left_of f)
unfolding count_bytes count_of left_of column_count bytes number raw lenenc
count_reads a true e = rw e refl
count_reads a false e = rw e refl

some_columns : 0 < 1
some_columns = ltb-true 0 1 refl

is_count_by : (a : Agreed) (f : Bool) → says_follow a ≡ f → IsCount a 1 true count_bytes
unfolding count_bytes count_of
is_count_by a true e = (refl, refl, some_columns, count_of true, left_of true, (column_count.form a).found _ count_bytes _ (count_reads a true e), refl, refl)
is_count_by a false e = (refl, refl, some_columns, count_of false, left_of false, (column_count.form a).found _ count_bytes _ (count_reads a false e), refl, refl)

is_count : (a : Agreed) → reply_of a count_bytes ≡ Some (reply.Columns 1 true)
is_count a = reply_count a 1 true count_bytes (is_count_by a (says_follow a) refl)

count_is_no_error : first_is 0xff count_bytes ≡ false
unfolding count_bytes
count_is_no_error = refl

-- ---- of the server

definitions_end : (b : After) → (m : State) × (definitions_end_step b (Some plain) ≡ Some (kind.Eof, m))
definitions_end (after.Rows Query) = (state.Rows Query, refl)
definitions_end (after.Rows Execution) = (state.Rows Execution, refl)
definitions_end (after.Rows Cursor) = (state.Rows Cursor, refl)
definitions_end (after.Columns n) = (_, refl)
definitions_end after.End = (_, refl)
definitions_end after.Rest = (state.Rest, refl)

also : {A B : Type 0} → A → B → A × B
also x y = (x, y)

comes_asked : (a : Agreed) (login b factors : Bool) → asks_factors a ≡ factors → All (Comes a (state.Authentication login b) Server) (asked_names factors)
comes_asked a login b true e =
    also (comes_served a (state.Authentication login b) name.AuthSwitch (0xfe ∷ 0 ∷ []) kind.AuthSwitch (state.Authentication login true) refl refl refl)
    (also (comes_served a (state.Authentication login b) name.OldAuthSwitch (0xfe ∷ []) kind.OldAuthSwitch (state.Authentication login true) refl refl refl)
    (also (comes_served a (state.Authentication login b) name.AuthMoreData (1 ∷ []) kind.AuthMoreData (state.Authentication login true) refl refl refl)
    (also (comes_served a (state.Authentication login b) name.AuthNextFactor (2 ∷ []) kind.AuthNextFactor (state.Authentication login true) refl refl (rw e refl))
    (also (comes_served a (state.Authentication login b) name.AuthPluginData (3 ∷ []) kind.AuthPluginData (state.Authentication login true) refl refl refl) tt))))
comes_asked a login b false e =
    also (comes_served a (state.Authentication login b) name.AuthSwitch (0xfe ∷ 0 ∷ []) kind.AuthSwitch (state.Authentication login true) refl refl refl)
    (also (comes_served a (state.Authentication login b) name.OldAuthSwitch (0xfe ∷ []) kind.OldAuthSwitch (state.Authentication login true) refl refl refl)
    (also (comes_served a (state.Authentication login b) name.AuthMoreData (1 ∷ []) kind.AuthMoreData (state.Authentication login true) refl refl refl)
    (also (comes_served a (state.Authentication login b) name.AuthPluginData (3 ∷ []) kind.AuthPluginData (state.Authentication login true) refl refl refl) tt)))

comes_prepared : (a : Agreed) → Comes a state.Prepared Server name.PrepareOk
comes_prepared a =
    let s = statement_is a (sends_metadata a.mysql) refl in
    comes_served a state.Prepared name.PrepareOk statement_bytes _ _ refl refl (ap (prepared_step (deprecates_eof a)) (statement_at_of a s.0 statement_bytes s.1 s.2))

ok_acknowledges : (a : Agreed) (may_end : Bool) → serve a (state.Acknowledgement may_end) ok_bytes ≡ Some (kind.Ok, state.Rest)
ok_acknowledges a may_end = ap (λ l. acknowledgement_step (deprecates_eof a) may_end l (reply_of a ok_bytes)) (line_row a Text ok_bytes refl) ∙ ap (last_ok state.Rest) (ok_reply a)

each_served : (a : Agreed) (s : State) → All (Comes a s Server) (served_names a s)
unfolding row_bytes
each_served a (state.Authentication login b) =
    also (comes_served a (state.Authentication login b) name.Ok ok_bytes kind.Ok state.Rest refl refl (rw (ok_read a) refl))
    (comes_asked a login b (asks_factors a) refl)
each_served a (state.Reply r) =
    also (comes_served a (state.Reply r) name.Ok ok_bytes kind.Ok (ended r false) refl refl (ap (reply_step (deprecates_eof a) r) (ok_reply a)))
    (also (comes_served a (state.Reply r) name.LocalInfile (0xfb ∷ []) kind.LocalInfile (state.Infile r) refl refl (ap (reply_step (deprecates_eof a) r) (reply_infile a (0xfb ∷ []) refl)))
    (also (comes_served a (state.Reply r) name.ColumnCount count_bytes (kind.ColumnCount 1 true) (counted (deprecates_eof a) 1 true (after.Rows r)) refl count_is_no_error (ap (reply_step (deprecates_eof a) r) (is_count a)))
    tt))
each_served a (state.InfileReply r) = (comes_served a (state.InfileReply r) name.Ok ok_bytes kind.Ok (ended r false) refl refl (ap (infile_reply_step r) (ok_reply a)), tt)
each_served a (state.Definitions n b) = (comes_served a (state.Definitions n b) name.Column [] kind.Column _ refl refl refl, tt)
each_served a (state.DefinitionsEnd b) =
    let m = definitions_end b in
    (comes_served a (state.DefinitionsEnd b) name.Eof old_end_bytes kind.Eof m.0 refl refl (ap (definitions_end_step b) (old_end_at a) ∙ m.1), tt)
each_served a (state.Rows r) =
    also (comes_served a (state.Rows r) (row_name r) row_bytes (kind.Row (format_of r)) (state.Rows r) (row_is r) refl (ap (line_step (deprecates_eof a) r) (is_row a (format_of r))))
    (also (comes_end a (state.Rows r) (ended r false) (λ p t b. ap (line_step (deprecates_eof a) r) (in_format r p t b)))
    tt)
  where
    in_format : (r : Request) (p : List ℕ) → line_of a Text p ≡ Some (line.End false) → line_of a Binary p ≡ Some (line.End false) → line_of a (format_of r) p ≡ Some (line.End false)
    in_format Query p t b = t
    in_format Execution p t b = b
    in_format Cursor p t b = b
each_served a state.Prepared = (comes_prepared a, tt)
each_served a state.Fetch =
    also (comes_served a state.Fetch name.BinaryRow row_bytes (kind.Row Binary) state.Fetch refl refl (ap (last_step (deprecates_eof a) (kind.Row Binary) state.Fetch) (is_row a Binary)))
    (also (comes_end a state.Fetch state.Rest (λ p t b. ap (last_step (deprecates_eof a) (kind.Row Binary) state.Fetch) b))
    tt)
each_served a (state.Acknowledgement true) =
    also (comes_served a (state.Acknowledgement true) name.Ok ok_bytes kind.Ok state.Rest refl refl (ok_acknowledges a true))
    (also (comes_end a (state.Acknowledgement true) state.Rest (λ p t b. ap (λ l. acknowledgement_step (deprecates_eof a) true l (reply_of a p)) t))
    tt)
each_served a (state.Acknowledgement false) = (comes_served a (state.Acknowledgement false) name.Ok ok_bytes kind.Ok state.Rest refl refl (ok_acknowledges a false), tt)
each_served a state.Text = (comes_served a state.Text name.Statistics [] kind.Statistics state.Rest refl refl refl, tt)
each_served a state.Fields =
    also (comes_served a state.Fields name.FieldListColumn row_bytes kind.FieldListColumn state.Fields refl refl (ap (last_step (deprecates_eof a) kind.FieldListColumn state.Fields) (is_row a Text)))
    (also (comes_end a state.Fields state.Rest (λ p t b. ap (last_step (deprecates_eof a) kind.FieldListColumn state.Fields) t))
    tt)
each_served a state.Events =
    also (comes_served a state.Events name.BinlogEvent row_bytes kind.BinlogEvent state.Events refl refl refl)
    (also (comes_served a state.Events name.Eof old_end_bytes kind.Eof state.Rest refl refl (ap (event_step false) (old_end_at a)))
    tt)
each_served a state.CloneReply = (comes_served a state.CloneReply name.Ok ok_bytes kind.Ok state.Clone refl refl (ap (last_ok state.Clone) (ok_reply a)), tt)
each_served a state.Clone = (comes_served a state.Clone name.Clone [] kind.Clone state.Clone refl refl refl, tt)
each_served a _ = tt

comes_error_at : (a : Agreed) (s : State) (n : PacketKindTag) (k : PacketKind) (m : State) → name_of k ≡ n → error_step s ≡ Some (k, m) → Comes a s Server n
comes_error_at a s n k m e h = (0xff ∷ [], k, m, e, rw (short_report a) (failed_no_report s ∙ h))

each_error : (a : Agreed) (s : State) → All (Comes a s Server) (error_names s)
each_error a state.Rest = (comes_error_at a state.Rest name.UnsolicitedError kind.UnsolicitedError state.Over refl refl, tt)
each_error a state.Clone = (comes_error_at a state.Clone name.Clone kind.Clone state.Clone refl refl, tt)
each_error a state.Quit = (comes_error_at a state.Quit name.UnsolicitedError kind.UnsolicitedError state.Over refl refl, tt)
each_error a state.Over = tt
each_error a (state.Authentication true b) = (comes_error_at a (state.Authentication true b) name.Error kind.Error state.Over refl refl, tt)
each_error a (state.Authentication false b) = (comes_error_at a (state.Authentication false b) name.Error kind.Error state.Rest refl refl, tt)
each_error a s = (comes_error_at a s name.Error kind.Error state.Rest refl refl, tt)

comes_report : (a : Agreed) (s : State) → (reports_progress a && reports s) ≡ true → Comes a s Server name.ProgressReport
unfolding is_report
comes_report a s h =
    let b = and_parts (reports_progress a) (reports s) h in
    let r = reports_parts s b.1 in
    (0xff ∷ 0xff ∷ 0xff ∷ [], kind.ProgressReport, s, refl, rw (b.0, r.0, r.1) refl)

with_report : (a : Agreed) (s : State) (b : Bool) → (reports_progress a && reports s) ≡ b → All (Comes a s Server) (reported b (served_names a s))
with_report a s true h = (comes_report a s h, each_served a s)
with_report a s false h = each_served a s

-- ---- of the client

each_sent : (a : Agreed) (s : State) → All (Comes a s Client) (sent_names s)
each_sent a state.Rest = ((0x0e ∷ [], kind.Command 0x0e, state.Acknowledgement false, refl, refl), tt)
each_sent a (state.Authentication login true) = (([], kind.AuthData, state.Authentication login false, refl, refl), tt)
each_sent a (state.Infile r) = ((0 ∷ [], kind.InfileContent, state.Infile r, refl, refl), (([], kind.InfileEnd, state.InfileReply r, refl, refl), tt))
each_sent a state.Events = ((0xef ∷ [], kind.SemiSyncAck, state.Events, refl, refl), tt)
each_sent a state.Clone = (([], kind.Clone, state.Clone, refl, refl), tt)
each_sent a _ = tt

-- ---- of both

each : (a : Agreed) (s : State) (side : Side) → All (Comes a s side) (names a s side)
each a s Client = each_sent a s
each a s Server = all_both (Comes a s Server) (error_names s) _ (each_error a s) (with_report a s (reports_progress a && reports s) refl)

pub what_is_named_comes : (a : Agreed) (s : State) (side : Side) (n : PacketKindTag) → may_receive a s side n ≡ true → Comes a s side n
what_is_named_comes a s side n h = pick (Comes a s side) n (names a s side) (each a s side) h
