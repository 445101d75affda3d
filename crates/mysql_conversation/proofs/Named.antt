-- Which kinds may come next: a kind may come exactly if its name is listed.
use Rattle.std.proofs.Common.{◌≡◌, ℕ, zero, suc, List, [], ◌∷◌, ◌++◌, inl, inr, Option, Some, None, refl, sym, ap, subst, ◌∙◌, Bool, true, false, cond}
use Rattle.std.proofs.lemmas.Bool.{eqb-true, and_parts, or_cases, or_right}
use Rattle.std.specs.Prelude.{◌==◌, ◌||◌, ◌&&◌}
use Rattle.mysql_wire.specs.Flags.{StatusFlags}
use Rattle.mysql_stmt.specs.declared.stmt_with_metadata.StmtPacketWithMetadata.{StmtPacketWithMetadata}
use Rattle.mysql_conversation.proofs.States.{by_cond, by_kind, kind_by, failed_clone, failed_no_report}
use Rattle.mysql_conversation.specs.Agreements.{Agreed, deprecates_eof, asks_factors, reports_progress}
use Rattle.mysql_conversation.specs.Payloads.{first_is, is_report, begins_with_ff, is_one_byte, asks_cursor, opens_cursor, has_more}
use Rattle.mysql_conversation.specs.Conversation.{code_of, answering, ending, format_of}
use Rattle.mysql_conversation.specs.Machine.{step, take_step, client_step, serve, reports, error_step, failed, begun, command_step, infile_step, logged_in, authentication_step, reply_step, infile_reply_step, columns_step, definitions_end_step, event_step, line_step, last_step, prepared_step, last_ok, last_end, acknowledgement_step, reply_of, line_of, old_end_of, statement_at, ok_status}
use Rattle.mysql_conversation.specs.PacketKindTag.{name_of, index, is_in}
use Rattle.mysql_conversation.specs.Expected.{sent_names, end_name, row_name, asked_names, served_names, error_names, reported, names, may_receive}
use Rattle.mysql_conversation.proofs.Classes.{chosen, some_is}
use Rattle.mysql_conversation.specs.declared.packet_kind.RowFormat.TheVariants.{Text, Binary}
use Rattle.mysql_conversation.specs.declared.packet_kind.PacketKind.{PacketKind}
use Rattle.mysql_conversation.specs.declared.packet_kind.PacketKind.TheVariants as kind
use Rattle.mysql_conversation.specs.declared.packet_kind.Side.{Side}
use Rattle.mysql_conversation.specs.declared.packet_kind.Side.TheVariants.{Client, Server}
use Rattle.mysql_conversation.specs.declared.packet_kind_tag.PacketKindTag.{PacketKindTag}
use Rattle.mysql_conversation.specs.declared.packet_kind_tag.PacketKindTag.TheVariants as name
use Rattle.mysql_conversation.specs.declared.state.After.{After}
use Rattle.mysql_conversation.specs.declared.state.After.TheVariants as after
use Rattle.mysql_conversation.specs.declared.state.Answer.{Answer}
use Rattle.mysql_conversation.specs.declared.state.Line.{Line}
use Rattle.mysql_conversation.specs.declared.state.Line.TheVariants as line
use Rattle.mysql_conversation.specs.declared.state.Reply.{Reply}
use Rattle.mysql_conversation.specs.declared.state.Reply.TheVariants as reply
use Rattle.mysql_conversation.specs.declared.state.Request.{Request}
use Rattle.mysql_conversation.specs.declared.state.Request.TheVariants.{Query, Execution, Cursor}
use Rattle.mysql_conversation.specs.declared.state.State.{State}
use Rattle.mysql_conversation.specs.declared.state.State.TheVariants as state

-- ---- lists of names

pub reported_is : (n : PacketKindTag) (b : Bool) (xs : List PacketKindTag) → is_in n (reported b xs) ≡ ((b && index n == 13) || is_in n xs)
reported_is n true xs = refl
reported_is n false xs = refl

or_both : (x y z : Bool) → (x || (y || z)) ≡ ((x || y) || z)
or_both true y z = refl
or_both false y z = refl

pub both_in : (n : PacketKindTag) (xs ys : List PacketKindTag) → is_in n (xs ++ ys) ≡ (is_in n xs || is_in n ys)
both_in n [] ys = refl
both_in n (x ∷ xs) ys = ap (λ b. index n == index x || b) (both_in n xs ys) ∙ or_both (index n == index x) (is_in n xs) (is_in n ys)

-- ---- a name is known by its number

all_names : List PacketKindTag
all_names = name.Handshake ∷ name.SslRequest ∷ name.Login ∷ name.AuthSwitch ∷ name.OldAuthSwitch ∷ name.AuthMoreData ∷ name.AuthNextFactor ∷ name.AuthPluginData ∷ name.AuthData ∷ name.Command ∷ name.Ok ∷ name.Error ∷ name.UnsolicitedError ∷ name.ProgressReport ∷ name.LocalInfile ∷ name.InfileContent ∷ name.InfileEnd ∷ name.ColumnCount ∷ name.Column ∷ name.FieldListColumn ∷ name.Eof ∷ name.OkTerminator ∷ name.TextRow ∷ name.BinaryRow ∷ name.PrepareOk ∷ name.Statistics ∷ name.BinlogEvent ∷ name.SemiSyncAck ∷ name.Clone ∷ []

at : List PacketKindTag → ℕ → Option PacketKindTag
at [] n = None
at (x ∷ xs) zero = Some x
at (x ∷ xs) (suc n) = at xs n

known : (n : PacketKindTag) → at all_names (index n) ≡ Some n
unfolding all_names at
known name.Handshake = refl
known _ = refl

pub same : (n x : PacketKindTag) → index n ≡ index x → n ≡ x
same n x e = some_is (sym (known n) ∙ ap (at all_names) e ∙ known x)

-- a property of each name in a list
module _ (P : PacketKindTag → Type 0) where
  abbrev pub All : List PacketKindTag → Type 0
  All [] = Unit {0}
  All (x ∷ xs) = P x × All xs

  pub all_both : (xs ys : List PacketKindTag) → All xs → All ys → All (xs ++ ys)
  all_both [] ys f g = g
  all_both (x ∷ xs) ys f g = (f.0, all_both xs ys f.1 g)

  pub pick : (n : PacketKindTag) (xs : List PacketKindTag) → All xs → is_in n xs ≡ true → P n
  pick n [] h e = absurd cc
  pick n (x ∷ xs) h e = elim (or_cases (index n == index x) (is_in n xs) e) [
    | inl i ↦ subst P (sym (same n x (eqb-true (index n) (index x) i))) h.0
    | inr i ↦ pick n xs h.1 i
  ]

-- ---- each packet that comes is named

abbrev Named : List PacketKindTag → Option (PacketKind × State) → Type 0
Named xs None = Unit {0}
Named xs (Some x) = is_in (name_of x.0) xs ≡ true

named_more : (n : PacketKindTag) (xs : List PacketKindTag) (o : Option (PacketKind × State)) → Named xs o → Named (n ∷ xs) o
named_more n xs None h = tt
named_more n xs (Some x) h = or_right (index (name_of x.0) == index n) (is_in (name_of x.0) xs) h

named_after : (xs ys : List PacketKindTag) (o : Option (PacketKind × State)) → Named ys o → Named (xs ++ ys) o
named_after [] ys o h = h
named_after (x ∷ xs) ys o h = named_more x (xs ++ ys) o (named_after xs ys o h)

named_reported : (b : Bool) (xs : List PacketKindTag) (o : Option (PacketKind × State)) → Named xs o → Named (reported b xs) o
named_reported true xs o h = named_more name.ProgressReport xs o h
named_reported false xs o h = h

end_named : (x : PacketKindTag) (d : Bool) → is_in (name_of (ending d)) (x ∷ end_name d ∷ []) ≡ true
end_named x true = or_right (index name.OkTerminator == index x) true refl
end_named x false = or_right (index name.Eof == index x) true refl

row_named : (r : Request) (xs : List PacketKindTag) → is_in (name_of (kind.Row (format_of r))) (row_name r ∷ xs) ≡ true
row_named Query xs = refl
row_named Execution xs = refl
row_named Cursor xs = refl

asked_named : (factors : Bool) (p : List ℕ) → is_in (name_of (kind_by factors p)) (name.Ok ∷ asked_names factors) ≡ true
asked_named true p = by_kind (λ k. is_in (name_of k) (name.Ok ∷ asked_names true) ≡ true) true p refl refl refl (λ e. refl) refl
asked_named false p = by_kind (λ k. is_in (name_of k) (name.Ok ∷ asked_names false) ≡ true) false p refl refl refl (λ e. absurd cc) refl

named_status : (xs : List PacketKindTag) (status : Option StatusFlags) → Named (name.Ok ∷ xs) (logged_in status)
named_status xs None = tt
named_status xs (Some status) = by_cond (Named (name.Ok ∷ xs)) (has_more status) _ _ tt refl

named_authentication : (a : Agreed) (login : Bool) (p : List ℕ) (status : Option StatusFlags) → Named (name.Ok ∷ asked_names (asks_factors a)) (authentication_step a login p status)
named_authentication a login p status = by_cond (Named (name.Ok ∷ asked_names (asks_factors a))) (first_is 0 p) _ _ (named_status (asked_names (asks_factors a)) status) (asked_named (asks_factors a) p)

named_reply : (d : Bool) (r : Request) (x : Option Reply) → Named (name.Ok ∷ name.LocalInfile ∷ name.ColumnCount ∷ []) (reply_step d r x)
named_reply d r None = tt
named_reply d r (Some (reply.Ok more)) = refl
named_reply d r (Some reply.Infile) = refl
named_reply d r (Some (reply.Columns n follow)) = refl

named_infile_reply : (r : Request) (x : Option Reply) → Named (name.Ok ∷ []) (infile_reply_step r x)
named_infile_reply r (Some (reply.Ok more)) = refl
named_infile_reply r _ = tt

named_columns : (status : StatusFlags) (r : Request) → Named (name.Eof ∷ []) (columns_step status r)
named_columns status Query = refl
named_columns status Execution = refl
named_columns status Cursor = by_cond (Named (name.Eof ∷ [])) (opens_cursor status) _ _ refl refl

named_event : (b : Bool) (o : Option StatusFlags) → Named (name.BinlogEvent ∷ name.Eof ∷ []) (event_step b o)
named_event true o = refl
named_event false None = tt
named_event false (Some status) = refl

named_definitions_end : (b : After) (o : Option StatusFlags) → Named (name.Eof ∷ []) (definitions_end_step b o)
named_definitions_end (after.Rows r) (Some status) = named_columns status r
named_definitions_end (after.Columns n) (Some status) = refl
named_definitions_end after.End (Some status) = refl
named_definitions_end after.Rest (Some status) = refl
named_definitions_end _ _ = tt

named_line : (d : Bool) (r : Request) (l : Option Line) → Named (row_name r ∷ end_name d ∷ []) (line_step d r l)
named_line d r None = tt
named_line d r (Some line.Row) = row_named r (end_name d ∷ [])
named_line d r (Some (line.End more)) = end_named (row_name r) d

named_last : (d : Bool) (n : PacketKindTag) (k : PacketKind) (s : State) (l : Option Line) → is_in (name_of k) (n ∷ end_name d ∷ []) ≡ true → Named (n ∷ end_name d ∷ []) (last_step d k s l)
named_last d n k s None h = tt
named_last d n k s (Some line.Row) h = h
named_last d n k s (Some (line.End more)) h = end_named n d

named_prepared : (d : Bool) (s : Option StmtPacketWithMetadata) → Named (name.PrepareOk ∷ []) (prepared_step d s)
named_prepared d None = tt
named_prepared d (Some s) = refl

named_last_ok : (m : State) (xs : List PacketKindTag) (r : Option Reply) → Named (name.Ok ∷ xs) (last_ok m r)
named_last_ok m xs (Some (reply.Ok more)) = by_cond (Named (name.Ok ∷ xs)) more _ _ tt refl
named_last_ok m xs _ = tt

named_last_end : (d more : Bool) → Named (name.Ok ∷ end_name d ∷ []) (last_end d true more)
named_last_end d false = end_named name.Ok d
named_last_end d true = tt

named_acknowledgement : (a : Agreed) (may_end : Bool) (l : Option Line) (r : Option Reply) → Named (served_names a (state.Acknowledgement may_end)) (acknowledgement_step (deprecates_eof a) may_end l r)
named_acknowledgement a true (Some (line.End more)) r = named_last_end (deprecates_eof a) more
named_acknowledgement a false (Some (line.End true)) r = tt
named_acknowledgement a true (Some line.Row) r = named_last_ok state.Rest (end_name (deprecates_eof a) ∷ []) r
named_acknowledgement a false (Some line.Row) r = named_last_ok state.Rest [] r
named_acknowledgement a _ _ r = tt

named_serve : (a : Agreed) (s : State) (p : List ℕ) → Named (served_names a s) (serve a s p)
named_serve a (state.Authentication login b) p = named_authentication a login p (ok_status a p)
named_serve a (state.Reply r) p = named_reply (deprecates_eof a) r (reply_of a p)
named_serve a (state.InfileReply r) p = named_infile_reply r (reply_of a p)
named_serve a (state.Definitions n b) p = refl
named_serve a (state.DefinitionsEnd b) p = named_definitions_end b (old_end_of a p)
named_serve a (state.Rows r) p = named_line (deprecates_eof a) r (line_of a (format_of r) p)
named_serve a state.Prepared p = named_prepared (deprecates_eof a) (statement_at a p)
named_serve a state.Fetch p = named_last (deprecates_eof a) name.BinaryRow (kind.Row Binary) state.Fetch (line_of a Binary p) refl
named_serve a (state.Acknowledgement may_end) p = named_acknowledgement a may_end (line_of a Text p) (reply_of a p)
named_serve a state.Text p = refl
named_serve a state.Fields p = named_last (deprecates_eof a) name.FieldListColumn kind.FieldListColumn state.Fields (line_of a Text p) refl
named_serve a state.Events p = named_event (first_is 0 p) (old_end_of a p)
named_serve a state.CloneReply p = named_last_ok state.Clone [] (reply_of a p)
named_serve a state.Clone p = refl
named_serve a _ p = tt

named_begun : (code : ℕ) (r : Option Answer) → Named (name.Command ∷ []) (begun code r)
named_begun code None = tt
named_begun code (Some r) = refl

named_command : (p : List ℕ) → Named (name.Command ∷ []) (command_step p)
named_command p = named_begun (code_of p) (answering (code_of p) (asks_cursor p))

named_infile : (r : Request) (p : List ℕ) → Named (name.InfileContent ∷ name.InfileEnd ∷ []) (infile_step r p)
named_infile r [] = refl
named_infile r (b ∷ p) = refl

named_client : (s : State) (p : List ℕ) → Named (sent_names s) (client_step s p)
named_client state.Rest p = named_command p
named_client (state.Authentication login true) p = refl
named_client (state.Infile r) p = named_infile r p
named_client state.Events p = by_cond (Named (name.SemiSyncAck ∷ [])) (first_is 0xef p) _ _ refl tt
named_client state.Clone p = refl
named_client _ p = tt

error_named : (s : State) (xs : List PacketKindTag) → Named (error_names s ++ xs) (error_step s)
error_named (state.Authentication true b) xs = refl
error_named state.Over xs = tt
error_named _ xs = refl

failed_named : (r : Bool) (s : State) (xs : List PacketKindTag) → Named (error_names s ++ xs) (failed r s)
failed_named r state.Clone xs = subst (λ o. Named (error_names state.Clone ++ xs) o) (sym (failed_clone r)) refl
failed_named true _ xs = tt
failed_named false s xs = subst (λ o. Named (error_names s ++ xs) o) (sym (failed_no_report s)) (error_named s xs)

-- a progress report comes if reports are agreed on and one may come
report_named : (a : Agreed) (s : State) (p : List ℕ) → (is_report a p && reports s) ≡ true → (reports_progress a && reports s) ≡ true
unfolding is_report
report_named a s p h =
    let b = and_parts (is_report a p) (reports s) h in
    ap (λ x. x && reports s) (and_parts (reports_progress a) (begins_with_ff 3 p) b.0).0 ∙ b.1

named_report : (b : Bool) (xs ys : List PacketKindTag) → b ≡ true → is_in name.ProgressReport (xs ++ reported b ys) ≡ true
named_report true [] ys h = refl
named_report true (x ∷ xs) ys h = or_right (index name.ProgressReport == index x) _ (named_report true xs ys refl)
named_report false xs ys h = absurd cc

named_served : (a : Agreed) (s : State) (p : List ℕ) → Named (names a s Server) (step a s Server p)
named_served a s p =
    let b = reports_progress a && reports s in
    let ys = reported b (served_names a s) in
    by_cond (Named (error_names s ++ ys)) (first_is 0xff p) _ _ (failed_named (is_report a p) s ys)
    (named_after (error_names s) ys (serve a s p) (named_reported b (served_names a s) (serve a s p) (named_serve a s p)))

named_take : (a : Agreed) (s : State) (side : Side) (p : List ℕ) (k : PacketKind) (m : State) → take_step a s side p ≡ Some (k, m) → Named (names a s side) (Some (k, m))
named_take a s Client p k m e = subst (λ o. Named (sent_names s) o) e (named_client s p)
named_take a s Server p k m e = elim (chosen (is_report a p && reports s) _ _ _ e) [
  | inl h ↦ subst (λ o. Named (names a s Server) o) h.1 (named_report (reports_progress a && reports s) (error_names s) (served_names a s) (report_named a s p h.0))
  | inr h ↦ subst (λ o. Named (names a s Server) o) h.1 (named_served a s p)
]

pub what_comes_is_named : (a : Agreed) (s : State) (side : Side) (p : List ℕ) (k : PacketKind) (m : State) → take_step a s side p ≡ Some (k, m) → may_receive a s side (name_of k) ≡ true
what_comes_is_named a s side p k m e = named_take a s side p k m e
