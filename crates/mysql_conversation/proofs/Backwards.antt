-- A step back: a packet before what may come.
use Rattle.std.proofs.Common.{◌≡◌, ◌≢◌, ℕ, ◌<◌, zero, suc, List, [], ◌∷◌, inl, inr, Option, Some, None, refl, sym, subst, Bool, true, false, arith}
use Rattle.mysql_wire.specs.Flags.{StatusFlags}
use Rattle.mysql_stmt.specs.Stmt.{num_columns, num_params}
use Rattle.mysql_stmt.specs.StmtWithMetadata.{packet_of}
use Rattle.mysql_stmt.specs.declared.stmt_with_metadata.StmtPacketWithMetadata.{StmtPacketWithMetadata}
use Rattle.mysql_conversation.specs.Agreements.{Agreed, deprecates_eof}
use Rattle.mysql_conversation.specs.Parts.{◌followed_by◌, ◌or◌, many}
use Rattle.mysql_conversation.specs.Payloads.{definitions_follow, has_more, opens_cursor, first_is, IsOk, IsEnd, IsOldEnd, IsInfileRequest, IsCount, IsRow, IsPrepared, asks_cursor}
use Rattle.mysql_conversation.specs.Conversation as c
use Rattle.mysql_conversation.specs.Conversation.{Packet, sent, served, code_of, answering, answered, ending, format_of, authentication_kind}
use Rattle.mysql_conversation.specs.Machine.{serve, answers, reply_step, infile_step, infile_reply_step, line_step, last_step, prepared_by, prepared_step, column_end, param_end, last_ok, last_end, acknowledgement_step, logged_in, authentication_step, answer_step, ack_step, definitions_end_step, event_step, columns_step, counted, less, define, ended, line_of, reply_of, old_end_of, statement_at, ok_status}
use Rattle.mysql_conversation.specs.Taken.{packet}
use Rattle.mysql_conversation.proofs.Classes.{reply_means, line_means, old_end_means, statement_at_is, ok_status_is, chosen, some_is}
use Rattle.mysql_conversation.proofs.States.{may_shut}
use Rattle.mysql_conversation.specs.declared.state.After.{After}
use Rattle.mysql_conversation.specs.declared.state.After.TheVariants as after
use Rattle.mysql_conversation.specs.declared.state.Answer.{Answer}
use Rattle.mysql_conversation.specs.declared.state.Answer.TheVariants as answer
use Rattle.mysql_conversation.specs.declared.state.Request.{Request}
use Rattle.mysql_conversation.specs.declared.state.Request.TheVariants.{Query, Execution, Cursor}
use Rattle.mysql_conversation.specs.declared.packet_kind.RowFormat.TheVariants.{Text, Binary}
use Rattle.mysql_conversation.specs.declared.packet_kind.PacketKind.{PacketKind}
use Rattle.mysql_conversation.specs.declared.packet_kind.PacketKind.TheVariants as kind
use Rattle.mysql_conversation.specs.declared.state.Line.{Line}
use Rattle.mysql_conversation.specs.declared.state.Line.TheVariants as line
use Rattle.mysql_conversation.specs.declared.state.Reply.{Reply}
use Rattle.mysql_conversation.specs.declared.state.Reply.TheVariants as reply
use Rattle.mysql_conversation.specs.declared.packet_kind.Side.{Side}
use Rattle.mysql_conversation.specs.declared.packet_kind.Side.TheVariants.{Client, Server}
use Rattle.mysql_conversation.specs.declared.state.State.{State}
use Rattle.mysql_conversation.specs.declared.state.State.TheVariants as state
use Rattle.mysql_conversation.proofs.Tails.{infile_answer, following, following_columns, round, authenticating, tail_of, sending, serving, many_more, many_none, more_results, last_result, answered_file, answered_columns, entered, following_last}

-- ---- a step back

back : (a : Agreed) (s : State) (side : Side) (p : List ℕ) (k k' : PacketKind) (m m' : State) (items rest : List Packet)
    → ◌≡◌ {A = Option (PacketKind × State)} (Some (k, m)) (Some (k', m')) → (tail_of a m items rest → tail_of a s (packet side p k ∷ items) rest) → tail_of a m' items rest → tail_of a s (packet side p k' ∷ items) rest
back a s side p k k' m m' items rest e f = subst (λ (x : PacketKind × State). tail_of a x.1 items rest → tail_of a s (packet side p x.0 ∷ items) rest) (some_is e) f

back_ok : (a : Agreed) (f : Request) (more : Bool) (p : List ℕ) (items rest : List Packet) → first_is 0xff p ≡ false → IsOk a more p → tail_of a (ended f more) items rest → c.results a f (packet Server p kind.Ok ∷ items) rest
back_ok a f true p items rest e h t = more_results a f _ items rest (inl (serving kind.Ok (IsOk a true) p items items refl e h)) t
back_ok a f false p items rest e h t = last_result a f _ rest (inl (serving kind.Ok (IsOk a false) p items rest t e h))

-- a count of columns is not 0
count_columns : (a : Agreed) (f : Request) (n : ℕ) (follow : Bool) (p : List ℕ) (items rest : List Packet) → first_is 0xff p ≡ false → IsCount a n follow p
    → tail_of a (counted (deprecates_eof a) n follow (after.Rows f)) items rest → c.results a f (packet Server p (kind.ColumnCount n follow) ∷ items) rest
count_columns a f zero follow p items rest e h t = let none : 0 < 0 = h.2 in absurd (omega arith)
count_columns a f (suc n) true p items rest e h t = answered_columns a f (suc n) _ t.0 rest (inl (items, serving (kind.ColumnCount (suc n) true) (IsCount a (suc n) true) p items items refl e h, t.1)) t.2
count_columns a f (suc n) false p items rest e h t = answered_columns a f (suc n) _ items rest (inr (serving (kind.ColumnCount (suc n) false) (IsCount a (suc n) false) p items items refl e h)) (following_last a (deprecates_eof a) (after.Rows f) items rest t)

back_reply : (a : Agreed) (f : Request) (p : List ℕ) (r : Option Reply) (k : PacketKind) (m : State) (items rest : List Packet)
    → first_is 0xff p ≡ false → reply_of a p ≡ r → reply_step (deprecates_eof a) f r ≡ Some (k, m) → tail_of a m items rest → tail_of a (state.Reply f) (packet Server p k ∷ items) rest
back_reply a f p None k m items rest e w h t = absurd cc
back_reply a f p (Some (reply.Ok more)) k m items rest e w h t = back a (state.Reply f) Server p _ k _ m items rest h (back_ok a f more p items rest e (reply_means a p _ w)) t
back_reply a f p (Some reply.Infile) k m items rest e w h t = back a (state.Reply f) Server p _ k _ m items rest h
    (λ t. answered_file a f _ t.2.0 rest (items, serving kind.LocalInfile IsInfileRequest p items items refl e (reply_means a p _ w), (t.0, t.1, t.2.1)) t.2.2) t
back_reply a f p (Some (reply.Columns n follow)) k m items rest e w h t = back a (state.Reply f) Server p _ k _ m items rest h (count_columns a f n follow p items rest e (reply_means a p _ w)) t

back_infile : (a : Agreed) (f : Request) (p : List ℕ) (k : PacketKind) (m : State) (items rest : List Packet)
    → infile_step f p ≡ Some (k, m) → tail_of a m items rest → tail_of a (state.Infile f) (packet Client p k ∷ items) rest
back_infile a f [] k m items rest h t = back a (state.Infile f) Client [] _ k _ m items rest h
    (λ t. (_, many_none c.infile_content _, (items, sending kind.InfileEnd (λ p. p ≡ []) [] items items refl refl, t))) t
back_infile a f (b ∷ bytes) k m items rest h t = back a (state.Infile f) Client (b ∷ bytes) _ k _ m items rest h
    (λ t. (t.0, many_more c.infile_content _ items t.0 (sending kind.InfileContent (λ p. p ≢ []) (b ∷ bytes) items items refl (λ e. absurd cc)) t.1, t.2)) t

back_infile_ok : (a : Agreed) (f : Request) (more : Bool) (p : List ℕ) (items rest : List Packet) → first_is 0xff p ≡ false → IsOk a more p → tail_of a (ended f more) items rest → infile_answer a f (packet Server p kind.Ok ∷ items) rest
back_infile_ok a f true p items rest e h t = inl (items, serving kind.Ok (IsOk a true) p items items refl e h, t)
back_infile_ok a f false p items rest e h t = inr (serving kind.Ok (IsOk a false) p items rest t e h)

back_infile_reply : (a : Agreed) (f : Request) (p : List ℕ) (r : Option Reply) (k : PacketKind) (m : State) (items rest : List Packet)
    → first_is 0xff p ≡ false → reply_of a p ≡ r → infile_reply_step f r ≡ Some (k, m) → tail_of a m items rest → tail_of a (state.InfileReply f) (packet Server p k ∷ items) rest
back_infile_reply a f p (Some (reply.Ok more)) k m items rest e w h t = back a (state.InfileReply f) Server p _ k _ m items rest h (back_infile_ok a f more p items rest e (reply_means a p _ w)) t
back_infile_reply a f p _ k m items rest e w h t = absurd cc

back_less : (a : Agreed) (n : ℕ) (b : After) (p : List ℕ) (items rest : List Packet) → first_is 0xff p ≡ false → tail_of a (less (deprecates_eof a) n b) items rest → tail_of a (state.Definitions n b) (packet Server p kind.Column ∷ items) rest
back_less a zero b p items rest e t = (items, (items, serving kind.Column _ p items items refl e tt, refl), following_last a (deprecates_eof a) b items rest t)
back_less a (suc n) b p items rest e t = (t.0, (items, serving kind.Column _ p items items refl e tt, t.1), t.2)

back_cursor : (a : Agreed) (more : Bool) (status : StatusFlags) (p : List ℕ) (items rest : List Packet) → first_is 0xff p ≡ false → IsOldEnd a status p → opens_cursor status ≡ true → has_more status ≡ more
    → tail_of a (ended Cursor more) items rest → following_columns a Cursor false (packet Server p kind.Eof ∷ items) rest
back_cursor a true status p items rest e o cur m t = inr (inl (items, serving kind.Eof _ p items items refl e (status, o, cur, m), t))
back_cursor a false status p items rest e o cur m t = inr (inr (serving kind.Eof _ p items rest t e (status, o, cur, m)))

back_columns : (a : Agreed) (r : Request) (status : StatusFlags) (p : List ℕ) (k : PacketKind) (m : State) (items rest : List Packet)
    → first_is 0xff p ≡ false → IsOldEnd a status p → columns_step status r ≡ Some (k, m) → tail_of a m items rest → following_columns a r false (packet Server p k ∷ items) rest
back_columns a Query status p k m items rest e o h t = back a (state.DefinitionsEnd (after.Rows Query)) Server p _ k _ m items rest h
    (λ t. inl (items, serving kind.Eof _ p items items refl e (status, o), t)) t
back_columns a Execution status p k m items rest e o h t = back a (state.DefinitionsEnd (after.Rows Execution)) Server p _ k _ m items rest h
    (λ t. inl (items, serving kind.Eof _ p items items refl e (status, o), t)) t
back_columns a Cursor status p k m items rest e o h t = elim (chosen (opens_cursor status) _ _ _ h) [
  | inl g ↦ back a (state.DefinitionsEnd (after.Rows Cursor)) Server p _ k _ m items rest g.1 (back_cursor a (has_more status) status p items rest e o g.0 refl) t
  | inr g ↦ back a (state.DefinitionsEnd (after.Rows Cursor)) Server p _ k _ m items rest g.1 (λ t. inl (items, serving kind.Eof _ p items items refl e (status, o, g.0), t)) t
]

back_definitions_end : (a : Agreed) (b : After) (p : List ℕ) (o : Option StatusFlags) (k : PacketKind) (m : State) (items rest : List Packet)
    → first_is 0xff p ≡ false → old_end_of a p ≡ o → definitions_end_step b o ≡ Some (k, m) → tail_of a m items rest → tail_of a (state.DefinitionsEnd b) (packet Server p k ∷ items) rest
back_definitions_end a (after.Rows r) p (Some status) k m items rest e w h t = back_columns a r status p k m items rest e (old_end_means a status p w) h t
back_definitions_end a (after.Columns n) p (Some status) k m items rest e w h t = back a (state.DefinitionsEnd (after.Columns n)) Server p _ k _ m items rest h
    (λ t. (items, serving kind.Eof _ p items items refl e (status, old_end_means a status p w), entered a (after.Columns n) items rest t)) t
back_definitions_end a after.End p (Some status) k m items rest e w h t = back a (state.DefinitionsEnd after.End) Server p _ k _ m items rest h
    (λ t. (items, serving kind.Eof _ p items items refl e (status, old_end_means a status p w), entered a after.End items rest t)) t
back_definitions_end a after.Rest p (Some status) k m items rest e w h t = back a (state.DefinitionsEnd after.Rest) Server p _ k _ m items rest h
    (λ t. serving kind.Eof _ p items rest t e (status, old_end_means a status p w)) t
back_definitions_end a _ p _ k m items rest e w h t = absurd cc

back_end : (a : Agreed) (r : Request) (more : Bool) (p : List ℕ) (items rest : List Packet) → first_is 0xff p ≡ false → IsEnd a more p → tail_of a (ended r more) items rest → following a (after.Rows r) (packet Server p (ending (deprecates_eof a)) ∷ items) rest
back_end a r true p items rest e h t = (_, many_none (c.row a (format_of r)) _, inl (items, serving (ending (deprecates_eof a)) (IsEnd a true) p items items refl e h, t))
back_end a r false p items rest e h t = (_, many_none (c.row a (format_of r)) _, inr (serving (ending (deprecates_eof a)) (IsEnd a false) p items rest t e h))

back_line : (a : Agreed) (r : Request) (p : List ℕ) (l : Option Line) (k : PacketKind) (m : State) (items rest : List Packet)
    → first_is 0xff p ≡ false → line_of a (format_of r) p ≡ l → line_step (deprecates_eof a) r l ≡ Some (k, m) → tail_of a m items rest → tail_of a (state.Rows r) (packet Server p k ∷ items) rest
back_line a r p None k m items rest e w h t = absurd cc
back_line a r p (Some line.Row) k m items rest e w h t = back a (state.Rows r) Server p _ k _ m items rest h
    (λ t. (t.0, many_more (c.row a (format_of r)) _ items t.0 (serving (kind.Row (format_of r)) (IsRow a (format_of r)) p items items refl e (line_means a (format_of r) p _ w)) t.1, t.2)) t
back_line a r p (Some (line.End more)) k m items rest e w h t = back a (state.Rows r) Server p _ k _ m items rest h (back_end a r more p items rest e (line_means a (format_of r) p _ w)) t

any_end_of : (a : Agreed) (more : Bool) (p : List ℕ) (items rest : List Packet) → items ≡ rest → first_is 0xff p ≡ false → IsEnd a more p → c.any_end a (packet Server p (ending (deprecates_eof a)) ∷ items) rest
any_end_of a true p items rest t e h = inl (serving (ending (deprecates_eof a)) (IsEnd a true) p items rest t e h)
any_end_of a false p items rest t e h = inr (serving (ending (deprecates_eof a)) (IsEnd a false) p items rest t e h)

back_fetch : (a : Agreed) (p : List ℕ) (r : Option Line) (k : PacketKind) (m : State) (items rest : List Packet)
    → first_is 0xff p ≡ false → line_of a Binary p ≡ r → last_step (deprecates_eof a) (kind.Row Binary) state.Fetch r ≡ Some (k, m) → tail_of a m items rest → tail_of a state.Fetch (packet Server p k ∷ items) rest
back_fetch a p None k m items rest e w h t = absurd cc
back_fetch a p (Some line.Row) k m items rest e w h t = back a state.Fetch Server p _ k _ m items rest h
    (λ t. (t.0, many_more (c.row a Binary) _ items t.0 (serving (kind.Row Binary) (IsRow a Binary) p items items refl e (line_means a Binary p _ w)) t.1, t.2)) t
back_fetch a p (Some (line.End more)) k m items rest e w h t = back a state.Fetch Server p _ k _ m items rest h
    (λ t. (_, many_none (c.row a Binary) _, any_end_of a more p items rest t e (line_means a Binary p _ w))) t

back_last_ok : (a : Agreed) (s n : State) (p : List ℕ) (r : Option Reply) (k : PacketKind) (m : State) (items rest : List Packet) → first_is 0xff p ≡ false → reply_of a p ≡ r → last_ok n r ≡ Some (k, m)
    → (IsOk a false p → tail_of a n items rest → tail_of a s (packet Server p kind.Ok ∷ items) rest) → tail_of a m items rest → tail_of a s (packet Server p k ∷ items) rest
back_last_ok a s n p (Some (reply.Ok false)) k m items rest e v h f t = back a s Server p _ k _ m items rest h (f (reply_means a p _ v)) t
back_last_ok a s n p _ k m items rest e v h f t = absurd cc

ok_acknowledged : (a : Agreed) (may_end : Bool) (p : List ℕ) (items rest : List Packet) → first_is 0xff p ≡ false → IsOk a false p → items ≡ rest → c.acknowledged a may_end (packet Server p kind.Ok ∷ items) rest
ok_acknowledged a true p items rest e o t = inl (serving kind.Ok (IsOk a false) p items rest t e o)
ok_acknowledged a false p items rest e o t = serving kind.Ok (IsOk a false) p items rest t e o

back_last_end : (a : Agreed) (may_end more : Bool) (p : List ℕ) (k : PacketKind) (m : State) (items rest : List Packet)
    → first_is 0xff p ≡ false → IsEnd a more p → last_end (deprecates_eof a) may_end more ≡ Some (k, m) → tail_of a m items rest → tail_of a (state.Acknowledgement may_end) (packet Server p k ∷ items) rest
back_last_end a true false p k m items rest e w h t = back a (state.Acknowledgement true) Server p _ k _ m items rest h (λ t. inr (serving (ending (deprecates_eof a)) (IsEnd a false) p items rest t e w)) t
back_last_end a may_end true p k m items rest e w h t = absurd cc
back_last_end a false false p k m items rest e w h t = absurd cc

back_acknowledgement : (a : Agreed) (may_end : Bool) (p : List ℕ) (l : Option Line) (k : PacketKind) (m : State) (items rest : List Packet)
    → first_is 0xff p ≡ false → line_of a Text p ≡ l → acknowledgement_step (deprecates_eof a) may_end l (reply_of a p) ≡ Some (k, m) → tail_of a m items rest → tail_of a (state.Acknowledgement may_end) (packet Server p k ∷ items) rest
back_acknowledgement a may_end p (Some (line.End more)) k m items rest e w h t = back_last_end a may_end more p k m items rest e (line_means a Text p _ w) h t
back_acknowledgement a may_end p (Some line.Row) k m items rest e w h t = back_last_ok a (state.Acknowledgement may_end) state.Rest p (reply_of a p) k m items rest e refl h (λ o t. ok_acknowledged a may_end p items rest e o t) t
back_acknowledgement a may_end p None k m items rest e w h t = absurd cc

back_fields : (a : Agreed) (p : List ℕ) (r : Option Line) (k : PacketKind) (m : State) (items rest : List Packet)
    → first_is 0xff p ≡ false → line_of a Text p ≡ r → last_step (deprecates_eof a) kind.FieldListColumn state.Fields r ≡ Some (k, m) → tail_of a m items rest → tail_of a state.Fields (packet Server p k ∷ items) rest
back_fields a p None k m items rest e w h t = absurd cc
back_fields a p (Some line.Row) k m items rest e w h t = back a state.Fields Server p _ k _ m items rest h
    (λ t. (t.0, many_more (c.field a) _ items t.0 (serving kind.FieldListColumn (IsRow a Text) p items items refl e (line_means a Text p _ w)) t.1, t.2)) t
back_fields a p (Some (line.End more)) k m items rest e w h t = back a state.Fields Server p _ k _ m items rest h
    (λ t. (_, many_none (c.field a) _, any_end_of a more p items rest t e (line_means a Text p _ w))) t

back_events : (a : Agreed) (p : List ℕ) (b : Bool) (o : Option StatusFlags) (k : PacketKind) (m : State) (items rest : List Packet)
    → first_is 0xff p ≡ false → first_is 0 p ≡ b → old_end_of a p ≡ o → event_step b o ≡ Some (k, m) → tail_of a m items rest → tail_of a state.Events (packet Server p k ∷ items) rest
back_events a p true o k m items rest e f w h t = back a state.Events Server p _ k _ m items rest h
    (λ t. (t.0, many_more (c.event or c.ack) _ items t.0 (inl (serving kind.BinlogEvent _ p items items refl e f)) t.1, t.2)) t
back_events a p false None k m items rest e f w h t = absurd cc
back_events a p false (Some status) k m items rest e f w h t = back a state.Events Server p _ k _ m items rest h
    (λ t. (_, many_none (c.event or c.ack) _, serving kind.Eof _ p items rest t e (status, old_end_means a status p w))) t

-- ---- authentication

-- a round before what comes
one_round : (a : Agreed) (p : List ℕ) (items rest : List Packet) → first_is 0xff p ≡ false → first_is 0 p ≡ false → authenticating a true items rest → c.authentication a (packet Server p (authentication_kind a p) ∷ items) rest
one_round a p items rest e z t =
    (t.2.0, many_more (round a) _ t.0 t.2.0 (items, (packet Server p (authentication_kind a p), (refl, refl, e, z), refl), t.1) t.2.1, t.2.2)

authenticated : (a : Agreed) (p : List ℕ) (status : StatusFlags) (items rest : List Packet) → items ≡ rest → first_is 0xff p ≡ false → first_is 0 p ≡ true → ok_status a p ≡ Some status → has_more status ≡ false → c.authentication a (packet Server p kind.Ok ∷ items) rest
authenticated a p status items rest t e z w n = (_, many_none (round a) _, serving kind.Ok (IsOk a false) p items rest t e (z, status, ok_status_is a status p w, n))

-- if the client was asked and doesn't answer
pub unanswered : (a : Agreed) (b : Bool) (items rest : List Packet) → c.authentication a items rest → authenticating a b items rest
unanswered a true items rest h = (items, inl refl, h)
unanswered a false items rest h = h

back_ok_status : (a : Agreed) (login b : Bool) (p : List ℕ) (status : Option StatusFlags) (k : PacketKind) (m : State) (items rest : List Packet)
    → first_is 0xff p ≡ false → first_is 0 p ≡ true → ok_status a p ≡ status → logged_in status ≡ Some (k, m) → tail_of a m items rest → tail_of a (state.Authentication login b) (packet Server p k ∷ items) rest
back_ok_status a login b p None k m items rest e z w h t = absurd cc
back_ok_status a login b p (Some status) k m items rest e z w h t = elim (chosen (has_more status) _ _ _ h) [
  | inl n ↦ absurd cc
  | inr n ↦ back a (state.Authentication login b) Server p _ k _ m items rest n.1 (λ t. unanswered a b _ rest (authenticated a p status items rest t e z w n.0)) t
]

pub back_authentication : (a : Agreed) (login b : Bool) (p : List ℕ) (k : PacketKind) (m : State) (items rest : List Packet)
    → first_is 0xff p ≡ false → authentication_step a login p (ok_status a p) ≡ Some (k, m) → tail_of a m items rest → tail_of a (state.Authentication login b) (packet Server p k ∷ items) rest
back_authentication a login b p k m items rest e h t = elim (chosen (first_is 0 p) _ _ _ h) [
  | inl z ↦ back_ok_status a login b p (ok_status a p) k m items rest e z.0 refl z.1 t
  | inr z ↦ back a (state.Authentication login b) Server p _ k _ m items rest z.1 (λ t. unanswered a b _ rest (one_round a p items rest e z.0 t)) t
]

-- the client's answer, one step back
pub back_answer : (a : Agreed) (login b : Bool) (p : List ℕ) (k : PacketKind) (m : State) (items rest : List Packet)
    → answer_step login b ≡ Some (k, m) → tail_of a m items rest → tail_of a (state.Authentication login b) (packet Client p k ∷ items) rest
back_answer a login true p k m items rest h t = back a (state.Authentication login true) Client p _ k _ m items rest h (λ t. (items, inr (sending kind.AuthData _ p items items refl tt), t)) t
back_answer a login false p k m items rest h t = absurd cc

-- an acknowledgement of an event, one step back
pub back_ack : (a : Agreed) (p : List ℕ) (k : PacketKind) (m : State) (items rest : List Packet)
    → ack_step p ≡ Some (k, m) → tail_of a m items rest → tail_of a state.Events (packet Client p k ∷ items) rest
back_ack a p k m items rest h t = elim (chosen (first_is 0xef p) _ _ _ h) [
  | inl e ↦ back a state.Events Client p _ k _ m items rest e.1
      (λ t. (t.0, many_more (c.event or c.ack) _ items t.0 (inr (sending kind.SemiSyncAck _ p items items refl e.0)) t.1, t.2)) t
  | inr e ↦ absurd cc
]

-- the definitions of a prepared statement
params_columns : (a : Agreed) (params columns : ℕ) (items rest : List Packet) → tail_of a (define params (after.Columns columns)) items rest
    → (c.definitions a true params followed_by c.definitions a true columns) items rest
params_columns a zero columns items rest t = (items, (items, refl, refl), entered a (after.Columns columns) items rest t)
params_columns a (suc n) columns items rest t = (t.2.0, (t.0, t.1, t.2.1), t.2.2)

-- and their ends, if they are omitted
no_end : (a : Agreed) (n : ℕ) (items rest : List Packet) → items ≡ rest → c.definitions_end_of a true n items rest
no_end a zero items rest h = h
no_end a (suc n) items rest h = h

one_end : (a : Agreed) (n : ℕ) (items rest : List Packet) → tail_of a (column_end n) items rest → c.definitions_end_of a false n items rest
one_end a zero items rest t = t
one_end a (suc n) items rest t = t

both_ends : (a : Agreed) (params columns : ℕ) (items rest : List Packet) → tail_of a (param_end params columns) items rest
    → (c.definitions_end_of a false params followed_by c.definitions_end_of a false columns) items rest
both_ends a zero columns items rest t = (items, refl, one_end a columns items rest t)
both_ends a (suc n) zero items rest t = (rest, t, refl)
both_ends a (suc n) (suc m) items rest t = t

left_out : (a : Agreed) (d : Bool) (columns params : ℕ) (items rest : List Packet) → tail_of a (prepared_by d false columns params) items rest
    → (c.definitions_end_of a d params followed_by c.definitions_end_of a d columns) items rest
left_out a true columns params items rest t = (items, no_end a params items items refl, no_end a columns items rest t)
left_out a false columns params items rest t = both_ends a params columns items rest t

by_following : (a : Agreed) (s : StmtPacketWithMetadata) (p : List ℕ) (follow : Bool) (items rest : List Packet) → first_is 0xff p ≡ false → statement_at a p ≡ Some s → definitions_follow s ≡ follow
    → tail_of a (prepared_by (deprecates_eof a) follow (num_columns (packet_of s)) (num_params (packet_of s))) items rest
    → c.prepared a (packet Server p (kind.PrepareOk (num_columns (packet_of s)) (num_params (packet_of s)) follow) ∷ items) rest
by_following a s p true items rest e w f t =
    let spelled = statement_at_is a s p w in
    let columns = num_columns (packet_of s) in
    let params = num_params (packet_of s) in
    (columns, (params, inl (items, serving (kind.PrepareOk columns params true) (IsPrepared a columns params true) p items items refl e (s, spelled.0, spelled.1, refl, refl, f), params_columns a params columns items rest t)))
by_following a s p false items rest e w f t =
    let spelled = statement_at_is a s p w in
    let columns = num_columns (packet_of s) in
    let params = num_params (packet_of s) in
    (columns, (params, inr (items, serving (kind.PrepareOk columns params false) (IsPrepared a columns params false) p items items refl e (s, spelled.0, spelled.1, refl, refl, f), left_out a (deprecates_eof a) columns params items rest t)))

back_prepared : (a : Agreed) (p : List ℕ) (r : Option StmtPacketWithMetadata) (k : PacketKind) (m : State) (items rest : List Packet)
    → first_is 0xff p ≡ false → statement_at a p ≡ r → prepared_step (deprecates_eof a) r ≡ Some (k, m) → tail_of a m items rest → tail_of a state.Prepared (packet Server p k ∷ items) rest
back_prepared a p None k m items rest e w h t = absurd cc
back_prepared a p (Some s) k m items rest e w h t = back a state.Prepared Server p _ k _ m items rest h (by_following a s p (definitions_follow s) items rest e w refl) t

-- a packet of the clone plugin's protocol
pub one_clone : (side : Side) (p : List ℕ) (items rest : List Packet) → many c.clone items rest → many c.clone (packet side p kind.Clone ∷ items) rest
one_clone side p items rest t = many_more c.clone _ items rest (packet side p kind.Clone, refl, refl) t

-- a packet of the server other than an error, one step back
pub back_serve : (a : Agreed) (s : State) (p : List ℕ) (k : PacketKind) (m : State) (items rest : List Packet)
    → first_is 0xff p ≡ false → serve a s p ≡ Some (k, m) → tail_of a m items rest → tail_of a s (packet Server p k ∷ items) rest
back_serve a (state.Authentication login b) p k m items rest e h t = back_authentication a login b p k m items rest e h t
back_serve a (state.Reply r) p k m items rest e h t = back_reply a r p (reply_of a p) k m items rest e refl h t
back_serve a (state.InfileReply r) p k m items rest e h t = back_infile_reply a r p (reply_of a p) k m items rest e refl h t
back_serve a (state.Definitions n b) p k m items rest e h t = back a (state.Definitions n b) Server p _ k _ m items rest h (back_less a n b p items rest e) t
back_serve a (state.DefinitionsEnd b) p k m items rest e h t = back_definitions_end a b p (old_end_of a p) k m items rest e refl h t
back_serve a (state.Rows r) p k m items rest e h t = back_line a r p (line_of a (format_of r) p) k m items rest e refl h t
back_serve a state.Prepared p k m items rest e h t = back_prepared a p (statement_at a p) k m items rest e refl h t
back_serve a state.Fetch p k m items rest e h t = back_fetch a p (line_of a Binary p) k m items rest e refl h t
back_serve a (state.Acknowledgement may_end) p k m items rest e h t = back_acknowledgement a may_end p (line_of a Text p) k m items rest e refl h t
back_serve a state.Text p k m items rest e h t = back a state.Text Server p _ k _ m items rest h (λ t. serving kind.Statistics _ p items rest t e tt) t
back_serve a state.Fields p k m items rest e h t = back_fields a p (line_of a Text p) k m items rest e refl h t
back_serve a state.Events p k m items rest e h t = back_events a p (first_is 0 p) (old_end_of a p) k m items rest e refl refl h t
back_serve a state.CloneReply p k m items rest e h t = back_last_ok a state.CloneReply state.Clone p (reply_of a p) k m items rest e refl h
    (λ o t. inl (items, serving kind.Ok (IsOk a false) p items items refl e o, t)) t
back_serve a state.Clone p k m items rest e h t = back a state.Clone Server p _ k _ m items rest h (λ t. one_clone Server p items rest t) t
back_serve a _ p k m items rest e h t = absurd cc

-- at the beginning of an answer all of it comes, except for a command that may end the connection
answer_comes : (a : Agreed) (r : Answer) (items rest : List Packet) → may_shut r ≡ false → tail_of a (answers r) items rest → answered a (Some r) items rest
answer_comes a answer.Quit items rest n t = absurd cc
answer_comes a answer.Clone items rest n t = absurd cc
answer_comes a _ items rest n t = t

one_exchange : (a : Agreed) (code : ℕ) (cursor : Bool) (items rest : List Packet) → c.exchange_of a code cursor items rest → c.exchange a items rest
one_exchange a code true items rest h = (code, inl h)
one_exchange a code false items rest h = (code, inr h)

-- a command and its answer
pub exchange_by : (a : Agreed) (p : List ℕ) (r : Answer) (items rest : List Packet) → answering (code_of p) (asks_cursor p) ≡ Some r → answered a (Some r) items rest
    → c.exchange a (packet Client p (kind.Command (code_of p)) ∷ items) rest
exchange_by a p r items rest e t =
    one_exchange a (code_of p) (asks_cursor p) _ rest (items, (packet Client p (kind.Command (code_of p)), (refl, refl, (refl, refl)), refl), subst (λ o. answered a o items rest) (sym e) t)

-- the same, one step back
pub back_command : (a : Agreed) (p : List ℕ) (r : Answer) (items rest : List Packet) → may_shut r ≡ false → answering (code_of p) (asks_cursor p) ≡ Some r → tail_of a (answers r) items rest
    → c.exchange a (packet Client p (kind.Command (code_of p)) ∷ items) rest
back_command a p r items rest n e t = exchange_by a p r items rest e (answer_comes a r items rest n t)

-- the same for the content of a file
pub back_content : (a : Agreed) (r : Request) (p : List ℕ) (k : PacketKind) (m : State) (items rest : List Packet)
    → infile_step r p ≡ Some (k, m) → tail_of a m items rest → tail_of a (state.Infile r) (packet Client p k ∷ items) rest
back_content a r p k m items rest h t = back_infile a r p k m items rest h t
