-- The machine accepts what the grammar allows.
use Rattle.std.proofs.Common.{◌≡◌, ◌≢◌, ℕ, ◌<◌, zero, suc, List, [], ◌∷◌, ◌++◌, inl, inr, Option, Some, None, refl, sym, ap, subst, ◌∙◌, Bool, true, false, arith}
use Rattle.std.proofs.lemmas.Bool.{not-true, cases_Bool}
use Rattle.mysql_wire.specs.Flags.{StatusFlags}
use Rattle.mysql_conversation.proofs.Runs.{join, part}
use Rattle.mysql_conversation.specs.Parts.{nothing, never, ◌followed_by◌, ◌or◌, for_some, times, many, broken}
use Rattle.mysql_conversation.specs.Payloads.{has_more, opens_cursor, first_is, IsOk, IsEnd, IsOldEnd, IsInfileRequest, IsCount, IsRow, IsPrepared, IsError, is_report, asks_cursor}
use Rattle.mysql_conversation.specs.Agreements.{Agreed, deprecates_eof}
use Rattle.mysql_conversation.specs.Conversation as c
use Rattle.mysql_conversation.specs.Conversation.{Packet, sent, served, code_of, answering, answered, ending, format_of, authentication_kind, commands, inside}
use Rattle.mysql_conversation.specs.Machine.{is_login, entrance, step, client_step, serve, rests, Run, StepsTo, answers, reply_step, infile_step, infile_reply_step, line_step, last_step, prepared_by, prepared_step, column_end, param_end, command_step, begun, error_step, last_ok, acknowledgement_step, definitions_end_step, event_step, old_end_of, enter, defined, counted, less, define, ended, reply_of}
use Rattle.mysql_conversation.proofs.Classes.{ok_status_of, reply_ok, reply_infile, reply_count, line_row, line_end, old_end_of_is, statement_at_of, zero_is_no_end, end_is_no_zero}
use Rattle.mysql_conversation.proofs.States.{step_listens, stays_no_login, error_rests, error_ends, failed_no_report, failed_clone}
use Rattle.mysql_conversation.specs.declared.state.After.{After}
use Rattle.mysql_conversation.specs.declared.state.After.TheVariants as after
use Rattle.mysql_conversation.specs.declared.state.Answer.{Answer}
use Rattle.mysql_conversation.specs.declared.state.Answer.TheVariants as answer
use Rattle.mysql_conversation.specs.declared.state.Request.{Request}
use Rattle.mysql_conversation.specs.declared.state.Request.TheVariants.{Query, Execution, Cursor}
use Rattle.mysql_conversation.specs.declared.packet_kind.RowFormat.TheVariants.{Text, Binary}
use Rattle.mysql_conversation.specs.declared.packet_kind.PacketKind.{PacketKind}
use Rattle.mysql_conversation.specs.declared.packet_kind.PacketKind.TheVariants as kind
use Rattle.mysql_conversation.specs.declared.state.Reply.{Reply}
use Rattle.mysql_conversation.specs.declared.state.Reply.TheVariants as reply
use Rattle.mysql_conversation.specs.declared.packet_kind.InitialPhase.{InitialPhase}
use Rattle.mysql_conversation.specs.declared.packet_kind.InitialPhase.TheVariants as opened_at
use Rattle.mysql_conversation.specs.declared.packet_kind.Side.{Side}
use Rattle.mysql_conversation.specs.declared.packet_kind.Side.TheVariants.{Client, Server}
use Rattle.mysql_conversation.specs.declared.state.State.{State}
use Rattle.mysql_conversation.specs.declared.state.State.TheVariants as state

-- the part leads from a state to another
abbrev pub Leads : Agreed → State → (List Packet → List Packet → Type 0) → State → Type 0
Leads a s f m = (items rest : List Packet) (t : State) → f items rest → Run a m rest t → Run a s items t

server_step : (a : Agreed) (s : State) (p : List ℕ) (k : PacketKind) (m : State) → first_is 0xff p ≡ false → serve a s p ≡ Some (k, m) → step a s Server p ≡ Some (k, m)
server_step a s p k m f e = rw f e

pub lead_served : (a : Agreed) (s : State) (kind : PacketKind) (P : List ℕ → Type 0) (m : State)
    → ((p : List ℕ) → P p → serve a s p ≡ Some (kind, m)) → Leads a s (served kind P) m
lead_served a s kind P m e items rest t h r =
    let x = h.0 in
    let found : step a s x.from x.payload ≡ Some (x.kind, m) = rw (h.1.0, h.1.1) (server_step a s x.payload kind m h.1.2 (e x.payload h.1.3)) in
    subst (λ xs. Run a s xs t) (sym h.2) (m, found, r)

pub lead_sent : (a : Agreed) (s : State) (kind : PacketKind) (P : List ℕ → Type 0) (m : State)
    → ((p : List ℕ) → P p → client_step s p ≡ Some (kind, m)) → Leads a s (sent kind P) m
lead_sent a s kind P m e items rest t h r =
    let x = h.0 in
    let found : step a s x.from x.payload ≡ Some (x.kind, m) = rw (h.1.0, h.1.1) (e x.payload h.1.2) in
    subst (λ xs. Run a s xs t) (sym h.2) (m, found, r)

pub lead_then : (a : Agreed) (s : State) (f g : List Packet → List Packet → Type 0) (m u : State)
    → Leads a s f m → Leads a m g u → Leads a s (f followed_by g) u
lead_then a s f g m u x y items rest t h r = x items h.0 t h.1 (y h.0 rest t h.2 r)

pub lead_or : (a : Agreed) (s : State) (f g : List Packet → List Packet → Type 0) (m : State)
    → Leads a s f m → Leads a s g m → Leads a s (f or g) m
lead_or a s f g m x y items rest t (inl h) r = x items rest t h r
lead_or a s f g m x y items rest t (inr h) r = y items rest t h r

pub lead_nothing : (a : Agreed) (s : State) → Leads a s nothing s
lead_nothing a s items rest t h r = subst (λ xs. Run a s xs t) (sym h) r

pub lead_never : (a : Agreed) (s m : State) → Leads a s never m
lead_never a s m items rest t h r = absurd h

pub lead_some : (a : Agreed) (s : State) (f : ℕ → List Packet → List Packet → Type 0) (m : State)
    → ((n : ℕ) → Leads a s (f n) m) → Leads a s (for_some f) m
lead_some a s f m x items rest t h r = x h.0 items rest t h.1 r

pub lead_times : (a : Agreed) (s : State) (f : List Packet → List Packet → Type 0) (n : ℕ)
    → Leads a s f s → Leads a s (times n f) s
lead_times a s f zero x items rest t h r = subst (λ xs. Run a s xs t) (sym h) r
lead_times a s f (suc n) x items rest t h r = x items h.0 t h.1 (lead_times a s f n x h.0 rest t h.2 r)

pub lead_many : (a : Agreed) (s : State) (f : List Packet → List Packet → Type 0)
    → Leads a s f s → Leads a s (many f) s
lead_many a s f x items rest t h r = lead_times a s f h.0 x items rest t h.1 r

-- ---- the parts of a result

lead_ok : (a : Agreed) (r : Request) (more : Bool) → Leads a (state.Reply r) (c.ok a more) (ended r more)
lead_ok a r more = lead_served a (state.Reply r) kind.Ok (IsOk a more) (ended r more) (λ p h. ap (reply_step (deprecates_eof a) r) (reply_ok a more p h))

lead_infile_ok : (a : Agreed) (r : Request) (more : Bool) → Leads a (state.InfileReply r) (c.ok a more) (ended r more)
lead_infile_ok a r more = lead_served a (state.InfileReply r) kind.Ok (IsOk a more) (ended r more) (λ p h. ap (infile_reply_step r) (reply_ok a more p h))

lead_loaded : (a : Agreed) (r : Request) → Leads a (state.Reply r) c.loaded (state.InfileReply r)
lead_loaded a r =
    lead_then a _ _ _ (state.Infile r) _
    (lead_served a (state.Reply r) kind.LocalInfile IsInfileRequest (state.Infile r) (λ p h. ap (reply_step (deprecates_eof a) r) (reply_infile a p h)))
    (lead_then a _ _ _ (state.Infile r) _
    (lead_many a (state.Infile r) c.infile_content (lead_sent a (state.Infile r) kind.InfileContent _ (state.Infile r) content))
    (lead_sent a (state.Infile r) kind.InfileEnd _ (state.InfileReply r) (λ p h. ap (infile_step r) h)))
  where
    content : (p : List ℕ) → p ≢ [] → infile_step r p ≡ Some (kind.InfileContent, state.Infile r)
    content [] h = absurd (h refl)
    content (b ∷ bytes) h = refl

lead_definition : (a : Agreed) (n : ℕ) (b : After) → Leads a (state.Definitions n b) c.definition (less (deprecates_eof a) n b)
lead_definition a n b = lead_served a (state.Definitions n b) kind.Column _ (less (deprecates_eof a) n b) (λ p h. refl)

-- a given number of definitions, and one more
lead_all : (a : Agreed) (n : ℕ) (b : After) → Leads a (state.Definitions n b) (times (suc n) c.definition) (defined (deprecates_eof a) b)
lead_all a zero b items rest t h r = lead_definition a zero b items h.0 t h.1 (subst (λ xs. Run a (defined (deprecates_eof a) b) xs t) (sym h.2) r)
lead_all a (suc n) b items rest t h r = lead_definition a (suc n) b items h.0 t h.1 (lead_all a n b h.0 rest t h.2 r)

lead_columns_end : (a : Agreed) (r : Request) (d : Bool) → Leads a (defined d (after.Rows r)) (c.columns_end a r d) (state.Rows r)
lead_columns_end a Query true = lead_nothing a (state.Rows Query)
lead_columns_end a Query false = lead_served a (state.DefinitionsEnd (after.Rows Query)) kind.Eof _ (state.Rows Query) (λ p h. ap (definitions_end_step (after.Rows Query)) (old_end_of_is a h.0 p h.1))
lead_columns_end a Execution true = lead_nothing a (state.Rows Execution)
lead_columns_end a Execution false = lead_served a (state.DefinitionsEnd (after.Rows Execution)) kind.Eof _ (state.Rows Execution) (λ p h. ap (definitions_end_step (after.Rows Execution)) (old_end_of_is a h.0 p h.1))
lead_columns_end a Cursor true = lead_nothing a (state.Rows Cursor)
lead_columns_end a Cursor false = lead_served a (state.DefinitionsEnd (after.Rows Cursor)) kind.Eof _ (state.Rows Cursor)
    (λ p h. ap (definitions_end_step (after.Rows Cursor)) (old_end_of_is a h.0 p h.1) ∙ rw h.2 refl)

lead_cursor : (a : Agreed) (more : Bool)
    → Leads a (state.DefinitionsEnd (after.Rows Cursor)) (served kind.Eof (λ p. (status : StatusFlags) × IsOldEnd a status p × (opens_cursor status ≡ true) × (has_more status ≡ more))) (ended Cursor more)
lead_cursor a more = lead_served a (state.DefinitionsEnd (after.Rows Cursor)) kind.Eof _ (ended Cursor more)
    (λ p h. ap (definitions_end_step (after.Rows Cursor)) (old_end_of_is a h.0 p h.1) ∙ rw (h.2, h.3) refl)

lead_row : (a : Agreed) (r : Request) → Leads a (state.Rows r) (c.row a (format_of r)) (state.Rows r)
lead_row a r = lead_served a (state.Rows r) (kind.Row (format_of r)) (IsRow a (format_of r)) (state.Rows r) (λ p h. ap (line_step (deprecates_eof a) r) (line_row a (format_of r) p h))

lead_end : (a : Agreed) (r : Request) (more : Bool) → Leads a (state.Rows r) (c.end a more) (ended r more)
lead_end a r more = lead_served a (state.Rows r) (ending (deprecates_eof a)) (IsEnd a more) (ended r more) (λ p h. ap (line_step (deprecates_eof a) r) (line_end a (format_of r) more p h))

lead_count : (a : Agreed) (r : Request) (n : ℕ) (follow : Bool) → Leads a (state.Reply r) (c.count a n follow) (counted (deprecates_eof a) n follow (after.Rows r))
lead_count a r n follow = lead_served a (state.Reply r) (kind.ColumnCount n follow) (IsCount a n follow) (counted (deprecates_eof a) n follow (after.Rows r)) (λ p h. ap (reply_step (deprecates_eof a) r) (reply_count a n follow p h))

lead_columns_of : (a : Agreed) (r : Request) (n : ℕ) → Leads a (state.Reply r) (c.columns a n) (defined (deprecates_eof a) (after.Rows r))
lead_columns_of a r zero items rest t (inl h) run = let none : 0 < 0 = h.1.1.3.2 in absurd (omega arith)
lead_columns_of a r zero items rest t (inr h) run = let none : 0 < 0 = h.1.3.2 in absurd (omega arith)
lead_columns_of a r (suc n) items rest t (inl h) run = lead_count a r (suc n) true items h.0 t h.1 (lead_all a n (after.Rows r) h.0 rest t h.2 run)
lead_columns_of a r (suc n) items rest t (inr h) run = lead_count a r (suc n) false items rest t h run

lead_rows : (a : Agreed) (r : Request) (more : Bool) → Leads a (state.Reply r) (c.rows a r more) (ended r more)
lead_rows a r more = lead_some a _ _ _ (λ n.
    lead_then a _ _ _ (defined (deprecates_eof a) (after.Rows r)) _ (lead_columns_of a r n)
    (lead_then a _ _ _ (state.Rows r) _ (lead_columns_end a r (deprecates_eof a))
    (lead_then a _ _ _ (state.Rows r) _ (lead_many a (state.Rows r) (c.row a (format_of r)) (lead_row a r)) (lead_end a r more))))

lead_opened : (a : Agreed) (r : Request) (d more : Bool) → deprecates_eof a ≡ d → Leads a (state.Reply r) (c.opened a r d more) (ended r more)
lead_opened a Cursor false more e = lead_some a _ _ _ (λ n.
    lead_then a _ _ _ (state.DefinitionsEnd (after.Rows Cursor)) _
    (subst (λ d. Leads a (state.Reply Cursor) (c.columns a n) (defined d (after.Rows Cursor))) e (lead_columns_of a Cursor n))
    (lead_cursor a more))
lead_opened a _ _ more e = lead_never a _ _

lead_result : (a : Agreed) (r : Request) (more : Bool) → Leads a (state.Reply r) (c.result a r more) (ended r more)
lead_result a r more =
    lead_or a _ _ _ _ (lead_ok a r more)
    (lead_or a _ _ _ _ (lead_then a _ _ _ (state.InfileReply r) _ (lead_loaded a r) (lead_infile_ok a r more))
    (lead_or a _ _ _ _ (lead_rows a r more) (lead_opened a r (deprecates_eof a) more refl)))

lead_results : (a : Agreed) (r : Request) → Leads a (state.Reply r) (c.results a r) state.Rest
lead_results a r = lead_then a _ _ _ (state.Reply r) _ (lead_many a (state.Reply r) (c.result a r true) (lead_result a r true)) (lead_result a r false)

-- ---- the other answers

lead_definitions_end : (a : Agreed) (d : Bool) (b : After) (m : State) → enter b ≡ m → ((status : StatusFlags) → definitions_end_step b (Some status) ≡ Some (kind.Eof, m)) → Leads a (defined d b) (c.definitions_end a d) m
lead_definitions_end a true b m e g = subst (λ m. Leads a (enter b) nothing m) e (lead_nothing a (enter b))
lead_definitions_end a false b m e g = lead_served a (state.DefinitionsEnd b) kind.Eof _ m (λ p h. ap (definitions_end_step b) (old_end_of_is a h.0 p h.1) ∙ g h.0)

lead_columns : (a : Agreed) (n : ℕ) → Leads a (enter (after.Columns n)) (c.definitions a true n) state.Rest
lead_columns a zero = lead_then a _ _ _ state.Rest _ (lead_nothing a state.Rest) (lead_nothing a state.Rest)
lead_columns a (suc n) = lead_then a _ _ _ (defined (deprecates_eof a) after.Rest) _ (lead_all a n after.Rest) (lead_definitions_end a (deprecates_eof a) after.Rest state.Rest refl (λ status. refl))

lead_params : (a : Agreed) (n columns : ℕ) → Leads a (define n (after.Columns columns)) (c.definitions a true n) (enter (after.Columns columns))
lead_params a zero columns = lead_then a _ _ _ (enter (after.Columns columns)) _ (lead_nothing a (enter (after.Columns columns))) (lead_nothing a (enter (after.Columns columns)))
lead_params a (suc n) columns = lead_then a _ _ _ (defined (deprecates_eof a) (after.Columns columns)) _ (lead_all a n (after.Columns columns))
    (lead_definitions_end a (deprecates_eof a) (after.Columns columns) (enter (after.Columns columns)) refl (λ status. refl))

-- if the definitions are omitted
lead_no_end : (a : Agreed) (n : ℕ) → Leads a state.Rest (c.definitions_end_of a true n) state.Rest
lead_no_end a zero = lead_nothing a state.Rest
lead_no_end a (suc n) = lead_nothing a state.Rest

lead_column_end : (a : Agreed) (n : ℕ) → Leads a (column_end n) (c.definitions_end_of a false n) state.Rest
lead_column_end a zero = lead_nothing a state.Rest
lead_column_end a (suc n) = lead_definitions_end a false after.Rest state.Rest refl (λ status. refl)

lead_ends : (a : Agreed) (params columns : ℕ) → Leads a (param_end params columns) (c.definitions_end_of a false params followed_by c.definitions_end_of a false columns) state.Rest
lead_ends a zero columns = lead_then a _ _ _ (column_end columns) _ (lead_nothing a (column_end columns)) (lead_column_end a columns)
lead_ends a (suc n) zero = lead_then a _ _ _ state.Rest _ (lead_definitions_end a false after.Rest state.Rest refl (λ status. refl)) (lead_nothing a state.Rest)
lead_ends a (suc n) (suc m) = lead_then a _ _ _ (state.DefinitionsEnd after.Rest) _
    (lead_definitions_end a false after.End (state.DefinitionsEnd after.Rest) refl (λ status. refl))
    (lead_definitions_end a false after.Rest state.Rest refl (λ status. refl))

lead_left_out : (a : Agreed) (d : Bool) (columns params : ℕ) → Leads a (prepared_by d false columns params) (c.definitions_end_of a d params followed_by c.definitions_end_of a d columns) state.Rest
lead_left_out a true columns params = lead_then a _ _ _ state.Rest _ (lead_no_end a params) (lead_no_end a columns)
lead_left_out a false columns params = lead_ends a params columns

prepared_step_of : (a : Agreed) (columns params : ℕ) (follow : Bool) (p : List ℕ) → IsPrepared a columns params follow p
    → serve a state.Prepared p ≡ Some (kind.PrepareOk columns params follow, prepared_by (deprecates_eof a) follow columns params)
prepared_step_of a columns params follow p h = ap (prepared_step (deprecates_eof a)) (statement_at_of a h.0 p h.1 h.2) ∙ rw (h.3, h.4, h.5) refl

lead_prepared_ok : (a : Agreed) (columns params : ℕ) (follow : Bool) → Leads a state.Prepared (c.prepared_ok a columns params follow) (prepared_by (deprecates_eof a) follow columns params)
lead_prepared_ok a columns params follow = lead_served a state.Prepared (kind.PrepareOk columns params follow) (IsPrepared a columns params follow) (prepared_by (deprecates_eof a) follow columns params)
    (λ p h. prepared_step_of a columns params follow p h)

lead_statement : (a : Agreed) (columns params : ℕ) (follow : Bool) → Leads a state.Prepared (c.statement a columns params follow) state.Rest
lead_statement a columns params true = lead_then a _ _ _ (define params (after.Columns columns)) _
    (lead_prepared_ok a columns params true)
    (lead_then a _ _ _ (enter (after.Columns columns)) _ (lead_params a params columns) (lead_columns a columns))
lead_statement a columns params false = lead_then a _ _ _ (prepared_by (deprecates_eof a) false columns params) _
    (lead_prepared_ok a columns params false)
    (lead_left_out a (deprecates_eof a) columns params)

lead_prepared : (a : Agreed) → Leads a state.Prepared (c.prepared a) state.Rest
lead_prepared a = lead_some a _ _ _ (λ columns. lead_some a _ _ _ (λ params. lead_or a _ _ _ _ (lead_statement a columns params true) (lead_statement a columns params false)))

lead_fetched : (a : Agreed) → Leads a state.Fetch (many (c.row a Binary) followed_by c.any_end a) state.Rest
lead_fetched a =
    lead_then a _ _ _ state.Fetch _
    (lead_many a state.Fetch (c.row a Binary) (lead_served a state.Fetch (kind.Row Binary) (IsRow a Binary) state.Fetch (λ p h. ap (last_step (deprecates_eof a) (kind.Row Binary) state.Fetch) (line_row a Binary p h))))
    (lead_or a _ _ _ _ (at_end true) (at_end false))
  where
    at_end : (more : Bool) → Leads a state.Fetch (c.end a more) state.Rest
    at_end more = lead_served a state.Fetch (ending (deprecates_eof a)) (IsEnd a more) state.Rest (λ p h. ap (last_step (deprecates_eof a) (kind.Row Binary) state.Fetch) (line_end a Binary more p h))

last_ok_of : (m : State) (r : Option Reply) → r ≡ Some (reply.Ok false) → last_ok m r ≡ Some (kind.Ok, m)
last_ok_of m r e = ap (last_ok m) e

lead_acknowledged_ok : (a : Agreed) (may_end : Bool) → Leads a (state.Acknowledgement may_end) (c.ok a false) state.Rest
lead_acknowledged_ok a may_end = lead_served a (state.Acknowledgement may_end) kind.Ok (IsOk a false) state.Rest
    (λ p h. ap (λ l. acknowledgement_step (deprecates_eof a) may_end l (reply_of a p)) (line_row a Text p (zero_is_no_end (deprecates_eof a) p h.0)) ∙ last_ok_of state.Rest (reply_of a p) (reply_ok a false p h))

lead_acknowledged : (a : Agreed) (may_end : Bool) → Leads a (state.Acknowledgement may_end) (c.acknowledged a may_end) state.Rest
lead_acknowledged a true = lead_or a _ _ _ _ (lead_acknowledged_ok a true) (lead_served a (state.Acknowledgement true) (ending (deprecates_eof a)) (IsEnd a false) state.Rest
    (λ p h. ap (λ l. acknowledgement_step (deprecates_eof a) true l (reply_of a p)) (line_end a Text false p h)))
lead_acknowledged a false = lead_acknowledged_ok a false

lead_fields : (a : Agreed) → Leads a state.Fields (many (c.field a) followed_by c.any_end a) state.Rest
lead_fields a =
    lead_then a _ _ _ state.Fields _
    (lead_many a state.Fields (c.field a) (lead_served a state.Fields kind.FieldListColumn (IsRow a Text) state.Fields (λ p h. ap (last_step (deprecates_eof a) kind.FieldListColumn state.Fields) (line_row a Text p h))))
    (lead_or a _ _ _ _ (at_end true) (at_end false))
  where
    at_end : (more : Bool) → Leads a state.Fields (c.end a more) state.Rest
    at_end more = lead_served a state.Fields (ending (deprecates_eof a)) (IsEnd a more) state.Rest (λ p h. ap (last_step (deprecates_eof a) kind.FieldListColumn state.Fields) (line_end a Text more p h))

lead_events : (a : Agreed) → Leads a state.Events (c.events a) state.Rest
lead_events a =
    lead_then a _ _ _ state.Events _
    (lead_many a state.Events (c.event or c.ack) (lead_or a _ _ _ _
    (lead_served a state.Events kind.BinlogEvent _ state.Events (λ p h. ap (λ b. event_step b (old_end_of a p)) h))
    (lead_sent a state.Events kind.SemiSyncAck _ state.Events (λ p h. rw h refl))))
    (lead_served a state.Events kind.Eof _ state.Rest (λ p h. rw (end_is_no_zero p h.1.0, old_end_of_is a h.0 p h.1) refl))

-- ---- authentication

asked_step : (a : Agreed) (login b : Bool) (p : List ℕ) (k : PacketKind) → k ≡ authentication_kind a p → first_is 0xff p ≡ false → first_is 0 p ≡ false → step a (state.Authentication login b) Server p ≡ Some (k, state.Authentication login true)
asked_step a login b p k e f z = rw (f, z) (ap (λ (k : PacketKind). Some (k, state.Authentication login true)) (sym e))

lead_asked : (a : Agreed) (login b : Bool) → Leads a (state.Authentication login b) (c.asked a) (state.Authentication login true)
lead_asked a login b items rest t h r =
    let x = h.0 in
    let found : step a (state.Authentication login b) x.from x.payload ≡ Some (x.kind, state.Authentication login true) =
    subst (λ side. step a (state.Authentication login b) side x.payload ≡ Some (x.kind, state.Authentication login true)) (sym h.1.0) (asked_step a login b x.payload x.kind h.1.1 h.1.2 h.1.3) in
    subst (λ xs. Run a (state.Authentication login b) xs t) (sym h.2) (state.Authentication login true, found, r)

lead_auth_data : (a : Agreed) (login : Bool) → Leads a (state.Authentication login true) c.auth_data (state.Authentication login false)
lead_auth_data a login = lead_sent a (state.Authentication login true) kind.AuthData _ (state.Authentication login false) (λ p h. refl)

lead_auth_ok : (a : Agreed) (login b : Bool) → Leads a (state.Authentication login b) (c.ok a false) state.Rest
lead_auth_ok a login b = lead_served a (state.Authentication login b) kind.Ok (IsOk a false) state.Rest (λ p h. rw (h.0, ok_status_of a h.1 p h.2, h.3) refl)

-- the remaining rounds, and the OK packet
lead_rounds : (a : Agreed) (login b : Bool) (n : ℕ) → Leads a (state.Authentication login b) (times n (c.asked a followed_by (nothing or c.auth_data)) followed_by c.ok a false) state.Rest
lead_rounds a login b zero items rest t h r = lead_auth_ok a login b items rest t (subst (λ xs. c.ok a false xs rest) (sym h.1) h.2) r
lead_rounds a login b (suc n) items rest t h r = lead_asked a login b items h.1.1.0 t h.1.1.1 (elim h.1.1.2 [
  | inl e ↦ lead_rounds a login true n h.1.1.0 rest t (h.0, subst (λ xs. times n (c.asked a followed_by (nothing or c.auth_data)) xs h.0) (sym e) h.1.2, h.2) r
  | inr d ↦ lead_auth_data a login h.1.1.0 h.1.0 t d (lead_rounds a login false n h.1.0 rest t (h.0, h.1.2, h.2) r)
])

pub lead_authentication : (a : Agreed) (login b : Bool) → Leads a (state.Authentication login b) (c.authentication a) state.Rest
lead_authentication a login b items rest t h r = lead_rounds a login b h.1.0 items rest t (h.0, h.1.1, h.2) r

-- ---- errors

-- what an error packet is
error_at : (a : Agreed) (s : State) (x : Packet) (k : PacketKind) (m : State) → error_step s ≡ Some (k, m) → x.from ≡ Server → x.kind ≡ k → IsError a x.payload → step a s x.from x.payload ≡ Some (x.kind, m)
error_at a s x k m o f e i = rw (f, i.0, i.1) (failed_no_report s ∙ o ∙ ap (λ (k : PacketKind). Some (k, m)) (sym e))

lead_error : (a : Agreed) (s : State) → error_step s ≡ Some (kind.Error, state.Rest) → Leads a s (c.error a) state.Rest
lead_error a s o items rest t h r = subst (λ xs. Run a s xs t) (sym h.2) (state.Rest, error_at a s h.0 kind.Error state.Rest o h.1.0 h.1.1 h.1.2, r)

lead_unasked : (a : Agreed) (s : State) → error_step s ≡ Some (kind.UnsolicitedError, state.Over) → Leads a s (c.unsolicited_error a) state.Over
lead_unasked a s o items rest t h r = subst (λ xs. Run a s xs t) (sym h.2) (state.Over, error_at a s h.0 kind.UnsolicitedError state.Over o h.1.0 h.1.1 h.1.2, r)

-- ---- exchanges

command_begins : (code : ℕ) (cursor : Bool) (p : List ℕ) → code_of p ≡ code → asks_cursor p ≡ cursor → command_step p ≡ begun code (answering code cursor)
command_begins code cursor p h g = ap (λ b. begun (code_of p) (answering (code_of p) b)) g ∙ ap (λ n. begun n (answering n cursor)) h

lead_command : (a : Agreed) (code : ℕ) (cursor : Bool) (r : Answer) → answering code cursor ≡ Some r → Leads a state.Rest (c.command code cursor) (answers r)
lead_command a code cursor r e = lead_sent a state.Rest (kind.Command code) _ (answers r) (λ p h. command_begins code cursor p h.0 h.1 ∙ ap (begun code) e)

lead_commanding : (a : Agreed) (r : Answer) → Leads a state.Rest (c.commanding r) (answers r)
lead_commanding a r items rest t h run =
    let x = h.0 in
    let found : step a state.Rest x.from x.payload ≡ Some (x.kind, answers r) = rw (h.1.0, h.1.1) (ap (begun (code_of x.payload)) h.1.2) in
    subst (λ xs. Run a state.Rest xs t) (sym h.2) (answers r, found, run)

lead_answer : (a : Agreed) (r : Answer) → Leads a (answers r) (answered a (Some r)) state.Rest
lead_answer a (answer.Results r) = lead_results a r
lead_answer a answer.Prepared = lead_prepared a
lead_answer a answer.Rows = lead_fetched a
lead_answer a (answer.Acknowledgement may_end) = lead_acknowledged a may_end
lead_answer a answer.Text = lead_served a state.Text kind.Statistics _ state.Rest (λ p h. refl)
lead_answer a answer.Fields = lead_fields a
lead_answer a answer.Authentication = lead_authentication a false false
lead_answer a answer.Events = lead_events a
lead_answer a answer.Nothing = lead_nothing a state.Rest
lead_answer a answer.Quit = lead_never a state.Quit state.Rest
lead_answer a answer.Clone = lead_error a state.CloneReply refl
lead_answer a answer.SessionError = lead_error a state.SessionError refl

lead_answered : (a : Agreed) (code : ℕ) (cursor : Bool) (r : Option Answer) → answering code cursor ≡ r → Leads a state.Rest (c.command code cursor followed_by answered a r) state.Rest
lead_answered a code cursor None e = λ items rest t h r. absurd h.2
lead_answered a code cursor (Some r) e = lead_then a _ _ _ (answers r) _ (lead_command a code cursor r e) (lead_answer a r)

lead_exchange : (a : Agreed) → Leads a state.Rest (c.exchange a) state.Rest
lead_exchange a = lead_some a _ _ _ (λ code. lead_or a _ _ _ _ (lead_answered a code true (answering code true) refl) (lead_answered a code false (answering code false) refl))

-- ---- interrupted exchanges

-- an exchange is running if a packet inside it is accepted
pub inside_runs : (a : Agreed) (s : State) (x : Packet) (m : State) → c.IsInside x → step a s x.from x.payload ≡ Some (x.kind, m) → rests s ≡ false
inside_runs a s x m i h = not-true (rests s) (sym (step_listens a s x.from x.payload x.kind m h).1 ∙ i)

-- no login begins if none is running
run_no_login : (a : Agreed) (s : State) (items : List Packet) (t : State) → is_login s ≡ false → Run a s items t → is_login t ≡ false
run_no_login a s [] t l r = ap is_login (sym r) ∙ l
run_no_login a s (x ∷ items) t l r = run_no_login a r.0 items t (stays_no_login a s x.from x.payload x.kind r.0 l r.1) r.2

-- a part is interrupted: an exchange is running, and an error comes
cut_off : (a : Agreed) (s : State) (f : List Packet → List Packet → Type 0) (m : State) (items rest : List Packet) → Leads a s f m → broken f c.IsInside (c.error a) items rest
    → (cut : State) × (front : List Packet) × (mid : List Packet) × (items ≡ front ++ mid) × Run a s front cut × (rests cut ≡ false) × c.error a mid rest
cut_off a s f m items rest l h =
    let whole = l (h.0 ++ h.1 ∷ h.2) [] m h.5 refl in
    let cut = part (StepsTo a) s h.0 (h.1 ∷ h.2) m whole in
    (cut.0, h.0, h.3, h.6, cut.1, inside_runs a cut.0 h.1 cut.2.0 h.4 cut.2.1, h.7)

lead_broken : (a : Agreed) (s : State) (f : List Packet → List Packet → Type 0) → is_login s ≡ false → Leads a s f state.Rest → Leads a s (broken f c.IsInside (c.error a)) state.Rest
lead_broken a s f n l items rest t h r =
    let b = cut_off a s f state.Rest items rest l h in
    let last : Run a b.0 b.2 t = lead_error a b.0 (error_rests b.0 b.5 (run_no_login a s b.1 b.0 n b.4)) b.2 rest t b.6 r in
    subst (λ xs. Run a s xs t) (sym b.3) (join (StepsTo a) s b.1 b.0 b.2 t b.4 last)

lead_exchanges : (a : Agreed) → Leads a state.Rest (c.exchanges a) state.Rest
lead_exchanges a = lead_many a state.Rest _ (lead_or a _ _ _ _ (lead_exchange a) (lead_broken a state.Rest (c.exchange a) refl (lead_exchange a)))

-- ---- to the end

-- the packets lead to a state without a running exchange
abbrev pub RunsOut : Agreed → State → List Packet → Type 0
RunsOut a s items = (t : State) × Run a s items t × (rests t ≡ true)

leads_out : (a : Agreed) (s : State) (f : List Packet → List Packet → Type 0) (m : State) (items : List Packet) → Leads a s f m → rests m ≡ true → f items [] → RunsOut a s items
leads_out a s f m items l n h = (m, l items [] m h refl, n)

clone_step : (a : Agreed) (side : Side) (p : List ℕ) → step a state.Clone side p ≡ Some (kind.Clone, state.Clone)
clone_step a Client p = refl
clone_step a Server p = elim (cases_Bool (first_is 0xff p)) [
  | inl f ↦ rw f (failed_clone (is_report a p))
  | inr f ↦ rw f refl
]

lead_clone : (a : Agreed) → Leads a state.Clone c.clone state.Clone
lead_clone a items rest t h r =
    let x = h.0 in
    let found : step a state.Clone x.from x.payload ≡ Some (x.kind, state.Clone) = clone_step a x.from x.payload ∙ ap (λ (k : PacketKind). Some (k, state.Clone)) (sym h.1) in
    subst (λ xs. Run a state.Clone xs t) (sym h.2) (state.Clone, found, r)

lead_cloned : (a : Agreed) → Leads a state.Rest (c.cloned a) state.Clone
lead_cloned a = lead_then a _ _ _ state.CloneReply _ (lead_commanding a answer.Clone)
    (lead_then a _ _ _ state.Clone _
    (lead_served a state.CloneReply kind.Ok (IsOk a false) state.Clone (λ p h. last_ok_of state.Clone (reply_of a p) (reply_ok a false p h)))
    (lead_many a state.Clone c.clone (lead_clone a)))

-- and before them a part that leads to it
then_out : (a : Agreed) (s : State) (f : List Packet → List Packet → Type 0) (m : State) (items mid : List Packet) → Leads a s f m → f items mid → RunsOut a m mid → RunsOut a s items
then_out a s f m items mid l h o = (o.0, l items mid o.0 h o.1, o.2)

quit_out : (a : Agreed) (items : List Packet) → (nothing or c.unsolicited_error a) items [] → RunsOut a state.Quit items
quit_out a items (inl h) = leads_out a state.Quit nothing state.Quit items (lead_nothing a state.Quit) refl h
quit_out a items (inr h) = leads_out a state.Quit (c.unsolicited_error a) state.Over items (lead_unasked a state.Quit refl) refl h

last_out : (a : Agreed) (items : List Packet) → c.last a items [] → RunsOut a state.Rest items
last_out a items (inl h) = leads_out a state.Rest nothing state.Rest items (lead_nothing a state.Rest) refl h
last_out a items (inr (inl h)) = then_out a state.Rest (c.commanding answer.Quit) state.Quit items h.0 (lead_commanding a answer.Quit) h.1 (quit_out a h.0 h.2)
last_out a items (inr (inr (inl h))) = leads_out a state.Rest (c.unsolicited_error a) state.Over items (lead_unasked a state.Rest refl) refl h
last_out a items (inr (inr (inr h))) = leads_out a state.Rest (c.cloned a) state.Clone items (lead_cloned a) refl h

commanded_out : (a : Agreed) (items : List Packet) → c.commanded a items [] → RunsOut a state.Rest items
commanded_out a items h = then_out a state.Rest (c.exchanges a) state.Rest items h.0 (lead_exchanges a) h.1 (last_out a h.0 h.2)

-- a login that is refused
refused_out : (a : Agreed) (items : List Packet) → c.refused_login a items [] → RunsOut a (entrance opened_at.Login) items
refused_out a items h =
    let b = cut_off a (state.Authentication true false) (c.authentication a) state.Rest items [] (lead_authentication a true false) h in
    let e = error_ends b.0 b.5 in
    let last : Run a b.0 b.2 e.0 = subst (λ xs. Run a b.0 xs e.0) (sym b.6.2) (e.0, error_at a b.0 b.6.0 kind.Error e.0 e.1 b.6.1.0 b.6.1.1 b.6.1.2, refl) in
    (e.0, subst (λ xs. Run a (entrance opened_at.Login) xs e.0) (sym b.3) (join (StepsTo a) (entrance opened_at.Login) b.1 b.0 b.2 e.0 b.4 last), e.2)

-- each conversation is classified by its kinds, and leads to a state without a running exchange
pub conversation_runs : (a : Agreed) (o : InitialPhase) (items : List Packet) → c.conversation a o items → RunsOut a (entrance o) items
conversation_runs a opened_at.Login items (inl h) = then_out a (entrance opened_at.Login) (c.authentication a) state.Rest items h.0 (lead_authentication a true false) h.1 (commanded_out a h.0 h.2)
conversation_runs a opened_at.Login items (inr h) = refused_out a items h
conversation_runs a opened_at.Commands items h = commanded_out a items h
